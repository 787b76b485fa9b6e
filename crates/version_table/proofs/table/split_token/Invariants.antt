use Rattle.version_table.proofs.table.split_token.Given as goal

abbrev pub ghosts-split_by : goal.ghosts-split_by
ghosts-split_by g a = record { session = a.session; calls = a.calls }

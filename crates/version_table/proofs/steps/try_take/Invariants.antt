use Rattle.std.proofs.Common.{Some}
use Rattle.version_table.proofs.steps.try_take.Given as goal

abbrev pub ghosts-take : goal.ghosts-take
ghosts-take g a = record { told = Some a.table.now.key }

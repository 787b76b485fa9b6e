use Rattle.std.proofs.Common.{◌≡◌, ◌++◌, drop, filter}
use Rattle.plain_shot.specs.Steps.{is_won_run}
use Rattle.plain_shot.proofs.partition.won_of.Given as goal

abbrev pub invariant-loop-run : goal.invariant-loop-run
invariant-loop-run l = l.kept.items ++ filter (is_won_run l.regions) (drop l.run-index l.runs) ≡ filter (is_won_run l.regions) l.runs

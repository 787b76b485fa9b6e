use Rattle.std.proofs.Common.{◌≡◌, map, take}
use Rattle.plain_shot.specs.Steps.{lit_of_run}
use Rattle.plain_shot.proofs.partition.lit_of_runs.Given as goal

abbrev pub invariant-loop-run : goal.invariant-loop-run
invariant-loop-run l = l.all.items ≡ map (lit_of_run l.scene l.ray) (take l.run-index l.runs)

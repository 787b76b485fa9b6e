use Rattle.std.proofs.Common.{◌≡◌, ◌++◌, map, take, drop}
use Rattle.shot_core.specs.Steps.{renumbered_run}
use Rattle.shot_core.proofs.shot.renumber_all.Given as goal

abbrev pub invariant-loop-run : goal.invariant-loop-run
invariant-loop-run l = l.run-items ≡ map (renumbered_run l.numbers) (take l.run-index l.initial.run-items) ++ drop l.run-index l.initial.run-items

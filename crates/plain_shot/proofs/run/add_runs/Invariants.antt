use Rattle.std.proofs.Common.{◌≡◌, ◌+◌, ◌-◌, ◌++◌, map}
use Rattle.std.specs.List.{range_with_len}
use Rattle.overlap_list.proofs.Running.{run_of}
use Rattle.plain_shot.proofs.run.add_runs.Given as goal

abbrev pub invariant-loop-to : goal.invariant-loop-to
invariant-loop-to l = l.runs.items ≡ l.initial.runs.items ++ map (run_of l.from) (range_with_len (l.from + 1) (l.to - (l.from + 1)))

use Rattle.std.proofs.Common.{◌≡◌, flat_map}
use Rattle.std.specs.List.{range_with_len}
use Rattle.overlap_list.specs.Runs.{runs_from}
use Rattle.plain_shot.proofs.run.runs_below.Given as goal

abbrev pub invariant-loop-from : goal.invariant-loop-from
invariant-loop-from l = l.runs.items ≡ flat_map (runs_from l.count) (range_with_len 0 l.from)

use Rattle.std.proofs.Common.{◌≡◌, flat_map}
use Rattle.std.specs.List.{range_with_len}
use Rattle.overlap_list.specs.Overlaps.{pairs_from}
use Rattle.plain_shot.proofs.overlap.pairs_up_to.Given as goal

abbrev pub invariant-loop-one : goal.invariant-loop-one
invariant-loop-one l = l.pairs.items ≡ flat_map (pairs_from l.last) (range_with_len 0 l.one)

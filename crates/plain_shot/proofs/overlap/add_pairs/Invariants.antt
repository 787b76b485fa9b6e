use Rattle.std.proofs.Common.{◌≡◌, ◌+◌, ◌-◌, ◌++◌, map}
use Rattle.std.specs.List.{range_with_len}
use Rattle.overlap_list.proofs.Overlapping.{pair_of}
use Rattle.plain_shot.proofs.overlap.add_pairs.Given as goal

abbrev pub invariant-loop-two : goal.invariant-loop-two
invariant-loop-two l = l.pairs.items ≡ l.initial.pairs.items ++ map (pair_of l.one) (range_with_len (l.one + 1) (l.two - (l.one + 1)))

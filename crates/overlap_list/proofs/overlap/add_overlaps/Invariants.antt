use Rattle.std.proofs.Common.{◌≡◌, ◌≤◌, ◌+◌, ◌-◌, ◌++◌, length, map}
use Rattle.std.specs.List.{filter_map, range_with_len}
use Rattle.overlap_list.specs.declared.overlap.TheConstants.{MOST_PAIRS}
use Rattle.overlap_list.specs.Overlaps.{first_overlap}
use Rattle.overlap_list.proofs.Overlapping.{pair_of}
use Rattle.overlap_list.proofs.overlap.add_overlaps.Given as goal

abbrev pub invariant-loop-two : goal.invariant-loop-two
invariant-loop-two l = record {
  runs : l.runs.items ≡ l.initial.runs.items ++ filter_map (first_overlap l.weave l.regions) (map (pair_of l.one) (range_with_len (l.one + 1) (l.two - (l.one + 1))));
  most : length l.initial.runs.items ≤ MOST_PAIRS → length l.runs.items ≤ MOST_PAIRS;
}

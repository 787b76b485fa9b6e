use Rattle.std.proofs.Common.{◌≡◌, ◌≤◌, ◌-◌, length, flat_map}
use Rattle.std.specs.List.{filter_map, range_with_len}
use Rattle.overlap_list.specs.declared.overlap.TheConstants.{MOST_PAIRS}
use Rattle.overlap_list.specs.Overlaps.{pairs_from, first_overlap}
use Rattle.overlap_list.proofs.overlap.overlaps.Given as goal

abbrev pub invariant-loop-one : goal.invariant-loop-one
invariant-loop-one l = record {
  runs : l.runs.items ≡ filter_map (first_overlap l.weave l.regions) (flat_map (pairs_from (length l.regions - 1)) (range_with_len 0 l.one));
  most : length l.runs.items ≤ MOST_PAIRS;
}

use Rattle.std.proofs.Common.{◌≡◌, ◌++◌, drop}
use Rattle.std.specs.List.{filter_map}
use Rattle.overlap_list.specs.Overlaps.{first_overlap}
use Rattle.plain_shot.proofs.overlap.overlaps_of.Given as goal

abbrev pub invariant-loop-pair : goal.invariant-loop-pair
invariant-loop-pair l =
    l.overlaps.items ++ filter_map (first_overlap l.laid.segments.items l.laid.regions.items) (drop l.pair-index l.pairs) ≡ filter_map (first_overlap l.laid.segments.items l.laid.regions.items) l.pairs

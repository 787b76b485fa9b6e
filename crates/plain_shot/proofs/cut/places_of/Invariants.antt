use Rattle.std.proofs.Common.{◌≡◌, ◌++◌, ◌∷◌, [], drop, flat_map}
use Rattle.bool_weave.specs.Cuts.{places_of}
use Rattle.plain_shot.proofs.cut.places_of.Given as goal

abbrev pub invariant-loop-segment : goal.invariant-loop-segment
invariant-loop-segment l =
    l.places.items ++ flat_map (λ w. w.seg.start ∷ w.seg.end ∷ []) (drop l.segment-index l.segments) ≡ places_of l.segments

use Rattle.std.proofs.Common.{◌≡◌, ◌≤◌, ◌∷◌, [], length, flat_map, map, drop}
use Rattle.bool_weave.specs.Lines.{arranged}
use Rattle.slant_ranks.specs.Slants.{SlantSegment}
use Rattle.surd_quot.specs.PlaceOrder.{quotient_cmp}
use Rattle.oblique_ray.specs.CutSteps.{AreRising, segment_of_piece}
use Rattle.oblique_ray.proofs.piece.cuts_of.Given as goal

abbrev pub invariant-loop-i : goal.invariant-loop-i
invariant-loop-i l = record {
  within : l.i ≤ length l.pieces;
  rising : AreRising l.cuts.items;
  made : l.cuts.items ≡ arranged quotient_cmp (flat_map (λ (w : SlantSegment). w.start ∷ w.end ∷ []) (drop l.i (map segment_of_piece l.pieces)));
}

abbrev pub decreases-loop-i : goal.decreases-loop-i
decreases-loop-i l = l.i

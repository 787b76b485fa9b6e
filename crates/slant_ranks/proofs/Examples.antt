-- The two pieces of the examples meet what is asked of segments that are woven by ranks.
use Rattle.std.proofs.Common.{pos, refl, arith, ◌<◌, [], ◌∷◌}
use Rattle.std.proofs.lemmas.Int.{ints}
use Rattle.std.proofs.lemmas.List.Elements.{All-cons, All-nil}
use Rattle.std.proofs.lemmas.List.Kept.{AllPairs-cons}
use Rattle.surd_order.specs.PlaceOrder.{place_cmp}
use Rattle.surd_quot.specs.PlaceOrder.{quotient_cmp}
use Rattle.order_laws.specs.Ranks.{LiesAlong}
use Rattle.slant_ranks.specs.Slants.{slant_up_to}
use Rattle.slant_ranks.specs.Laws.{CanBeWovenByRanks}
use Rattle.slant_ranks.specs.Examples.{longer, shorter, two_pieces}

longer_along : LiesAlong (slant_up_to (pos 100)) longer
unfolding place_cmp quotient_cmp
longer_along = record { begun = refl; forward = refl; not_ended = refl }

shorter_along : LiesAlong (slant_up_to (pos 100)) shorter
unfolding place_cmp quotient_cmp
shorter_along = record { begun = refl; forward = refl; not_ended = refl }

they_fit : CanBeWovenByRanks (pos 100) two_pieces
unfolding place_cmp quotient_cmp
they_fit = record {
  rising = AllPairs-cons (λ v w. v.instance < w.instance) longer (shorter ∷ []) (All-cons (λ w. 0 < w.instance) shorter [] (omega arith) (All-nil (λ w. 0 < w.instance)))
      (AllPairs-cons (λ v w. v.instance < w.instance) shorter [] (All-nil (λ w. 1 < w.instance)) (λ i j d e lt. absurd (omega (arith, lt))));
  along = All-cons (LiesAlong (slant_up_to (pos 100))) longer (shorter ∷ []) longer_along (All-cons (LiesAlong (slant_up_to (pos 100))) shorter [] shorter_along (All-nil (LiesAlong (slant_up_to (pos 100)))));
  room = omega (arith, ints);
}

-- The order of places, read from either end.
use Rattle.std.proofs.Common.{◌≡◌, ◌∙◌, refl, ap, sym}
use Rattle.std.specs.Cmp.{IsTotalOrder}
use Rattle.std.proofs.lemmas.Cmp.{alike_right}
use Rattle.std.specs.Ordering.{is_eq, ordering_reverse}
use Rattle.std.specs.declared.cmp.Ordering.{Ordering}
use Rattle.std.specs.declared.cmp.Ordering.TheVariants.{Less, Equal, Greater}
use Rattle.surd_order.specs.declared.position.Pos.{Pos}
use Rattle.surd_order.specs.PlaceOrder.{place_cmp}
use Rattle.surd_order.proofs.PlaceOrderLaws.{place_cmp_total}

-- an order of places with the ties of the exact one
pub record IsRanking (R : Pos → Pos → Ordering) : Type 0 where
  pub total : IsTotalOrder R
  pub ties : (x y : Pos) → is_eq (place_cmp x y) ≡ is_eq (R x y)

abbrev pub turned_cmp : Pos → Pos → Ordering
turned_cmp x y = place_cmp y x

is_eq-reverse : (r : Ordering) → is_eq (ordering_reverse r) ≡ is_eq r
is_eq-reverse Less = refl
is_eq-reverse Equal = refl
is_eq-reverse Greater = refl

pub forwards : IsRanking place_cmp
forwards = record { total = place_cmp_total; ties = λ x y. refl }

pub backwards : IsRanking turned_cmp
backwards = record {
  total = record {
    antisymm = λ x y. place_cmp_total.antisymm y x;
    trans = λ x y z one two. place_cmp_total.trans z y x two one;
    congr = λ x y z same. sym (alike_right place_cmp_total y x z same);
  };
  ties = λ x y. ap is_eq (place_cmp_total.antisymm x y) ∙ is_eq-reverse (place_cmp y x);
}

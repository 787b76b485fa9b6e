-- Ranged positions are equal in their order exactly where they are one value.
use Rattle.std.proofs.Common.{◌≡◌, ◌↔◌, sym, ◌∙◌, subst, IsTrue, Bool}
use Rattle.std.specs.Ordering.{is_eq}
use Rattle.std.specs.Cmp.{Equal-is}
use Rattle.std.specs.declared.cmp.Ordering.{Ordering}
use Rattle.std.specs.declared.cmp.Ordering.TheVariants.{Equal}
use Rattle.surd_order.specs.declared.position.Pos.{Pos}
use Rattle.surd_order.specs.Order.{IsOrderOf, SamePlace}
use Rattle.surd_order.proofs.OrderLaws.{same_refl}
use Rattle.surd_order.proofs.LawProofs.{places_have_one_spelling}
use Rattle.ranged_position.specs.Ranged.{IsRanged}

-- equal in the order exactly where they are one value
pub ranged_equal : (r : Ordering) (x y : Pos) → IsRanged x → IsRanged y → IsOrderOf r x y → (r ≡ Equal) ↔ (x ≡ y)
ranged_equal r x y left right h = (
  λ e. places_have_one_spelling x y left.spelled right.spelled (h.same.0 e),
  λ e. h.same.1 (subst (λ (z : Pos). SamePlace x z) e (same_refl x)),
)

pub equal_answer : (b : Bool) (r : Ordering) (x y : Pos) → b ≡ is_eq r → (r ≡ Equal) ↔ (x ≡ y) → IsTrue b ↔ (x ≡ y)
equal_answer b r x y b_is h = (λ t. h.0 ((Equal-is r).0 (sym b_is ∙ t)), λ e. b_is ∙ (Equal-is r).1 (h.1 e))

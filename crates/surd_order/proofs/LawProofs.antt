-- The laws that the crate's contracts name.
use Rattle.std.proofs.Common.{◌⊎◌, ℕ, ℤ, pos, ◌-ℤ◌, ◌*ℤ◌, ◌<ℤ◌, ◌≤ℤ◌, refl, arith, inl, inr, Bool, true, false}
use Rattle.std.proofs.lemmas.Int.{ints}
use Rattle.std.specs.Ordering.{ordering_reverse}
use Rattle.std.specs.declared.cmp.Ordering.{Ordering}
use Rattle.std.specs.declared.cmp.Ordering.TheVariants.{Less, Equal, Greater}
use Rattle.surd_order.specs.declared.position.Pos.{Pos}
use Rattle.surd_order.specs.declared.position.Pos.TheVariants.{Frac, Surd}
use Rattle.surd_order.specs.Order.{Precedes, SamePlace, IsOrderOf, IsPlace}
use Rattle.surd_order.specs.Laws.{OrderIsTotal, OrderIsTransitive, SamePlaceIsTransitive, IsKeptBySamePlace, PlacesHaveOneSpelling}
use Rattle.surd_order.proofs.RootLaws.{root_order, int_cases}
use Rattle.surd_order.proofs.OrderLaws.{exactly_one, transitive, between, same_symm, same_trans}
use Rattle.surd_order.proofs.FractionOrder.{fractions_outcome}
use Rattle.surd_order.proofs.FractionSurdOrder.{sum_ordered, difference_ordered}
use Rattle.surd_order.proofs.SurdOrder.{plus_ordered, minus_ordered, mixed_ordered, mixed_beyond}
use Rattle.surd_order.proofs.SpellingLaws.{fractions_spelled_same}
use Rattle.surd_order.proofs.SurdSpelling.{fraction_apart, surds_spelled_same, up_from}

outcome_from : (r : Ordering) (x y : Pos) → IsOrderOf r x y → Precedes x y ⊎ (SamePlace x y ⊎ Precedes y x)
outcome_from Less x y h = inl (h.less.0 refl)
outcome_from Equal x y h = inr (inl (h.same.0 refl))
outcome_from Greater x y h = inr (inr (h.greater.0 refl))

turned : (x y : Pos) → Precedes x y ⊎ (SamePlace x y ⊎ Precedes y x) → Precedes y x ⊎ (SamePlace y x ⊎ Precedes x y)
turned x y h = elim h [ inl before ↦ inr (inr before) | inr rest ↦ elim rest [ inl same ↦ inr (inl (same_symm x y same)) | inr after ↦ inl after ] ]

fraction_outcome : (p q a : ℤ) (plus : Bool) (k : ℕ) → pos 0 <ℤ q → Precedes (Frac p q) (Surd a plus k) ⊎ (SamePlace (Frac p q) (Surd a plus k) ⊎ Precedes (Surd a plus k) (Frac p q))
fraction_outcome p q a true k some =
    let found = root_order (p -ℤ (a *ℤ q)) (pos k *ℤ (q *ℤ q)) in outcome_from found.0 _ _ (sum_ordered p q a k found.0 some found.1)
fraction_outcome p q a false k some =
    let found = root_order ((a *ℤ q) -ℤ p) (pos k *ℤ (q *ℤ q)) in outcome_from (ordering_reverse found.0) _ _ (difference_ordered p q a k found.0 some found.1)

sums_outcome : (a b : ℤ) (k l : ℕ) → a ≤ℤ b → Precedes (Surd a true k) (Surd b true l) ⊎ (SamePlace (Surd a true k) (Surd b true l) ⊎ Precedes (Surd b true l) (Surd a true k))
sums_outcome a b k l le =
    let d = up_from a b le in let found = root_order _ _ in outcome_from found.0 _ _ (plus_ordered a b d.0 k l found.0 d.1 found.1)

differences_outcome : (a b : ℤ) (k l : ℕ) → a ≤ℤ b → Precedes (Surd a false k) (Surd b false l) ⊎ (SamePlace (Surd a false k) (Surd b false l) ⊎ Precedes (Surd b false l) (Surd a false k))
differences_outcome a b k l le =
    let d = up_from a b le in let found = root_order _ _ in outcome_from found.0 _ _ (minus_ordered a b d.0 k l found.0 d.1 found.1)

mixed_outcome : (a b : ℤ) (k l : ℕ) → Precedes (Surd a true k) (Surd b false l) ⊎ (SamePlace (Surd a true k) (Surd b false l) ⊎ Precedes (Surd b false l) (Surd a true k))
mixed_outcome a b k l = elim (int_cases a b) [
  | inl le ↦ let d = up_from a b le in let found = root_order _ _ in outcome_from (ordering_reverse found.0) _ _ (mixed_ordered a b d.0 k l found.0 d.1 found.1)
  | inr gt ↦ outcome_from Greater _ _ (mixed_beyond a b k l gt)
]

surd_outcome : (a b : ℤ) (plus plus' : Bool) (k l : ℕ) → Precedes (Surd a plus k) (Surd b plus' l) ⊎ (SamePlace (Surd a plus k) (Surd b plus' l) ⊎ Precedes (Surd b plus' l) (Surd a plus k))
surd_outcome a b true true k l = elim (int_cases a b) [ inl le ↦ sums_outcome a b k l le | inr gt ↦ turned _ _ (sums_outcome b a l k (omega (arith, ints))) ]
surd_outcome a b false false k l = elim (int_cases a b) [ inl le ↦ differences_outcome a b k l le | inr gt ↦ turned _ _ (differences_outcome b a l k (omega (arith, ints))) ]
surd_outcome a b true false k l = mixed_outcome a b k l
surd_outcome a b false true k l = turned _ _ (mixed_outcome b a l k)

pub outcome : (x y : Pos) → IsPlace x → IsPlace y → Precedes x y ⊎ (SamePlace x y ⊎ Precedes y x)
outcome (Frac a b) (Frac c d) place place' = fractions_outcome a b c d place place'
outcome (Frac p q) (Surd a plus k) place place' = fraction_outcome p q a plus k place
outcome (Surd a plus k) (Frac p q) place place' = turned _ _ (fraction_outcome p q a plus k place')
outcome (Surd a plus k) (Surd b plus' l) place place' = surd_outcome a b plus plus' k l

pub order_is_total : OrderIsTotal
order_is_total x y place place' = exactly_one x y place place' (outcome x y place place')

pub order_is_transitive : OrderIsTransitive
order_is_transitive x y z place place' f g = transitive x y z place place' f g

pub same_place_is_transitive : SamePlaceIsTransitive
same_place_is_transitive x y z one two = same_trans x y z one two

pub is_kept_by_same_place : IsKeptBySamePlace
is_kept_by_same_place = record {
  before = λ x y z same f. elim (between y x z f) [ inl h ↦ absurd (same.not_after h) | inr h ↦ h ];
  after = λ x y z f same. elim (between x z y f) [ inl h ↦ h | inr h ↦ absurd (same.not_after h) ];
}

pub places_have_one_spelling : PlacesHaveOneSpelling
places_have_one_spelling (Frac a b) (Frac c d) spelled spelled' same = fractions_spelled_same a b c d spelled spelled' same
places_have_one_spelling (Frac p q) (Surd a plus k) spelled spelled' same = absurd (fraction_apart p q a plus k spelled.0 spelled' same)
places_have_one_spelling (Surd a plus k) (Frac p q) spelled spelled' same = absurd (fraction_apart p q a plus k spelled'.0 spelled (same_symm _ _ same))
places_have_one_spelling (Surd a plus k) (Surd b plus' l) spelled spelled' same = surds_spelled_same a b plus plus' k l spelled spelled' same

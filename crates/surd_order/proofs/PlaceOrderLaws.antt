-- What the comparison of places owes: it is a total order, and says which of the three holds.
use Rattle.std.proofs.Common.{◌≡◌, ◌+◌, ◌*◌, ℕ, ℤ, pos, negsuc, zero, suc, ◌-ℤ◌, ◌*ℤ◌, ◌<ℤ◌, refl, sym, subst, arith, inl, inr, Bool, true, false}
use Rattle.std.proofs.lemmas.Int.{ints}
use Rattle.std.specs.Cmp.{IsTotalOrder, IsEquivalence, IsPartialEquivalence, IsPartialOrder, partial_equiv_from_equiv, partial_order_from_total}
use Rattle.std.proofs.lemmas.Cmp.{eq_by_cmp_equiv, int_ranked}
use Rattle.std.specs.Ordering.{int_cmp, ordering_reverse, eq_by_cmp, as_partial_cmp}
use Rattle.std.specs.declared.cmp.Ordering.{Ordering}
use Rattle.std.specs.declared.cmp.Ordering.TheVariants.{Less, Equal, Greater}
use Rattle.surd_order.specs.declared.position.Pos.{Pos}
use Rattle.surd_order.specs.declared.position.Pos.TheVariants.{Frac, Surd}
use Rattle.surd_order.specs.Order.{SamePlace, IsOrderOf, IsPlace}
use Rattle.surd_order.specs.Roots.{IsRootOrder}
use Rattle.surd_order.specs.Range.{IsInRange}
use Rattle.surd_order.specs.PlaceOrder.{root_cmp, fraction_surd_cmp, roots_cmp, roots_whole_cmp, surd_cmp, position_cmp, place_cmp, place_of, PlacesAreCompared}
use Rattle.surd_order.proofs.OrderLaws.{order_from, transitive, same_symm, same_trans}
use Rattle.surd_order.proofs.FractionOrder.{fractions_ordered}
use Rattle.surd_order.proofs.FractionSurdOrder.{sum_ordered, difference_ordered}
use Rattle.surd_order.proofs.SurdOrder.{reversed, plus_ordered, minus_ordered, mixed_ordered, mixed_beyond}
use Rattle.surd_order.proofs.LawProofs.{is_kept_by_same_place}

root_cmp_square : (m : ℕ) (n : ℤ) (r : Ordering) → r ≡ int_cmp (pos (m * m)) n → IsRootOrder r (pos m) n
root_cmp_square m n Less is = inr (int_ranked _ _ Less is)
root_cmp_square m n Equal is = (omega (arith, ints), int_ranked _ _ Equal is)
root_cmp_square m n Greater is = (omega (arith, ints), int_ranked _ _ Greater is)

root_cmp_is : (m n : ℤ) → IsRootOrder (root_cmp m n) m n
root_cmp_is (pos m) n = root_cmp_square m n (int_cmp (pos (m * m)) n) refl
root_cmp_is (negsuc m) n = inl (omega (arith, ints))

fraction_surd_is : (p q a : ℤ) (plus : Bool) (k : ℕ) → pos 0 <ℤ q → IsOrderOf (fraction_surd_cmp p q a plus k) (Frac p q) (Surd a plus k)
fraction_surd_is p q a true k some = sum_ordered p q a k _ some (root_cmp_is (p -ℤ (a *ℤ q)) (pos k *ℤ (q *ℤ q)))
fraction_surd_is p q a false k some = difference_ordered p q a k _ some (root_cmp_is ((a *ℤ q) -ℤ p) (pos k *ℤ (q *ℤ q)))

sums_are : (a b z : ℤ) (k l : ℕ) → z ≡ b -ℤ a → IsOrderOf (roots_cmp z k l) (Surd a true k) (Surd b true l)
sums_are a b (pos d) k l is = plus_ordered a b d k l _ (omega (arith, ints)) (root_cmp_is (pos k -ℤ pos (d * d + l)) (pos (4 * (d * d * l))))
sums_are a b (negsuc d) k l is =
    reversed _ _ _ (plus_ordered b a (suc d) l k _ (omega (arith, ints)) (root_cmp_is (pos l -ℤ pos (suc d * suc d + k)) (pos (4 * (suc d * suc d * k)))))

differences_are : (a b z : ℤ) (k l : ℕ) → z ≡ b -ℤ a → IsOrderOf (roots_cmp z l k) (Surd a false k) (Surd b false l)
differences_are a b (pos d) k l is = minus_ordered a b d k l _ (omega (arith, ints)) (root_cmp_is (pos l -ℤ pos (d * d + k)) (pos (4 * (d * d * k))))
differences_are a b (negsuc d) k l is =
    reversed _ _ _ (minus_ordered b a (suc d) l k _ (omega (arith, ints)) (root_cmp_is (pos k -ℤ pos (suc d * suc d + l)) (pos (4 * (suc d * suc d * l)))))

mixed_are : (a b z : ℤ) (k l : ℕ) → z ≡ b -ℤ a → IsOrderOf (roots_whole_cmp z k l) (Surd a true k) (Surd b false l)
mixed_are a b (pos d) k l is = mixed_ordered a b d k l _ (omega (arith, ints)) (root_cmp_is (pos (d * d) -ℤ pos (k + l)) (pos (4 * (k * l))))
mixed_are a b (negsuc d) k l is = mixed_beyond a b k l (omega (arith, ints))

surds_are : (a b : ℤ) (plus plus' : Bool) (k l : ℕ) → IsOrderOf (surd_cmp a plus k b plus' l) (Surd a plus k) (Surd b plus' l)
surds_are a b true true k l = sums_are a b (b -ℤ a) k l refl
surds_are a b false false k l = differences_are a b (b -ℤ a) k l refl
surds_are a b true false k l = mixed_are a b (b -ℤ a) k l refl
surds_are a b false true k l = reversed _ _ _ (mixed_are b a (a -ℤ b) l k refl)

positions_are : (x y : Pos) → IsPlace x → IsPlace y → IsOrderOf (position_cmp x y) x y
positions_are (Frac p q) (Frac r s) place place' = fractions_ordered p q r s (int_cmp (p *ℤ s) (r *ℤ q)) place place' (int_ranked (p *ℤ s) (r *ℤ q) (int_cmp (p *ℤ s) (r *ℤ q)) refl)
positions_are (Frac p q) (Surd a plus k) place place' = fraction_surd_is p q a plus k place
positions_are (Surd a plus k) (Frac p q) place place' = reversed _ _ _ (fraction_surd_is p q a plus k place')
positions_are (Surd a plus k) (Surd b plus' l) place place' = surds_are a b plus plus' k l

pub place_of-is : (x : Pos) → IsPlace (place_of x)
place_of-is (Frac p (pos zero)) = omega (arith, ints)
place_of-is (Frac p (pos (suc q))) = omega (arith, ints)
place_of-is (Frac p (negsuc q)) = omega (arith, ints)
place_of-is (Surd a plus k) = tt

compared : (x y : Pos) → IsOrderOf (place_cmp x y) (place_of x) (place_of y)
unfolding place_cmp
compared x y = positions_are (place_of x) (place_of y) (place_of-is x) (place_of-is y)

-- two answers that say which of the three holds are one
pub one_answer : (r s : Ordering) (x y : Pos) → IsOrderOf r x y → IsOrderOf s x y → r ≡ s
one_answer Less s x y h g = sym (g.less.1 (h.less.0 refl))
one_answer Equal s x y h g = sym (g.same.1 (h.same.0 refl))
one_answer Greater s x y h g = sym (g.greater.1 (h.greater.0 refl))

-- the order with z is that of any position at the same place
moved : (r : Ordering) (x y z : Pos) → IsPlace x → IsPlace z → SamePlace x y → IsOrderOf r y z → IsOrderOf r x z
moved Less x y z place place' same h = order_from Less x z place place' (is_kept_by_same_place.before x y z same (h.less.0 refl))
moved Equal x y z place place' same h = order_from Equal x z place place' (same_trans x y z same (h.same.0 refl))
moved Greater x y z place place' same h = order_from Greater x z place place' (is_kept_by_same_place.after z y x (h.greater.0 refl) (same_symm x y same))

pub place_cmp_total : IsTotalOrder place_cmp
place_cmp_total = record {
  antisymm = λ x y. one_answer (place_cmp x y) (ordering_reverse (place_cmp y x)) (place_of x) (place_of y) (compared x y) (reversed (place_cmp y x) (place_of y) (place_of x) (compared y x));
  trans = λ x y z one two. (compared x z).less.1 (transitive (place_of x) (place_of y) (place_of z) (place_of-is y) (place_of-is z) ((compared x y).less.0 one) ((compared y z).less.0 two));
  congr = λ x y z same. one_answer (place_cmp x z) (place_cmp y z) (place_of x) (place_of z) (compared x z)
      (moved (place_cmp y z) (place_of x) (place_of y) (place_of z) (place_of-is x) (place_of-is z) ((compared x y).same.0 same) (compared y z));
}

pub place_of-same : (x : Pos) → IsPlace x → place_of x ≡ x
place_of-same (Frac p (pos zero)) place = absurd (omega (arith, ints))
place_of-same (Frac p (pos (suc q))) place = refl
place_of-same (Frac p (negsuc q)) place = absurd (omega (arith, ints))
place_of-same (Surd a plus k) place = refl

pub places_are_compared : PlacesAreCompared
places_are_compared x y place place' =
    subst (λ (u : Pos). IsOrderOf (place_cmp x y) u y) (place_of-same x place) (subst (λ (v : Pos). IsOrderOf (place_cmp x y) (place_of x) v) (place_of-same y place') (compared x y))

pub place_eq_equiv : IsEquivalence (eq_by_cmp place_cmp)
place_eq_equiv = eq_by_cmp_equiv place_cmp_total

pub place_eq_partial : IsPartialEquivalence (eq_by_cmp place_cmp)
place_eq_partial = partial_equiv_from_equiv place_eq_equiv

pub place_cmp_partial : IsPartialOrder (eq_by_cmp place_cmp) (as_partial_cmp place_cmp)
place_cmp_partial = partial_order_from_total place_cmp_total

in_range_place : (x : Pos) → IsInRange x → IsPlace x
in_range_place (Frac p q) h = h.positive
in_range_place (Surd a plus k) h = tt

-- the answer of a comparison in range is that of the comparison of places
pub ranged_answer : (r : Ordering) (x y : Pos) → IsInRange x → IsInRange y → IsOrderOf r x y → r ≡ place_cmp x y
ranged_answer r x y left right h = one_answer r (place_cmp x y) x y h (places_are_compared x y (in_range_place x left) (in_range_place y right))

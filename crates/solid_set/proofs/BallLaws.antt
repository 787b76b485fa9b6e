-- Where a ball holds a ray, by the places of its two crossings.
use Rattle.std.proofs.Common.{◌≡◌, ◌⊎◌, ℕ, ℤ, pos, ◌-ℤ◌, ◌*ℤ◌, ◌<ℤ◌, ◌≤ℤ◌, true, false, refl, ap, inl, inr, arith}
use Rattle.std.proofs.lemmas.Int.{ints}
use Rattle.std.specs.Ordering.{ordering_reverse}
use Rattle.std.specs.declared.cmp.Ordering.{Ordering}
use Rattle.std.specs.declared.cmp.Ordering.TheVariants.{Less, Equal, Greater}
use Rattle.surd_order.specs.declared.position.Pos.TheVariants.{Frac, Surd}
use Rattle.surd_order.specs.AtMost.{AtMost}
use Rattle.surd_order.specs.Order.{Precedes}
use Rattle.surd_order.specs.Roots.{IsRootOrder}
use Rattle.surd_order.proofs.RootLaws.{root_order}
use Rattle.surd_order.proofs.FractionSurdOrder.{difference_ordered}
use Rattle.surd_order.proofs.AtMostLaws.{at_most_or_not}
use Rattle.surd_order.proofs.OrderLaws.{before_fraction, not_before_fraction}
use Rattle.prim_sphere.specs.Spheres.{squared, IsNear}
use Rattle.plane_geom.proofs.Squares.{square_of_opposite}

-- m is at most √n, by the order of m and √n
not_above : (r : Ordering) (m n : ℤ) → IsRootOrder r m n → r ≡ Greater → ¬ ((m *ℤ m) ≤ℤ n)
not_above Less m n h e = absurd cc
not_above Equal m n h e = absurd cc
not_above Greater m n h e = λ le. omega (arith, ints, h.1, le)

within_root : (r : Ordering) (m n : ℤ) → IsRootOrder r m n → ¬ (r ≡ Greater) → (m <ℤ pos 0) ⊎ ((m *ℤ m) ≤ℤ n)
within_root Less m n h not_greater = elim h [ inl low ↦ inl low | inr below ↦ inr (omega (arith, ints)) ]
within_root Equal m n h not_greater = inr (let e : m *ℤ m ≡ n = h.1 in omega (arith, ints))
within_root Greater m n h not_greater = absurd (not_greater refl)

reverse_less : (r : Ordering) → ordering_reverse r ≡ Less → r ≡ Greater
reverse_less Less e = cc
reverse_less Equal e = cc
reverse_less Greater e = refl

-- how far a fraction lies before the centre
abbrev before_centre : ℤ → ℤ → ℤ → ℤ
before_centre a p q = (a *ℤ q) -ℤ p

abbrev root_of_q : ℕ → ℤ → ℤ
root_of_q k q = pos k *ℤ (q *ℤ q)

near_square : (a p q : ℤ) → squared (p -ℤ (a *ℤ q)) ≡ before_centre a p q *ℤ before_centre a p q
near_square a p q = square_of_opposite (p -ℤ (a *ℤ q)) (before_centre a p q) (omega (arith, ints))

pub near_not_before : (a p q : ℤ) (k : ℕ) → pos 0 <ℤ q → IsNear a (pos k) p q → ¬ (Precedes (Frac p q) (Surd a false k))
near_not_before a p q k some near = λ before.
    let found = root_order (before_centre a p q) (root_of_q k q) in
    let order = difference_ordered p q a k found.0 some found.1 in
    not_above found.0 _ _ found.1 (reverse_less found.0 (order.less.1 before)) (let e = near_square a p q in omega (arith, ints, near, e))

pub near_not_after : (a p q : ℤ) (k : ℕ) → pos 0 <ℤ q → IsNear a (pos k) p q → ¬ (Precedes (Surd a true k) (Frac p q))
near_not_after a p q k some near = not_before_fraction (Surd a true k) p q tt some (inr near)

from_late : (a p q : ℤ) (k : ℕ) → before_centre a p q <ℤ pos 0 → AtMost p q (Surd a true k) → IsNear a (pos k) p q
from_late a p q k low (inl early) = absurd (omega (arith, ints, low, early))
from_late a p q k low (inr near) = near

not_beyond : (a p q : ℤ) (k : ℕ) → pos 0 <ℤ q → ¬ (Precedes (Surd a true k) (Frac p q)) → AtMost p q (Surd a true k)
not_beyond a p q k some not_after = elim (at_most_or_not p q (Surd a true k)) [ inl h ↦ h | inr h ↦ absurd (not_after (before_fraction (Surd a true k) p q some h)) ]

pub near_from : (a p q : ℤ) (k : ℕ) → pos 0 <ℤ q → ¬ (Precedes (Frac p q) (Surd a false k)) → ¬ (Precedes (Surd a true k) (Frac p q)) → IsNear a (pos k) p q
near_from a p q k some not_before not_after =
    let found = root_order (before_centre a p q) (root_of_q k q) in
    let order = difference_ordered p q a k found.0 some found.1 in
    elim (within_root found.0 _ _ found.1 (λ e. not_before (order.less.0 (ap ordering_reverse e)))) [
      | inl low ↦ from_late a p q k low (not_beyond a p q k some not_after)
      | inr near ↦ let e = near_square a p q in omega (arith, ints, near, e)
    ]

-- A plane does one thing to a ray: what is computed is what the rule of planes says.
use Rattle.std.proofs.Common.{◌≡◌, ◌∙◌, ℤ, pos, ◌+ℤ◌, ◌-ℤ◌, ◌*ℤ◌, ◌<ℤ◌, ◌≤ℤ◌, Bool, true, false, cond, ◌&&◌, ◌||◌, refl, ap, sym, inl, inr, ◌⊎◌, arith}
use Rattle.std.proofs.lemmas.Int.{ints}
use Rattle.std.specs.Cmp.{int_ranks}
use Rattle.std.specs.Ordering.{int_cmp, int_eq, is_lt, is_gt, MatchOrdering}
use Rattle.std.specs.declared.cmp.Ordering.{Ordering}
use Rattle.std.specs.declared.cmp.Ordering.TheVariants.{Less, Equal, Greater}
use Rattle.lattice_core.specs.declared.vector.V3.{V3}
use Rattle.lattice_core.specs.declared.ray.Ray.{Ray}
use Rattle.lattice_core.proofs.Products.{add_mul}
use Rattle.plane_geom.proofs.Cross.{sub_mul}
use Rattle.plane_geom.proofs.Crossings.{leaves, enters, holds, misses}
use Rattle.plane_geom.specs.declared.plane.Plane.{Plane}
use Rattle.plane_geom.specs.declared.plane.Crossing.{Crossing}
use Rattle.plane_geom.specs.declared.plane.Crossing.TheVariants.{Enters, Leaves, Holds, Misses}
use Rattle.plane_geom.specs.Edges.{FirstIsNegative, HoldsAlong}
use Rattle.plane_geom.specs.Planes.{PlaneHolds, slope_on, start_on, IsCrossing}
use Rattle.plane_geom.specs.Crossings.{first_is_negative, holds_along, crossing_by, crossing_of}
use Rattle.std.proofs.lemmas.Bool.Decides.{Decides-int_eq}

-- a test says whether a fact holds
abbrev Says : Bool → Type 0 → Type 0
Says true P = P
Says false P = ¬ P

record Tells (b : Bool) (P : Type 0) : Type 0 where
  is : Says b P

says_or : {P Q : Type 0} (a b : Bool) → Tells a P → Tells b Q → Tells (a || b) (P ⊎ Q)
says_or true b p q = record { is = inl p.is }
says_or false true p q = record { is = inr q.is }
says_or false false p q = record { is = λ h. elim h [ inl x ↦ p.is x | inr y ↦ q.is y ] }

says_and : {P Q : Type 0} (a b : Bool) → Tells a P → Tells b Q → Tells (a && b) (P × Q)
says_and true true p q = record { is = (p.is, q.is) }
says_and true false p q = record { is = λ h. q.is h.1 }
says_and false b p q = record { is = λ h. p.is h.0 }

below_says : (x y : ℤ) (r : Ordering) → MatchOrdering r (x <ℤ y) (x ≡ y) (y <ℤ x) → Tells (is_lt r) (x <ℤ y)
below_says x y Less h = record { is = h }
below_says x y Equal h = record { is = λ lt. omega (arith, ints) }
below_says x y Greater h = record { is = λ lt. omega (arith, ints) }

says_below : (x y : ℤ) → Tells (is_lt (int_cmp x y)) (x <ℤ y)
says_below x y = below_says x y (int_cmp x y) (int_ranks x y)

above_says : (x y : ℤ) (r : Ordering) → MatchOrdering r (x <ℤ y) (x ≡ y) (y <ℤ x) → Tells (is_gt r) (y <ℤ x)
above_says x y Less h = record { is = λ gt. omega (arith, ints) }
above_says x y Equal h = record { is = λ gt. omega (arith, ints) }
above_says x y Greater h = record { is = h }

says_above : (x y : ℤ) → Tells (is_gt (int_cmp x y)) (y <ℤ x)
says_above x y = above_says x y (int_cmp x y) (int_ranks x y)

says_same_at : (b : Bool) (P : Type 0) → ((b ≡ true) → P) → (P → (b ≡ true)) → Tells b P
says_same_at true P f g = record { is = f refl }
says_same_at false P f g = record { is = λ p. let e : false ≡ true = g p in cc }

says_same : (x y : ℤ) → Tells (int_eq x y) (x ≡ y)
says_same x y = says_same_at (int_eq x y) (x ≡ y) (λ e. (Decides-int_eq x y).0 e) (λ e. (Decides-int_eq x y).1 e)

says_first : (n : V3) → Tells (first_is_negative n) (FirstIsNegative n)
says_first n =
    let third = says_below n.z (pos 0) in
    let second = says_or _ _ (says_below n.y (pos 0)) (says_and _ _ (says_same n.y (pos 0)) third) in
    says_or _ _ (says_below n.x (pos 0)) (says_and _ _ (says_same n.x (pos 0)) second)

says_along : (n : V3) (gap : ℤ) → Tells (holds_along n gap) (HoldsAlong n gap)
says_along n gap = says_or _ _ (says_above gap (pos 0)) (says_and _ _ (says_same gap (pos 0)) (says_first n))

along_crossing : (plane : Plane) (ray : Ray) (b : Bool) → slope_on plane ray ≡ pos 0 → Says b (HoldsAlong plane.n (plane.d -ℤ start_on plane ray))
    → IsCrossing plane ray (cond b Holds Misses)
along_crossing plane ray true flat h = holds plane ray (plane.d -ℤ start_on plane ray) refl flat h
along_crossing plane ray false flat h = misses plane ray (plane.d -ℤ start_on plane ray) refl flat h

by_crossing : (plane : Plane) (ray : Ray) (r : Ordering) → MatchOrdering r (slope_on plane ray <ℤ pos 0) (slope_on plane ray ≡ pos 0) (pos 0 <ℤ slope_on plane ray)
    → IsCrossing plane ray (crossing_by r plane ray)
by_crossing plane ray Less h = enters plane ray _ _ refl refl (omega (arith, ints, h))
by_crossing plane ray Equal h = along_crossing plane ray (holds_along plane.n (plane.d -ℤ start_on plane ray)) h (says_along plane.n (plane.d -ℤ start_on plane ray)).is
by_crossing plane ray Greater h = leaves plane ray _ _ refl refl h

pub crossing_is : (plane : Plane) (ray : Ray) → IsCrossing plane ray (crossing_of plane ray)
crossing_is plane ray = by_crossing plane ray (int_cmp (slope_on plane ray) (pos 0)) (int_ranks (slope_on plane ray) (pos 0))

enters_some : (plane : Plane) (ray : Ray) (r s : ℤ) → IsCrossing plane ray (Enters r s) → PlaneHolds plane ray r s
enters_some plane ray r s h = (h.3 r s h.2).1 (omega (arith, ints))

enters_not_all : (plane : Plane) (ray : Ray) (r s : ℤ) → IsCrossing plane ray (Enters r s) → ¬ (PlaneHolds plane ray (r -ℤ pos 1) s)
enters_not_all plane ray r s h = λ held.
    let le : (r *ℤ s) ≤ℤ ((r -ℤ pos 1) *ℤ s) = (h.3 (r -ℤ pos 1) s h.2).0 held in
    let less : (r -ℤ pos 1) *ℤ s ≡ (r *ℤ s) -ℤ (pos 1 *ℤ s) = sub_mul r (pos 1) s in
    let some : pos 0 <ℤ s = h.2 in
    omega (arith, ints)

leaves_some : (plane : Plane) (ray : Ray) (r s : ℤ) → IsCrossing plane ray (Leaves r s) → PlaneHolds plane ray r s
leaves_some plane ray r s h = (h.3 r s h.2).1 (omega (arith, ints))

leaves_not_all : (plane : Plane) (ray : Ray) (r s : ℤ) → IsCrossing plane ray (Leaves r s) → ¬ (PlaneHolds plane ray (r +ℤ pos 1) s)
leaves_not_all plane ray r s h = λ held.
    let le : ((r +ℤ pos 1) *ℤ s) ≤ℤ (r *ℤ s) = (h.3 (r +ℤ pos 1) s h.2).0 held in
    let more : (r +ℤ pos 1) *ℤ s ≡ (r *ℤ s) +ℤ (pos 1 *ℤ s) = add_mul r (pos 1) s in
    let some : pos 0 <ℤ s = h.2 in
    omega (arith, ints)

pub one_crossing : (plane : Plane) (ray : Ray) (c d : Crossing) → IsCrossing plane ray c → IsCrossing plane ray d → c ≡ d
one_crossing plane ray (Enters r s) (Enters p q) h g = ap (λ (x : ℤ). Enters x s) (h.0 ∙ sym g.0) ∙ ap (λ (x : ℤ). Enters p x) (h.1 ∙ sym g.1)
one_crossing plane ray (Enters r s) (Leaves p q) h g = absurd (omega (arith, ints, h.1, h.2, g.1, g.2))
one_crossing plane ray (Enters r s) Holds h g = absurd (enters_not_all plane ray r s h (g (r -ℤ pos 1) s h.2))
one_crossing plane ray (Enters r s) Misses h g = absurd (g r s h.2 (enters_some plane ray r s h))
one_crossing plane ray (Leaves r s) (Enters p q) h g = absurd (omega (arith, ints, h.1, h.2, g.1, g.2))
one_crossing plane ray (Leaves r s) (Leaves p q) h g = ap (λ (x : ℤ). Leaves x s) (h.0 ∙ sym g.0) ∙ ap (λ (x : ℤ). Leaves p x) (h.1 ∙ sym g.1)
one_crossing plane ray (Leaves r s) Holds h g = absurd (leaves_not_all plane ray r s h (g (r +ℤ pos 1) s h.2))
one_crossing plane ray (Leaves r s) Misses h g = absurd (g r s h.2 (leaves_some plane ray r s h))
one_crossing plane ray Holds (Enters p q) h g = absurd (enters_not_all plane ray p q g (h (p -ℤ pos 1) q g.2))
one_crossing plane ray Holds (Leaves p q) h g = absurd (leaves_not_all plane ray p q g (h (p +ℤ pos 1) q g.2))
one_crossing plane ray Holds Holds h g = refl
one_crossing plane ray Holds Misses h g = absurd (g (pos 0) (pos 1) (omega (arith, ints)) (h (pos 0) (pos 1) (omega (arith, ints))))
one_crossing plane ray Misses (Enters p q) h g = absurd (h p q g.2 (enters_some plane ray p q g))
one_crossing plane ray Misses (Leaves p q) h g = absurd (h p q g.2 (leaves_some plane ray p q g))
one_crossing plane ray Misses Holds h g = absurd (h (pos 0) (pos 1) (omega (arith, ints)) (g (pos 0) (pos 1) (omega (arith, ints))))
one_crossing plane ray Misses Misses h g = refl

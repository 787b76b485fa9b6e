-- Tests of points as facts.
use Rattle.std.proofs.Common.{◌≡◌, ◌≢◌, ◌∙◌, ◌⊎◌, ◌<◌, inl, inr, ℕ, Bool, true, false, not, List, length, All, ℤ, pos, ◌<ℤ◌, ◌≤ℤ◌, refl, ap, sym, arith}
use Rattle.std.specs.Prelude.{slice_index_or}
use Rattle.std.specs.List.{Any, list_any}
use Rattle.std.specs.Ordering.{int_cmp, is_lt, is_gt, MatchOrdering}
use Rattle.std.specs.declared.cmp.Ordering.{Ordering}
use Rattle.std.specs.declared.cmp.Ordering.TheVariants.{Less, Equal, Greater}
use Rattle.std.specs.Cmp.{int_ranks}
use Rattle.std.proofs.lemmas.Bool.{false≢true}
use Rattle.std.proofs.lemmas.Bool.Decides.{Decides-int_eq}
use Rattle.std.proofs.lemmas.Int.{ints}
use Rattle.std.proofs.lemmas.List.Folds.{Any-from_list_any, list_any_at}
use Rattle.lattice_core.specs.declared.vector.V3.{V3}
use Rattle.lattice_core.specs.Vectors.{zero_vector}
use Rattle.lattice_core.proofs.Turning.{vector_same}
use Rattle.plane_geom.specs.declared.plane.Plane.{Plane}
use Rattle.plane_geom.specs.Planes.{height_over, is_zero_vector, LiesIn}
use Rattle.plane_geom.proofs.BoolTests.{and_left, and_right, equal_from}
use Rattle.prim_arb8.specs.Points.{lies_in, lies_beyond, lies_before}

-- no point passes a test that none passes
none_at : (f : V3 → Bool) (points : List V3) (k : ℕ) (d : V3) → k < length points → list_any f points ≡ false → (b : Bool) → f (slice_index_or points k d) ≡ b → f (slice_index_or points k d) ≡ false
none_at f points k d lt none true e = absurd (false≢true (sym none ∙ list_any_at f points k d lt e))
none_at f points k d lt none false e = e

pub none_pass : (f : V3 → Bool) (points : List V3) → list_any f points ≡ false → All (λ p. f p ≡ false) points
none_pass f points none k d lt = none_at f points k d lt none (f (slice_index_or points k d)) refl

any_by : (f : V3 → Bool) (points : List V3) (b : Bool) → list_any f points ≡ b → Any (λ p. f p ≡ true) points ⊎ All (λ p. f p ≡ false) points
any_by f points true e = inl (Any-from_list_any f points e)
any_by f points false e = inr (none_pass f points e)

pub any_or_none : (f : V3 → Bool) (points : List V3) → Any (λ p. f p ≡ true) points ⊎ All (λ p. f p ≡ false) points
any_or_none f points = any_by f points (list_any f points) refl

pub true_or_false : (b : Bool) → (b ≡ true) ⊎ (b ≡ false)
true_or_false true = inl refl
true_or_false false = inr refl

pub not_true : (b : Bool) → not b ≡ true → b ≡ false
not_true true e = absurd (false≢true e)
not_true false e = refl

pub not_false : (b : Bool) → not b ≡ false → b ≡ true
not_false true e = refl
not_false false e = absurd (false≢true (sym e))

pub zero_read : (v : V3) → is_zero_vector v ≡ true → v ≡ zero_vector
zero_read v h = vector_same (equal_from v.x (pos 0) (and_left _ _ h)) (equal_from v.y (pos 0) (and_left _ _ (and_right _ _ h))) (equal_from v.z (pos 0) (and_right _ _ (and_right _ _ h)))

pub not_zero : (v : V3) → is_zero_vector v ≡ false → v ≢ zero_vector
not_zero v h e = false≢true (sym h ∙ ap is_zero_vector e)

pub in_read : (plane : Plane) (p : V3) → lies_in plane p ≡ true → LiesIn p plane
in_read plane p h = let level : height_over plane p ≡ pos 0 = equal_from (height_over plane p) (pos 0) h in omega (arith, ints, level)

pub in_made : (plane : Plane) (p : V3) → LiesIn p plane → lies_in plane p ≡ true
in_made plane p h = (Decides-int_eq (height_over plane p) (pos 0)).1 (omega (arith, ints, h))

not_beyond_by : (z : ℤ) (r : Ordering) → MatchOrdering r (z <ℤ pos 0) (z ≡ pos 0) (pos 0 <ℤ z) → is_gt r ≡ false → z ≤ℤ pos 0
not_beyond_by z Less h e = omega (arith, ints, h)
not_beyond_by z Equal h e = omega (arith, ints, h)
not_beyond_by z Greater h e = absurd (false≢true (sym e))

pub not_beyond : (plane : Plane) (p : V3) → lies_beyond plane p ≡ false → height_over plane p ≤ℤ pos 0
not_beyond plane p e = not_beyond_by (height_over plane p) (int_cmp (height_over plane p) (pos 0)) (int_ranks (height_over plane p) (pos 0)) e

not_before_by : (z : ℤ) (r : Ordering) → MatchOrdering r (z <ℤ pos 0) (z ≡ pos 0) (pos 0 <ℤ z) → is_lt r ≡ false → pos 0 ≤ℤ z
not_before_by z Less h e = absurd (false≢true (sym e))
not_before_by z Equal h e = omega (arith, ints, h)
not_before_by z Greater h e = omega (arith, ints, h)

pub not_before : (plane : Plane) (p : V3) → lies_before plane p ≡ false → pos 0 ≤ℤ height_over plane p
not_before plane p e = not_before_by (height_over plane p) (int_cmp (height_over plane p) (pos 0)) (int_ranks (height_over plane p) (pos 0)) e

-- Where a ray runs through a sphere.
use Rattle.std.proofs.Common.{◌≡◌, ◌↔◌, ◌∙◌, ℕ, zero, suc, IsNone, IfNone, IfSome, ℤ, pos, negsuc, ◌+ℤ◌, ◌-ℤ◌, ◌*ℤ◌, ◌<ℤ◌, ◌≤ℤ◌, refl, ap, sym, subst, arith}
use Rattle.std.proofs.lemmas.Int.{ints}
use Rattle.lattice_core.specs.declared.vector.V3.{V3}
use Rattle.lattice_core.specs.declared.ray.Ray.{Ray}
use Rattle.lattice_core.specs.declared.ray.Dir.{Dir}
use Rattle.lattice_core.specs.declared.ray.Dir.TheVariants.{PlusX, MinusX, PlusY, MinusY, PlusZ, MinusZ}
use Rattle.lattice_core.specs.Limits.{IsAtMost}
use Rattle.lattice_core.specs.Units.{unit_of}
use Rattle.lattice_core.specs.Vectors.{vector_difference}
use Rattle.lattice_core.proofs.Products.{mul_swap, square_at_least}
use Rattle.plane_geom.proofs.Cross.{sub_mul}
use Rattle.plane_geom.specs.Chords.{point_along, nearest_along, half_chord_along, IsNearAlong}
use Rattle.plane_geom.specs.Vectors.{cross_product}
use Rattle.plane_geom.proofs.Lines.{IsReached, near_along, near_at_pace_one, near_none, square_of_cross}
use Rattle.plane_geom.proofs.Sizes.{product_size}
use Rattle.prim_sphere.specs.Spheres.{squared, scaled, length_squared, nearest_on, half_chord_squared, IsNear, SphereHolds, SphereHoldsAlong, HoldsBetween, HoldsOnceAtMost, chord_of, chord_at, IsSmallChord}
use Rattle.lattice_core.specs.declared.limit.TheConstants.{COORD}
use Rattle.plane_geom.specs.declared.limit.TheConstants.{REMOTE}

-- a point of a line, seen from the centre
part : (o e c p q : ℤ) → ((o *ℤ q) +ℤ (e *ℤ p)) -ℤ (c *ℤ q) ≡ (e *ℤ p) -ℤ ((c -ℤ o) *ℤ q)
part o e c p q = omega (arith, ints, sub_mul c o q)

reached : (c o e : V3) (p q : ℤ) → IsReached (vector_difference (point_along o e p q) (scaled c q)) (vector_difference c o) e p q
reached c o e p q = record { x = part o.x e.x c.x p q; y = part o.y e.y c.y p q; z = part o.z e.z c.z p q }

-- the sphere holds of every line what is near the middle of its chord
pub line_near : (c : V3) (r : ℤ) (o e : V3) (p q : ℤ) → pos 0 <ℤ length_squared e
    → SphereHoldsAlong c r o e p q ↔ IsNearAlong (length_squared e) (nearest_along (vector_difference c o) e) (half_chord_along (vector_difference c o) r e) p q
line_near c r o e p q some = near_along (vector_difference (point_along o e p q) (scaled c q)) (vector_difference c o) e r p q (reached c o e p q) some

unit_length : (d : Dir) → length_squared (unit_of d) ≡ pos 1
unit_length PlusX = refl
unit_length MinusX = refl
unit_length PlusY = refl
unit_length MinusY = refl
unit_length PlusZ = refl
unit_length MinusZ = refl

-- the chord of a ray is that of its line
pub half_is : (c : V3) (r : ℤ) (ray : Ray) → half_chord_along (vector_difference c ray.origin) r (unit_of ray.dir) ≡ half_chord_squared c r ray
half_is c r ray =
    let whole : length_squared (vector_difference c ray.origin) *ℤ length_squared (unit_of ray.dir) ≡ length_squared (vector_difference c ray.origin) *ℤ pos 1 =
    ap (λ (z : ℤ). length_squared (vector_difference c ray.origin) *ℤ z) (unit_length ray.dir) in
    let round : length_squared (unit_of ray.dir) *ℤ squared r ≡ pos 1 *ℤ squared r = ap (λ (z : ℤ). z *ℤ squared r) (unit_length ray.dir) in
    found (squared r) (length_squared (vector_difference c ray.origin)) (squared (nearest_on c ray)) _ _ _ (square_of_cross (vector_difference c ray.origin) (unit_of ray.dir)) whole round
  where
    found : (r l a c lp rp : ℤ) → c ≡ lp -ℤ a → lp ≡ l *ℤ pos 1 → rp ≡ pos 1 *ℤ r → rp -ℤ c ≡ r -ℤ (l -ℤ a)
    found r l a c lp rp one two three = omega (arith, ints, one, two, three)

-- the sphere holds what is near the middle of its chord
pub held_near : (c : V3) (r : ℤ) (ray : Ray) (p q : ℤ) → SphereHolds c r ray p q ↔ IsNear (nearest_on c ray) (half_chord_squared c r ray) p q
held_near c r ray p q =
    let one = line_near c r ray.origin (unit_of ray.dir) p q (omega (arith, ints, unit_length ray.dir)) in
    let two = near_at_pace_one (length_squared (unit_of ray.dir)) (nearest_on c ray) (half_chord_along (vector_difference c ray.origin) r (unit_of ray.dir)) p q (unit_length ray.dir) in
    (λ h. subst (λ (z : ℤ). IsNear (nearest_on c ray) z p q) (half_is c r ray) (two.0 (one.0 h)), λ near. one.1 (two.1 (subst (λ (z : ℤ). IsNear (nearest_on c ray) z p q) (sym (half_is c r ray)) near)))

-- a chord is no longer than a diameter
pub half_small : (c : V3) (r : ℤ) (ray : Ray) → half_chord_squared c r ray ≤ℤ squared r
half_small c r ray =
    let cross : V3 = cross_product (vector_difference c ray.origin) (unit_of ray.dir) in
    let round : length_squared (unit_of ray.dir) *ℤ squared r ≡ pos 1 *ℤ squared r = ap (λ (z : ℤ). z *ℤ squared r) (unit_length ray.dir) in
    subst (λ (z : ℤ). z ≤ℤ squared r) (half_is c r ray) (below (squared r) _ _ _ _ (square_at_least cross.x) (square_at_least cross.y) (square_at_least cross.z) round)
  where
    below : (r x y z rp : ℤ) → pos 0 ≤ℤ x → pos 0 ≤ℤ y → pos 0 ≤ℤ z → rp ≡ pos 1 *ℤ r → (rp -ℤ ((x +ℤ y) +ℤ z)) ≤ℤ r
    below r x y z rp one two three e = omega (arith, ints, one, two, three, e)

-- a sphere that a ray misses or only touches holds one fraction of it at most
pub held_once : (c : V3) (r : ℤ) (ray : Ray) → half_chord_squared c r ray ≤ℤ pos 0 → HoldsOnceAtMost c r ray
held_once c r ray low p q p' q' some some' one two =
    let a : ℤ = nearest_on c ray in
    let e : p ≡ nearest_on c ray *ℤ q = near_none a _ p q low ((held_near c r ray p q).0 one) in
    let f : p' ≡ nearest_on c ray *ℤ q' = near_none a _ p' q' low ((held_near c r ray p' q').0 two) in
    ap (λ (z : ℤ). z *ℤ q') e ∙ mul_swap a q q' ∙ sym (ap (λ (z : ℤ). z *ℤ q) f)

pub held_between : (c : V3) (r : ℤ) (ray : Ray) (a : ℤ) (n : ℕ) → a ≡ nearest_on c ray → half_chord_squared c r ray ≡ pos n → HoldsBetween c r ray (record { a = a; k = n })
held_between c r ray a n a_is k_is p q some =
    let h = held_near c r ray p q in
    rw (a_is, ← k_is) h

-- what the numbers of a ray and a sphere say of their chord
pub none_is : (a k : ℤ) → IsNone (chord_of a k) ↔ (k ≤ℤ pos 0)
none_is a (pos zero) = (λ t. omega (arith, ints), λ le. refl)
none_is a (pos (suc k)) = (λ t. cc, λ le. absurd (omega (arith, ints, le)))
none_is a (negsuc k) = (λ t. omega (arith, ints), λ le. refl)

small_chord : (r a k : ℤ) → IsAtMost REMOTE a → IsAtMost COORD r → k ≤ℤ squared r → IfSome (chord_of a k) (IsSmallChord r)
small_chord r a (pos zero) a_size r_size le = tt
small_chord r a (pos (suc k)) a_size r_size le =
    let wide : IsAtMost (squared COORD) (squared r) = product_size COORD COORD r r r_size r_size in record {
      whole = a_size;
      some = omega arith;
      within = le;
      root = omega (arith, ints, le, wide.1);
    }
small_chord r a (negsuc k) a_size r_size le = tt

pub small_at : (c : V3) (r : ℤ) (ray : Ray) → IsAtMost REMOTE (nearest_on c ray) → IsAtMost COORD r → IfSome (chord_at c r ray) (IsSmallChord r)
small_at c r ray a_size r_size = small_chord r (nearest_on c ray) (half_chord_squared c r ray) a_size r_size (half_small c r ray)

held_for : (c : V3) (r : ℤ) (ray : Ray) (k : ℤ) → half_chord_squared c r ray ≡ k → IfSome (chord_of (nearest_on c ray) k) (HoldsBetween c r ray)
held_for c r ray (pos zero) e = tt
held_for c r ray (pos (suc k)) e = held_between c r ray (nearest_on c ray) (suc k) refl e
held_for c r ray (negsuc k) e = tt

pub held_at : (c : V3) (r : ℤ) (ray : Ray) → IfSome (chord_at c r ray) (HoldsBetween c r ray)
held_at c r ray = held_for c r ray (half_chord_squared c r ray) refl

missed_for : (c : V3) (r : ℤ) (ray : Ray) (k : ℤ) → half_chord_squared c r ray ≡ k → IfNone (chord_of (nearest_on c ray) k) (HoldsOnceAtMost c r ray)
missed_for c r ray (pos zero) e = held_once c r ray (omega (arith, ints))
missed_for c r ray (pos (suc k)) e = tt
missed_for c r ray (negsuc k) e = held_once c r ray (omega (arith, ints))

pub missed_at : (c : V3) (r : ℤ) (ray : Ray) → IfNone (chord_at c r ray) (HoldsOnceAtMost c r ray)
missed_at c r ray = missed_for c r ray (half_chord_squared c r ray) refl

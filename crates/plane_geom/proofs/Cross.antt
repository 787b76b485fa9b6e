-- A cross product stands at right angles on its two factors.
use Rattle.std.proofs.Common.{◌≡◌, ◌∙◌, Bool, true, false, cond, Some, None, refl, ℤ, pos, ◌-ℤ◌, ◌*ℤ◌, ap, sym, arith}
use Rattle.std.proofs.lemmas.Int.{ints}
use Rattle.std.proofs.Math.IntN.{*ℤ_comm}
use Rattle.lattice_core.specs.declared.vector.V3.{V3}
use Rattle.lattice_core.specs.Vectors.{dot_product, vector_difference, zero_vector}
use Rattle.lattice_core.proofs.Products.{mul_swap, mul_sub}
use Rattle.plane_geom.specs.declared.plane.Plane.{Plane}
use Rattle.plane_geom.specs.Vectors.{cross_product}
use Rattle.plane_geom.specs.Planes.{normal_of, is_zero_vector, plane_of, IsThrough}
use Rattle.lattice_core.proofs.Turning.{vector_same}
use Rattle.plane_geom.proofs.BoolTests.{equal_from, and_left, and_right}

pub sub_mul : (a b c : ℤ) → (a -ℤ b) *ℤ c ≡ (a *ℤ c) -ℤ (b *ℤ c)
sub_mul a b c =
    *ℤ_comm (a -ℤ b) c ∙ mul_sub c a b ∙ ap (λ (z : ℤ). z -ℤ (c *ℤ b)) (*ℤ_comm c a) ∙ ap (λ (z : ℤ). (a *ℤ c) -ℤ z) (*ℤ_comm c b)

-- the outer factors change places
pub turn_round : (a b c : ℤ) → (a *ℤ b) *ℤ c ≡ (c *ℤ b) *ℤ a
turn_round a b c = mul_swap a b c ∙ ap (λ (z : ℤ). z *ℤ b) (*ℤ_comm a c) ∙ sym (mul_swap c b a)

pub cross_first : (u v : V3) → dot_product (cross_product u v) u ≡ pos 0
cross_first u v =
    omega (
      arith,
      ints,
      sub_mul (u.y *ℤ v.z) (u.z *ℤ v.y) u.x,
      sub_mul (u.z *ℤ v.x) (u.x *ℤ v.z) u.y,
      sub_mul (u.x *ℤ v.y) (u.y *ℤ v.x) u.z,
      turn_round u.y v.z u.x,
      turn_round u.z v.y u.x,
      turn_round u.z v.x u.y,
    )

pub cross_second : (u v : V3) → dot_product (cross_product u v) v ≡ pos 0
cross_second u v =
    omega (
      arith,
      ints,
      sub_mul (u.y *ℤ v.z) (u.z *ℤ v.y) v.x,
      sub_mul (u.z *ℤ v.x) (u.x *ℤ v.z) v.y,
      sub_mul (u.x *ℤ v.y) (u.y *ℤ v.x) v.z,
      mul_swap u.y v.z v.x,
      mul_swap u.z v.y v.x,
      mul_swap u.x v.z v.y,
    )

pub dot_difference : (n a b : V3) → dot_product n (vector_difference b a) ≡ dot_product n b -ℤ dot_product n a
dot_difference n a b = omega (arith, ints, mul_sub n.x b.x a.x, mul_sub n.y b.y a.y, mul_sub n.z b.z a.z)

pub through_is : (plane : Plane) (a b c : V3) → plane.n ≡ normal_of a b c → plane.d ≡ dot_product plane.n a → IsThrough plane a b c
through_is plane a b c en ed =
    let u : V3 = vector_difference b a in
    let v : V3 = vector_difference c a in
    let one : dot_product plane.n (vector_difference b a) ≡ pos 0 = ap (λ (n : V3). dot_product n u) en ∙ cross_first u v in
    let two : dot_product plane.n (vector_difference c a) ≡ pos 0 = ap (λ (n : V3). dot_product n v) en ∙ cross_second u v in
    record {
      normal = en;
      first = sym ed;
      second = omega (arith, ints, ed, one, dot_difference plane.n a b);
      third = omega (arith, ints, ed, two, dot_difference plane.n a c);
    }

pub normal_is : (n u v a b c : V3) → n ≡ cross_product u v → u ≡ vector_difference b a → v ≡ vector_difference c a → n ≡ normal_of a b c
normal_is n u v a b c en eu ev =
    en ∙ ap (λ (w : V3). cross_product w v) eu ∙ ap (cross_product (vector_difference b a)) ev

-- whether a vector is zero
pub through_none : (n a : V3) → n ≡ zero_vector → None ≡ cond (is_zero_vector n) None (Some (plane_of n a))
through_none n a e = sym (ap (λ (b : Bool). cond b None (Some (plane_of n a))) (ap is_zero_vector e))

zero_read : (v : V3) → is_zero_vector v ≡ true → v ≡ zero_vector
zero_read v h =
    let x : v.x ≡ pos 0 = equal_from v.x (pos 0) (and_left _ _ h) in
    let y : v.y ≡ pos 0 = equal_from v.y (pos 0) (and_left _ _ (and_right _ _ h)) in
    let z : v.z ≡ pos 0 = equal_from v.z (pos 0) (and_right _ _ (and_right _ _ h)) in
    vector_same x y z

some_at : (n a : V3) (b : Bool) → is_zero_vector n ≡ b → ¬ (n ≡ zero_vector) → Some (plane_of n a) ≡ cond b None (Some (plane_of n a))
some_at n a true e not_zero = absurd (not_zero (zero_read n e))
some_at n a false e not_zero = refl

pub through_some : (n a : V3) → ¬ (n ≡ zero_vector) → Some (plane_of n a) ≡ cond (is_zero_vector n) None (Some (plane_of n a))
through_some n a not_zero = some_at n a (is_zero_vector n) refl not_zero

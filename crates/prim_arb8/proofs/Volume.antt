-- Three vectors at right angles to a vector that is not zero have no volume.
use Rattle.std.proofs.Common.{zero, suc, ◌≡◌, ◌≢◌, ◌∙◌, ◌⊎◌, inl, inr, ℤ, pos, negsuc, ◌+ℤ◌, ◌-ℤ◌, ◌*ℤ◌, refl, ap, sym, arith}
use Rattle.std.proofs.lemmas.Int.{ints}
use Rattle.std.proofs.Math.IntN.{*ℤ_comm, zero-*ℤ, *ℤ-zero}
use Rattle.lattice_core.specs.declared.vector.V3.{V3}
use Rattle.lattice_core.specs.Vectors.{dot_product, zero_vector}
use Rattle.lattice_core.proofs.Products.{mul_assoc, mul_add, mul_sub, add_mul}
use Rattle.lattice_core.proofs.Turning.{vector_same}
use Rattle.plane_geom.specs.Vectors.{cross_product}
use Rattle.plane_geom.proofs.Cross.{sub_mul}

pub by_zero : (z : ℤ) → (z ≡ pos 0) ⊎ (z ≢ pos 0)
by_zero (pos zero) = inl refl
by_zero (pos (suc n)) = inr (λ e. absurd (omega (arith, ints)))
by_zero (negsuc n) = inr (λ e. absurd (omega (arith, ints)))

-- a product is zero only where a factor is
pub no_divisor : (a b : ℤ) → a ≢ pos 0 → a *ℤ b ≡ pos 0 → b ≡ pos 0
no_divisor a (pos zero) some e = refl
no_divisor (pos zero) (pos (suc n)) some e = absurd (some refl)
no_divisor (pos (suc m)) (pos (suc n)) some e = absurd (omega (arith, ints))
no_divisor (negsuc m) (pos (suc n)) some e = absurd (omega (arith, ints))
no_divisor (pos zero) (negsuc n) some e = absurd (some refl)
no_divisor (pos (suc m)) (negsuc n) some e = absurd (omega (arith, ints))
no_divisor (negsuc m) (negsuc n) some e = absurd (omega (arith, ints))

-- the first factor goes to the end
cycle : (a b c : ℤ) → a *ℤ (b *ℤ c) ≡ b *ℤ (c *ℤ a)
cycle a b c = *ℤ_comm a (b *ℤ c) ∙ mul_assoc b c a

-- a · b times a number, component by component
weighed : (n u : V3) (a : ℤ) → dot_product n u ≡ pos 0 → ((n.x *ℤ (u.x *ℤ a)) +ℤ (n.y *ℤ (u.y *ℤ a))) +ℤ (n.z *ℤ (u.z *ℤ a)) ≡ pos 0
weighed n u a e =
    let whole : dot_product n u *ℤ a ≡ pos 0 = ap (λ (z : ℤ). z *ℤ a) e ∙ zero-*ℤ a in
    omega (
      arith,
      ints,
      whole,
      add_mul ((n.x *ℤ u.x) +ℤ (n.y *ℤ u.y)) (n.z *ℤ u.z) a,
      add_mul (n.x *ℤ u.x) (n.y *ℤ u.y) a,
      mul_assoc n.x u.x a,
      mul_assoc n.y u.y a,
      mul_assoc n.z u.z a,
    )

-- the component x of a cross product
abbrev cross_x : V3 → V3 → ℤ
cross_x v w = (v.y *ℤ w.z) -ℤ (v.z *ℤ w.y)

-- three numbers weighed by the components x of the cross products of three vectors
abbrev expansion : ℤ → ℤ → ℤ → V3 → V3 → V3 → ℤ
expansion p q r u v w = ((p *ℤ cross_x v w) +ℤ (q *ℤ cross_x w u)) +ℤ (r *ℤ cross_x u v)

expanded_x : (u v w : V3) → expansion u.x v.x w.x u v w ≡ dot_product (cross_product u v) w
expanded_x u v w =
    omega (
      arith,
      ints,
      mul_sub u.x (v.y *ℤ w.z) (v.z *ℤ w.y),
      mul_sub v.x (w.y *ℤ u.z) (w.z *ℤ u.y),
      mul_sub w.x (u.y *ℤ v.z) (u.z *ℤ v.y),
      sub_mul (u.y *ℤ v.z) (u.z *ℤ v.y) w.x,
      sub_mul (u.z *ℤ v.x) (u.x *ℤ v.z) w.y,
      sub_mul (u.x *ℤ v.y) (u.y *ℤ v.x) w.z,
      *ℤ_comm (u.y *ℤ v.z) w.x,
      *ℤ_comm (u.z *ℤ v.y) w.x,
      mul_assoc u.z v.x w.y,
      cycle u.z v.x w.y,
      mul_assoc u.x v.z w.y,
      mul_assoc u.x v.y w.z,
      mul_assoc u.y v.x w.z,
      cycle u.y v.x w.z,
    )

expanded_y : (u v w : V3) → expansion u.y v.y w.y u v w ≡ pos 0
expanded_y u v w =
    omega (
      arith,
      ints,
      mul_sub u.y (v.y *ℤ w.z) (v.z *ℤ w.y),
      mul_sub v.y (w.y *ℤ u.z) (w.z *ℤ u.y),
      mul_sub w.y (u.y *ℤ v.z) (u.z *ℤ v.y),
      cycle u.y v.y w.z,
      cycle w.y u.y v.z,
      cycle v.y w.y u.z,
    )

expanded_z : (u v w : V3) → expansion u.z v.z w.z u v w ≡ pos 0
expanded_z u v w =
    omega (
      arith,
      ints,
      mul_sub u.z (v.y *ℤ w.z) (v.z *ℤ w.y),
      mul_sub v.z (w.y *ℤ u.z) (w.z *ℤ u.y),
      mul_sub w.z (u.y *ℤ v.z) (u.z *ℤ v.y),
      cycle w.z u.z v.y,
      cycle u.z v.z w.y,
      cycle v.z w.z u.y,
    )

spread : (k a b c : ℤ) → k *ℤ ((a +ℤ b) +ℤ c) ≡ ((k *ℤ a) +ℤ (k *ℤ b)) +ℤ (k *ℤ c)
spread k a b c = mul_add k (a +ℤ b) c ∙ ap (λ (z : ℤ). z +ℤ (k *ℤ c)) (mul_add k a b)

volume_x : (n u v w : V3) → dot_product n u ≡ pos 0 → dot_product n v ≡ pos 0 → dot_product n w ≡ pos 0 → n.x *ℤ dot_product (cross_product u v) w ≡ pos 0
volume_x n u v w eu ev ew =
    let a : ℤ = cross_x v w in
    let b : ℤ = cross_x w u in
    let c : ℤ = cross_x u v in
    let one = spread n.x (u.x *ℤ cross_x v w) (v.x *ℤ cross_x w u) (w.x *ℤ cross_x u v) in
    let two = spread n.y (u.y *ℤ cross_x v w) (v.y *ℤ cross_x w u) (w.y *ℤ cross_x u v) in
    let three = spread n.z (u.z *ℤ cross_x v w) (v.z *ℤ cross_x w u) (w.z *ℤ cross_x u v) in
    let x : n.x *ℤ expansion u.x v.x w.x u v w ≡ n.x *ℤ dot_product (cross_product u v) w = ap (λ (z : ℤ). n.x *ℤ z) (expanded_x u v w) in
    let y : n.y *ℤ expansion u.y v.y w.y u v w ≡ pos 0 = ap (λ (z : ℤ). n.y *ℤ z) (expanded_y u v w) ∙ *ℤ-zero n.y in
    let z : n.z *ℤ expansion u.z v.z w.z u v w ≡ pos 0 = ap (λ (z : ℤ). n.z *ℤ z) (expanded_z u v w) ∙ *ℤ-zero n.z in
    omega (arith, ints, one, two, three, x, y, z, weighed n u (cross_x v w) eu, weighed n v (cross_x w u) ev, weighed n w (cross_x u v) ew)

-- the axes in another order
abbrev rolled : V3 → V3
rolled v = record { x = v.y; y = v.z; z = v.x }

rolled_dot : (n u : V3) → dot_product n u ≡ pos 0 → dot_product (rolled n) (rolled u) ≡ pos 0
rolled_dot n u e = omega (arith, ints, e)

rolled_volume : (u v w : V3) → dot_product (cross_product (rolled u) (rolled v)) (rolled w) ≡ dot_product (cross_product u v) w
rolled_volume u v w = omega (arith, ints)

volume_y : (n u v w : V3) → dot_product n u ≡ pos 0 → dot_product n v ≡ pos 0 → dot_product n w ≡ pos 0 → n.y *ℤ dot_product (cross_product u v) w ≡ pos 0
volume_y n u v w eu ev ew =
    ap (λ (z : ℤ). n.y *ℤ z) (sym (rolled_volume u v w)) ∙ volume_x (rolled n) (rolled u) (rolled v) (rolled w) (rolled_dot n u eu) (rolled_dot n v ev) (rolled_dot n w ew)

volume_z : (n u v w : V3) → dot_product n u ≡ pos 0 → dot_product n v ≡ pos 0 → dot_product n w ≡ pos 0 → n.z *ℤ dot_product (cross_product u v) w ≡ pos 0
volume_z n u v w eu ev ew =
    ap (λ (z : ℤ). n.z *ℤ z) (sym (rolled_volume u v w)) ∙ volume_y (rolled n) (rolled u) (rolled v) (rolled w) (rolled_dot n u eu) (rolled_dot n v ev) (rolled_dot n w ew)

pub no_volume : (n u v w : V3) → n ≢ zero_vector → dot_product n u ≡ pos 0 → dot_product n v ≡ pos 0 → dot_product n w ≡ pos 0 → dot_product (cross_product u v) w ≡ pos 0
no_volume n u v w some eu ev ew =
    elim (by_zero n.x) [
      | inl x ↦ elim (by_zero n.y) [
        | inl y ↦ elim (by_zero n.z) [
          | inl z ↦ absurd (some (vector_same x y z))
          | inr z ↦ no_divisor n.z _ z (volume_z n u v w eu ev ew)
        ]
        | inr y ↦ no_divisor n.y _ y (volume_y n u v w eu ev ew)
      ]
      | inr x ↦ no_divisor n.x _ x (volume_x n u v w eu ev ew)
    ]

-- a vector that is not zero and at right angles to each vector along this one
pub record IsAside (u n : V3) : Type 0 where
  pub direction : n ≢ zero_vector
  pub right : (w : V3) → cross_product u w ≡ zero_vector → dot_product n w ≡ pos 0

abbrev aside_z : V3 → V3
aside_z u = record { x = u.y; y = pos 0 -ℤ u.x; z = pos 0 }

abbrev aside_x : V3 → V3
aside_x u = record { x = pos 0; y = u.z; z = pos 0 -ℤ u.y }

right_z : (u w : V3) → cross_product u w ≡ zero_vector → dot_product (aside_z u) w ≡ pos 0
right_z u w e =
    let z : (u.x *ℤ w.y) -ℤ (u.y *ℤ w.x) ≡ pos 0 = ap (λ (v : V3). v.z) e in
    omega (arith, ints, z, sub_mul (pos 0) u.x w.y, zero-*ℤ w.y, zero-*ℤ w.z)

right_x : (u w : V3) → cross_product u w ≡ zero_vector → dot_product (aside_x u) w ≡ pos 0
right_x u w e =
    let x : (u.y *ℤ w.z) -ℤ (u.z *ℤ w.y) ≡ pos 0 = ap (λ (v : V3). v.x) e in
    omega (arith, ints, x, sub_mul (pos 0) u.y w.z, zero-*ℤ w.z, zero-*ℤ w.x)

pub aside : (u : V3) → u ≢ zero_vector → (n : V3) × IsAside u n
aside u some =
    elim (by_zero u.x) [
      | inl x ↦ elim (by_zero u.y) [
        | inl y ↦ (
          aside_x u,
          record {
            direction = λ e. some (vector_same x y (ap (λ (v : V3). v.y) e));
            right = right_x u;
          },
        )
        | inr y ↦ (aside_z u, record { direction = λ e. y (ap (λ (v : V3). v.x) e); right = right_z u })
      ]
      | inr x ↦ (
        aside_z u,
        record {
          direction = λ e. x (let minus : pos 0 -ℤ u.x ≡ pos 0 = ap (λ (v : V3). v.y) e in omega (arith, ints, minus));
          right = right_z u;
        },
      )
    ]

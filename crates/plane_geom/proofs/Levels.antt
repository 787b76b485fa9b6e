-- The square of a component is at most that of the length.
use Rattle.std.proofs.Common.{zero, suc, ◌≡◌, ◌≢◌, ◌<◌, ◌≤◌, ◌+◌, ◌*◌, ◌/◌, ◌^◌, ℕ, ℤ, pos, negsuc, subst, sym, refl, arith}
use Rattle.std.proofs.lemmas.Int.{ints}
use Rattle.std.proofs.Math.IntN.{neg_ℤ}
use Rattle.std.proofs.Math.Nat.{div-le_of_le-mul}
use Rattle.lattice_core.specs.declared.vector.V3.{V3}
use Rattle.lattice_core.specs.declared.ray.Dir.{Dir}
use Rattle.lattice_core.specs.declared.ray.Dir.TheVariants.{PlusX, MinusX, PlusY, MinusY, PlusZ, MinusZ}
use Rattle.lattice_core.specs.Units.{unit_of}
use Rattle.lattice_core.specs.Vectors.{dot_product}
use Rattle.plane_geom.specs.Vectors.{square_of, length_squared}

square_neg : (z : ℤ) → square_of (neg_ℤ z) ≡ square_of z
square_neg (pos zero) = refl
square_neg (pos (suc n)) = refl
square_neg (negsuc n) = refl

pub square_some : (z : ℤ) → z ≢ pos 0 → 0 < square_of z
square_some (pos zero) h = absurd (h refl)
square_some (pos (suc n)) h = omega arith
square_some (negsuc n) h = omega arith

pub square_along : (n : V3) (d : Dir) → square_of (dot_product n (unit_of d)) ≤ length_squared n
square_along n PlusX =
    let e : dot_product n (unit_of PlusX) ≡ n.x = omega (arith, ints) in
    subst (λ (z : ℤ). square_of z ≤ length_squared n) (sym e) (omega arith)
square_along n MinusX =
    let e : dot_product n (unit_of MinusX) ≡ neg_ℤ n.x = omega (arith, ints) in
    subst (λ (z : ℤ). square_of z ≤ length_squared n) (sym e) (subst (λ (k : ℕ). k ≤ length_squared n) (sym (square_neg n.x)) (omega arith))
square_along n PlusY =
    let e : dot_product n (unit_of PlusY) ≡ n.y = omega (arith, ints) in
    subst (λ (z : ℤ). square_of z ≤ length_squared n) (sym e) (omega arith)
square_along n MinusY =
    let e : dot_product n (unit_of MinusY) ≡ neg_ℤ n.y = omega (arith, ints) in
    subst (λ (z : ℤ). square_of z ≤ length_squared n) (sym e) (subst (λ (k : ℕ). k ≤ length_squared n) (sym (square_neg n.y)) (omega arith))
square_along n PlusZ =
    let e : dot_product n (unit_of PlusZ) ≡ n.z = omega (arith, ints) in
    subst (λ (z : ℤ). square_of z ≤ length_squared n) (sym e) (omega arith)
square_along n MinusZ =
    let e : dot_product n (unit_of MinusZ) ≡ neg_ℤ n.z = omega (arith, ints) in
    subst (λ (z : ℤ). square_of z ≤ length_squared n) (sym e) (subst (λ (k : ℕ). k ≤ length_squared n) (sym (square_neg n.z)) (omega arith))

pub level_small : (s l : ℕ) → 0 < l → s ≤ l → 55 + 200 * s / l < 2 ^ 8
level_small s l some le =
    let small : 200 * s / l ≤ 200 = div-le_of_le-mul l (omega (arith, le)) in
    omega (arith, small)

-- The component of a vector in a direction.
use Rattle.std.proofs.Common.{◌≡◌, ℤ, pos, ◌-ℤ◌, SFits, arith, subst, sym, ◌∙◌, ap}
use Rattle.std.proofs.lemmas.Int.{ints, to_z-of_z}
use mir.Syntax.{w64}
use mir.Val.{to_z, of_z}
use Rattle.lattice_core.specs.declared.limit.TheConstants.{WIDE}
use Rattle.lattice_core.specs.Limits.{IsAtMost, IsUnder}
use Rattle.lattice_core.specs.Vectors.{dot_product}
use Rattle.lattice_core.specs.Units.{unit_of}
use Rattle.lattice_core.specs.declared.vector.V3.{V3}
use Rattle.lattice_core.specs.declared.ray.Dir.{Dir}
use Rattle.lattice_core.specs.declared.ray.Dir.TheVariants.{PlusX, MinusX, PlusY, MinusY, PlusZ, MinusZ}

pub plus_x : (v : V3) (d : Dir) → d ≡ PlusX → dot_product v (unit_of d) ≡ v.x
plus_x v d is = rw is (omega (arith, ints))

pub plus_x_turned : (v : V3) (d : Dir) → d ≡ PlusX → dot_product (unit_of d) v ≡ v.x
plus_x_turned v d is = rw is (omega (arith, ints))

pub minus_x : (v : V3) (d : Dir) → d ≡ MinusX → dot_product v (unit_of d) ≡ pos 0 -ℤ v.x
minus_x v d is = rw is (omega (arith, ints))

pub minus_x_turned : (v : V3) (d : Dir) → d ≡ MinusX → dot_product (unit_of d) v ≡ pos 0 -ℤ v.x
minus_x_turned v d is = rw is (omega (arith, ints))

pub plus_y : (v : V3) (d : Dir) → d ≡ PlusY → dot_product v (unit_of d) ≡ v.y
plus_y v d is = rw is (omega (arith, ints))

pub plus_y_turned : (v : V3) (d : Dir) → d ≡ PlusY → dot_product (unit_of d) v ≡ v.y
plus_y_turned v d is = rw is (omega (arith, ints))

pub minus_y : (v : V3) (d : Dir) → d ≡ MinusY → dot_product v (unit_of d) ≡ pos 0 -ℤ v.y
minus_y v d is = rw is (omega (arith, ints))

pub minus_y_turned : (v : V3) (d : Dir) → d ≡ MinusY → dot_product (unit_of d) v ≡ pos 0 -ℤ v.y
minus_y_turned v d is = rw is (omega (arith, ints))

pub plus_z : (v : V3) (d : Dir) → d ≡ PlusZ → dot_product v (unit_of d) ≡ v.z
plus_z v d is = rw is (omega (arith, ints))

pub plus_z_turned : (v : V3) (d : Dir) → d ≡ PlusZ → dot_product (unit_of d) v ≡ v.z
plus_z_turned v d is = rw is (omega (arith, ints))

pub minus_z : (v : V3) (d : Dir) → d ≡ MinusZ → dot_product v (unit_of d) ≡ pos 0 -ℤ v.z
minus_z v d is = rw is (omega (arith, ints))

pub minus_z_turned : (v : V3) (d : Dir) → d ≡ MinusZ → dot_product (unit_of d) v ≡ pos 0 -ℤ v.z
minus_z_turned v d is = rw is (omega (arith, ints))

fits : (z : ℤ) → IsUnder WIDE z → SFits w64 z
fits z h = omega (arith, ints, h)

fits_minus : (z : ℤ) → IsUnder WIDE z → SFits w64 (pos 0 -ℤ z)
fits_minus z h = omega (arith, ints, h)

-- a component as the machine has it, and what it negates
pub read : (z : ℤ) → IsUnder WIDE z → to_z w64 (of_z w64 z) ≡ z
read z h = to_z-of_z w64 z (fits z h)

pub read_minus : (z : ℤ) → IsUnder WIDE z → to_z w64 (of_z w64 (pos 0 -ℤ to_z w64 (of_z w64 z))) ≡ pos 0 -ℤ z
read_minus z h = ap (λ c. to_z w64 (of_z w64 (pos 0 -ℤ c))) (read z h) ∙ to_z-of_z w64 (pos 0 -ℤ z) (fits_minus z h)

minus : (limit c : ℤ) → IsAtMost limit c → IsAtMost limit (pos 0 -ℤ c)
minus limit c h = (omega (arith, ints, h), omega (arith, ints, h))

pub is_at_most : (limit z : ℤ) → IsUnder WIDE z → IsAtMost limit z → IsAtMost limit (to_z w64 (of_z w64 z))
is_at_most limit z h most = subst (IsAtMost limit) (sym (read z h)) most

pub minus_is_at_most : (limit z : ℤ) → IsUnder WIDE z → IsAtMost limit z → IsAtMost limit (to_z w64 (of_z w64 (pos 0 -ℤ to_z w64 (of_z w64 z))))
minus_is_at_most limit z h most = subst (IsAtMost limit) (sym (read_minus z h)) (minus limit z most)

-- Cross products and lengths.
use Rattle.std.specs.Prelude.{ℕ, ◌+◌, ◌*◌, ℤ, ◌-ℤ◌, ◌*ℤ◌}
use Rattle.std.specs.Int.RustNames.{unsigned_abs}
use Rattle.lattice_core.specs.declared.vector.V3.{V3}

abbrev pub cross_product : V3 → V3 → V3
cross_product a b = record {
  x = (a.y *ℤ b.z) -ℤ (a.z *ℤ b.y);
  y = (a.z *ℤ b.x) -ℤ (a.x *ℤ b.z);
  z = (a.x *ℤ b.y) -ℤ (a.y *ℤ b.x);
}

-- the square of a number
abbrev pub square_of : ℤ → ℕ
square_of z = unsigned_abs z * unsigned_abs z

abbrev pub length_squared : V3 → ℕ
length_squared v = square_of v.x + square_of v.y + square_of v.z

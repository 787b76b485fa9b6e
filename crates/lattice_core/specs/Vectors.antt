-- Sums and products of vectors.
use Rattle.std.specs.Prelude.{ℤ, pos, ◌+ℤ◌, ◌-ℤ◌, ◌*ℤ◌}
use Rattle.lattice_core.specs.declared.vector.V3.{V3}

abbrev pub vector : ℤ → ℤ → ℤ → V3
vector x y z = record { x = x; y = y; z = z }

-- the vector of three zeros
abbrev pub zero_vector : V3
zero_vector = record { x = pos 0; y = pos 0; z = pos 0 }

-- the sum of two vectors, component by component
abbrev pub vector_sum : V3 → V3 → V3
vector_sum a b = record { x = a.x +ℤ b.x; y = a.y +ℤ b.y; z = a.z +ℤ b.z }

abbrev pub vector_difference : V3 → V3 → V3
vector_difference a b = record { x = a.x -ℤ b.x; y = a.y -ℤ b.y; z = a.z -ℤ b.z }

-- the sum of the products of their components
abbrev pub dot_product : V3 → V3 → ℤ
dot_product a b = (a.x *ℤ b.x) +ℤ (a.y *ℤ b.y) +ℤ (a.z *ℤ b.z)

-- a vector so many times as long
abbrev pub scaled : ℤ → V3 → V3
scaled by v = record { x = by *ℤ v.x; y = by *ℤ v.y; z = by *ℤ v.z }

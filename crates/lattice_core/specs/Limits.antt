-- How large a number or the components of a vector may be.
use Rattle.std.specs.Prelude.{ℤ, pos, ◌-ℤ◌, ◌≤ℤ◌, ◌<ℤ◌}
use Rattle.lattice_core.specs.declared.vector.V3.{V3}

-- the number is at most the limit in size
abbrev pub IsAtMost : ℤ → ℤ → Type 0
IsAtMost limit z = ((pos 0 -ℤ limit) ≤ℤ z) × (z ≤ℤ limit)

-- the number is below the limit in size
abbrev pub IsUnder : ℤ → ℤ → Type 0
IsUnder limit z = ((pos 0 -ℤ limit) <ℤ z) × (z <ℤ limit)

-- every component is at most the limit in size
pub record IsWithin (limit : ℤ) (v : V3) : Type 0 where
  pub x : IsAtMost limit v.x
  pub y : IsAtMost limit v.y
  pub z : IsAtMost limit v.z

-- every component is below the limit in size
pub record IsBelow (limit : ℤ) (v : V3) : Type 0 where
  pub x : IsUnder limit v.x
  pub y : IsUnder limit v.y
  pub z : IsUnder limit v.z

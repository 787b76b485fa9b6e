-- Which of two touching solids has a ray that lies in their common plane.
use Rattle.std.specs.Prelude.{◌≡◌, ◌⊎◌, ℤ, pos, ◌<ℤ◌}
use Rattle.lattice_core.specs.declared.vector.V3.{V3}

-- the first component that is not zero is negative
abbrev pub FirstIsNegative : V3 → Type 0
FirstIsNegative n = (n.x <ℤ pos 0) ⊎ ((n.x ≡ pos 0) × ((n.y <ℤ pos 0) ⊎ ((n.y ≡ pos 0) × (n.z <ℤ pos 0))))

-- a plane holds a ray that runs along it, by how far n · p is below d there
abbrev pub HoldsAlong : V3 → ℤ → Type 0
HoldsAlong n gap = (pos 0 <ℤ gap) ⊎ ((gap ≡ pos 0) × FirstIsNegative n)

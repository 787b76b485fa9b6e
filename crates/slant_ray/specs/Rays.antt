-- Rays in lattice directions.
use Rattle.std.specs.Prelude.{◌≡◌, ◌≢◌, ◌==◌, ◌&&◌, ℕ, ℤ, Bool, Option, Some, None, nat_le, if◌then◌else◌}
use Rattle.std.specs.Int.RustNames.{unsigned_abs}
use Rattle.wide_core.specs.Gcd.{gcd_of}
use Rattle.lattice_core.specs.declared.limit.TheConstants.{WORLD}
use Rattle.lattice_core.specs.declared.vector.V3.{V3}
use Rattle.lattice_core.specs.declared.view.ViewFault.{ViewFault}
use Rattle.lattice_core.specs.declared.view.ViewFault.TheVariants.{Direction, World}
use Rattle.lattice_core.specs.Limits.{IsWithin}
use Rattle.lattice_core.specs.Vectors.{zero_vector}
use Rattle.slant_ray.specs.declared.ray.TheConstants.{STEP}
use Rattle.slant_ray.specs.declared.ray.SlantRay.{SlantRay}

-- the vector along which a ray goes
abbrev pub direction_of : SlantRay → V3
direction_of ray = record { x = ray.x; y = ray.y; z = ray.z }

-- the components of the direction are at most STEP in size and not all 0, and the origin is in the world
pub record IsSlantRay (ray : SlantRay) : Type 0 where
  pub origin : IsWithin WORLD ray.origin
  pub direction : IsWithin STEP (direction_of ray)
  pub some : direction_of ray ≢ zero_vector

-- the greatest number that divides all components of a vector, and 0 where all are 0
abbrev pub divisor_of : V3 → ℕ
divisor_of e = gcd_of (gcd_of (unsigned_abs e.x) (unsigned_abs e.y)) (unsigned_abs e.z)

-- no number over 1 divides all components, and not all are 0
abbrev pub IsPrimitive : V3 → Type 0
IsPrimitive e = divisor_of e ≡ 1

-- a ray without a fault, whose components are at most STEP in size
pub record IsChecked (ray : SlantRay) : Type 0 where
  pub size : IsWithin STEP (direction_of ray)
  pub primitive : IsPrimitive (direction_of ray)
  pub in_world : IsWithin WORLD ray.origin

-- what is wrong with a ray
abbrev pub HasFault : SlantRay → ViewFault → Type 0
HasFault ray Direction = ¬ (IsPrimitive (direction_of ray))
HasFault ray World = ¬ (IsWithin WORLD ray.origin)
HasFault ray fault = ⊥

abbrev pub is_in_world : ℤ → Bool
is_in_world c = nat_le (unsigned_abs c) (unsigned_abs WORLD)

-- a point is one from which rays start
abbrev pub is_from_world : V3 → Bool
is_from_world origin = is_in_world origin.x && is_in_world origin.y && is_in_world origin.z

-- a direction is looked at before the origin
abbrev pub slant_fault : SlantRay → Option ViewFault
slant_fault ray = if divisor_of (direction_of ray) == 1 then (if is_from_world ray.origin then None else Some World) else Some Direction

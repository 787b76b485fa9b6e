-- The points of a ray.
use Rattle.std.specs.Prelude.{ℤ, pos, ◌+ℤ◌, ◌*ℤ◌, ◌≤ℤ◌, ◌<ℤ◌}
use Rattle.lattice_core.specs.declared.vector.V3.{V3}
use Rattle.lattice_core.specs.declared.ray.Ray.{Ray}
use Rattle.lattice_core.specs.Units.{unit_of}
use Rattle.lattice_core.specs.declared.limit.TheConstants.{FAR}

-- the fraction p / q lies on a ray
pub record IsOnRay (p q : ℤ) : Type 0 where
  pub positive : pos 0 <ℤ q
  pub begun : pos 0 ≤ℤ p
  pub not_ended : p ≤ℤ (FAR *ℤ q)

-- q times the point at the fraction p / q
abbrev pub scaled_point : Ray → ℤ → ℤ → V3
scaled_point ray p q = record {
  x = (ray.origin.x *ℤ q) +ℤ ((unit_of ray.dir).x *ℤ p);
  y = (ray.origin.y *ℤ q) +ℤ ((unit_of ray.dir).y *ℤ p);
  z = (ray.origin.z *ℤ q) +ℤ ((unit_of ray.dir).z *ℤ p);
}

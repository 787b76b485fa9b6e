-- Rays along axes among those in lattice directions.
use Rattle.std.specs.Prelude.{◌≡◌, ◌↔◌, ℤ, Option, Some, None}
use Rattle.lattice_core.specs.declared.limit.TheConstants.{FAR}
use Rattle.lattice_core.specs.declared.ray.Ray.{Ray}
use Rattle.lattice_core.specs.Units.{unit_of}
use Rattle.solid_set.specs.declared.surface.Surface.{Surface}
use Rattle.solid_set.specs.Segments.{segment_of}
use Rattle.solid_set.specs.Surfaces.{IsInside}
use Rattle.surd_order.specs.declared.position.Seg.{Seg}
use Rattle.surd_quot.specs.Positions.{as_quotient_position}
use Rattle.solid_set.specs.PlacedFaces.{IsInsideAlong}
use Rattle.oblique_ray.specs.Segments.{Stretch, slant_segment}

-- a segment of a ray along an axis, without its faces
abbrev pub stretch_of : Option Seg → Option Stretch
stretch_of None = None
stretch_of (Some seg) = Some (record { start = as_quotient_position seg.start; end = as_quotient_position seg.end })

-- along an axis the segment is that of the plain ray, and the same points are inside
pub record AxesAreAsBefore : Type 0 where
  pub segment : (surface : Surface) (ray : Ray) → slant_segment FAR surface ray.origin (unit_of ray.dir) ≡ stretch_of (segment_of surface ray)
  pub inside : (surface : Surface) (ray : Ray) (p q : ℤ) → IsInsideAlong surface ray.origin (unit_of ray.dir) p q ↔ IsInside surface ray p q

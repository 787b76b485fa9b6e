-- The sizes under which places of rays in lattice directions are in range.
use Rattle.std.specs.Prelude.{ℤ, pos, ◌<ℤ◌, ◌≤ℤ◌, List, All, Option}
use Rattle.std.specs.Option.{ForSome}
use Rattle.lattice_core.specs.declared.limit.TheConstants.{WORLD, FAR}
use Rattle.lattice_core.specs.declared.vector.V3.{V3}
use Rattle.lattice_core.specs.Limits.{IsWithin}
use Rattle.plane_geom.specs.declared.plane.Plane.{Plane}
use Rattle.plane_geom.specs.Planes.{IsWorldPlane}
use Rattle.plane_geom.specs.Chords.{length_squared}
use Rattle.solid_set.specs.declared.surface.Surface.{Surface}
use Rattle.solid_set.specs.PlacedFaces.{planes_of_faces, round_of, IsRoundSized}
use Rattle.surd_quot.specs.Range.{IsQuotientInRange}
use Rattle.slant_ray.specs.declared.ray.TheConstants.{STEP}
use Rattle.oblique_ray.specs.Segments.{Stretch, slant_segment}

-- the sizes of the planes of a placed solid
abbrev pub ArePlanesSized : List (Option Plane) → Type 0
ArePlanesSized planes = All (λ side. ForSome side IsWorldPlane) planes

-- the sizes of the faces of a placed solid
pub record IsSurfaceSized (surface : Surface) : Type 0 where
  pub planes : ArePlanesSized (planes_of_faces surface)
  pub round : ForSome (round_of surface) IsRoundSized

-- the components of the direction are at most STEP in size and not all 0, and the origin is one of a ray
pub record IsSlant (o e : V3) : Type 0 where
  pub origin : IsWithin WORLD o
  pub direction : IsWithin STEP e
  pub some : pos 0 <ℤ length_squared e

-- both ends of a segment are in the range in which positions are compared
abbrev pub AreEndsInRange : Stretch → Type 0
AreEndsInRange stretch = IsQuotientInRange stretch.start × IsQuotientInRange stretch.end

-- of any such ray and placed surface
abbrev pub SlantSegmentsStayInRange : Type 0
SlantSegmentsStayInRange = (far : ℤ) (surface : Surface) (o e : V3) → pos 0 ≤ℤ far → far ≤ℤ FAR → IsSlant o e → IsSurfaceSized surface → ForSome (slant_segment far surface o e) AreEndsInRange

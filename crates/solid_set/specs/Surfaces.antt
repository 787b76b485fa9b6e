-- The surfaces of placed solids, and which points they enclose.
use Rattle.std.specs.Prelude.{◌≡◌, ℤ, List, [], ◌∷◌, Option, Some, None, pos, ◌<ℤ◌}
use Rattle.lattice_core.specs.declared.limit.TheConstants.{SHIFT, PLACED}
use Rattle.lattice_core.specs.declared.boxes.Box3.{Box3}
use Rattle.lattice_core.specs.declared.ray.Ray.{Ray}
use Rattle.lattice_core.specs.declared.vector.V3.{V3}
use Rattle.lattice_core.specs.Placements.{placed}
use Rattle.lattice_core.specs.declared.placement.Placement.{Placement}
use Rattle.lattice_core.specs.Limits.{IsWithin}
use Rattle.plane_geom.specs.declared.plane.Plane.{Plane}
use Rattle.plane_geom.specs.Planes.{PlaneHolds, placed_plane}
use Rattle.prim_half.specs.Halves.{IsHalf, HoldsAll, all_of_space}
pub use Rattle.prim_half.specs.Halves.{plane_of_half}
use Rattle.prim_arb8.specs.Solids.{IsArb8}
use Rattle.prim_arb8.specs.Faces.{planes_of}
use Rattle.lattice_core.specs.Boxes.{HasPoint}
use Rattle.lattice_core.specs.Rays.{scaled_point}
use Rattle.prim_sphere.specs.Spheres.{SphereHolds, IsBall, IsRadius, HoldsPointsOf}
use Rattle.prim_sphere.specs.Spheres.{box_of as ball_box}
use Rattle.prim_rcc.specs.declared.rcc.RccFaces.{RccFaces}
use Rattle.prim_rcc.specs.Bounds.{box_of as cylinder_box}
use Rattle.prim_rcc.specs.Bounds.{HoldsPointsOf as HoldsCylinder}
use Rattle.prim_rcc.specs.Cylinders.{IsCylinder, faces_of, placed_cylinder, placed_faces}
use Rattle.prim_rcc.specs.Sides.{IsSideSized, SideHolds}
use Rattle.solid_set.specs.declared.solid.Solid.{Solid}
use Rattle.solid_set.specs.declared.solid.Solid.TheVariants as solids
use Rattle.solid_set.specs.declared.surface.Surface.{Surface}
use Rattle.solid_set.specs.declared.surface.Surface.TheVariants.{Planes, HalfSpace, Ball, Cylinder}
use Rattle.prim_arb8.specs.Bounds.{box_of, HoldsVertices}
pub use Rattle.prim_arb8.specs.Placing.{placed_sides}

-- the surface of a placed solid: each face keeps its number
abbrev pub surface_of : Solid → Placement → Surface
surface_of (solids.Arb8 solid) by = Planes (placed_sides by (planes_of solid.vertices))
surface_of (solids.Sphere sphere) by = Ball (placed by sphere.centre) sphere.radius
surface_of (solids.Half half) by = HalfSpace (placed_plane by (plane_of_half half))
surface_of (solids.Rcc rcc) by = Cylinder (placed_faces by (faces_of rcc))

-- the box of a placed solid: of its vertices, from its centre by its radius, all of space, or around a
-- cylinder
abbrev pub bounds_of : Solid → Placement → Box3
bounds_of (solids.Arb8 solid) by = box_of by solid.vertices
bounds_of (solids.Sphere sphere) by = ball_box (placed by sphere.centre) sphere.radius
bounds_of (solids.Half half) by = all_of_space
bounds_of (solids.Rcc rcc) by = cylinder_box (placed_cylinder by rcc)

-- the numbers of a solid are those of one that was made
abbrev pub IsLawful : Solid → Type 0
IsLawful (solids.Arb8 solid) = IsArb8 solid.vertices
IsLawful (solids.Sphere sphere) = IsBall sphere.centre sphere.radius
IsLawful (solids.Half half) = IsHalf half.normal half.distance
IsLawful (solids.Rcc rcc) = IsCylinder rcc.base rcc.height rcc.radius

-- some lawful solid, placed within the limits, has this surface and these bounds
pub record IsMade (surface : Surface) (bounds : Box3) : Type 0 where
  pub solid : Solid
  pub by : Placement
  pub lawful : IsLawful solid
  pub near : IsWithin SHIFT by.shift
  pub surface_is : surface ≡ surface_of solid by
  pub bounds_is : bounds ≡ bounds_of solid by

-- every plane holds the point of the ray at the fraction p / q
abbrev pub AllHold : List (Option Plane) → Ray → ℤ → ℤ → Type 0
AllHold [] ray p q = Unit {0}
AllHold (None ∷ sides) ray p q = AllHold sides ray p q
AllHold (Some plane ∷ sides) ray p q = PlaneHolds plane ray p q × AllHold sides ray p q

-- the point of the ray at the fraction p / q lies inside
abbrev pub IsInside : Surface → Ray → ℤ → ℤ → Type 0
IsInside (Planes sides) ray p q = AllHold sides ray p q
IsInside (HalfSpace plane) ray p q = PlaneHolds plane ray p q
IsInside (Ball centre radius) ray p q = SphereHolds centre radius ray p q
IsInside (Cylinder faces) ray p q = PlaneHolds faces.base ray p q × PlaneHolds faces.top ray p q × SideHolds faces.side ray p q

-- the sizes of a placed ball
pub record IsBallSize (centre : V3) (radius : ℤ) : Type 0 where
  pub centre_size : IsWithin PLACED centre
  pub radius_size : IsRadius radius

-- a surface that is a ball has these sizes
abbrev pub IsBallSized : Surface → Type 0
IsBallSized surface = (centre : V3) (radius : ℤ) → surface ≡ Ball centre radius → IsBallSize centre radius

-- a surface that is a cylinder has a round side of such sizes
abbrev pub HasSizedSide : Surface → Type 0
HasSizedSide surface = (faces : RccFaces) → surface ≡ Cylinder faces → IsSideSized faces.side

-- the box holds a placed solid: its vertices, the points of a sphere or a cylinder, or all points
abbrev pub HoldsSolid : Solid → Placement → Box3 → Type 0
HoldsSolid (solids.Arb8 solid) by b = HoldsVertices b by solid.vertices
HoldsSolid (solids.Sphere sphere) by b = HoldsPointsOf (placed by sphere.centre) sphere.radius b
HoldsSolid (solids.Half half) by b = HoldsAll b
HoldsSolid (solids.Rcc rcc) by b = HoldsCylinder (placed_cylinder by rcc) b

-- the box holds every point of a ray that is inside
abbrev pub HoldsInside : Surface → Box3 → Type 0
HoldsInside surface b = (ray : Ray) (p q : ℤ) → pos 0 <ℤ q → IsInside surface ray p q → HasPoint b (scaled_point ray p q) q

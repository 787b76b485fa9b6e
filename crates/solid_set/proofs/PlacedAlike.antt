-- Placements that take each point to the same place take a solid to the same one. A placement that does what several do is one
-- such.
use Rattle.std.proofs.Common.{◌≡◌, ◌∙◌, ◌+ℤ◌, ℤ, pos, ◌-ℤ◌, List, [], ◌∷◌, map, refl, ap, sym}
use Rattle.std.specs.Prelude.{fold}
use Rattle.std.specs.Option.{option_map}
use Rattle.std.specs.Int.{int_max}
use Rattle.std.proofs.Math.Path.{fun_ext}
use Rattle.lattice_core.specs.declared.boxes.Box3.{Box3}
use Rattle.lattice_core.specs.declared.boxes.Box3.TheVariants.{Span}
use Rattle.lattice_core.specs.declared.extent.Extent.{Extent}
use Rattle.lattice_core.specs.declared.placement.Placement.{Placement}
use Rattle.lattice_core.specs.declared.ray.Dir.{Dir}
use Rattle.lattice_core.specs.declared.ray.Dir.TheVariants.{PlusX, MinusX, PlusY, MinusY, PlusZ, MinusZ}
use Rattle.lattice_core.specs.declared.vector.V3.{V3}
use Rattle.lattice_core.specs.Extents.{extent_between}
use Rattle.lattice_core.specs.Units.{unit_of}
use Rattle.lattice_core.specs.Vectors.{dot_product, vector_sum, zero_vector}
use Rattle.plane_geom.specs.declared.plane.Plane.{Plane}
use Rattle.prim_arb8.specs.Faces.{vertex_at}
use Rattle.prim_rcc.specs.declared.axis.Axis.{Axis}
use Rattle.prim_rcc.specs.declared.rcc.RccFaces.{RccFaces}
use Rattle.prim_rcc.specs.Axes.{axis_of, unit_on}
use Rattle.prim_rcc.specs.Bounds.{box_of as cylinder_box}
use Rattle.prim_rcc.specs.Cylinders as cylinders
use Rattle.prim_sphere.specs.Spheres.{box_of as ball_box}
use Rattle.solid_set.specs.declared.solid.Solid.{Solid}
use Rattle.solid_set.specs.declared.solid.Solid.TheVariants as solids
use Rattle.solid_set.specs.declared.surface.Surface.{Surface}
use Rattle.solid_set.specs.declared.surface.Surface.TheVariants.{Planes, HalfSpace, Ball, Cylinder}
use Rattle.solid_set.specs.Surfaces.{surface_of, bounds_of}
use Rattle.solid_set.specs.Placings.{point_under, surface_under, own_surface, bounds_under, cylinder_under}
use Rattle.solid_set.specs.PlacingLaws.{SolidsStandUnderOne, SolidsStandAlike}
use Rattle.solid_set.proofs.UnderPlacements.{turned_under, origin_under, plane_by, plane_under, axis_under, side_by, cylinder_by, surface_at_once, sum_left, under_is, surface_is, cylinder_is}

-- a surface by what becomes of planes, of points and of axes
abbrev faces_by : (Plane → Plane) → (V3 → V3) → (Axis → Axis) → RccFaces → RccFaces
faces_by f g h faces = record { base = f faces.base; top = f faces.top; side = side_by (g faces.side.centre) (h faces.side.axis) faces.side.radius }

abbrev surface_by : (Plane → Plane) → (V3 → V3) → (Axis → Axis) → Surface → Surface
surface_by f g h (Planes sides) = Planes (map (option_map f) sides)
surface_by f g h (HalfSpace plane) = HalfSpace (f plane)
surface_by f g h (Ball centre radius) = Ball (g centre) radius
surface_by f g h (Cylinder faces) = Cylinder (faces_by f g h faces)

once_is_by : (placements : List Placement) (surface : Surface)
    → surface_at_once placements surface ≡ surface_by (plane_under placements) (point_under placements) (axis_under placements) surface
once_is_by placements (Planes sides) = refl
once_is_by placements (HalfSpace plane) = refl
once_is_by placements (Ball centre radius) = refl
once_is_by placements (Cylinder faces) = refl

-- how far the farthest vertex lies where a function takes it
abbrev farthest_by : (V3 → V3) → List V3 → Dir → ℤ
farthest_by f vertices direction = fold (λ most p. int_max most (dot_product (unit_of direction) (f p))) (dot_product (unit_of direction) (f (vertex_at vertices 1))) vertices

abbrev extent_by : (V3 → V3) → List V3 → Dir → Dir → Extent
extent_by f vertices down up = extent_between (pos 0 -ℤ farthest_by f vertices down) (farthest_by f vertices up)

abbrev box_by : (V3 → V3) → List V3 → Box3
box_by f vertices = Span (extent_by f vertices MinusX PlusX) (extent_by f vertices MinusY PlusY) (extent_by f vertices MinusZ PlusZ)

abbrev AreAlike : List Placement → List Placement → Type 0
AreAlike ps qs = (p : V3) → point_under ps p ≡ point_under qs p

same_turn : (ps qs : List Placement) → AreAlike ps qs → (v : V3) → turned_under ps v ≡ turned_under qs v
same_turn ps qs all v =
    sum_left (turned_under ps v) (turned_under qs v) (origin_under ps)
    (sym (under_is ps v) ∙ all v ∙ under_is qs v ∙ ap (λ (w : V3). vector_sum (turned_under qs v) w) (sym (all zero_vector)))

same_plane : (ps qs : List Placement) → AreAlike ps qs → (plane : Plane) → plane_under ps plane ≡ plane_under qs plane
same_plane ps qs all plane =
    ap (λ (n : V3). plane_by n (plane.d +ℤ dot_product n (origin_under ps))) (same_turn ps qs all plane.n)
    ∙ ap (λ (s : V3). plane_by (turned_under qs plane.n) (plane.d +ℤ dot_product (turned_under qs plane.n) s)) (all zero_vector)

same_axis : (ps qs : List Placement) → AreAlike ps qs → (axis : Axis) → axis_under ps axis ≡ axis_under qs axis
same_axis ps qs all axis = ap axis_of (same_turn ps qs all (unit_on axis))

same_surface : (ps qs : List Placement) → AreAlike ps qs → (surface : Surface) → surface_under ps surface ≡ surface_under qs surface
same_surface ps qs all surface =
    surface_is ps surface
    ∙ once_is_by ps surface
    ∙ ap (λ (f : Plane → Plane). surface_by f (point_under ps) (axis_under ps) surface) (fun_ext (same_plane ps qs all))
    ∙ ap (λ (g : V3 → V3). surface_by (plane_under qs) g (axis_under ps) surface) (fun_ext all)
    ∙ ap (λ (h : Axis → Axis). surface_by (plane_under qs) (point_under qs) h surface) (fun_ext (same_axis ps qs all))
    ∙ sym (once_is_by qs surface)
    ∙ sym (surface_is qs surface)

same_cylinder : (ps qs : List Placement) → AreAlike ps qs → (c : cylinders.Cylinder) → cylinder_under ps c ≡ cylinder_under qs c
same_cylinder ps qs all c =
    cylinder_is ps c
    ∙ ap (λ (b : V3). cylinder_by b (turned_under ps c.height) c.radius) (all c.base)
    ∙ ap (λ (h : V3). cylinder_by (point_under qs c.base) h c.radius) (same_turn ps qs all c.height)
    ∙ sym (cylinder_is qs c)

same_bounds : (ps qs : List Placement) → AreAlike ps qs → (solid : Solid) → bounds_under ps solid ≡ bounds_under qs solid
same_bounds ps qs all (solids.Arb8 solid) = ap (λ (f : V3 → V3). box_by f solid.vertices) (fun_ext all)
same_bounds ps qs all (solids.Sphere sphere) = ap (λ (c : V3). ball_box c sphere.radius) (all sphere.centre)
same_bounds ps qs all (solids.Half half) = refl
same_bounds ps qs all (solids.Rcc rcc) = ap cylinder_box (same_cylinder ps qs all rcc)

pub stand_alike : SolidsStandAlike
stand_alike solid ps qs all = (same_surface ps qs all (own_surface solid), same_bounds ps qs all solid)

-- below one placement alone
surface_of_one : (solid : Solid) (by : Placement) → surface_under (by ∷ []) (own_surface solid) ≡ surface_of solid by
surface_of_one (solids.Arb8 solid) by = refl
surface_of_one (solids.Sphere sphere) by = refl
surface_of_one (solids.Half half) by = refl
surface_of_one (solids.Rcc rcc) by = refl

bounds_of_one : (solid : Solid) (by : Placement) → bounds_under (by ∷ []) solid ≡ bounds_of solid by
bounds_of_one (solids.Arb8 solid) by = refl
bounds_of_one (solids.Sphere sphere) by = refl
bounds_of_one (solids.Half half) by = refl
bounds_of_one (solids.Rcc rcc) by = refl

pub stands_under_one : SolidsStandUnderOne
stands_under_one solid placements by all =
    let same = stand_alike solid placements (by ∷ []) (λ p. sym (all p)) in
    (same.0 ∙ surface_of_one solid by, same.1 ∙ bounds_of_one solid by)

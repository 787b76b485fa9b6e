-- Where placements take solids, one after the other.
use Rattle.std.specs.Prelude.{ℤ, pos, ◌-ℤ◌, List, [], ◌∷◌, fold}
use Rattle.std.specs.Int.{int_max}
use Rattle.lattice_core.specs.declared.boxes.Box3.{Box3}
use Rattle.lattice_core.specs.declared.boxes.Box3.TheVariants.{Span}
use Rattle.lattice_core.specs.declared.extent.Extent.{Extent}
use Rattle.lattice_core.specs.declared.placement.Placement.{Placement}
use Rattle.lattice_core.specs.declared.ray.Dir.{Dir}
use Rattle.lattice_core.specs.declared.ray.Dir.TheVariants.{PlusX, MinusX, PlusY, MinusY, PlusZ, MinusZ}
use Rattle.lattice_core.specs.declared.vector.V3.{V3}
use Rattle.lattice_core.specs.Extents.{extent_between}
use Rattle.lattice_core.specs.Placements.{placed}
use Rattle.lattice_core.specs.Units.{unit_of}
use Rattle.lattice_core.specs.Vectors.{dot_product}
use Rattle.plane_geom.specs.Planes.{placed_plane}
use Rattle.prim_arb8.specs.Faces.{planes_of, vertex_at}
use Rattle.prim_sphere.specs.Spheres.{box_of as ball_box}
use Rattle.prim_rcc.specs.Bounds.{box_of as cylinder_box}
use Rattle.prim_rcc.specs.Cylinders.{Cylinder, faces_of, placed_cylinder, placed_faces}
use Rattle.solid_set.specs.declared.solid.Solid.{Solid}
use Rattle.solid_set.specs.declared.solid.Solid.TheVariants as solids
use Rattle.solid_set.specs.declared.surface.Surface.{Surface}
use Rattle.solid_set.specs.declared.surface.Surface.TheVariants as surfaces
use Rattle.solid_set.specs.Bounds.{all_of_space}
use Rattle.solid_set.specs.Surfaces.{plane_of_half, placed_sides}

-- where a point goes: each placement is applied in turn, the lowest first and the uppermost last
abbrev pub point_under : List Placement → V3 → V3
point_under [] p = p
point_under (upper ∷ lower) p = placed upper (point_under lower p)

-- the surface that a placement takes a surface to
abbrev pub placed_surface : Placement → Surface → Surface
placed_surface by (surfaces.Planes sides) = surfaces.Planes (placed_sides by sides)
placed_surface by (surfaces.HalfSpace plane) = surfaces.HalfSpace (placed_plane by plane)
placed_surface by (surfaces.Ball centre radius) = surfaces.Ball (placed by centre) radius
placed_surface by (surfaces.Cylinder faces) = surfaces.Cylinder (placed_faces by faces)

abbrev pub surface_under : List Placement → Surface → Surface
surface_under [] surface = surface
surface_under (upper ∷ lower) surface = placed_surface upper (surface_under lower surface)

-- the surface of a solid where it was made
abbrev pub own_surface : Solid → Surface
own_surface (solids.Arb8 solid) = surfaces.Planes (planes_of solid.vertices)
own_surface (solids.Sphere sphere) = surfaces.Ball sphere.centre sphere.radius
own_surface (solids.Half half) = surfaces.HalfSpace (plane_of_half half)
own_surface (solids.Rcc rcc) = surfaces.Cylinder (faces_of rcc)

-- how far in a direction the placements take the vertex that they take farthest
abbrev pub farthest_under : List Placement → List V3 → Dir → ℤ
farthest_under placements vertices direction =
    fold (λ most p. int_max most (dot_product (unit_of direction) (point_under placements p)))
    (dot_product (unit_of direction) (point_under placements (vertex_at vertices 1))) vertices

-- along an axis, from the vertex that the placements take farthest down it to the one that they take farthest up it
abbrev pub extent_under : List Placement → List V3 → Dir → Dir → Extent
extent_under placements vertices down up = extent_between (pos 0 -ℤ farthest_under placements vertices down) (farthest_under placements vertices up)

-- the closed box of at least one vertex where the placements take the vertices
abbrev pub box_under : List Placement → List V3 → Box3
box_under placements vertices = Span (extent_under placements vertices MinusX PlusX) (extent_under placements vertices MinusY PlusY) (extent_under placements vertices MinusZ PlusZ)

-- the cylinder that the placements take one to
abbrev pub cylinder_under : List Placement → Cylinder → Cylinder
cylinder_under [] cylinder = cylinder
cylinder_under (upper ∷ lower) cylinder = placed_cylinder upper (cylinder_under lower cylinder)

-- the box of a solid where the placements take it: of its vertices, from its centre by its radius, all of space, or around a
-- cylinder
abbrev pub bounds_under : List Placement → Solid → Box3
bounds_under placements (solids.Arb8 solid) = box_under placements solid.vertices
bounds_under placements (solids.Sphere sphere) = ball_box (point_under placements sphere.centre) sphere.radius
bounds_under placements (solids.Half half) = all_of_space
bounds_under placements (solids.Rcc rcc) = cylinder_box (cylinder_under placements rcc)

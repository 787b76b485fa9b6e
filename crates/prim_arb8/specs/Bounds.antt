-- The closed box of vertices that are placed.
use Rattle.std.specs.Prelude.{ℤ, pos, ◌-ℤ◌, List, fold, All}
use Rattle.std.specs.Int.{int_max}
use Rattle.lattice_core.specs.declared.vector.V3.{V3}
use Rattle.lattice_core.specs.declared.placement.Placement.{Placement}
use Rattle.lattice_core.specs.declared.ray.Dir.{Dir}
use Rattle.lattice_core.specs.declared.ray.Dir.TheVariants.{PlusX, MinusX, PlusY, MinusY, PlusZ, MinusZ}
use Rattle.lattice_core.specs.declared.extent.Extent.{Extent}
use Rattle.lattice_core.specs.declared.boxes.Box3.{Box3}
use Rattle.lattice_core.specs.declared.boxes.Box3.TheVariants.{Span}
use Rattle.lattice_core.specs.Boxes.{HasPoint}
use Rattle.lattice_core.specs.Extents.{extent_between}
use Rattle.lattice_core.specs.Units.{unit_of}
use Rattle.lattice_core.specs.Vectors.{dot_product}
use Rattle.lattice_core.specs.Placements.{placed}
use Rattle.prim_arb8.specs.Faces.{vertex_at}

-- how far a point that is placed lies in a direction
abbrev pub reach_of : Placement → Dir → V3 → ℤ
reach_of by dir p = dot_product (unit_of dir) (placed by p)

-- how far the farthest vertex that is placed lies in a direction
abbrev pub farthest : Placement → List V3 → Dir → ℤ
farthest by vertices dir = fold (λ most p. int_max most (reach_of by dir p)) (reach_of by dir (vertex_at vertices 1)) vertices

-- along an axis, from the farthest vertex down it to the farthest up it
abbrev pub extent_along : Placement → List V3 → Dir → Dir → Extent
extent_along by vertices down up = extent_between (pos 0 -ℤ farthest by vertices down) (farthest by vertices up)

-- the box of the vertices: along each axis it ends at the farthest vertices
abbrev pub box_of : Placement → List V3 → Box3
box_of by vertices = Span (extent_along by vertices MinusX PlusX) (extent_along by vertices MinusY PlusY) (extent_along by vertices MinusZ PlusZ)

-- the box holds the vertices where the placement takes them
abbrev pub HoldsVertices : Box3 → Placement → List V3 → Type 0
HoldsVertices b by vertices = All (λ p. HasPoint b (placed by p) (pos 1)) vertices

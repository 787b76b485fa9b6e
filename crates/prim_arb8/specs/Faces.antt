-- The faces of a solid of eight vertices, and the planes of its faces and of its box.
use Rattle.std.specs.Prelude.{ℕ, ◌-◌, pos, ◌-ℤ◌, Bool, false, cond, ◌&&◌, not, List, [], ◌∷◌, map, fold, slice_index_or, Option, Some, None}
use Rattle.std.specs.Int.{int_max}
use Rattle.std.specs.List.{list_any, flat_map}
use Rattle.lattice_core.specs.declared.vector.V3.{V3}
use Rattle.lattice_core.specs.declared.ray.Dir.{Dir}
use Rattle.lattice_core.specs.declared.ray.Dir.TheVariants.{PlusX, MinusX, PlusY, MinusY, PlusZ, MinusZ}
use Rattle.lattice_core.specs.Units.{unit_of}
use Rattle.lattice_core.specs.Vectors.{dot_product, zero_vector, vector_difference}
use Rattle.plane_geom.specs.declared.plane.Plane.{Plane}
use Rattle.plane_geom.specs.declared.fault.ShapeFault.{ShapeFault}
use Rattle.plane_geom.specs.declared.fault.ShapeFault.TheVariants.{Flat, NotPlanar, NotConvex}
use Rattle.plane_geom.specs.Planes.{plane_through}
use Rattle.prim_arb8.specs.Points.{lies_beyond, lies_before, are_all_in, is_flat}

-- the numbers of the vertices of the faces 1 to 6
abbrev pub face_vertices : List (List ℕ)
face_vertices =
    (1 ∷ 2 ∷ 3 ∷ 4 ∷ []) ∷ (5 ∷ 6 ∷ 7 ∷ 8 ∷ []) ∷ (1 ∷ 2 ∷ 6 ∷ 5 ∷ [])
    ∷ (2 ∷ 3 ∷ 7 ∷ 6 ∷ []) ∷ (3 ∷ 4 ∷ 8 ∷ 7 ∷ []) ∷ (4 ∷ 1 ∷ 5 ∷ 8 ∷ []) ∷ []

abbrev pub vertex_at : List V3 → ℕ → V3
vertex_at vertices number = slice_index_or vertices (number - 1) zero_vector

abbrev pub corners_of : List V3 → ℕ → List V3
corners_of vertices face = map (vertex_at vertices) (slice_index_or face_vertices (face - 1) [])

abbrev pub first_plane : List (Option Plane) → Option Plane
first_plane [] = None
first_plane (None ∷ rest) = first_plane rest
first_plane (Some plane ∷ rest) = Some plane

abbrev pub plane_of_four : V3 → V3 → V3 → V3 → Option Plane
plane_of_four a b c d =
    first_plane (plane_through a b c ∷ plane_through a b d ∷ plane_through a c d ∷ plane_through b c d ∷ [])

-- the plane through the first three corners that are not on one line
abbrev pub face_plane : List V3 → Option Plane
face_plane corners = plane_of_four (vertex_at corners 1) (vertex_at corners 2) (vertex_at corners 3) (vertex_at corners 4)

abbrev pub reversed : Plane → Plane
reversed plane = record { n = vector_difference zero_vector plane.n; d = pos 0 -ℤ plane.d }

-- the plane or, where a vertex lies beyond it, the plane with its other side out
abbrev pub outward : List V3 → Plane → Plane
outward vertices plane = cond (list_any (lies_beyond plane) vertices) (reversed plane) plane

abbrev pub outward_some : List V3 → Option Plane → Option Plane
outward_some vertices None = None
outward_some vertices (Some plane) = Some (outward vertices plane)

abbrev pub outward_face : List V3 → ℕ → Option Plane
outward_face vertices face = outward_some vertices (face_plane (corners_of vertices face))

-- the plane of a direction that touches the vertices
abbrev pub box_plane : List V3 → Dir → Plane
box_plane vertices dir = record {
  n = unit_of dir;
  d = fold (λ most p. int_max most (dot_product (unit_of dir) p)) (dot_product (unit_of dir) (vertex_at vertices 1)) vertices;
}

-- the planes of the faces 1 to 12: the six faces, and the six sides of the vertices' box
abbrev pub planes_of : List V3 → List (Option Plane)
planes_of vertices =
    outward_face vertices 1 ∷ outward_face vertices 2 ∷ outward_face vertices 3
    ∷ outward_face vertices 4 ∷ outward_face vertices 5 ∷ outward_face vertices 6
    ∷ Some (box_plane vertices PlusX) ∷ Some (box_plane vertices MinusX) ∷ Some (box_plane vertices PlusY)
    ∷ Some (box_plane vertices MinusY) ∷ Some (box_plane vertices PlusZ) ∷ Some (box_plane vertices MinusZ) ∷ []

-- the plane of a face
abbrev pub plane_at : List V3 → ℕ → Option Plane
plane_at vertices face = slice_index_or (planes_of vertices) (face - 1) None

-- vertices lie strictly on both sides of the plane
abbrev pub parts : Option Plane → List V3 → Bool
parts None vertices = false
parts (Some plane) vertices = list_any (lies_beyond plane) vertices && list_any (lies_before plane) vertices

-- a condition and the fault that it is
pub record Case : Type 0 where
  pub holds : Bool
  pub fault : ShapeFault

abbrev pub case_of : Bool → ShapeFault → Case
case_of holds fault = record { holds = holds; fault = fault }

-- the first fault of the cases that hold, in their order
abbrev pub first_fault : List Case → Option ShapeFault
first_fault [] = None
first_fault (c ∷ rest) = cond c.holds (Some c.fault) (first_fault rest)

abbrev pub face_cases : List V3 → ℕ → List Case
face_cases vertices face =
    case_of (not (are_all_in (face_plane (corners_of vertices face)) (corners_of vertices face))) (NotPlanar face)
    ∷ case_of (parts (face_plane (corners_of vertices face)) vertices) (NotConvex face) ∷ []

-- flat for the whole, then face by face not planar before not convex
abbrev pub cases_of : List V3 → List Case
cases_of vertices =
    case_of (is_flat vertices) Flat ∷ flat_map (face_cases vertices) (1 ∷ 2 ∷ 3 ∷ 4 ∷ 5 ∷ 6 ∷ [])

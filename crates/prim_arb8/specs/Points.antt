-- Points against planes.
use Rattle.std.specs.Prelude.{pos, Bool, true, List, Option, Some, None}
use Rattle.std.specs.List.{list_all}
use Rattle.std.specs.Ordering.{int_eq, int_cmp, is_lt, is_gt}
use Rattle.lattice_core.specs.declared.vector.V3.{V3}
use Rattle.plane_geom.specs.declared.plane.Plane.{Plane}
use Rattle.plane_geom.specs.Planes.{height_over, plane_through}

abbrev pub lies_in : Plane → V3 → Bool
lies_in plane p = int_eq (height_over plane p) (pos 0)

abbrev pub lies_beyond : Plane → V3 → Bool
lies_beyond plane p = is_gt (int_cmp (height_over plane p) (pos 0))

abbrev pub lies_before : Plane → V3 → Bool
lies_before plane p = is_lt (int_cmp (height_over plane p) (pos 0))

-- all points lie in the plane, where there is one
abbrev pub are_all_in : Option Plane → List V3 → Bool
are_all_in None points = true
are_all_in (Some plane) points = list_all (lies_in plane) points

abbrev pub are_coplanar_with : V3 → V3 → List V3 → Bool
are_coplanar_with a b points = list_all (λ c. are_all_in (plane_through a b c) points) points

abbrev pub are_coplanar_from : V3 → List V3 → Bool
are_coplanar_from a points = list_all (λ b. are_coplanar_with a b points) points

-- points lie in one plane: each lies in the plane through any three of them, where those are not on one line
abbrev pub is_flat : List V3 → Bool
is_flat points = list_all (λ a. are_coplanar_from a points) points

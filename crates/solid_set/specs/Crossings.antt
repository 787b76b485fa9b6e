-- Where the planes of a solid are crossed by a ray, whole lists of them in the order of their faces.
use Rattle.std.specs.Prelude.{ℕ, ◌+◌, ℤ, Bool, true, false, ◌||◌, List, [], ◌∷◌, ◌++◌, Option, Some, None}
use Rattle.lattice_core.specs.declared.ray.Ray.{Ray}
use Rattle.plane_geom.specs.declared.plane.Plane.{Plane}
use Rattle.plane_geom.specs.declared.plane.Crossing.{Crossing}
use Rattle.plane_geom.specs.declared.plane.Crossing.TheVariants.{Enters, Leaves, Holds, Misses}
use Rattle.plane_geom.specs.Crossings.{crossing_of}
use Rattle.surd_order.specs.declared.position.Pos.TheVariants.{Frac}
use Rattle.solid_set.specs.declared.crossed.Crossed.{Crossed}

abbrev pub crossed_at : ℕ → ℤ → ℤ → Crossed
crossed_at face p q = record { face = face; place = Frac p q }

abbrev pub entered : ℕ → Crossing → List Crossed
entered face (Enters p q) = crossed_at face p q ∷ []
entered face (Leaves p q) = []
entered face Holds = []
entered face Misses = []

abbrev pub left : ℕ → Crossing → List Crossed
left face (Enters p q) = []
left face (Leaves p q) = crossed_at face p q ∷ []
left face Holds = []
left face Misses = []

abbrev pub is_miss : Crossing → Bool
is_miss (Enters p q) = false
is_miss (Leaves p q) = false
is_miss Holds = false
is_miss Misses = true

-- the entering crossings of planes that are numbered from a first face on; a degenerate face has none
abbrev pub entering_from : Ray → ℕ → List (Option Plane) → List Crossed
entering_from ray face [] = []
entering_from ray face (None ∷ sides) = entering_from ray (face + 1) sides
entering_from ray face (Some plane ∷ sides) = entered face (crossing_of plane ray) ++ entering_from ray (face + 1) sides

-- the leaving ones
abbrev pub leaving_from : Ray → ℕ → List (Option Plane) → List Crossed
leaving_from ray face [] = []
leaving_from ray face (None ∷ sides) = leaving_from ray (face + 1) sides
leaving_from ray face (Some plane ∷ sides) = left face (crossing_of plane ray) ++ leaving_from ray (face + 1) sides

-- whether some plane misses the ray
abbrev pub is_missed_by : Ray → List (Option Plane) → Bool
is_missed_by ray [] = false
is_missed_by ray (None ∷ sides) = is_missed_by ray sides
is_missed_by ray (Some plane ∷ sides) = is_miss (crossing_of plane ray) || is_missed_by ray sides

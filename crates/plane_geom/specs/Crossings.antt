-- What a plane does to a ray, computed.
use Rattle.std.specs.Prelude.{ℤ, pos, ◌-ℤ◌, Bool, cond, ◌&&◌, ◌||◌, Option, Some, None}
use Rattle.std.specs.Ordering.{int_cmp, int_eq, is_lt, is_gt}
use Rattle.std.specs.declared.cmp.Ordering.{Ordering}
use Rattle.std.specs.declared.cmp.Ordering.TheVariants.{Less, Equal, Greater}
use Rattle.lattice_core.specs.declared.vector.V3.{V3}
use Rattle.lattice_core.specs.declared.ray.Ray.{Ray}
use Rattle.plane_geom.specs.declared.plane.Plane.{Plane}
use Rattle.plane_geom.specs.declared.plane.Crossing.{Crossing}
use Rattle.plane_geom.specs.declared.plane.Crossing.TheVariants.{Enters, Leaves, Holds, Misses}
use Rattle.plane_geom.specs.Planes.{slope_on, start_on}

-- the first component that is not zero is negative
abbrev pub first_is_negative : V3 → Bool
first_is_negative n = is_lt (int_cmp n.x (pos 0)) || (int_eq n.x (pos 0) && (is_lt (int_cmp n.y (pos 0)) || (int_eq n.y (pos 0) && is_lt (int_cmp n.z (pos 0)))))

-- whether a plane holds a ray that runs along it, by how far n · p is below d there
abbrev pub holds_along : V3 → ℤ → Bool
holds_along n gap = is_gt (int_cmp gap (pos 0)) || (int_eq gap (pos 0) && first_is_negative n)

-- what a plane does to a ray, by the order of the slope and 0: it is entered against the normal and left along it
abbrev pub crossing_by : Ordering → Plane → Ray → Crossing
crossing_by Less plane ray = Enters (start_on plane ray -ℤ plane.d) (pos 0 -ℤ slope_on plane ray)
crossing_by Equal plane ray = cond (holds_along plane.n (plane.d -ℤ start_on plane ray)) Holds Misses
crossing_by Greater plane ray = Leaves (plane.d -ℤ start_on plane ray) (slope_on plane ray)

-- what a plane does to a ray: the ray enters it, leaves it, is held by it, or misses it
abbrev pub crossing_of : Plane → Ray → Crossing
crossing_of plane ray = crossing_by (int_cmp (slope_on plane ray) (pos 0)) plane ray

-- what a face does to a ray: one that is degenerate has no plane, and holds the whole ray
abbrev pub side_crossing : Option Plane → Ray → Crossing
side_crossing None ray = Holds
side_crossing (Some plane) ray = crossing_of plane ray

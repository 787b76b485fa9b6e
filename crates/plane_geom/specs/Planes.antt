-- A plane (n, d) and the points that it holds: those with n · p at most d. A plane that a ray lies in holds it only
-- where the first component of n that is not zero is negative, so that of two touching solids one has the ray.
use Rattle.std.specs.Prelude.{◌≡◌, ◌≢◌, ◌⊎◌, ◌↔◌, ℕ, ◌+◌, ◌*◌, ◌/◌, Bool, cond, ◌&&◌, Option, Some, None, ℤ, pos, ◌+ℤ◌, ◌-ℤ◌, ◌*ℤ◌, ◌<ℤ◌, ◌≤ℤ◌}
use Rattle.std.specs.Ordering.{int_eq}
use Rattle.lattice_core.specs.declared.vector.V3.{V3}
use Rattle.lattice_core.specs.declared.ray.Dir.{Dir}
use Rattle.lattice_core.specs.declared.ray.Ray.{Ray}
use Rattle.lattice_core.specs.declared.placement.Placement.{Placement}
use Rattle.lattice_core.specs.Limits.{IsAtMost, IsWithin}
use Rattle.lattice_core.specs.Units.{unit_of}
use Rattle.lattice_core.specs.Vectors.{dot_product, vector_difference, zero_vector}
use Rattle.lattice_core.specs.Turns.{turned}
use Rattle.lattice_core.specs.Placements.{placed}
use Rattle.plane_geom.specs.declared.limit.TheConstants.{NORMAL, OFFSET, WORLD_OFFSET, GAP}
use Rattle.plane_geom.specs.declared.plane.Plane.{Plane}
use Rattle.plane_geom.specs.declared.plane.Crossing.{Crossing}
use Rattle.plane_geom.specs.declared.plane.Crossing.TheVariants.{Enters, Leaves, Holds, Misses}
use Rattle.plane_geom.specs.Edges.{FirstIsNegative}
use Rattle.plane_geom.specs.Vectors.{cross_product, square_of, length_squared}

-- the sizes of a solid's plane
pub record IsSolidPlane (plane : Plane) : Type 0 where
  pub normal : IsWithin NORMAL plane.n
  pub offset : IsAtMost OFFSET plane.d

-- the sizes of a solid's plane after it was placed
pub record IsWorldPlane (plane : Plane) : Type 0 where
  pub normal : IsWithin NORMAL plane.n
  pub offset : IsAtMost WORLD_OFFSET plane.d

-- the normal of the plane through three points
abbrev pub normal_of : V3 → V3 → V3 → V3
normal_of a b c = cross_product (vector_difference b a) (vector_difference c a)

-- three points lie on one line
abbrev pub AreOnOneLine : V3 → V3 → V3 → Type 0
AreOnOneLine a b c = normal_of a b c ≡ zero_vector

-- how far a point lies beyond a plane, times the length of the normal
abbrev pub height_over : Plane → V3 → ℤ
height_over plane p = dot_product plane.n p -ℤ plane.d

-- a point lies in a plane
abbrev pub LiesIn : V3 → Plane → Type 0
LiesIn p plane = dot_product plane.n p ≡ plane.d

-- the plane through three points
pub record IsThrough (plane : Plane) (a b c : V3) : Type 0 where
  pub normal : plane.n ≡ normal_of a b c
  pub first : LiesIn a plane
  pub second : LiesIn b plane
  pub third : LiesIn c plane

abbrev pub is_zero_vector : V3 → Bool
is_zero_vector v = int_eq v.x (pos 0) && (int_eq v.y (pos 0) && int_eq v.z (pos 0))

-- the plane with a normal through a point
abbrev pub plane_of : V3 → V3 → Plane
plane_of n p = record { n = n; d = dot_product n p }

-- the plane through three points, where they are not on one line
abbrev pub plane_through : V3 → V3 → V3 → Option Plane
plane_through a b c = cond (is_zero_vector (normal_of a b c)) None (Some (plane_of (normal_of a b c) a))

-- the plane that a placement takes a plane to
abbrev pub placed_plane : Placement → Plane → Plane
placed_plane by plane =
    let n : V3 = turned by.turn.number plane.n in
    record { n = n; d = plane.d +ℤ dot_product n by.shift }

-- how fast n · p grows along a line o + t e, and where it starts
abbrev pub slope_along : Plane → V3 → ℤ
slope_along plane e = dot_product plane.n e

abbrev pub start_at : Plane → V3 → ℤ
start_at plane o = dot_product plane.n o

-- the plane holds the point of the line at the fraction p / q
abbrev pub PlaneHoldsAlong : Plane → V3 → V3 → ℤ → ℤ → Type 0
PlaneHoldsAlong plane o e p q =
    ((slope_along plane e ≢ pos 0) × ((start_at plane o *ℤ q) +ℤ (slope_along plane e *ℤ p)) ≤ℤ (plane.d *ℤ q))
    ⊎ ((slope_along plane e ≡ pos 0) × ((start_at plane o <ℤ plane.d) ⊎ ((start_at plane o ≡ plane.d) × FirstIsNegative plane.n)))

-- the same of a ray
abbrev pub slope_on : Plane → Ray → ℤ
slope_on plane ray = slope_along plane (unit_of ray.dir)

abbrev pub start_on : Plane → Ray → ℤ
start_on plane ray = start_at plane ray.origin

abbrev pub PlaneHolds : Plane → Ray → ℤ → ℤ → Type 0
PlaneHolds plane ray p q = PlaneHoldsAlong plane ray.origin (unit_of ray.dir) p q

-- from which fraction on, or up to which one, a plane holds a ray
abbrev pub IsCrossing : Plane → Ray → Crossing → Type 0
IsCrossing plane ray (Enters r s) =
    (r ≡ start_on plane ray -ℤ plane.d) × (s ≡ pos 0 -ℤ slope_on plane ray) × (pos 0 <ℤ s)
    × ((p q : ℤ) → pos 0 <ℤ q → PlaneHolds plane ray p q ↔ ((r *ℤ q) ≤ℤ (p *ℤ s)))
IsCrossing plane ray (Leaves r s) =
    (r ≡ plane.d -ℤ start_on plane ray) × (s ≡ slope_on plane ray) × (pos 0 <ℤ s)
    × ((p q : ℤ) → pos 0 <ℤ q → PlaneHolds plane ray p q ↔ ((p *ℤ s) ≤ℤ (r *ℤ q)))
IsCrossing plane ray Holds = (p q : ℤ) → pos 0 <ℤ q → PlaneHolds plane ray p q
IsCrossing plane ray Misses = (p q : ℤ) → pos 0 <ℤ q → ¬ PlaneHolds plane ray p q

-- a placed point lies as far beyond the placed plane as the point beyond the plane
abbrev pub KeepsHeights : Placement → Plane → Plane → Type 0
KeepsHeights by plane result = (p : V3) → height_over result (placed by p) ≡ height_over plane p

-- the sizes of the numbers of a crossing
abbrev pub IsSmallCrossing : Crossing → Type 0
IsSmallCrossing (Enters r s) = IsAtMost GAP r × IsAtMost NORMAL s
IsSmallCrossing (Leaves r s) = IsAtMost GAP r × IsAtMost NORMAL s
IsSmallCrossing Holds = Unit {0}
IsSmallCrossing Misses = Unit {0}

-- 55 and 200 times the square of the cosine between normal and ray, rounded down
abbrev pub level_of : V3 → Dir → ℕ
level_of n dir = 55 + 200 * square_of (dot_product n (unit_of dir)) / length_squared n

-- how bright a face is; one that has no plane is not met, and has the highest level
abbrev pub side_level : Option Plane → Ray → ℕ
side_level None ray = 255
side_level (Some plane) ray = level_of plane.n ray.dir

-- Regions in the order in which their boxes begin along a direction.
use Rattle.std.specs.Prelude.{◌≡◌, ◌<◌, ◌⊎◌, ◌<ℤ◌, ℕ, pos, List, Option, Some, None, All, nat_eq, length, map, slice_get, slice_index_or}
use Rattle.std.specs.List.{IsDistinct}
use Rattle.lattice_core.specs.declared.boxes.Side.{Side}
use Rattle.lattice_core.specs.declared.boxes.Side.TheVariants.{Open, At}
use Rattle.lattice_core.specs.declared.ray.Ray.{Ray}
use Rattle.lattice_core.specs.declared.ray.Dir.{Dir}
use Rattle.first_hit.specs.declared.near.Near.{Near}
use Rattle.shot_core.specs.Regions.{Region}
use Rattle.shot_core.specs.RegionBoxes.{region_box, near_side}
use Rattle.shot_core.specs.FirstShots.{IsOrderOf}
use Rattle.first_hit.specs.FirstSteps.{side_of}

-- the ray from the origin in a direction
abbrev pub from_origin : Dir → Ray
from_origin dir = record { origin = record { x = pos 0; y = pos 0; z = pos 0 }; dir = dir }

-- where the box of a region begins along a direction; Open where it has no side there, or no points
abbrev pub begins_at : Dir → Option Region → Side
begins_at dir None = Open
begins_at dir (Some r) = near_side (region_box r.body) (from_origin dir)

-- a box that begins at the one place begins before one that begins at the other; one without a side there begins before all that
-- have one
abbrev pub BeginsBefore : Side → Side → Type 0
BeginsBefore Open Open = ⊥
BeginsBefore Open (At other) = Unit {0}
BeginsBefore (At side) Open = ⊥
BeginsBefore (At side) (At other) = side <ℤ other

-- of two numbers with their places, the first one goes before the second: its place is nearer, or both are one and it is the lower
abbrev pub GoesBefore : Side → ℕ → Side → ℕ → Type 0
GoesBefore side m other n = BeginsBefore side other ⊎ ((side ≡ other) × (m < n))

-- The numbers of regions are in the order in which their boxes begin along a direction, the nearest first: of any two, the box of
-- the later one does not begin before that of the earlier one, and where both begin at one place the earlier number is the lower.
abbrev pub IsNearestFirst : Dir → List Region → List ℕ → Type 0
IsNearestFirst dir regions order = (i j : ℕ) → i < j → j < length order
    → GoesBefore (begins_at dir (slice_get regions (slice_index_or order i 0))) (slice_index_or order i 0) (begins_at dir (slice_get regions (slice_index_or order j 0))) (slice_index_or order j 0)

-- words of the code: each of so many regions once, with where its box begins
pub record AreNears (dir : Dir) (regions : List Region) (count : ℕ) (nears : List Near) : Type 0 where
  pub order : IsOrderOf count (map (λ (n : Near). n.region) nears)
  pub apart : IsDistinct nat_eq (map (λ (n : Near). n.region) nears)
  pub sides : All (λ (n : Near). side_of n.side ≡ begins_at dir (slice_get regions n.region)) nears

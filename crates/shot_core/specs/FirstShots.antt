-- What a ray meets first of the regions without air.
use Rattle.std.specs.Prelude.{◌≡◌, ◌<◌, ◌+◌, ℕ, ℤ, List, [], ◌∷◌, Option, Some, None, Bool, false, not, All, Contains, length, slice_get, slice_index_or}
use Rattle.std.specs.List.{find}
use Rattle.std.specs.Option.{option_map}
use Rattle.lattice_core.specs.declared.ray.Ray.{Ray}
use Rattle.surd_order.specs.declared.position.Pos.{Pos}
use Rattle.bool_weave.specs.declared.woven.Woven.{Woven}
use Rattle.bool_weave.specs.Cuts.{ray_length}
use Rattle.bool_weave.specs.Behind.{claims_behind, claims_before}
use Rattle.overlap_list.specs.Firsts.{TreeRegion, Start, start_at, some_solid_behind, IsFirstPlace}
use Rattle.shot_core.specs.declared.shot.Lit.{Lit}
use Rattle.shot_core.specs.declared.first.Seen.{Seen}
use Rattle.shot_core.specs.Regions.{RegionBody, Region, HaveInstances, has_air, firsts_from}
use Rattle.shot_core.specs.Shots.{woven_from, woven_of, level_of_hit, lit_up_to}

abbrev pub is_solid : Option Region → Bool
is_solid None = false
is_solid (Some r) = not (has_air r.body)

-- the first of some partitions whose region has no air
abbrev pub first_of : List Region → List Lit → Option Lit
first_of regions lit = find (λ l. is_solid (slice_get regions l.region)) lit

-- the first partition, on a ray that ends so far, whose region has no air
abbrev pub first_seen_up_to : ℤ → List Region → Ray → Option Lit
first_seen_up_to far regions ray = first_of regions (lit_up_to far regions ray)

abbrev pub first_seen : List Region → Ray → Option Lit
first_seen regions ray = first_seen_up_to ray_length regions ray

-- each number below a count and no other, in whatever order, once or more often
pub record IsOrderOf (count : ℕ) (order : List ℕ) : Type 0 where
  pub below : All (λ n. n < count) order
  pub all : (n : ℕ) → n < count → Contains order n

-- a partition without its end
abbrev pub seen_of : Lit → Seen
seen_of lit = record { region = lit.region; start = lit.start; hit = lit.hit; level = lit.level }

-- the trees of regions, each with the number of its first instance
abbrev pub tree_region : ℕ → RegionBody → TreeRegion
tree_region first body = record { air = has_air body; first = first; count = length body.instances; tree = body.tree }

abbrev pub trees_from : ℕ → List Region → List TreeRegion
trees_from first [] = []
trees_from first (r ∷ rest) = tree_region first r.body ∷ trees_from (first + length r.body.instances) rest

abbrev pub trees_of : List Region → List TreeRegion
trees_of regions = trees_from 0 regions

-- what starts at a place, with the level of its hit
abbrev pub seen_by : List Region → Ray → Start → Seen
seen_by regions ray s = record { region = s.region; start = s.start; hit = s.hit; level = level_of_hit regions ray s.hit }

abbrev pub seen_at : List Region → Ray → Pos → Option Seen
seen_at regions ray x = option_map (seen_by regions ray) (start_at (woven_of regions ray) (trees_of regions) x)

-- what is seen first starts at the first place behind which a region without air claims
abbrev pub SeenAtFirstPlace : Type 0
SeenAtFirstPlace = (regions : List Region) (ray : Ray) (x : Pos) → IsFirstPlace (woven_of regions ray) (trees_of regions) x → option_map seen_of (first_seen regions ray) ≡ seen_at regions ray x

-- and nothing is seen without such a place
abbrev pub NothingSeenElse : Type 0
NothingSeenElse = (regions : List Region) (ray : Ray) → ((x : Pos) → some_solid_behind (woven_of regions ray) (trees_of regions) x ≡ false) → first_seen regions ray ≡ None

-- a region claims beside a place what it does by the segments of its own instances
pub record IsClaimedByOwn (woven own : List Woven) (first : ℕ) (body : RegionBody) (x : Pos) : Type 0 where
  pub behind : claims_behind own body.tree first x ≡ claims_behind woven body.tree first x
  pub before : claims_before own body.tree first x ≡ claims_before woven body.tree first x

-- what a region claims beside a place is told by the segments of its own instances
abbrev pub OwnSegmentsTell : Type 0
OwnSegmentsTell = (regions : List Region) (ray : Ray) (n : ℕ) (d : Region) (x : Pos) → HaveInstances regions → n < length regions
    → IsClaimedByOwn (woven_of regions ray) (woven_from ray (slice_index_or (firsts_from 0 regions) n 0) (slice_index_or regions n d).body.instances)
    (slice_index_or (firsts_from 0 regions) n 0) (slice_index_or regions n d).body x

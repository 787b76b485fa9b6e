-- The overlaps of regions on a ray.
use Rattle.std.specs.Prelude.{◌<◌, ℕ, ℤ, ◌+◌, ◌-◌, List, Option, Some, None, Bool, false, ◌&&◌, not, length, map, flat_map, slice_get}
use Rattle.std.specs.List.{find, filter_map, range_with_len}
use Rattle.bool_weave.specs.declared.woven.Woven.{Woven}
use Rattle.bool_weave.specs.Cuts.{ray_length}
use Rattle.bool_weave.specs.Claims.{intervals_up_to}
use Rattle.overlap_list.specs.declared.region.RegionClaims.{RegionClaims}
use Rattle.overlap_list.specs.declared.overlap.OverlapRun.{OverlapRun}
use Rattle.overlap_list.specs.declared.overlap.TheConstants.{MOST_PAIRS}
use Rattle.overlap_list.specs.declared.overlap.CheckFault.{CheckFault}
use Rattle.overlap_list.specs.declared.overlap.CheckFault.TheVariants.{TooMany, Memory}
use Rattle.overlap_list.specs.Winners.{claims_at}
use Rattle.overlap_list.specs.Runs.{IntervalRun, runs_below, is_maximal}
use Rattle.overlap_list.specs.Hits.{cut_up_to}

-- the places of two regions, the lower one first
pub record RegionPair : Type 0 where
  pub one : ℕ
  pub two : ℕ

-- a place with each later one up to the last
abbrev pub pairs_from : ℕ → ℕ → List RegionPair
pairs_from last one = map (λ two. record { one = one; two = two }) (range_with_len (one + 1) (last - one))

-- all pairs of places up to the last, by the lower place and then the higher one
abbrev pub pairs_up_to : ℕ → List RegionPair
pairs_up_to last = flat_map (pairs_from last) (range_with_len 0 last)

abbrev pub is_solid_at : Option RegionClaims → ℕ → Bool
is_solid_at None k = false
is_solid_at (Some r) k = not r.air && claims_at r k

-- whether two regions, neither with air, both claim an interval
abbrev pub do_overlap_at : List RegionClaims → RegionPair → ℕ → Bool
do_overlap_at regions pair k = is_solid_at (slice_get regions pair.one) k && is_solid_at (slice_get regions pair.two) k

abbrev pub overlap_up_to : ℤ → List Woven → RegionPair → Option IntervalRun → Option OverlapRun
overlap_up_to far woven pair None = None
overlap_up_to far woven pair (Some run) = Some (record { one = pair.one; two = pair.two; start = cut_up_to far woven run.from; end = cut_up_to far woven run.to })

abbrev pub overlap_on : List Woven → RegionPair → Option IntervalRun → Option OverlapRun
overlap_on woven pair found = overlap_up_to ray_length woven pair found

-- the first of the maximal runs of intervals that both regions of a pair claim, on a ray that ends so far
abbrev pub first_overlap_up_to : ℤ → List Woven → List RegionClaims → RegionPair → Option OverlapRun
first_overlap_up_to far woven regions pair = overlap_up_to far woven pair (find (is_maximal (do_overlap_at regions pair)) (runs_below (length (intervals_up_to far woven))))

abbrev pub first_overlap : List Woven → List RegionClaims → RegionPair → Option OverlapRun
first_overlap woven regions pair = first_overlap_up_to ray_length woven regions pair

-- for each pair of places that overlaps, by the lower place and then the higher one
abbrev pub overlaps_up_to : ℤ → List Woven → List RegionClaims → List OverlapRun
overlaps_up_to far woven regions = filter_map (first_overlap_up_to far woven regions) (pairs_up_to (length regions - 1))

abbrev pub overlaps_of : List Woven → List RegionClaims → List OverlapRun
overlaps_of woven regions = overlaps_up_to ray_length woven regions

-- there are too many of them, or there was no memory
abbrev pub IsTooMany : ℕ → CheckFault → Type 0
IsTooMany count TooMany = MOST_PAIRS < count
IsTooMany count Memory = Unit {0}

-- there are too many overlaps of these regions, or there was no memory
abbrev pub IsCheckFault : List Woven → List RegionClaims → CheckFault → Type 0
IsCheckFault woven regions fault = IsTooMany (length (overlaps_of woven regions)) fault

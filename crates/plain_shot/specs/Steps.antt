-- In the words of the code.
use Rattle.std.specs.Prelude.{◌≡◌, ◌<◌, ◌^◌, ℕ, ◌+◌, List, Bool, length}
use Rattle.lattice_core.specs.declared.ray.Ray.{Ray}
use Rattle.bool_weave.specs.declared.woven.Woven.{Woven}
use Rattle.bool_weave.specs.Cuts.{cuts_of}
use Rattle.bool_weave.specs.Claims.{Interval, intervals_of, spans}
use Rattle.overlap_list.specs.declared.region.RegionClaims.{RegionClaims}
use Rattle.overlap_list.specs.Runs.{IntervalRun, is_maximal}
use Rattle.overlap_list.specs.Partitions.{is_won_as, partition_of}
use Rattle.shot_core.specs.declared.shot.Lit.{Lit}
use Rattle.shot_core.specs.Regions.{Region}
use Rattle.shot_core.specs.Shots.{woven_of, claims_on, lit_by}
use Rattle.plain_shot.specs.declared.laid.Laid.{Laid}

-- whether the instance of a leaf spans an interval
abbrev pub spans_from : List Woven → Interval → ℕ → ℕ → Bool
spans_from woven interval first i = spans woven interval (first + i)

-- whether a run is maximal among the intervals with its first one's winner
abbrev pub is_won_run : List RegionClaims → IntervalRun → Bool
is_won_run regions run = is_maximal (is_won_as regions run.from) run

-- what is read of a ray
pub record IsLaid (regions : List Region) (ray : Ray) (laid : Laid) : Type 0 where
  pub segments : laid.segments.items ≡ woven_of regions ray
  pub cuts : laid.cuts.items ≡ cuts_of laid.segments.items
  pub count : laid.count ≡ length (intervals_of laid.segments.items)
  pub claims : laid.regions.items ≡ claims_on regions ray
  pub few_intervals : laid.count < 2 ^ 31
  pub few_regions : length laid.regions.items < 2 ^ 31

-- the partition that a run makes, with the level of its hit
abbrev pub lit_of_run : List Region → Ray → IntervalRun → Lit
lit_of_run regions ray run = lit_by regions ray (partition_of (woven_of regions ray) (claims_on regions ray) run)

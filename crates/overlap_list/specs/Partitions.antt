-- The partitions of a ray.
use Rattle.std.specs.Prelude.{ℕ, ℤ, ◌==◌, List, Option, Some, None, Bool, false, length, map, filter}
use Rattle.bool_weave.specs.declared.woven.Woven.{Woven}
use Rattle.bool_weave.specs.Cuts.{ray_length}
use Rattle.bool_weave.specs.Claims.{intervals_up_to}
use Rattle.overlap_list.specs.declared.region.RegionClaims.{RegionClaims}
use Rattle.overlap_list.specs.declared.hit.Hit.{Hit}
use Rattle.overlap_list.specs.declared.partition.Partition.{Partition}
use Rattle.overlap_list.specs.Winners.{winner_of}
use Rattle.overlap_list.specs.Runs.{IntervalRun, runs_below, is_maximal}
use Rattle.overlap_list.specs.Hits.{cut_up_to, hit_up_to}

abbrev pub is_one_winner : Option ℕ → Option ℕ → Bool
is_one_winner None b = false
is_one_winner (Some a) None = false
is_one_winner (Some a) (Some b) = a == b

-- whether an interval has the winner that interval `from` has
abbrev pub is_won_as : List RegionClaims → ℕ → ℕ → Bool
is_won_as regions from k = is_one_winner (winner_of regions from) (winner_of regions k)

-- the maximal runs of intervals with one winner
abbrev pub won_runs : List RegionClaims → ℕ → List IntervalRun
won_runs regions count = filter (λ run. is_maximal (is_won_as regions run.from) run) (runs_below count)

abbrev pub or_zero : Option ℕ → ℕ
or_zero None = 0
or_zero (Some n) = n

abbrev pub or_no_hit : Option Hit → Hit
or_no_hit None = record { instance = 0; face = 0 }
or_no_hit (Some hit) = hit

-- a run has a winner and a hit
abbrev pub partition_up_to : ℤ → List Woven → List RegionClaims → IntervalRun → Partition
partition_up_to far woven regions run = record {
  region = or_zero (winner_of regions run.from);
  start = cut_up_to far woven run.from;
  end = cut_up_to far woven run.to;
  hit = or_no_hit (hit_up_to far woven regions run.from);
}

abbrev pub partition_of : List Woven → List RegionClaims → IntervalRun → Partition
partition_of woven regions run = partition_up_to ray_length woven regions run

-- the partitions of a ray that ends so far: the maximal runs of intervals with one winner, in order
abbrev pub partitions_up_to : ℤ → List Woven → List RegionClaims → List Partition
partitions_up_to far woven regions = map (partition_up_to far woven regions) (won_runs regions (length (intervals_up_to far woven)))

abbrev pub partitions_of : List Woven → List RegionClaims → List Partition
partitions_of woven regions = partitions_up_to ray_length woven regions

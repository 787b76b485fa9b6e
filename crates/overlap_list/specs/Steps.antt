-- Words of the code, over the winners of all intervals.
use Rattle.std.specs.Prelude.{◌≡◌, ◌<◌, ◌≤◌, ◌⊎◌, ℕ, List, Option, Some, None, Bool, true, false, ◌&&◌, not, MatchOption, slice_index_or}
use Rattle.overlap_list.specs.declared.region.RegionClaims.{RegionClaims}
use Rattle.overlap_list.specs.declared.overlap.Stretch.{Stretch}
use Rattle.overlap_list.specs.Winners.{claims_at}
use Rattle.overlap_list.specs.Runs.{IntervalRun, has_before, is_maximal}
use Rattle.overlap_list.specs.Partitions.{is_one_winner}

abbrev pub winner_at : List (Option ℕ) → ℕ → Option ℕ
winner_at winners k = slice_index_or winners k None

-- whether interval k has the winner of interval `from`
abbrev pub goes_on : List (Option ℕ) → ℕ → ℕ → Bool
goes_on winners from k = is_one_winner (winner_at winners from) (winner_at winners k)

-- the winner where a run of intervals with one winner begins
abbrev pub IsBegin : List (Option ℕ) → ℕ → Option ℕ → Type 0
IsBegin winners from result =
    MatchOption result ((winner_at winners from ≡ None) ⊎ (has_before (goes_on winners from) from ≡ true)) (λ r. (winner_at winners from ≡ Some r) × (has_before (goes_on winners from) from ≡ false))

-- where such a run ends
pub record IsEnd (has : ℕ → Bool) (from to : ℕ) : Type 0 where
  pub some : from < to
  pub all : (k : ℕ) → from ≤ k → k < to → has k ≡ true
  pub ended : has to ≡ false

-- whether a region with air, or one without, claims an interval
abbrev pub is_claimed_by : Bool → ℕ → RegionClaims → Bool
is_claimed_by true k r = r.air && claims_at r k
is_claimed_by false k r = not r.air && claims_at r k

-- whether two rows both claim an interval
abbrev pub do_both : List Bool → List Bool → ℕ → Bool
do_both one two k = slice_index_or one k false && slice_index_or two k false

-- the first interval that has a property
abbrev pub IsFirst : (ℕ → Bool) → ℕ → Option ℕ → Type 0
IsFirst has count result = MatchOption result ((k : ℕ) → has k ≡ false) (λ from. (from < count) × (has from ≡ true) × ((k : ℕ) → k < from → has k ≡ false))

-- the first run of intervals that have a property
abbrev pub IsFirstRun : (ℕ → Bool) → ℕ → Option Stretch → Type 0
IsFirstRun has count result = MatchOption result ((k : ℕ) → has k ≡ false) (λ s. IsEnd has s.from s.to × (s.to ≤ count) × ((k : ℕ) → k < s.from → has k ≡ false))

abbrev pub do_overlap : RegionClaims → RegionClaims → ℕ → Bool
do_overlap one two k = (not one.air && claims_at one k) && (not two.air && claims_at two k)

-- whether a run is maximal for a property that may depend on where it begins
abbrev pub passes : (ℕ → ℕ → Bool) → IntervalRun → Bool
passes test run = is_maximal (test run.from) run

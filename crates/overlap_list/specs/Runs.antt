-- Runs of neighbouring intervals that have a property.
use Rattle.std.specs.Prelude.{ℕ, zero, suc, ◌+◌, ◌-◌, List, Bool, false, ◌&&◌, not, map, flat_map}
use Rattle.std.specs.List.{list_all, range_with_len}

-- the intervals from one number up to, not including, another
pub record IntervalRun : Type 0 where
  pub from : ℕ
  pub to : ℕ

-- the runs that begin with a number and end at most at `count`, the shorter first
abbrev pub runs_from : ℕ → ℕ → List IntervalRun
runs_from count from = map (λ to. record { from = from; to = to }) (range_with_len (from + 1) (count - from))

-- all runs of the numbers below `count`, the earlier first
abbrev pub runs_below : ℕ → List IntervalRun
runs_below count = flat_map (runs_from count) (range_with_len 0 count)

-- whether the number before has the property; there is none before 0
abbrev pub has_before : (ℕ → Bool) → ℕ → Bool
has_before has zero = false
has_before has (suc k) = has k

-- a run is maximal where all of its numbers have the property, and the numbers beside it have not
abbrev pub is_maximal : (ℕ → Bool) → IntervalRun → Bool
is_maximal has run =
    list_all has (range_with_len run.from (run.to - run.from)) && (not (has_before has run.from) && not (has run.to))

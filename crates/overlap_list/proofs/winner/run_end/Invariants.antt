use Rattle.std.proofs.Common.{◌≡◌, ◌<◌, ◌≤◌, ◌-◌, ℕ, true, length}
use Rattle.overlap_list.specs.Steps.{goes_on}
use Rattle.overlap_list.proofs.winner.run_end.Given as goal

abbrev pub invariant-loop-to : goal.invariant-loop-to
invariant-loop-to l = record {
  some : l.from < l.to;
  within : l.to ≤ length l.winners;
  all : (k : ℕ) → l.from ≤ k → k < l.to → goes_on l.winners l.from k ≡ true;
}

abbrev pub decreases-loop-to : goal.decreases-loop-to
decreases-loop-to l = length l.winners - l.to

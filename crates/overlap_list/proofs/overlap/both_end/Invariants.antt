use Rattle.std.proofs.Common.{◌≡◌, ◌<◌, ◌≤◌, ◌-◌, ℕ, true, length}
use Rattle.overlap_list.specs.Steps.{do_both}
use Rattle.overlap_list.proofs.overlap.both_end.Given as goal

abbrev pub invariant-loop-to : goal.invariant-loop-to
invariant-loop-to l = record {
  some : l.from < l.to;
  within : l.to ≤ length l.one;
  all : (k : ℕ) → l.from ≤ k → k < l.to → do_both l.one l.two k ≡ true;
}

abbrev pub decreases-loop-to : goal.decreases-loop-to
decreases-loop-to l = length l.one - l.to

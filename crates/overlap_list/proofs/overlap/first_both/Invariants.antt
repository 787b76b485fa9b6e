use Rattle.std.proofs.Common.{◌≡◌, ◌<◌, ℕ, false}
use Rattle.overlap_list.specs.Steps.{do_both}
use Rattle.overlap_list.proofs.overlap.first_both.Given as goal

abbrev pub invariant-loop-k : goal.invariant-loop-k
invariant-loop-k l = (k : ℕ) → k < l.k → do_both l.one l.two k ≡ false

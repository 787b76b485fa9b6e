use Rattle.std.proofs.Common.{◌≡◌, ◌-◌, ◌≤◌, List, ℕ, is_some, length, map, drop}
use Rattle.std.specs.Borrow.{Bor}
use Rattle.mged_words.specs.Commands.{entries_of}
use Rattle.mged_words.proofs.list.is_list.Given as goal

abbrev pub invariant-loop-at : goal.invariant-loop-at
invariant-loop-at l = record {
  within : l.at ≤ length l.words;
  same : is_some (entries_of (map (λ (a : Bor (List ℕ)). a.now) (drop l.at l.words))) ≡ is_some (entries_of (map (λ (a : Bor (List ℕ)). a.now) l.words));
}

abbrev pub decreases-loop-at : goal.decreases-loop-at
decreases-loop-at l = length l.words - l.at

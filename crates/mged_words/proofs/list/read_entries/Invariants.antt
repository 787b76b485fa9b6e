use Rattle.std.proofs.Common.{◌≡◌, ◌-◌, ◌+◌, ◌++◌, ◌≤◌, true, List, ℕ, is_some, length, map, drop, vec_len}
use Rattle.std.specs.Borrow.{Bor}
use Rattle.std.specs.Option.{option_map}
use Rattle.command_set.specs.Lawful.{AreNear}
use Rattle.mged_words.specs.Commands.{entries_of, members_fault}
use Rattle.mged_words.proofs.list.read_entries.Given as goal

abbrev pub invariant-loop-at : goal.invariant-loop-at
invariant-loop-at l = record {
  within : l.at ≤ length l.words;
  some : is_some (entries_of (map (λ (a : Bor (List ℕ)). a.now) (drop l.at l.words))) ≡ true;
  entries : option_map (λ rest. l.entries.items ++ rest) (entries_of (map (λ (a : Bor (List ℕ)). a.now) (drop l.at l.words))) ≡ entries_of (map (λ (a : Bor (List ℕ)). a.now) l.words);
  fault : members_fault (l.at + 4) (entries_of (map (λ (a : Bor (List ℕ)). a.now) (drop l.at l.words))) ≡ members_fault 4 (entries_of (map (λ (a : Bor (List ℕ)). a.now) l.words));
  few : vec_len l.entries ≤ l.at;
  near : AreNear l.entries.items;
}

abbrev pub decreases-loop-at : goal.decreases-loop-at
decreases-loop-at l = length l.words - l.at

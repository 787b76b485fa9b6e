use Rattle.std.proofs.Common.{◌≡◌, ◌+◌, List, ℕ, map, drop, take}
use Rattle.std.specs.Borrow.{Bor}
use Rattle.mged_words.specs.Commands.{names_fault}
use Rattle.mged_words.proofs.names.read_names.Given as goal

abbrev pub invariant-loop-i : goal.invariant-loop-i
invariant-loop-i l = record {
  fault : names_fault (l.word + l.i) 1 (map (λ (a : Bor (List ℕ)). a.now) (drop l.i l.atoms)) ≡ names_fault l.word 1 (map (λ (a : Bor (List ℕ)). a.now) l.atoms);
  read : l.names.items ≡ map (λ (a : Bor (List ℕ)). a.now) (take l.i l.atoms);
}

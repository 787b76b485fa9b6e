use Rattle.std.proofs.Common.{◌≡◌, ◌+◌, List, ℕ, ℤ, Some, map, drop, take}
use Rattle.std.specs.Borrow.{Bor}
use Rattle.word_values.specs.Kinds.{numbers_as, numbers_from}
use Rattle.mged_words.specs.Commands.{numbers_fault}
use Rattle.mged_words.proofs.atoms.read_numbers.Given as goal

abbrev pub invariant-loop-i : goal.invariant-loop-i
invariant-loop-i l = record {
  fault : numbers_fault (l.word + l.i) 1 (numbers_from l.list l.i (map (λ (a : Bor (List ℕ)). a.now) (drop l.i l.atoms))) ≡ numbers_fault l.word 1 (numbers_as l.list (map (λ (a : Bor (List ℕ)). a.now) l.atoms));
  read : numbers_as l.list (map (λ (a : Bor (List ℕ)). a.now) (take l.i l.atoms)) ≡ map (λ (n : ℤ). Some n) (take l.i l.out);
}

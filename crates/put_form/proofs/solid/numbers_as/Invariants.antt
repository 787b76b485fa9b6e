use Rattle.std.proofs.Common.{◌≡◌, List, ℕ, map, take}
use Rattle.std.specs.Borrow.{Bor}
use Rattle.word_values.specs.Kinds.{number_as}
use Rattle.put_form.proofs.solid.numbers_as.Given as goal

abbrev pub invariant-loop-atom : goal.invariant-loop-atom
invariant-loop-atom l = l.numbers.items ≡ map (number_as l.kind) (map (λ (a : Bor (List ℕ)). a.now) (take l.atom-index l.atoms))

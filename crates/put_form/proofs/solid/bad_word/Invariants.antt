use Rattle.std.proofs.Common.{◌≡◌, drop, find, not}
use Rattle.put_form.specs.SolidSteps.{is_good}
use Rattle.put_form.proofs.solid.bad_word.Given as goal

abbrev pub invariant-loop-pair : goal.invariant-loop-pair
invariant-loop-pair l = find (λ p. not (is_good l.text l.tokens l.form l.radius p)) (drop l.pair-index l.pairs) ≡ find (λ p. not (is_good l.text l.tokens l.form l.radius p)) l.pairs

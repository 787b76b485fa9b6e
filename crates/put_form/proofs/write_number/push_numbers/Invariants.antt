use Rattle.std.proofs.Common.{◌≡◌, ◌++◌, drop}
use Rattle.put_form.specs.WritingSteps.{placed_texts}
use Rattle.put_form.proofs.write_number.push_numbers.Given as goal

abbrev pub invariant-loop-place : goal.invariant-loop-place
invariant-loop-place l = l.line.items ++ placed_texts l.list l.place (drop l.place l.numbers) ≡ l.initial.line.items ++ placed_texts l.list 0 l.numbers

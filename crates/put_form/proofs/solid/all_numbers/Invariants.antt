use Rattle.std.proofs.Common.{◌≡◌, drop, Some}
use Rattle.word_values.specs.SolidForms.{keys_of}
use Rattle.put_form.specs.Solids.{appended, all_numbers}
use Rattle.put_form.proofs.solid.all_numbers.Given as goal

abbrev pub invariant-loop-place : goal.invariant-loop-place
invariant-loop-place l = appended (Some l.numbers.items) (all_numbers l.text l.tokens l.pairs (drop l.place (keys_of l.form))) ≡ all_numbers l.text l.tokens l.pairs (keys_of l.form)

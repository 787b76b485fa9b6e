use Rattle.std.proofs.Common.{◌≡◌, drop, Some}
use Rattle.word_values.specs.SolidForms.{keys_of, key_in}
use Rattle.word_values.proofs.solid_form.SolidForm.key_in.Given as goal

abbrev pub invariant-loop-place : goal.invariant-loop-place
invariant-loop-place l = key_in (drop l.place (keys_of l.self)) (Some l.name) ≡ key_in (keys_of l.self) (Some l.name)

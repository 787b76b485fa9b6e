use Rattle.std.proofs.Common.{◌∙◌}
use Rattle.word_values.proofs.FormLaws.{key_placed}
use Rattle.word_values.proofs.solid_form.SolidForm.key_at.Goals as goal

pub returns : goal.returns
returns c = c.key_by.ensures ∙ key_placed c.args.self c.args.place c.requires

use Rattle.put_form.proofs.KeepLaws.{text_same}
use Rattle.put_form.proofs.keep.is_text.Goals as goal

pub returns-clause-exact : goal.returns-clause-exact
returns-clause-exact c = text_same c.is_text_value.result c.args.text.now c.is_text_value.ensures

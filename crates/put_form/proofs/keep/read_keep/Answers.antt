use Rattle.std.proofs.Common.{Some}
use Rattle.put_form.proofs.KeepLaws.{read_texts}
use Rattle.put_form.proofs.keep.read_keep.Goals as goal

pub returns-in-Some-clause-texts : goal.returns-in-Some-clause-texts
returns-in-Some-clause-texts c = read_texts c.keep_pairs.result c.args.text.now c.args.tokens.now (Some c.deref.result.now) c.keep_pairs.ensures

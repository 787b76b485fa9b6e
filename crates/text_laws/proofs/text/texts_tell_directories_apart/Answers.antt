use Rattle.text_laws.proofs.TextEntries.{told_apart}
use Rattle.text_laws.proofs.text.texts_tell_directories_apart.Goals as goal

pub returns : goal.returns
returns c = told_apart c.args.one.now c.args.other.now c.text_reads_again.ensures c.text_reads_again-2.ensures

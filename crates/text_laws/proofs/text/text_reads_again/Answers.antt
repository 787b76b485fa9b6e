use Rattle.std.proofs.Common.{subst}
use Rattle.object_set.specs.TextValues.{IsTextValue}
use Rattle.text_laws.proofs.TextEntries.{text_is_again, lines_again}
use Rattle.text_laws.proofs.text.text_reads_again.Goals as goal

pub returns : goal.returns
returns c =
    text_is_again c.args.directory.now (subst IsTextValue c.title-title.ensures.value c.title-title.ensures.text) c.len-count.ensures.sound c.recall_entries.ensures
    (lines_again c.args.directory.now.objects c.recall_lines.ensures)

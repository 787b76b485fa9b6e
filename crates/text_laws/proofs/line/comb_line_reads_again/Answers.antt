use Rattle.text_laws.proofs.LineCombs.{comb_again}
use Rattle.text_laws.proofs.line.comb_line_reads_again.Goals as goal

pub returns : goal.returns
returns c = comb_again c.args.name.now c.args.attr.now c.args.tree.now c.bytes-bytes.ensures.named c.requires.ranges c.recall_colour.ensures c.recall_tree.ensures

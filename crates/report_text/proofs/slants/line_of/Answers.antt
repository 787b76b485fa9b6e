use Rattle.report_text.proofs.SlantLaws.{slab_lacks}
use Rattle.report_text.proofs.slants.line_of.Goals as goal

pub returns-clause-one_line : goal.returns-clause-one_line
returns-clause-one_line c = slab_lacks c.args.region.now c.args.slab.now c.path.ensures.line

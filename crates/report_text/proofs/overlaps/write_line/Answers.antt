use Rattle.report_text.proofs.OverlapLaws.{pair_lacks}
use Rattle.report_text.proofs.overlaps.write_line.Goals as goal

pub returns-clause-one_line : goal.returns-clause-one_line
returns-clause-one_line c = pair_lacks c.args.scene.now c.args.pair.now c.push_region.ensures.line c.push_region-2.ensures.line

use Rattle.report_text.proofs.ShotLaws.{part_lacks}
use Rattle.report_text.proofs.shots.line_of.Goals as goal

pub returns-clause-one_line : goal.returns-clause-one_line
returns-clause-one_line c = part_lacks c.args.region.now c.args.lit.now c.path.ensures.line

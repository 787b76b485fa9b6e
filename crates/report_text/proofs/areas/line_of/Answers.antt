use Rattle.report_text.proofs.AreaLaws.{area_lacks}
use Rattle.report_text.proofs.areas.line_of.Goals as goal

pub returns-clause-one_line : goal.returns-clause-one_line
returns-clause-one_line c = area_lacks c.args.region.now c.args.pixels c.path.ensures.line

use Rattle.report_text.proofs.SlantLaws.{same_lines}
use Rattle.report_text.proofs.slants.slant_laws.Goals as goal

pub returns : goal.returns
returns c = same_lines

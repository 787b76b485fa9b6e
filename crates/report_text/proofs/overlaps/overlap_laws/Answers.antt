use Rattle.report_text.proofs.OverlapLaws.{long_lines, many_long}
use Rattle.report_text.proofs.overlaps.overlap_laws.Goals as goal

pub returns-clause-lines : goal.returns-clause-lines
returns-clause-lines c = long_lines

pub returns-clause-pairs : goal.returns-clause-pairs
returns-clause-pairs c = many_long

use Rattle.mged_words.proofs.NumberLines.{in_line, nirt_line, nirtd_line, rt_line, rtcheck_line, rtarea_line, rtedge_line, place_line, cattr_line}
use Rattle.mged_words.proofs.laws.each_with_numbers_has_a_line.Goals as goal

pub returns-clause-make : goal.returns-clause-make
returns-clause-make c = in_line

pub returns-clause-shot : goal.returns-clause-shot
returns-clause-shot c = nirt_line

pub returns-clause-picture : goal.returns-clause-picture
returns-clause-picture c = rt_line

pub returns-clause-check : goal.returns-clause-check
returns-clause-check c = rtcheck_line

pub returns-clause-slant : goal.returns-clause-slant
returns-clause-slant c = nirtd_line

pub returns-clause-area : goal.returns-clause-area
returns-clause-area c = rtarea_line

pub returns-clause-edge : goal.returns-clause-edge
returns-clause-edge c = rtedge_line

pub returns-clause-place : goal.returns-clause-place
returns-clause-place c = place_line

pub returns-clause-set : goal.returns-clause-set
returns-clause-set c = cattr_line

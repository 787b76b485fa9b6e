use Rattle.tcl_words.specs.Cover.{AllBetween}
use Rattle.tcl_words.specs.ReadingSteps.{is_good}
use Rattle.tcl_words.proofs.class.good_end.Given as goal

abbrev pub invariant-loop-end : goal.invariant-loop-end
invariant-loop-end l = AllBetween (is_good l.groups) l.text l.place l.end

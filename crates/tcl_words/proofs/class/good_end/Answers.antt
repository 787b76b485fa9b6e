use Rattle.std.proofs.Common.{◌∙◌, sym}
use Rattle.tcl_words.specs.ReadingSteps.{is_good}
use Rattle.tcl_words.proofs.Classes.{more_between}
use Rattle.tcl_words.proofs.class.good_end.Goals as goal

pub loop-end-preserved : goal.loop-end-preserved
loop-end-preserved c = more_between (is_good c.args.groups) c.args.text.now c.args.place c.loop-end.end c.loop-end.invariant (sym c.is_good.ensures ∙ c.if-not-is_good.false)

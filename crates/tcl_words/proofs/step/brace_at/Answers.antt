use Rattle.std.proofs.Common.{◌∙◌, sym}
use Rattle.tcl_words.proofs.Steps.{brace_step, fault_here}
use Rattle.tcl_words.proofs.step.brace_at.Goals as goal

pub returns-in-Some-clause-fault : goal.returns-in-Some-clause-fault
returns-in-Some-clause-fault c = fault_here c.args.text.now c.args.place c.args.groups c.args.last c.in-Some.fault c.requires.within c.requires.at (sym c.requires.fault ∙ c.in-Some.is)

pub returns-in-None-clause-token : goal.returns-in-None-clause-token
returns-in-None-clause-token c = brace_step c.args.text.now c.args.place c.args.groups c.args.last c.args.kind c.requires.within c.requires.at c.requires.brace (sym c.requires.fault ∙ c.in-None.is)

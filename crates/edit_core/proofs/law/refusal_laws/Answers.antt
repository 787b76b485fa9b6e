use Rattle.edit_core.proofs.VerdictLaws.{earlier_is, cycle_law, deep_law, sound_law, passes_law}
use Rattle.edit_core.proofs.law.refusal_laws.Goals as goal

pub returns-clause-earlier : goal.returns-clause-earlier
returns-clause-earlier c = earlier_is

pub returns-clause-cycle : goal.returns-clause-cycle
returns-clause-cycle c = cycle_law

pub returns-clause-deep : goal.returns-clause-deep
returns-clause-deep c = deep_law

pub returns-clause-sound : goal.returns-clause-sound
returns-clause-sound c = sound_law

pub returns-clause-passes : goal.returns-clause-passes
returns-clause-passes c = passes_law

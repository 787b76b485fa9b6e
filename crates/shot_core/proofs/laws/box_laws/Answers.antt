use Rattle.shot_core.proofs.Boxing.{are_hull_and_meet, met_tells}
use Rattle.shot_core.proofs.laws.box_laws.Goals as goal

pub returns-clause-joined : goal.returns-clause-joined
returns-clause-joined c = are_hull_and_meet

pub returns-clause-met : goal.returns-clause-met
returns-clause-met c = met_tells

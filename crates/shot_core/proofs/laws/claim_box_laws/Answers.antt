use Rattle.shot_core.proofs.InBoxes.{boxes_hold_claims}
use Rattle.shot_core.proofs.Missing.{missed_claim_nothing}
use Rattle.shot_core.proofs.laws.claim_box_laws.Goals as goal

pub returns-clause-held : goal.returns-clause-held
returns-clause-held c = boxes_hold_claims

pub returns-clause-missed : goal.returns-clause-missed
returns-clause-missed c = missed_claim_nothing

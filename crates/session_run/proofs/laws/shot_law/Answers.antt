use Rattle.session_run.proofs.PointLaws.{shots_are_true}
use Rattle.session_run.proofs.laws.shot_law.Goals as goal

pub returns : goal.returns
returns c = shots_are_true

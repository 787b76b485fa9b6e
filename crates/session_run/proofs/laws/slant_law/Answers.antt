use Rattle.session_run.proofs.PointLaws.{slants_along_axes}
use Rattle.session_run.proofs.laws.slant_law.Goals as goal

pub returns : goal.returns
returns c = slants_along_axes

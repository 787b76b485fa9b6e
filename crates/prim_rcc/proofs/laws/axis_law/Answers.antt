use Rattle.prim_rcc.proofs.AxisLaws.{vectors_run_along_axes}
use Rattle.prim_rcc.proofs.laws.axis_law.Goals as goal

pub returns : goal.returns
returns c = vectors_run_along_axes

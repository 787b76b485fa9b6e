use Rattle.solid_set.proofs.Times.{times_keeps_order}
use Rattle.solid_set.proofs.laws.times_law.Goals as goal

pub returns : goal.returns
returns c = times_keeps_order

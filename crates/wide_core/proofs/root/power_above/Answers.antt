use Rattle.wide_core.proofs.Newton.{shifted_above}
use Rattle.wide_core.proofs.root.power_above.Goals as goal

pub returns-clause-above : goal.returns-clause-above
returns-clause-above c = shifted_above c.args.n c.ranges.n.fits

use Rattle.wide_core.proofs.Euclid.{gcd_same}
use Rattle.wide_core.proofs.divisor.gcd.Goals as goal

pub returns-then-b-le-NARROW-clause-same : goal.returns-then-b-le-NARROW-clause-same
returns-then-b-le-NARROW-clause-same c = gcd_same c.args.a c.args.b c.gcd_small.result c.gcd_small.ensures

pub returns-else-a-le-NARROW-clause-same : goal.returns-else-a-le-NARROW-clause-same
returns-else-a-le-NARROW-clause-same c = gcd_same c.args.a c.args.b c.gcd_wide.result c.gcd_wide.ensures

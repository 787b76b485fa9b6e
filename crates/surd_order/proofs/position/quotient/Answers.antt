use Rattle.std.proofs.lemmas.Int.{quot_is, quot_fits}
use mir.Syntax.{w128}
use Rattle.surd_order.proofs.position.quotient.Goals as goal

pub returns : goal.returns
returns c = quot_is w128 c.args.n c.args.divisor c.ranges.n c.ranges.divisor (quot_fits w128 c.args.n c.args.divisor c.ranges.n c.requires.positive)

use Rattle.ranged_position.proofs.RangedLaws.{equal_answer}
use Rattle.ranged_position.proofs.ranged.RangedPosPartialEq.eq.Goals as goal

pub returns-clause-equal : goal.returns-clause-equal
returns-clause-equal c = equal_answer c.is_eq.result c.order.result c.args.self.now c.args.other.now c.is_eq.ensures c.order.ensures.equal

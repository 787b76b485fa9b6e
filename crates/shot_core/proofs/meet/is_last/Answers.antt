use Rattle.std.proofs.Common.{sym, arith}
use Rattle.shot_core.proofs.Reaching.{last_at}
use Rattle.shot_core.proofs.meet.is_last.Goals as goal

pub returns : goal.returns
returns c = sym (last_at c.args.numbers.now c.args.number 0 (omega (arith, c.if-count-eq0.false)))

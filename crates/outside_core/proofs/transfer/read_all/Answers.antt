use Rattle.std.proofs.Common.{◌++◌, take}
use Rattle.std.proofs.KnownBytes.{Consumes-trans}
use Rattle.outside_core.proofs.transfer.read_all.Goals as goal

pub returns-then-count-most-clause-advances : goal.returns-then-count-most-clause-advances
returns-then-count-most-clause-advances g c = (c.loop-turn.bytes.items ++ take c.in-Ok.count c.read.new.buf, Consumes-trans _ (g.S.Source.left c.loop-turn.source) _ _ _ c.loop-turn.invariant.taken c.in-Ok.ensures.front)

pub returns-then-is_err-clause-advances : goal.returns-then-is_err-clause-advances
returns-then-is_err-clause-advances g c = (c.loop-turn.bytes.items ++ take c.in-Ok.count c.read.new.buf, Consumes-trans _ (g.S.Source.left c.loop-turn.source) _ _ _ c.loop-turn.invariant.taken c.in-Ok.ensures.front)

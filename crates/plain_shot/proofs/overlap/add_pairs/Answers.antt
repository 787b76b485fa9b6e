use Rattle.std.proofs.Common.{◌+◌, arith}
use Rattle.overlap_list.proofs.Overlapping.{pair_of}
use Rattle.plain_shot.proofs.Lists.{range_push}
use Rattle.plain_shot.proofs.overlap.add_pairs.Goals as goal

pub loop-two-preserved : goal.loop-two-preserved
loop-two-preserved c =
    range_push (pair_of c.args.one) (c.args.one + 1) c.loop-two.two c.args.pairs.now.items c.loop-two.pairs.items c.push.new.self.items (omega (arith, c.loop-two.auto.two)) c.loop-two.invariant c.in_ok-push.ensures.items

use Rattle.std.proofs.Common.{arith}
use Rattle.oblique_ray.proofs.WeaveLaws.{order_met, segment_met, one_woven}
use Rattle.oblique_ray.proofs.piece.weave_pieces.Goals as goal

pub weave-requires-clause-order : goal.weave-requires-clause-order
weave-requires-clause-order c = order_met c.args.pieces.now c.loop-piece.piece-index _ c.loop-piece.weave (omega (arith, c.loop-piece-test.true)) c.requires.woven c.loop-piece.invariant

pub weave-requires-clause-segment : goal.weave-requires-clause-segment
weave-requires-clause-segment c =
    segment_met c.args.pieces.now c.args.cuts.now c.loop-piece.piece-index _ c.ranked.result c.ranked-in-loop-piece.result (omega (arith, c.loop-piece-test.true)) c.requires.cuts c.requires.woven
    c.ranked.ensures c.ranked-in-loop-piece.ensures

pub loop-piece-preserved : goal.loop-piece-preserved
loop-piece-preserved c =
    one_woven c.args.pieces.now c.args.cuts.now c.loop-piece.piece-index _ c.ranked.result c.ranked-in-loop-piece.result c.loop-piece.weave c.weave.new.self (omega (arith, c.loop-piece-test.true)) c.requires.cuts
    c.loop-piece.invariant c.ranked.ensures c.ranked-in-loop-piece.ensures c.in_ok-weave.ensures.woven

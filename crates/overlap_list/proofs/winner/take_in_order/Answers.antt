use Rattle.std.proofs.Common.{◌∙◌, Some, None, cond, ap}
use Rattle.overlap_list.specs.Winners.{or_else}
use Rattle.overlap_list.specs.Steps.{winner_at, is_claimed_by}
use Rattle.overlap_list.proofs.Winning.{taken_more}
use Rattle.overlap_list.proofs.winner.take_in_order.Goals as goal

pub loop-i-preserved : goal.loop-i-preserved
loop-i-preserved c = record {
  len = c.take_if.ensures.len ∙ c.loop-i.invariant.len;
  done = λ k. taken_more c.args.air k c.loop-i.i c.args.regions.now c.index-regions-i.result (winner_at c.args.winners.now.items k) (winner_at c.loop-i.winners.items k) (winner_at c.take_if.new.winners.items k)
      c.loop-i-test.true (c.loop-i.invariant.done k)
      (c.take_if.ensures.taken k ∙ ap (λ r. or_else (winner_at c.loop-i.winners.items k) (cond (is_claimed_by c.args.air k r) (Some c.loop-i.i) None)) c.index-regions-i.is);
}

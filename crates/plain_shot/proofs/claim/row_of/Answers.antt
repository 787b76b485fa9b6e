use Rattle.bool_weave.specs.Claims.{claims_interval}
use Rattle.std.proofs.Common.{◌∙◌, ◌++◌, ◌∷◌, [], ap}
use Rattle.plain_shot.proofs.Lists.{map_push}
use Rattle.plain_shot.proofs.claim.row_of.Goals as goal

pub loop-interval-preserved : goal.loop-interval-preserved
loop-interval-preserved c =
    map_push (claims_interval c.args.segments.now c.args.tree.now c.args.first) c.args.intervals.now c.loop-interval.interval-index c.interval-item.result c.loop-interval.row.items c.push.new.self.items
    c.loop-interval-test.true c.interval-item.is c.loop-interval.invariant (c.in_ok-push.ensures.items ∙ ap (λ b. c.loop-interval.row.items ++ b ∷ []) c.in_ok-claims_interval.ensures)

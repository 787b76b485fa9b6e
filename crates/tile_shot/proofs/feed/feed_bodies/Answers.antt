use Rattle.std.proofs.Common.{arith, take_all}
use Rattle.std.specs.Arc.{arc_value}
use Rattle.std.specs.Hash.{fed_along}
use Rattle.tile_shot.specs.Same.{digest_fed}
use Rattle.shot_core.proofs.FeedLaws.{mapped_fed}
use Rattle.tile_shot.proofs.feed.feed_bodies.Goals as goal

pub returns : goal.returns
returns g c =
    let all = take_all c.loop-body.body-index c.args.bodies.now (omega arith) in
    fed_along g.H.Hasher.write c.args.state.now c.loop-body.state (mapped_fed digest_fed arc_value c.args.bodies.now) (rw all at c.loop-body.invariant)

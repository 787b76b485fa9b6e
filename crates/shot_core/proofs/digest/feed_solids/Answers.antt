use Rattle.std.specs.Hash.{fed_along}
use Rattle.shot_core.specs.Prepared.{instance_of}
use Rattle.shot_core.specs.Digests.{instance_input}
use Rattle.shot_core.proofs.FeedLaws.{mapped_fed}
use Rattle.shot_core.proofs.digest.feed_solids.Goals as goal

pub returns : goal.returns
returns g c = fed_along g.H.Hasher.write c.args.state.now c.hash.new.state (mapped_fed instance_input instance_of c.args.solids.now) c.hash.ensures

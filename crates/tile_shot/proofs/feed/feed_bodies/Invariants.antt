use Rattle.std.proofs.Common.{◌≡◌, length, take, fold, flat_map}
use Rattle.std.specs.Arc.{arc_value}
use Rattle.std.specs.Hash as fed
use Rattle.tile_shot.specs.Same.{digest_fed}
use Rattle.tile_shot.proofs.feed.feed_bodies.Given as goal

abbrev pub invariant-loop-body : goal.invariant-loop-body
invariant-loop-body g l =
    l.state ≡ fold g.H.Hasher.write (fold g.H.Hasher.write l.fn.state (fed.usize (length l.bodies))) (flat_map (λ b. digest_fed (arc_value b)) (take l.body-index l.bodies))

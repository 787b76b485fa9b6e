use Rattle.std.proofs.Common.{arith}
use Rattle.std.specs.Arc.{arc_value}
use Rattle.view_shot.proofs.TileLaws.{both_ok, lacking_are_shot}
use Rattle.view_shot.proofs.picture.shoot_lacking.Goals as goal

pub returns : goal.returns
returns g c =
    both_ok c.shoot_tiles.result c.shoot_tiles.ensures.len c.shoot_tiles.ensures.each (λ all len each.
    lacking_are_shot (arc_value c.args.scene.now) c.args.view.now c.args.plan.now.names.items c.in_ok-job.job all.items c.in_ok-job.ensures.scene c.in_ok-job.ensures.view c.in_ok-job.ensures.tiles
    (omega (arith, len, all.ok.0, c.in_ok-job.job.tiles.ok.0)) (λ i d lt. (each i d lt).0))

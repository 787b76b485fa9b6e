use Rattle.tile_shot.proofs.ShotLaws.{shot_by}
use Rattle.tile_shot.proofs.tile.shoot_tile.Goals as goal

pub invariant_of-result : goal.invariant_of-result
invariant_of-result c = shot_by c.args.scene.now c.args.view.now c.args.tile _ c.span.result _ c.in_ok-key.ensures c.span.ensures.value c.in_ok-bytes.ensures

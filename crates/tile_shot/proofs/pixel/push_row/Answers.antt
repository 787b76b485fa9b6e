use Rattle.tile_shot.proofs.RowLaws.{pixel_put}
use Rattle.tile_shot.proofs.pixel.push_row.Goals as goal

pub loop-across-preserved : goal.loop-across-preserved
loop-across-preserved c =
    pixel_put c.args.scene.now c.args.view.now c.args.span.column c.loop-across.across c.args.row _ _ _ _ _ c.loop-across.invariant c.ray-ray.ensures.value c.in_ok-colour.ensures c.in_ok-push_colour.ensures

use Rattle.tile_shot.specs.Pixels.{parts_of}
use Rattle.tile_shot.proofs.RowLaws.{row_put}
use Rattle.tile_shot.proofs.pixel.pixels.Goals as goal

pub loop-down-preserved : goal.loop-down-preserved
loop-down-preserved c =
    row_put (parts_of c.args.scene.now c.args.view.now) c.args.span.column c.args.span.row c.args.span.w c.loop-down.down _ _ c.loop-down.invariant c.in_ok-push_row.ensures

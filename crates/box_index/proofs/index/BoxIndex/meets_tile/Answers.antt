use Rattle.std.proofs.Common.{◌&&◌, IsTrue}
use Rattle.std.proofs.lemmas.Result.{IfOk-weaker}
use Rattle.lattice_core.specs.Tiles.{MeetsTile}
use Rattle.box_index.specs.Reaches.{has_points, do_touch}
use Rattle.box_index.proofs.Listing.{places_alike}
use Rattle.box_index.proofs.Touching.{touch_meets_tile}
use Rattle.box_index.proofs.index.BoxIndex.meets_tile.Goals as goal

pub returns : goal.returns
returns c =
    IfOk-weaker c.touches.result _ _
    (λ v h.
    places_alike (λ b. IsTrue (has_points b && do_touch b c.tile_box.result)) (λ b. MeetsTile b c.args.view.now c.args.tile) c.args.self.now c.touches.new.out.items
    (touch_meets_tile c.tile_box.result c.args.view.now c.args.tile c.requires.tile c.tile_box.ensures) h)
    c.touches.ensures

use Rattle.lattice_core.proofs.TileBoxes.{meets_tile, ray_meets_tile}
use Rattle.lattice_core.proofs.tile.box_meets_tile.Goals as goal

pub returns-clause-meets : goal.returns-clause-meets
returns-clause-meets c =
    let is = meets_tile c.args.view.now c.args.tile c.args.b.now c.tile_box.result c.tile_box.ensures in
    (λ t. is.0 (c.boxes_meet.ensures.0 t), λ m. c.boxes_meet.ensures.1 (is.1 m))

pub returns-clause-ray : goal.returns-clause-ray
returns-clause-ray c = λ column row pixel m.
    c.boxes_meet.ensures.1 (ray_meets_tile c.args.view.now c.args.tile c.args.b.now c.tile_box.result c.tile_box.ensures column row pixel m)

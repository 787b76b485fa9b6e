use Rattle.std.proofs.Common.{◌∙◌, ap}
use Rattle.lattice_core.specs.declared.boxes.Box3.{Box3}
use Rattle.shot_core.specs.Pruned.{share_points}
use Rattle.shot_core.proofs.TileMeeting.{sharing_is}
use Rattle.shot_core.proofs.kept.reaches.Goals as goal

pub returns : goal.returns
returns c =
    sharing_is c.box_of.result c.args.place.now c.boxes_meet.result c.boxes_meet.ensures ∙ ap (λ (b : Box3). share_points b c.args.place.now) c.box_of.ensures

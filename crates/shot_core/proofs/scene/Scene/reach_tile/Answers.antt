use Rattle.std.proofs.Common.{◌∙◌, List, ap, subst}
use Rattle.std.proofs.lemmas.Result.{IfOk-weaker}
use Rattle.lattice_core.specs.declared.boxes.Box3.{Box3}
use Rattle.lattice_core.specs.Tiles.{MeetsTile}
use Rattle.box_index.specs.Places.{ArePlacesOf}
use Rattle.shot_core.specs.Prepared.{region_boxes}
use Rattle.shot_core.proofs.scene.Scene.reach_tile.Goals as goal

pub returns : goal.returns
returns c =
    IfOk-weaker c.meets_tile.result _ _
    (λ v h. subst (λ (bs : List Box3). ArePlacesOf (λ b. MeetsTile b c.args.view.now c.args.tile) bs c.meets_tile.new.out.items) (c.self.invariant.boxes_are ∙ ap region_boxes c.self.view_is) h)
    c.meets_tile.ensures

use Rattle.std.proofs.Common.{◌≡◌, ◌∙◌, ◌++◌, ◌∷◌, [], List, take, ap, sym}
use Rattle.std.proofs.lemmas.List.{map_more}
use Rattle.lattice_core.specs.declared.boxes.Box3.{Box3}
use Rattle.shot_core.specs.Regions.{Region}
use Rattle.shot_core.specs.RegionBoxes.{region_box}
use Rattle.shot_core.specs.Prepared.{region_boxes}
use Rattle.shot_core.proofs.scene.boxes_of.Goals as goal

pub loop-region-preserved : goal.loop-region-preserved
loop-region-preserved c =
    let box = λ (r : Region). region_box r.body in
    let regions = c.args.regions.now in
    let i = c.loop-region.region-index in
    let one : c.bounds.result ≡ box c.region-item.result = c.bounds.ensures ∙ ap region_box (c.deref.ensures ∙ c.body.ensures) in
    c.in_ok-push.ensures.items ∙ ap (λ (l : List Box3). l ++ c.bounds.result ∷ []) c.loop-region.invariant
    ∙ ap (λ (b : Box3). region_boxes (take i regions) ++ b ∷ []) (one ∙ ap box c.region-item.is)
    ∙ sym (map_more box regions i c.region-item.result c.loop-region-test.true)

use Rattle.std.proofs.Common.{◌≡◌, ◌∙◌, ◌++◌, List, map, take, ap, sym}
use Rattle.std.proofs.lemmas.List.{take_all}
use Rattle.lattice_core.specs.declared.boxes.Box3.{Box3}
use Rattle.shot_core.specs.Regions.{Region, RegionBody, Instance, instances_of}
use Rattle.shot_core.specs.Prepared.{instance_of, boxes_of}
use Rattle.shot_core.proofs.Reaching.{boxes_more}
use Rattle.shot_core.proofs.scene.instance_boxes.Goals as goal

pub loop-region-init : goal.loop-region-init
loop-region-init c = c.new-boxes.ensures.items

pub loop-region-preserved : goal.loop-region-preserved
loop-region-preserved c =
    let regions = c.args.regions.now in
    let i = c.loop-region.region-index in
    let before = boxes_of (instances_of (take i regions)) in
    let items : map instance_of c.solids.result.now ≡ c.region-item.result.body.instances = c.solids.ensures.value ∙ ap (λ (b : RegionBody). b.instances) (c.deref.ensures ∙ c.body.ensures) in
    c.in_ok-add_boxes.ensures ∙ ap (λ (l : List Box3). l ++ boxes_of (map instance_of c.solids.result.now)) c.loop-region.invariant
    ∙ ap (λ (l : List Instance). before ++ boxes_of l) (items ∙ ap (λ (r : Region). r.body.instances) c.region-item.is)
    ∙ sym (boxes_more regions i c.region-item.result c.loop-region-test.true)

pub returns : goal.returns
returns c =
    c.loop-region.invariant
    ∙ ap (λ (l : List Region). boxes_of (instances_of l)) (take_all c.loop-region.region-index c.args.regions.now c.loop-region-test.false)

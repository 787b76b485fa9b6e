use Rattle.std.proofs.Common.{◌≡◌, ◌∙◌, length, get_or, ap, sym, arith}
use Rattle.std.proofs.lemmas.List.{length-map}
use Rattle.shot_core.specs.Prepared.{instance_of}
use Rattle.shot_core.specs.Regions.{Region, RegionBody}
use Rattle.shot_core.proofs.Numbering.{instances_within}
use Rattle.shot_core.proofs.shot.region_claims.Goals as goal

pub overflow_cast-result : goal.overflow_cast-result
overflow_cast-result c =
    let count : length c.solids.result.now ≡ length c.index-regions-region.result.body.instances =
    sym (length-map c.solids.result.now instance_of) ∙ ap length (c.solids.ensures.value ∙ ap (λ (b : RegionBody). b.instances) (c.deref-3.ensures ∙ c.body-body.ensures)) in
    let at : c.index-regions-region.result ≡ get_or c.args.scene.now c.args.region c.index-regions-region.result =
    c.index-regions-region.is ∙ ap (λ rs. get_or rs c.args.region c.index-regions-region.result) c.regions.ensures.value in
    let within = instances_within c.args.scene.now c.args.region c.index-regions-region.result c.requires in
    omega (arith, count, ap (λ (r : Region). length r.body.instances) at, within, c.regions.ensures.sound.instances)

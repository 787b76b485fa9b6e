use Rattle.std.proofs.Common.{rules, ◌≡◌, ◌∙◌, length, vec_len, ap, arith}
use Rattle.std.proofs.lemmas.List.{length-map}
use Rattle.shot_core.specs.Regions.{Region}
use Rattle.shot_core.specs.RegionBoxes.{region_box}
use Rattle.shot_core.specs.Prepared.{region_boxes}
use Rattle.shot_core.proofs.Claiming.{regions_within}
use Rattle.shot_core.proofs.scene.Scene.indexed_by.Goals as goal

pub build-requires : goal.build-requires
build-requires c =
    let regions = c.args.regions.items in
    let counted : vec_len c.in_ok-boxes.boxes ≡ length c.in_ok-boxes.boxes.items = search rules in
    let same : length c.in_ok-boxes.boxes.items ≡ length regions =
    ap length (c.in_ok-boxes.ensures ∙ ap region_boxes c.deref-2.ensures.value) ∙ length-map regions (λ (r : Region). region_box r.body) in
    omega (arith, counted, same, regions_within regions, c.requires.regions.size)

use Rattle.std.proofs.Common.{◌≡◌, ◌<◌, ◌+◌, ◌∙◌, ◌∷◌, length, map, get_or, drop, ap, sym, arith}
use Rattle.std.proofs.lemmas.List.{drop_more, length-map}
use Rattle.shot_core.specs.Prepared.{instance_of}
use Rattle.shot_core.specs.Regions.{Region, RegionBody}
use Rattle.shot_core.specs.Shots.{woven_of}
use Rattle.shot_core.proofs.Weaving.{woven_next, count_next}
use Rattle.plain_shot.proofs.segment.segments_of.Goals as goal

pub loop-region-preserved : goal.loop-region-preserved
loop-region-preserved c =
    let i = c.loop-region.region-index in
    let r = c.region-item.result in
    let lt : c.loop-region.region-index < length c.args.scene.now = omega (arith, c.loop-region-test.true, ap length c.regions-region-items.ensures.value) in
    let is : r ≡ get_or c.args.scene.now i r = c.region-item.is ∙ ap (λ rs. get_or rs i r) c.regions-region-items.ensures.value in
    let at : drop i c.args.scene.now ≡ r ∷ drop (i + 1) c.args.scene.now = drop_more c.args.scene.now i r lt ∙ ap (λ (x : Region). x ∷ drop (i + 1) c.args.scene.now) (sym is) in
    let items : map instance_of c.solids-solids.result.now ≡ r.body.instances = c.solids-solids.ensures.value ∙ ap (λ (b : RegionBody). b.instances) (c.deref.ensures ∙ c.body.ensures) in
    let rest = drop (i + 1) c.args.scene.now in
    let from = drop i c.args.scene.now in
    let xs = map instance_of c.solids-solids.result.now in
    let n : length (map instance_of c.solids-solids.result.now) ≡ length c.solids-solids.result.now = length-map c.solids-solids.result.now instance_of in
    let count = count_next c.args.ray.now r rest from xs at items in
    record {
      woven = woven_next c.args.ray.now r rest from xs at items c.loop-region.first (length c.solids-solids.result.now) c.loop-region.segments.items c.add_segments.new.segments.items (woven_of c.args.scene.now c.args.ray.now) n
          c.in_ok-add_segments.ensures c.loop-region.invariant.woven;
      left = omega (arith, c.loop-region.invariant.left, count, n);
    }

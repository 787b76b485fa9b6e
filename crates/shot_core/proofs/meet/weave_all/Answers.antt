use Rattle.std.proofs.Common.{◌≡◌, ◌<◌, ◌+◌, ◌∙◌, ◌∷◌, length, map, get_or, drop, ap, sym, arith}
use Rattle.std.proofs.lemmas.List.{drop_more, length-map}
use Rattle.shot_core.specs.Prepared.{instance_of}
use Rattle.shot_core.specs.Regions.{Region, RegionBody, instances_of}
use Rattle.shot_core.specs.Shots.{woven_from}
use Rattle.shot_core.specs.Steps.{hit_from}
use Rattle.shot_core.proofs.Claiming.{regions_within}
use Rattle.shot_core.proofs.Weaving.{met_counted, woven_next, met_next, count_next, hit_next, order_next, few_next}
use Rattle.shot_core.proofs.meet.weave_all.Goals as goal

pub returns-in_err-is_hit-clause-steps : goal.returns-in_err-is_hit-clause-steps
returns-in_err-is_hit-clause-steps g c =
    let lt : c.loop-i.i < length c.args.scene.now = omega (arith, c.loop-i-test.true, ap length c.regions-region-items.ensures.value) in
    let is : c.region-item.result ≡ get_or c.args.scene.now c.loop-i.i c.region-item.result = c.region-item.is ∙ ap (λ rs. get_or rs c.loop-i.i c.region-item.result) c.regions-region-items.ensures.value in
    let at : drop c.loop-i.i c.args.scene.now ≡ c.region-item.result ∷ drop (c.loop-i.i + 1) c.args.scene.now =
    drop_more c.args.scene.now c.loop-i.i c.region-item.result lt ∙ ap (λ (x : Region). x ∷ drop (c.loop-i.i + 1) c.args.scene.now) (sym is) in
    let items : map instance_of c.solids-solids.result.now ≡ c.region-item.result.body.instances = c.solids-solids.ensures.value ∙ ap (λ (b : RegionBody). b.instances) (c.deref.ensures ∙ c.body.ensures) in
    let met = met_next c.args.ray.now c.region-item.result (drop (c.loop-i.i + 1) c.args.scene.now) (drop c.loop-i.i c.args.scene.now) (map instance_of c.solids-solids.result.now) at items in
    let counted = met_counted c.args.ray.now (instances_of c.args.scene.now) in
    (omega (arith, c.weave_region.ensures.steps.0, c.loop-i.invariant.low), omega (arith, c.weave_region.ensures.steps.1, c.loop-i.invariant.high, met, counted))

pub overflow_cast-i : goal.overflow_cast-i
overflow_cast-i g c = omega (arith, c.loop-i-test.true, ap length c.regions-region-items.ensures.value, regions_within c.args.scene.now, c.regions-region-items.ensures.sound.size)

pub returns-in_err-add_hit-clause-steps : goal.returns-in_err-add_hit-clause-steps
returns-in_err-add_hit-clause-steps g c =
    let lt : c.loop-i.i < length c.args.scene.now = omega (arith, c.loop-i-test.true, ap length c.regions-region-items.ensures.value) in
    let is : c.region-item.result ≡ get_or c.args.scene.now c.loop-i.i c.region-item.result = c.region-item.is ∙ ap (λ rs. get_or rs c.loop-i.i c.region-item.result) c.regions-region-items.ensures.value in
    let at : drop c.loop-i.i c.args.scene.now ≡ c.region-item.result ∷ drop (c.loop-i.i + 1) c.args.scene.now =
    drop_more c.args.scene.now c.loop-i.i c.region-item.result lt ∙ ap (λ (x : Region). x ∷ drop (c.loop-i.i + 1) c.args.scene.now) (sym is) in
    let items : map instance_of c.solids-solids.result.now ≡ c.region-item.result.body.instances = c.solids-solids.ensures.value ∙ ap (λ (b : RegionBody). b.instances) (c.deref.ensures ∙ c.body.ensures) in
    let met = met_next c.args.ray.now c.region-item.result (drop (c.loop-i.i + 1) c.args.scene.now) (drop c.loop-i.i c.args.scene.now) (map instance_of c.solids-solids.result.now) at items in
    let counted = met_counted c.args.ray.now (instances_of c.args.scene.now) in
    (omega (arith, c.weave_region.ensures.steps.0, c.loop-i.invariant.low), omega (arith, c.weave_region.ensures.steps.1, c.loop-i.invariant.high, met, counted))

pub loop-i-preserved : goal.loop-i-preserved
loop-i-preserved g c =
    let lt : c.loop-i.i < length c.args.scene.now = omega (arith, c.loop-i-test.true, ap length c.regions-region-items.ensures.value) in
    let is : c.region-item.result ≡ get_or c.args.scene.now c.loop-i.i c.region-item.result = c.region-item.is ∙ ap (λ rs. get_or rs c.loop-i.i c.region-item.result) c.regions-region-items.ensures.value in
    let at : drop c.loop-i.i c.args.scene.now ≡ c.region-item.result ∷ drop (c.loop-i.i + 1) c.args.scene.now =
    drop_more c.args.scene.now c.loop-i.i c.region-item.result lt ∙ ap (λ (x : Region). x ∷ drop (c.loop-i.i + 1) c.args.scene.now) (sym is) in
    let items : map instance_of c.solids-solids.result.now ≡ c.region-item.result.body.instances = c.solids-solids.ensures.value ∙ ap (λ (b : RegionBody). b.instances) (c.deref.ensures ∙ c.body.ensures) in
    let rest = drop (c.loop-i.i + 1) c.args.scene.now in
    let from = drop c.loop-i.i c.args.scene.now in
    let xs = map instance_of c.solids-solids.result.now in
    let n : length (map instance_of c.solids-solids.result.now) ≡ length c.solids-solids.result.now = length-map c.solids-solids.result.now instance_of in
    let met = met_next c.args.ray.now c.region-item.result rest from xs at items in
    let count = count_next c.args.ray.now c.region-item.result rest from xs at items in
    let step = c.in_ok-is_hit.ensures.woven in
    record {
      woven = woven_next c.args.ray.now c.region-item.result rest from xs at items c.loop-i.first (length c.solids-solids.result.now) c.loop-i.weave c.weave_region.new.weave (woven_from c.args.ray.now 0 (instances_of c.args.scene.now)) n step c.loop-i.invariant.woven;
      hit = hit_next c.args.ray.now c.region-item.result rest from xs at items c.loop-i.i c.loop-i.hit.items c.add_hit.new.hit.items (hit_from c.args.ray.now 0 c.args.scene.now) c.in_ok-is_hit.is_hit c.in_ok-is_hit.ensures.hit c.in_ok-add_hit.ensures c.loop-i.invariant.hit;
      low = omega (arith, c.weave_region.ensures.steps.0, c.loop-i.invariant.low);
      high = omega (arith, c.weave_region.ensures.steps.1, c.loop-i.invariant.high, met);
      left = omega (arith, c.loop-i.invariant.left, count, n);
      order = order_next c.args.ray.now c.region-item.result rest from xs at items c.loop-i.first (length c.solids-solids.result.now) c.loop-i.weave c.weave_region.new.weave n step c.loop-i.invariant.order;
      few = few_next c.args.ray.now c.region-item.result rest from xs at items c.loop-i.first (length c.solids-solids.result.now) c.loop-i.weave c.weave_region.new.weave n step c.loop-i.invariant.few;
    }

pub returns-clause-steps : goal.returns-clause-steps
returns-clause-steps g c =
    let counted = met_counted c.args.ray.now (instances_of c.args.scene.now) in
    (c.loop-i.invariant.low, omega (arith, c.loop-i.invariant.high, counted))

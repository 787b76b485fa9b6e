use Rattle.std.proofs.Common.{rules, ◌≡◌, ◌<◌, ◌-◌, ◌++◌, ◌∙◌, List, take, drop, All, length, map, get_or, false, ap, sym, subst, arith}
use Rattle.std.proofs.lemmas.List.{get_or_default, length-map}
use Rattle.bool_weave.specs.declared.woven.Woven.{Woven}
use Rattle.bool_weave.specs.Cuts.{IsSegment}
use Rattle.shot_core.specs.Prepared.{instance_of}
use Rattle.shot_core.specs.Regions.{Instance, Region, RegionBody, has_air}
use Rattle.shot_core.specs.Shots.{woven_from}
use Rattle.shot_core.specs.Steps.{no_region}
use Rattle.first_hit.specs.FirstSteps.{IsOfBody, body_no, first_no}
use Rattle.first_hit.proofs.Owning.{firsts_reach, own_is, own_sound, solid_from}
use Rattle.first_hit.proofs.front.take_region.Goals as goal

pub add_segments-requires-clause-numbers : goal.add_segments-requires-clause-numbers
add_segments-requires-clause-numbers c =
    let lt : c.args.number < length c.regions.result.now = omega (arith, c.requires.number, ap length c.regions.ensures.value) in
    let region : c.index-regions-number.result ≡ get_or c.args.scene.now c.args.number no_region =
    c.index-regions-number.is ∙ get_or_default c.regions.result.now c.args.number _ no_region lt ∙ ap (λ l. get_or l c.args.number no_region) c.regions.ensures.value in
    let items : map instance_of c.solids.result.now ≡ (body_no c.args.scene.now c.args.number).instances =
    c.solids.ensures.value ∙ ap (λ (b : RegionBody). b.instances) (c.deref.ensures ∙ c.body-body.ensures ∙ ap (λ (r : Region). r.body) region) in
    omega (arith, firsts_reach 0 c.args.scene.now c.args.number no_region c.requires.number, c.first-first.ensures, length-map c.solids.result.now instance_of, ap length items, c.regions.ensures.sound.instances)

pub start_of-requires : goal.start_of-requires
start_of-requires c =
    let items : map instance_of c.solids.result.now ≡ c.deref-4.result.now.instances =
    c.solids.ensures.value ∙ ap (λ (b : RegionBody). b.instances) (c.deref.ensures ∙ sym c.deref-4.ensures) in
    let after : c.deref-3.result.now ≡ c.add_segments.new.segments.items = c.deref-3.ensures.value in
    let grown : c.deref-3.result.now ≡ c.args.segments.now.items ++ woven_from c.args.ray.now c.first-first.result (map instance_of c.solids.result.now) = after ∙ c.in_ok-add_segments.ensures.segments in
    subst (λ (xs : List Instance). All (IsOfBody c.first-first.result (length xs)) (take (length c.deref-3.result.now - c.len-from.result) (drop c.len-from.result c.deref-3.result.now))) items
    (subst (All (IsOfBody c.first-first.result (length (map instance_of c.solids.result.now))))
    (sym (own_is c.args.segments.now.items c.deref-3.result.now (woven_from c.args.ray.now c.first-first.result (map instance_of c.solids.result.now)) c.len-from.result grown (search rules)))
    (own_sound c.args.ray.now c.first-first.result (map instance_of c.solids.result.now) c.args.segments.now.items c.deref-3.result.now grown (subst (All (λ (w : Woven). IsSegment w.seg)) (sym after) c.in_ok-add_segments.ensures.sound)))

pub returns-clause-taken : goal.returns-clause-taken
returns-clause-taken c =
    let lt : c.args.number < length c.regions.result.now = omega (arith, c.requires.number, ap length c.regions.ensures.value) in
    let region : c.index-regions-number.result ≡ get_or c.args.scene.now c.args.number no_region =
    c.index-regions-number.is ∙ get_or_default c.regions.result.now c.args.number _ no_region lt ∙ ap (λ l. get_or l c.args.number no_region) c.regions.ensures.value in
    let body : c.deref.result.now ≡ body_no c.args.scene.now c.args.number = c.deref.ensures ∙ c.body-body.ensures ∙ ap (λ (r : Region). r.body) region in
    let same : c.deref-4.result.now ≡ body_no c.args.scene.now c.args.number = c.deref-4.ensures ∙ sym c.deref.ensures ∙ body in
    let items : map instance_of c.solids.result.now ≡ (body_no c.args.scene.now c.args.number).instances = c.solids.ensures.value ∙ ap (λ (b : RegionBody). b.instances) body in
    let grown : c.deref-3.result.now ≡ c.args.segments.now.items ++ woven_from c.args.ray.now c.first-first.result (map instance_of c.solids.result.now) = c.deref-3.ensures.value ∙ c.in_ok-add_segments.ensures.segments in
    let own = own_is c.args.segments.now.items c.deref-3.result.now (woven_from c.args.ray.now c.first-first.result (map instance_of c.solids.result.now)) c.len-from.result grown (search rules)
    ∙ ap (λ n. woven_from c.args.ray.now n (map instance_of c.solids.result.now)) c.first-first.ensures ∙ ap (λ (xs : List Instance). woven_from c.args.ray.now (first_no c.args.scene.now c.args.number) xs) items in
    let dry : has_air (body_no c.args.scene.now c.args.number) ≡ false = ap has_air (sym (c.deref-2.ensures ∙ sym c.deref.ensures ∙ body)) ∙ sym c.has_air.ensures ∙ c.if-has_air.false in
    record {
      start = c.in_ok-start.start;
      first = solid_from c.args.scene.now c.args.ray.now c.args.number dry _ _ _ c.in_ok-start.start own (ap (λ (b : RegionBody). b.tree) same) c.first-first.ensures c.in_ok-start.ensures;
      is = c.better.ensures;
    }

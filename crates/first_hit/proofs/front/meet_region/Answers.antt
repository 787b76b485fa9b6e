use Rattle.std.proofs.Common.{rules, ◌≡◌, ◌<◌, ◌∙◌, length, get_or, ap, subst, refl, inr, arith}
use Rattle.std.proofs.lemmas.List.{get_or_default}
use Rattle.lattice_core.specs.declared.boxes.Box3.{Box3}
use Rattle.shot_core.specs.Regions.{Region}
use Rattle.shot_core.specs.RegionBoxes.{region_box}
use Rattle.shot_core.specs.Steps.{no_region}
use Rattle.first_hit.specs.FirstSteps.{box_no, IsPassed}
use Rattle.first_hit.proofs.Owning.{parts_next}
use Rattle.first_hit.proofs.front.meet_region.Goals as goal

pub returns-then-is_passed-clause-met : goal.returns-then-is_passed-clause-met
returns-then-is_passed-clause-met c =
    let lt : c.args.number < length c.regions.result.now = omega (arith, c.requires.number, ap length c.regions.ensures.value) in
    let region : c.index-regions-number.result ≡ get_or c.args.scene.now c.args.number no_region =
    c.index-regions-number.is ∙ get_or_default c.regions.result.now c.args.number _ no_region lt ∙ ap (λ l. get_or l c.args.number no_region) c.regions.ensures.value in
    let box : c.lent_bounds-bounds.result.now ≡ box_no c.args.scene.now c.args.number = c.lent_bounds-bounds.ensures ∙ ap region_box (c.deref.ensures ∙ c.body.ensures ∙ ap (λ (r : Region). r.body) region) in
    inr (record { passed = subst (λ (b : Box3). IsPassed b c.args.ray.now c.args.best.now) box (c.is_passed.ensures c.if-is_passed.true); same = refl; kept = refl })

pub returns-clause-parts : goal.returns-clause-parts
returns-clause-parts c =
    parts_next c.args.scene.now c.args.ray.now c.args.number c.args.segments.now.items c.take_region.new.segments.items c.args.parts.now.items c.push.new.self.items c.len-from.result c.len.result c.requires.number
    c.in_ok-take_region.ensures.segments (search rules) (search rules) c.in_ok-push.ensures.items c.requires.parts

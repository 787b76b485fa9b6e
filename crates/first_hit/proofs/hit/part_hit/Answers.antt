use Rattle.std.proofs.Common.{◌≡◌, ◌<◌, ◌∙◌, length, get_or, ap, arith}
use Rattle.std.proofs.lemmas.List.{get_or_default}
use Rattle.std.proofs.lemmas.Result.{IfOk-weaker}
use Rattle.shot_core.specs.Regions.{Region, RegionBody}
use Rattle.shot_core.specs.Steps.{no_region}
use Rattle.first_hit.specs.FirstSteps.{body_no, part_in, own_hit, lower_hit, part_hit}
use Rattle.first_hit.proofs.hit.part_hit.Goals as goal

pub returns : goal.returns
returns c =
    let n = c.args.part.now.region in
    let own = part_in c.args.segments.now c.args.part.now in
    let lt : c.args.part.now.region < length c.regions.result.now = omega (arith, c.requires.part.there, ap length c.regions.ensures.value) in
    let region : c.index-regions-part.result ≡ get_or c.args.scene.now c.args.part.now.region no_region =
    c.index-regions-part.is ∙ get_or_default c.regions.result.now c.args.part.now.region _ no_region lt ∙ ap (λ l. get_or l c.args.part.now.region no_region) c.regions.ensures.value in
    let body : c.deref.result.now ≡ body_no c.args.scene.now c.args.part.now.region = c.deref.ensures ∙ c.body-body.ensures ∙ ap (λ (r : Region). r.body) region in
    let same : lower_hit c.args.best (own_hit own c.deref.result.now.tree c.first-first.result c.args.front.now.start) ≡ lower_hit c.args.best (part_hit c.args.scene.now c.args.segments.now c.args.front.now.start c.args.part.now) =
    ap (λ (b : RegionBody). lower_hit c.args.best (own_hit own b.tree c.first-first.result c.args.front.now.start)) body ∙ ap (λ m. lower_hit c.args.best (own_hit own (body_no c.args.scene.now n).tree m c.args.front.now.start)) c.first-first.ensures in
    IfOk-weaker c.lower_hit.result (λ r. r ≡ lower_hit c.args.best (own_hit own c.deref.result.now.tree c.first-first.result c.args.front.now.start)) (λ r. r ≡ lower_hit c.args.best (part_hit c.args.scene.now c.args.segments.now c.args.front.now.start c.args.part.now))
    (λ r h. h ∙ same) c.lower_hit.ensures

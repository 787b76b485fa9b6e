use Rattle.std.proofs.Common.{◌≡◌, ◌-◌, ◌<◌, ◌∙◌, [], ℕ, Err, List, get_or, length, ap, subst, sym, arith, rules}
use Rattle.std.specs.Prelude.{slice_index_or}
use Rattle.shot_core.specs.Regions.{Region}
use Rattle.report_text.specs.Areas.{area_lines, line_if}
use Rattle.report_text.specs.Steps.{IsPushed}
use Rattle.report_text.specs.Texts.{IsText}
use Rattle.report_text.proofs.PushLaws.{pushed_few, each_fault, no_text}
use Rattle.report_text.proofs.areas.area_text.Goals as goal

pub push_area-requires : goal.push_area-requires
push_area-requires c =
    omega (arith, c.requires, pushed_few c.loop-region.left [] c.loop-region.body _ c.args.room c.loop-region.invariant)

pub returns-in_err-left : goal.returns-in_err-left
returns-in_err-left c =
    let fault = c.in_err-left.field-0.0 in
    let region : Region = c.region-item.result in
    let regions : c.regions-region-items.result.now ≡ c.args.scene.now = c.regions-region-items.ensures.value in
    let pixels_at : ℕ → ℕ = λ place. slice_index_or c.args.areas.now (place - 1) 0 in
    let pixels : c.area_at-pixels.result ≡ pixels_at region.place = c.area_at-pixels.ensures ∙ ap pixels_at c.place.ensures in
    let lines = area_lines c.args.scene.now pixels_at in
    let same : c.from_residual.result ≡ Err fault = search rules in
    subst (λ r. IsText r lines c.args.room) (sym same)
    (no_text fault [] [] lines c.args.room
    (each_fault (λ (r : Region). line_if r (pixels_at r.place)) c.args.scene.now c.loop-region.region-index region fault c.loop-region.left [] c.loop-region.body c.push_area.new.body [] [] c.args.room
    (subst (λ (rs : List Region). c.loop-region.region-index < length rs) regions c.loop-region-test.true)
    (subst (λ (rs : List Region). region ≡ get_or rs c.loop-region.region-index region) regions c.region-item.is)
    c.loop-region.invariant
    (subst (λ n. IsPushed (Err fault) c.loop-region.body c.push_area.new.body (line_if region n) c.loop-region.left) pixels c.in_err-left.ensures)))

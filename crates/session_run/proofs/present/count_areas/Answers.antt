use Rattle.std.proofs.Common.{◌≡◌, ◌≤◌, ◌-◌, ◌∙◌, ℕ, List, get_or, ap, sym, subst}
use Rattle.std.specs.Prelude.{All}
use Rattle.std.specs.Arc.{arc_value}
use Rattle.std.proofs.lemmas.Result.{IfOk-weaker}
use Rattle.area_tool.specs.Areas.{areas_of}
use Rattle.area_tool.specs.Presented.{view_presents}
use Rattle.report_text.specs.Areas.{area_lines}
use Rattle.report_text.specs.Texts.{IsText}
use Rattle.shot_core.specs.Regions.{Region}
use Rattle.session_run.specs.Replies.{lines_of_areas, most_used}
use Rattle.session_run.proofs.PresentLaws.{areas_told}
use Rattle.session_run.proofs.present.count_areas.Goals as goal

pub areas-requires : goal.areas-requires
areas-requires g c =
    let scene : List Region = arc_value c.args.scene.now in
    let is : c.deref.result.now ≡ view_presents scene c.view.result = c.deref.ensures.value ∙ c.in_ok-all.ensures in
    let most : All (λ r. r.place ≤ c.greatest_place.result) scene = subst (λ (rs : List Region). All (λ r. r.place ≤ c.greatest_place.result) rs) c.deref-2.ensures c.greatest_place.ensures.most in
    subst (λ (ps : List ℕ). All (λ place. place ≤ c.greatest_place.result) ps) (sym is) (c.present_laws.ensures.places scene c.view.result c.greatest_place.result most)

pub returns : goal.returns
returns g c =
    let scene : List Region = arc_value c.args.scene.now in
    let is : c.deref.result.now ≡ view_presents scene c.view.result = c.deref.ensures.value ∙ c.in_ok-all.ensures in
    let most : All (λ r. r.place ≤ c.greatest_place.result) scene = subst (λ (rs : List Region). All (λ r. r.place ≤ c.greatest_place.result) rs) c.deref-2.ensures c.greatest_place.ensures.most in
    let least : All (λ r. 1 ≤ r.place) scene = subst (λ (rs : List Region). All (λ r. 1 ≤ r.place) rs) c.deref-2.ensures c.greatest_place.ensures.least in
    let counts : c.deref-4.result.now ≡ areas_of c.deref.result.now c.greatest_place.result = c.deref-4.ensures.value ∙ c.in_ok-counts.ensures.areas in
    let lines : area_lines scene (λ place. get_or c.deref-4.result.now (place - 1) 0) ≡ lines_of_areas scene c.args.view.now =
    areas_told scene c.view.result c.deref.result.now c.deref-4.result.now c.greatest_place.result is counts least most ∙ ap (lines_of_areas scene) c.view.ensures.value in
    let here : IsText c.area_text.result (area_lines scene (λ place. get_or c.deref-4.result.now (place - 1) 0)) (most_used - c.args.used) =
    subst (λ (rs : List Region). IsText c.area_text.result (area_lines rs (λ place. get_or c.deref-4.result.now (place - 1) 0)) (most_used - c.args.used)) c.deref-3.ensures c.area_text.ensures in
    IfOk-weaker c.found_or_quota.result _ _
    (λ o h. h (lines_of_areas scene c.args.view.now) c.args.used c.requires (subst (λ (ls : List (List ℕ)). IsText c.area_text.result ls (most_used - c.args.used)) lines here)) c.found_or_quota.ensures

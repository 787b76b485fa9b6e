use Rattle.std.proofs.Common.{◌≡◌, ◌-◌, ◌∙◌, List, IfErr, IfOk, length, subst, arith}
use Rattle.std.specs.Arc.{arc_value}
use Rattle.std.proofs.lemmas.Result.{IfOk-weaker}
use Rattle.overlap_list.specs.Overlaps.{IsTooMany}
use Rattle.shot_core.specs.Regions.{Region}
use Rattle.shot_core.specs.declared.pair.Pair.{Pair}
use Rattle.report_text.specs.Overlaps.{overlap_lines}
use Rattle.report_text.specs.Texts.{IsText}
use Rattle.report_text.proofs.OverlapLaws.{many_long}
use Rattle.tile_shot.specs.Reports.{view_report}
use Rattle.session_run.specs.Replies.{most_used, lines_alone, lines_of_check}
use Rattle.session_run.proofs.PictureLaws.{past_quota}
use Rattle.session_run.proofs.check.told_pairs.Goals as goal

pub returns-in-Ok : goal.returns-in-Ok
returns-in-Ok c =
    let scene : List Region = arc_value c.args.scene.now in
    let here : IsText c.overlap_text.result (overlap_lines scene c.deref-in-Ok.result.now) (most_used - c.args.used) =
    subst (λ (s : List Region). IsText c.overlap_text.result (overlap_lines s c.deref-in-Ok.result.now) (most_used - c.args.used)) c.deref.ensures c.overlap_text.ensures in
    IfOk-weaker c.found_or_quota.result _ _ (λ o h view is fault.
    let report : c.deref-in-Ok.result.now ≡ view_report scene view = c.deref-in-Ok.ensures.value ∙ subst (λ r. IfOk r (λ v. v.items ≡ view_report scene view)) c.in-Ok.is is in
    h (lines_of_check scene view) c.args.used c.requires
    (subst (λ (pairs : List Pair). IsText c.overlap_text.result (overlap_lines scene pairs) (most_used - c.args.used)) report here)) c.found_or_quota.ensures

pub returns-in-Err : goal.returns-in-Err
returns-in-Err c =
    let scene : List Region = arc_value c.args.scene.now in
    IfOk-weaker c.faulty.result _ _ (λ o h view is fault.
    let both = h (length (view_report scene view)) (subst (λ r. IfErr r (IsTooMany (length (view_report scene view)))) c.in-Err.is fault) in
    both.0 ∙ past_quota c.args.used (lines_alone (lines_of_check scene view)) c.requires (omega (arith, many_long scene (view_report scene view) (omega (arith, both.1))))) c.faulty.ensures

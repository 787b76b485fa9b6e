use Rattle.std.proofs.Common.{◌≡◌, ◌-◌, ◌∙◌, List, ap, subst}
use Rattle.std.proofs.lemmas.Result.{IfOk-weaker}
use Rattle.oblique_ray.specs.declared.slab.Slab.{Slab}
use Rattle.oblique_ray.specs.Shots.{slabs_on}
use Rattle.report_text.specs.Slants.{slant_lines}
use Rattle.report_text.specs.Texts.{IsText}
use Rattle.slant_ray.specs.declared.ray.SlantRay.{SlantRay}
use Rattle.slant_ray.specs.Rays.{direction_of}
use Rattle.session_run.specs.Replies.{lines_of_slant, most_used}
use Rattle.session_run.proofs.answer.shoot_slanted.Goals as goal

pub returns : goal.returns
returns c =
    let slabs : c.deref.result.now ≡ slabs_on c.args.scene.now c.args.ray.now.origin (direction_of c.args.ray.now) =
    c.deref.ensures.value ∙ c.in_ok-slabs.ensures.slabs ∙ ap (λ (r : SlantRay). slabs_on c.args.scene.now r.origin (direction_of r)) c.ray.ensures.value in
    IfOk-weaker c.found_or_quota.result _ _
    (λ o h. h (lines_of_slant c.args.scene.now c.args.ray.now) c.args.used c.requires
    (subst (λ (ss : List Slab). IsText c.slant_text.result (slant_lines c.args.scene.now ss) (most_used - c.args.used)) slabs c.slant_text.ensures)) c.found_or_quota.ensures

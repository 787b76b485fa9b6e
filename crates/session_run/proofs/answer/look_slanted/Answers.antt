use Rattle.std.proofs.Common.{◌≡◌, Ok, List, IfOk, subst}
use Rattle.std.specs.Arc.{arc_value}
use Rattle.shot_core.specs.Regions.{Region}
use Rattle.session_run.specs.Replies.{lines_alone, lines_of_slant, slant_of, within_quota}
use Rattle.session_run.proofs.KeepLaws.{of_scene, told_as}
use Rattle.session_run.proofs.answer.look_slanted.Goals as goal

pub returns-in-Ok-clause-outcome : goal.returns-in-Ok-clause-outcome
returns-in-Ok-clause-outcome c =
    told_as c.shoot_slanted-outcome.result c.args.used (Ok (lines_alone (lines_of_slant (arc_value c.in-Ok.kept.scene) c.args.ray.now))) (slant_of c.args.directory.now.objects c.args.ray.now c.args.names.now)
    (of_scene c.args.directory.now.objects c.args.names.now (arc_value c.in-Ok.kept.scene) (λ scene. lines_alone (lines_of_slant scene c.args.ray.now)) c.in-Ok.ensures.scene.1)
    (subst (λ (scene : List Region). IfOk c.shoot_slanted-outcome.result (λ outcome. outcome ≡ within_quota c.args.used (Ok (lines_alone (lines_of_slant scene c.args.ray.now))))) c.deref.ensures c.shoot_slanted-outcome.ensures)

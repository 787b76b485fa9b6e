use Rattle.std.proofs.Common.{Ok}
use Rattle.std.specs.Arc.{arc_value}
use Rattle.session_run.specs.Replies.{lines_alone, lines_of_areas, area_of}
use Rattle.session_run.proofs.KeepLaws.{of_scene, told_as}
use Rattle.session_run.proofs.answer.look_at_areas.Goals as goal

pub returns-in-Ok-clause-outcome : goal.returns-in-Ok-clause-outcome
returns-in-Ok-clause-outcome g c =
    told_as c.count_areas-outcome.result c.args.used (Ok (lines_alone (lines_of_areas (arc_value c.in-Ok.kept.scene) c.args.view.now))) (area_of c.args.directory.now.objects c.args.view.now c.args.names.now)
    (of_scene c.args.directory.now.objects c.args.names.now (arc_value c.in-Ok.kept.scene) (λ scene. lines_alone (lines_of_areas scene c.args.view.now)) c.in-Ok.ensures.scene.1) c.count_areas-outcome.ensures

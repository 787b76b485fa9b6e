use Rattle.std.proofs.Common.{Ok}
use Rattle.std.specs.Arc.{arc_value}
use Rattle.session_run.specs.Replies.{edged, edge_of}
use Rattle.session_run.proofs.KeepLaws.{of_scene, told_as}
use Rattle.session_run.proofs.answer.look_at_edges.Goals as goal

pub returns-in-Ok-clause-outcome : goal.returns-in-Ok-clause-outcome
returns-in-Ok-clause-outcome g c =
    told_as c.draw_edges-outcome.result c.args.used (Ok (edged (arc_value c.in-Ok.kept.scene) c.args.file.now c.args.view.now)) (edge_of c.args.directory.now.objects c.args.file.now c.args.view.now c.args.names.now)
    (of_scene c.args.directory.now.objects c.args.names.now (arc_value c.in-Ok.kept.scene) (λ scene. edged scene c.args.file.now c.args.view.now) c.in-Ok.ensures.scene.1) c.draw_edges-outcome.ensures

use Rattle.std.proofs.Common.{◌∙◌}
use Rattle.std.specs.Arc.{arc_value}
use Rattle.view_shot.proofs.CheckLaws.{no_report}
use Rattle.view_shot.proofs.check.check_view.Goals as goal

pub check_rest-requires-clause-before : goal.check_rest-requires-clause-before
check_rest-requires-clause-before g c = λ κs h. c.new.ensures.items ∙ no_report (arc_value c.args.scene.now) c.args.view.now

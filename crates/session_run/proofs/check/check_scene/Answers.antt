use Rattle.std.specs.Arc.{arc_value}
use Rattle.session_run.proofs.CheckLaws.{told_checked}
use Rattle.session_run.proofs.check.check_scene.Goals as goal

pub returns : goal.returns
returns g c =
    told_checked _ _ c.told_pairs.result c.args.used (arc_value c.args.scene.now) c.view.result c.args.view.now c.view.ensures.value c.told_pairs.ensures c.check_view-pairs.ensures.pairs c.check_view-pairs.ensures.fault

use Rattle.std.specs.Arc.{arc_value}
use Rattle.session_run.proofs.FlyLaws.{check_flies}
use Rattle.session_run.proofs.flight.post_overlaps.Goals as goal

pub returns-clause-posted : goal.returns-clause-posted
returns-clause-posted g c =
    let posted = c.in_ok-posted.field-0 in
    check_flies c.args.directory.now c.args.own.now c.args.view.now c.args.names.now (arc_value c.in-Ok.kept.scene) c.in-Ok.ensures.scene.1 (arc_value posted.scene) (arc_value posted.flight.scene) posted.flight.view
    c.in_ok-posted.ensures.scene c.in_ok-posted.ensures.flight c.in_ok-posted.ensures.view

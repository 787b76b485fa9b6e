use Rattle.std.proofs.Common.{◌≡◌, Err, MatchResult, subst}
use Rattle.std.specs.Arc.{arc_value}
use Rattle.session_run.specs.Own.{OwnState}
use Rattle.session_run.specs.Pictures.{IsFlightOf, picture_outcome}
use Rattle.session_run.specs.Replies.{Outcome}
use Rattle.session_run.proofs.FlyLaws.{picture_flies}
use Rattle.session_run.proofs.flight.post_regions.Goals as goal

pub returns-in-Ok-2-clause-posted : goal.returns-in-Ok-2-clause-posted
returns-in-Ok-2-clause-posted g c =
    let scene = arc_value c.in-Ok.kept.scene in
    let flying = c.in-Ok-2.flying in
    let posted = subst (λ r. MatchResult r (λ f. IsFlightOf c.own.inside.used c.own.inside.kept scene c.args.file.now c.args.view.now (arc_value f.flight.scene) f.flight.view f.flight.plan.names.items f.frame)
    (λ refusal. ◌≡◌ {A = Outcome} (Err refusal) (picture_outcome c.own.inside.used c.own.inside.kept scene c.args.file.now c.args.view.now))) c.in-Ok-2.is c.in_ok-flying.ensures in
    picture_flies c.args.directory.now c.args.own.now c.args.view.now c.args.names.now scene c.in-Ok.ensures.scene.1 c.args.file.now (arc_value flying.flight.scene) flying.flight.view flying.flight.plan.names.items flying.frame
    (subst (λ (o : OwnState). IsFlightOf o.used o.tiles scene c.args.file.now c.args.view.now (arc_value flying.flight.scene) flying.flight.view flying.flight.plan.names.items flying.frame) c.own.view_is posted)

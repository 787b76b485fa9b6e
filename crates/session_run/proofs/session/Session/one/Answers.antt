use Rattle.std.proofs.Common.{subst}
use Rattle.directory.specs.Listing.{Listing}
use Rattle.session_merge.specs.Answered.{shown_as}
use Rattle.session_run.specs.Answers.{core_answer}
use Rattle.session_run.specs.Points.{IsTrueReply}
use Rattle.session_run.proofs.PointLaws.{answered_true}
use Rattle.session_run.proofs.session.Session.one.Goals as goal

pub returns-clause-points : goal.returns-clause-points
returns-clause-points g c =
    subst (λ (d : Listing). IsTrueReply d.objects c.args.command.now (core_answer c.one.result).reply) c.deref.ensures
    (answered_true c.deref.result.now c.args.version c.self.inside.course.own (shown_as c.args.command.now (core_answer c.one.result)) (core_answer c.one.result) c.one.ensures.answer)

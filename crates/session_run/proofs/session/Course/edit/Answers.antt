use Rattle.std.proofs.Common.{sym, subst}
use Rattle.session_run.specs.Replies.{Outcome}
use Rattle.session_run.specs.Sessions.{IsNext}
use Rattle.session_run.proofs.SessionLaws.{edit_next}
use Rattle.session_run.proofs.session.Course.edit.Goals as goal

pub returns : goal.returns
returns g c = λ own.
    subst (λ (o : Outcome). IsNext c.args.table.now.told.state c.args.share.value own c.args.pass.now c.edit-version.new.pass (record { version = c.edit-version.result.version; outcome = o }) own)
    (sym c.outcome_of_edit-outcome.ensures)
    (edit_next c.args.table.now.told.state c.args.share.value own c.args.pass.now c.edit-version.new.pass c.edit-version.result.version c.edit-version.result.answer c.requires.edits c.edit-version.ensures)

use Rattle.std.proofs.Common.{◌≡◌, Err, IfOk, subst, sym, ◌∙◌}
use Rattle.version_table.specs.Run.{state_after}
use Rattle.version_table.specs.Passes.{Adds}
use Rattle.version_table.specs.Run.{note_of}
use Rattle.command_set.specs.declared.command.Command.{Command}
use Rattle.command_set.specs.declared.refusal.Refusal.TheVariants.{Memory}
use Rattle.edit_core.specs.Modelling.{next}
use Rattle.session_run.specs.Sessions.{IsNext}
use Rattle.session_run.proofs.SessionLaws.{current_here, current_next, current_there, look_next, missed_look}
use Rattle.session_run.proofs.session.Course.look.Goals as goal

pub one-requires-clause-current : goal.one-requires-clause-current
one-requires-clause-current g c = λ κs h.
    current_here c.args.self.now.keep c.args.table.now.told.state c.deref.result.now c.view-version.result.version c.view-version.new.pass.seen c.view-version.ensures.version
    (c.deref.ensures ∙ (subst (λ r. IfOk r (λ state. state.value ≡ state_after next c.args.table.now.told.state c.view-version.new.pass.seen)) c.in-Ok.is c.view-version.ensures.state))
    (current_next c.args.self.now.keep c.args.table.now.told.state c.view-version.ensures.adds.0 _ c.args.pass.now c.view-version.new.pass c.view-version.ensures.adds.1 c.requires.current)

pub returns-in-Ok-clause-next : goal.returns-in-Ok-clause-next
returns-in-Ok-clause-next g c =
    let adds : Adds c.view-version.ensures.adds.0 (note_of c.args.pass.now.session c.args.command.now _) c.args.pass.now c.view-version.new.pass =
    subst (λ (x : Command). Adds c.view-version.ensures.adds.0 (note_of c.args.pass.now.session x _) c.args.pass.now c.view-version.new.pass) c.requires.share c.view-version.ensures.adds.1 in
    look_next c.args.table.now.told.state c.args.command.now c.args.self.now.own c.args.pass.now c.view-version.new.pass c.view-version.result.version c.requires.looks c.view-version.ensures.adds.0 adds c.view-version.ensures.version
    c.deref.result.now c.one.result c.one.new.self.own
    (c.deref.ensures ∙ (subst (λ r. IfOk r (λ state. state.value ≡ state_after next c.args.table.now.told.state c.view-version.new.pass.seen)) c.in-Ok.is c.view-version.ensures.state))
    c.one.ensures.answer c.one.ensures.own

pub returns-in-Err-clause-next : goal.returns-in-Err-clause-next
returns-in-Err-clause-next g c =
    let adds : Adds c.view-version.ensures.adds.0 (note_of c.args.pass.now.session c.args.command.now _) c.args.pass.now c.view-version.new.pass =
    subst (λ (x : Command). Adds c.view-version.ensures.adds.0 (note_of c.args.pass.now.session x _) c.args.pass.now c.view-version.new.pass) c.requires.share c.view-version.ensures.adds.1 in
    subst (IsNext c.args.table.now.told.state c.args.command.now c.args.self.now.own c.args.pass.now c.view-version.new.pass (record { version = c.view-version.result.version; outcome = Err Memory })) (sym c.forget.ensures)
    (missed_look c.args.table.now.told.state c.args.command.now c.args.self.now.own c.args.pass.now c.view-version.new.pass c.view-version.result.version c.requires.looks c.view-version.ensures.adds.0 adds c.view-version.ensures.version)

pub returns-in-Err-clause-current : goal.returns-in-Err-clause-current
returns-in-Err-clause-current g c =
    current_next c.args.self.now.keep c.args.table.now.told.state c.view-version.ensures.adds.0 _ c.args.pass.now c.view-version.new.pass c.view-version.ensures.adds.1 c.requires.current

pub returns-in-Ok-clause-current : goal.returns-in-Ok-clause-current
returns-in-Ok-clause-current g c =
    current_there c.one.new.self.keep c.args.table.now.told.state c.deref.result.now c.view-version.result.version c.view-version.new.pass.seen c.view-version.ensures.version
    (c.deref.ensures ∙ (subst (λ r. IfOk r (λ state. state.value ≡ state_after next c.args.table.now.told.state c.view-version.new.pass.seen)) c.in-Ok.is c.view-version.ensures.state)) c.one.ensures.current

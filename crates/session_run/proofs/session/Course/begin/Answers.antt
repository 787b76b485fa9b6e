use Rattle.std.proofs.Common.{◌≡◌, ◌∙◌, true, Err, IfOk, ap, sym, subst}
use Rattle.std.specs.Arc.{arc_value}
use Rattle.version_table.specs.Passes.{Adds}
use Rattle.version_table.specs.Run.{note_of, state_after}
use Rattle.command_set.specs.declared.command.Command.{Command}
use Rattle.edit_core.specs.Modelling.{next}
use Rattle.command_set.specs.declared.refusal.Refusal.TheVariants.{Memory}
use Rattle.session_run.specs.Flights.{IsLook, does_fly}
use Rattle.session_run.specs.Replies.{forgotten}
use Rattle.session_run.specs.Sessions.{IsNext}
use Rattle.session_run.proofs.FlightLaws.{begun_next, shooting}
use Rattle.session_run.proofs.SessionLaws.{current_here, current_next, current_there, look_next, missed_look}
use Rattle.session_run.proofs.session.Course.begin.Goals as goal

pub post-requires-clause-current : goal.post-requires-clause-current
post-requires-clause-current g c = λ κs h.
    current_here c.args.self.now.keep c.args.table.now.told.state (arc_value c.in-Ok.directory) c.view-version.result.version c.view-version.new.pass.seen c.view-version.ensures.version
    (subst (λ r. IfOk r (λ state. arc_value state ≡ state_after next c.args.table.now.told.state c.view-version.new.pass.seen)) c.in-Ok.is c.view-version.ensures.state)
    (current_next c.args.self.now.keep c.args.table.now.told.state c.view-version.ensures.adds.0 _ c.args.pass.now c.view-version.new.pass c.view-version.ensures.adds.1 c.requires.current)

pub returns-then-does_fly-clause-next : goal.returns-then-does_fly-clause-next
returns-then-does_fly-clause-next g c =
    let task : Command = c.args.task in
    let share : arc_value c.task.inside.share ≡ task = c.task.invariant ∙ c.task.view_is in
    let adds : Adds c.view-version.ensures.adds.0 (note_of c.args.pass.now.session task _) c.args.pass.now c.view-version.new.pass =
    subst (λ (x : Command). Adds c.view-version.ensures.adds.0 (note_of c.args.pass.now.session x _) c.args.pass.now c.view-version.new.pass) share c.view-version.ensures.adds.1 in
    let flies : does_fly task ≡ true = ap does_fly (sym (c.deref.ensures ∙ c.task.view_is)) ∙ sym c.does_fly.ensures ∙ c.if-does_fly.true in
    begun_next c.args.table.now.told.state task c.args.self.now.own c.post.new.self.own c.args.pass.now c.view-version.new.pass (arc_value c.in-Ok.directory) c.view-version.result.version (arc_value c.task.inside.command) c.post.result
    c.requires.looks (shooting task flies) c.view-version.ensures.adds.0 adds c.view-version.ensures.version
    (subst (λ r. IfOk r (λ state. arc_value state ≡ state_after next c.args.table.now.told.state c.view-version.new.pass.seen)) c.in-Ok.is c.view-version.ensures.state) c.task.view_is c.post.ensures.begun

pub one-requires-clause-current : goal.one-requires-clause-current
one-requires-clause-current g c = λ κs h.
    current_here c.args.self.now.keep c.args.table.now.told.state c.deref-else-does_fly.result.now c.view-version.result.version c.view-version.new.pass.seen c.view-version.ensures.version
    (c.deref-else-does_fly.ensures ∙ subst (λ r. IfOk r (λ state. arc_value state ≡ state_after next c.args.table.now.told.state c.view-version.new.pass.seen)) c.in-Ok.is c.view-version.ensures.state)
    (current_next c.args.self.now.keep c.args.table.now.told.state c.view-version.ensures.adds.0 _ c.args.pass.now c.view-version.new.pass c.view-version.ensures.adds.1 c.requires.current)

pub returns-in-Ok : goal.returns-in-Ok
returns-in-Ok g c =
    let task : Command = c.args.task in
    let told = c.args.table.now.told.state in
    let adds : Adds c.view-version.ensures.adds.0 (note_of c.args.pass.now.session task _) c.args.pass.now c.view-version.new.pass =
    subst (λ (x : Command). Adds c.view-version.ensures.adds.0 (note_of c.args.pass.now.session x _) c.args.pass.now c.view-version.new.pass) (c.task.invariant ∙ c.task.view_is) c.view-version.ensures.adds.1 in
    let is = c.deref-else-does_fly.ensures ∙ subst (λ r. IfOk r (λ state. arc_value state ≡ state_after next told c.view-version.new.pass.seen)) c.in-Ok.is c.view-version.ensures.state in
    let look : IsLook c.deref-else-does_fly.result.now c.view-version.result.version task c.args.self.now.own c.one.result c.one.new.self.own =
    subst (λ (x : Command). IsLook c.deref-else-does_fly.result.now c.view-version.result.version x c.args.self.now.own c.one.result c.one.new.self.own) (c.deref-else-does_fly-2.ensures ∙ c.task.view_is) (c.one.ensures.answer, c.one.ensures.own) in
    record {
      next = look_next told task c.args.self.now.own c.args.pass.now c.view-version.new.pass c.view-version.result.version c.requires.looks c.view-version.ensures.adds.0 adds c.view-version.ensures.version
          c.deref-else-does_fly.result.now c.one.result c.one.new.self.own is look.0 look.1;
      quota = c.one.ensures.quota;
      current = current_there c.one.new.self.keep told c.deref-else-does_fly.result.now c.view-version.result.version c.view-version.new.pass.seen c.view-version.ensures.version is c.one.ensures.current;
      session = c.one.ensures.session;
    }

pub returns-clause-next : goal.returns-clause-next
returns-clause-next g c =
    let task : Command = c.args.task in
    let adds : Adds c.view-version.ensures.adds.0 (note_of c.args.pass.now.session task _) c.args.pass.now c.view-version.new.pass =
    subst (λ (x : Command). Adds c.view-version.ensures.adds.0 (note_of c.args.pass.now.session x _) c.args.pass.now c.view-version.new.pass) (c.task.invariant ∙ c.task.view_is) c.view-version.ensures.adds.1 in
    let left : c.forget.new.self ≡ forgotten c.args.self.now.own task = c.forget.ensures ∙ ap (forgotten c.args.self.now.own) (c.deref-in-Err.ensures ∙ c.task.view_is) in
    subst (IsNext c.args.table.now.told.state task c.args.self.now.own c.args.pass.now c.view-version.new.pass (record { version = c.view-version.result.version; outcome = Err Memory })) (sym left)
    (missed_look c.args.table.now.told.state task c.args.self.now.own c.args.pass.now c.view-version.new.pass c.view-version.result.version c.requires.looks c.view-version.ensures.adds.0 adds c.view-version.ensures.version)

pub returns-clause-current : goal.returns-clause-current
returns-clause-current g c =
    current_next c.args.self.now.keep c.args.table.now.told.state c.view-version.ensures.adds.0 _ c.args.pass.now c.view-version.new.pass c.view-version.ensures.adds.1 c.requires.current

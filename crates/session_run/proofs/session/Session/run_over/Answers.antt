use Rattle.std.proofs.Common.{rules, ◌≡◌, ◌<◌, ◌+◌, ◌∙◌, ◌++◌, ◌∷◌, [], List, IfSome, length, map-id, vec_len, ap, refl, sym, subst, arith}
use Rattle.std.proofs.lemmas.Iterator.Adapters.{YieldsList-from_vec}
use Rattle.std.proofs.lemmas.Iterator.Consumers.{YieldsList-end}
use Rattle.std.proofs.lemmas.List.{length_push}
use Rattle.std.proofs.lemmas.Option.{IfSome_then}
use Rattle.command_set.specs.declared.command.Command.{Command}
use Rattle.version_table.specs.Run.{commits_in, state_after}
use Rattle.edit_core.specs.Modelling.{next, commits}
use Rattle.session_run.specs.Sessions.{HasRun, IsNext, SessionView}
use Rattle.session_run.specs.declared.answer.Answer.{Answer}
use Rattle.session_run.specs.Own.{OwnState}
use Rattle.session_run.proofs.SessionLaws.{Holds, current_next, holds_first, holds_next}
use Rattle.session_run.proofs.FlightLaws.{IsOpen, has_run, open_edit, open_posted, settled, would_hold}
use Rattle.session_run.proofs.session.Session.run_over.Goals as goal

pub loop-task-init : goal.loop-task-init
loop-task-init g c =
    let opening = c.args.table.now.told.state in
    let pass = c.args.pass.now in
    let own : c.self.inside.course.own ≡ c.args.self.own = ap (λ (s : SessionView). s.own) c.self.view_is in record {
      so_far = subst (λ (o : OwnState). Holds opening c.args.self.own [] pass pass c.self.inside.answers.items o) (sym own)
          (subst (λ (l : List Answer). Holds opening c.args.self.own [] pass pass l c.args.self.own) (sym {A = List Answer} c.self.invariant.0) (holds_first opening c.args.self.own pass));
      place = tt;
      quota = c.self.invariant.2;
      current = c.new.ensures (commits_in next commits opening pass.seen) (state_after next opening pass.seen).objects;
      count = omega (arith, c.self.inside.answers.ok.0, ap (length {A = Answer}) c.self.invariant.0);
      room = omega (arith, c.self.invariant.1, ap (λ (s : SessionView). length s.commands) c.self.view_is);
      table = refl;
      left = omega arith;
    }

pub loop-task-preserved-in-Answered : goal.loop-task-preserved-in-Answered
loop-task-preserved-in-Answered g c =
    let opening = c.args.table.now.told.state in
    let first = c.args.self.own in
    let old = c.args.pass.now in
    let done = c.loop-task.yielded in
    let before = c.loop-task.invariant in
    let told = c.settle.new.self.answers.items in
    let held : Holds opening first done old c.loop-task.pass told c.settle.new.own =
    settled opening first c.loop-task.course.own done old c.loop-task.pass c.loop-task.log.answers.items c.loop-task.log.waiting c.settle.new.own told before.so_far c.settle.ensures.some c.settle.ensures.none in
    let after : Holds opening first (done ++ c.in-Some.task ∷ []) old c.begin.new.pass (told ++ c.in-Answered.answer ∷ []) c.begin.new.self.own =
    holds_next opening first c.settle.new.own c.begin.new.self.own done c.in-Some.task old c.loop-task.pass c.begin.new.pass told c.in-Answered.answer held c.in-Answered.ensures.next in record {
      so_far = subst (λ w. IsOpen opening first (done ++ c.in-Some.task ∷ []) old c.begin.new.pass c.push_answer.new.answers.items w c.begin.new.self.own) (sym c.settle.ensures.settled)
          (subst (λ (l : List Answer). Holds opening first (done ++ c.in-Some.task ∷ []) old c.begin.new.pass l c.begin.new.self.own) (sym {A = List Answer} c.push_answer.ensures.items) after);
      place = subst (λ w. IfSome w (λ v. v.place < vec_len c.push_answer.new.answers)) (sym c.settle.ensures.settled) tt;
      quota = c.begin.ensures.quota;
      current = c.begin.ensures.current;
      count = omega (
        arith,
        before.count,
        c.settle.ensures.room.0,
        c.settle.new.self.answers.ok.0,
        c.push_answer.new.answers.ok.0,
        ap (length {A = Answer}) c.push_answer.ensures.items,
        length_push told c.in-Answered.answer,
        length_push done c.in-Some.task,
      );
      room = omega (arith, before.room, c.settle.ensures.room.1, c.push_answer.ensures.room);
      table = after.table;
      left = after.left;
    }

pub loop-task-preserved-in-InFlight : goal.loop-task-preserved-in-InFlight
loop-task-preserved-in-InFlight g c =
    let opening = c.args.table.now.told.state in
    let first = c.args.self.own in
    let old = c.args.pass.now in
    let done = c.loop-task.yielded in
    let before = c.loop-task.invariant in
    let told = c.settle.new.self.answers.items in
    let held : Holds opening first done old c.loop-task.pass told c.settle.new.own =
    settled opening first c.loop-task.course.own done old c.loop-task.pass c.loop-task.log.answers.items c.loop-task.log.waiting c.settle.new.own told before.so_far c.settle.ensures.some c.settle.ensures.none in
    let counted : vec_len c.settle.new.self.answers ≡ length told = search rules in
    let grown : length c.hold.new.self.answers.items ≡ length told + 1 = ap (length {A = Answer}) c.hold.ensures.items.1 ∙ length_push told c.hold.ensures.items.0 in
    let count : vec_len c.hold.new.self.answers ≡ length told + 1 = omega (arith, grown, c.hold.new.self.answers.ok.0) in
    let opened =
    open_posted opening first c.settle.new.own c.begin.new.self.own done c.in-Some.task old c.loop-task.pass c.begin.new.pass told c.hold.new.self.answers.items c.hold.new.self.waiting c.in-InFlight.flight c.hold.ensures.items.0
    (search rules) held c.in-InFlight.ensures.next.0 c.in-InFlight.ensures.next.1 c.hold.ensures.items.1 c.hold.ensures.some
    (IfSome_then c.hold.new.self.waiting c.hold.ensures.waiting (λ w h. (h.0 ∙ counted, h.1))) in
    let all = would_hold opening first c.begin.new.self.own (done ++ c.in-Some.task ∷ []) old c.begin.new.pass c.hold.new.self.answers.items c.hold.new.self.waiting opened in record {
      so_far = opened;
      place = IfSome_then c.hold.new.self.waiting c.hold.ensures.waiting (λ w h. omega (arith, h.0, counted, count));
      quota = c.begin.ensures.quota;
      current = c.begin.ensures.current;
      count = omega (arith, before.count, c.settle.ensures.room.0, counted, count, length_push done c.in-Some.task);
      room = omega (arith, before.room, c.settle.ensures.room.1, c.hold.ensures.room);
      table = all.2.table;
      left = all.2.left;
    }

pub loop-task-preserved : goal.loop-task-preserved
loop-task-preserved g c =
    let opening = c.args.table.now.told.state in
    let first = c.args.self.own in
    let old = c.args.pass.now in
    let done = c.loop-task.yielded in
    let before = c.loop-task.invariant in
    let log = c.loop-task.log in
    let edits : (any : OwnState) → IsNext opening c.in-Some.task any c.loop-task.pass c.edit-answer.new.pass c.edit-answer.result any =
    subst (λ (x : Command). (any : OwnState) → IsNext opening x any c.loop-task.pass c.edit-answer.new.pass c.edit-answer.result any) (c.task.invariant ∙ c.task.view_is) c.edit-answer.ensures in
    let more = open_edit opening first c.loop-task.course.own done old c.loop-task.pass log.answers.items log.waiting c.in-Some.task c.edit-answer.new.pass c.edit-answer.result before.so_far edits in
    let all = would_hold opening first c.loop-task.course.own (done ++ c.in-Some.task ∷ []) old c.edit-answer.new.pass (log.answers.items ++ c.edit-answer.result ∷ []) log.waiting more in
    let adds = edits c.loop-task.course.own in
    let count : vec_len c.push_answer-else-looks.new.answers ≡ vec_len log.answers + 1 =
    omega (
      arith,
      log.answers.ok.0,
      c.push_answer-else-looks.new.answers.ok.0,
      ap (length {A = Answer}) c.push_answer-else-looks.ensures.items,
      length_push log.answers.items c.edit-answer.result,
    ) in record {
      so_far = subst (λ (l : List Answer). IsOpen opening first (done ++ c.in-Some.task ∷ []) old c.edit-answer.new.pass l log.waiting c.loop-task.course.own) (sym {A = List Answer} c.push_answer-else-looks.ensures.items) more;
      place = IfSome_then log.waiting before.place (λ w lt. omega (arith, lt, count));
      quota = before.quota;
      current = current_next c.loop-task.course.keep opening adds.before _ c.loop-task.pass c.edit-answer.new.pass adds.adds before.current;
      count = omega (arith, before.count, count, length_push done c.in-Some.task);
      room = omega (arith, before.room, c.push_answer-else-looks.ensures.room);
      table = all.2.table;
      left = all.2.left;
    }

pub returns : goal.returns
returns g c =
    let opening = c.args.table.now.told.state in
    let first = c.args.self.own in
    let old = c.args.pass.now in
    let done = c.loop-task.yielded in
    let told = c.settle-2.new.self.answers.items in
    let held : Holds opening first done old c.loop-task.pass told c.settle-2.new.own =
    settled opening first c.loop-task.course.own done old c.loop-task.pass c.loop-task.log.answers.items c.loop-task.log.waiting c.settle-2.new.own told c.loop-task.invariant.so_far c.settle-2.ensures.some
    c.settle-2.ensures.none in
    let end =
    YieldsList-end (YieldsList-from_vec {s = c.into_iter-task-iterator.result} c.self.inside.tasks.items (search rules) (search rules)) done c.loop-task.task-iterator c.loop-task.yielded_by c.next.result c.next.new.self c.in-None.is
    c.next.ensures.steps in
    let all : done ≡ c.args.self.commands = sym (map-id done) ∙ end.0 ∙ ap (λ (s : SessionView). s.commands) c.self.view_is in
    let ran : HasRun opening first done old c.loop-task.pass told = has_run opening first c.settle-2.new.own done old c.loop-task.pass told held in record {
      ran = subst (λ (l : List Answer). HasRun opening first c.args.self.commands old c.loop-task.pass l) (sym {A = List Answer} c.of_vec.ensures) (subst (λ (cs : List Command). HasRun opening first cs old c.loop-task.pass told) all ran);
    }

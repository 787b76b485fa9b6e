use Rattle.std.proofs.Common.{◌≡◌, ◌++◌, ◌∷◌, [], List, length, ap, sym, subst, arith}
use Rattle.std.proofs.lemmas.List.{length_push}
use Rattle.version_table.specs.Run.{commits_in, state_after}
use Rattle.edit_core.specs.Modelling.{next, commits}
use Rattle.session_run.specs.Sessions.{SessionView}
use Rattle.session_run.specs.declared.answer.Answer.{Answer}
use Rattle.session_run.specs.Own.{OwnState}
use Rattle.session_run.proofs.SessionLaws.{Holds, holds_first, holds_next}
use Rattle.session_run.proofs.session.Session.run_alone.Goals as goal

pub loop-task-init : goal.loop-task-init
loop-task-init g c =
    let own : c.self.inside.course.own ≡ c.args.self.own = ap (λ (s : SessionView). s.own) c.self.view_is in record {
      holds = subst (λ (o : OwnState). Holds c.args.table.now.told.state c.args.self.own [] c.args.pass.now c.args.pass.now c.self.inside.answers.items o) (sym own)
          (subst (λ (l : List Answer). Holds c.args.table.now.told.state c.args.self.own [] c.args.pass.now c.args.pass.now l c.args.self.own) (sym {A = List Answer} c.self.invariant.0)
          (holds_first c.args.table.now.told.state c.args.self.own c.args.pass.now));
      quota = c.self.invariant.2;
      current = let told = c.args.table.now.told in let seen = c.args.pass.now.seen in c.new.ensures (commits_in next commits told.state seen) (state_after next told.state seen).objects;
      count = omega (arith, c.self.inside.answers.ok.0, ap (length {A = Answer}) c.self.invariant.0);
      room = omega (arith, c.self.invariant.1, ap (λ (s : SessionView). length s.commands) c.self.view_is);
    }

pub loop-task-preserved : goal.loop-task-preserved
loop-task-preserved g c =
    let before = c.loop-task.invariant in record {
      holds = subst (λ (l : List Answer). Holds c.args.table.now.told.state c.args.self.own (c.loop-task.yielded ++ c.in-Some.task ∷ []) c.args.pass.now c.next-answer.new.pass l c.next-answer.new.self.own)
          (sym {A = List Answer} c.push_answer.ensures.items)
          (holds_next c.args.table.now.told.state c.args.self.own c.loop-task.course.own c.next-answer.new.self.own c.loop-task.yielded c.in-Some.task c.args.pass.now c.loop-task.pass c.next-answer.new.pass
          c.loop-task.answers.items c.next-answer.result before.holds c.next-answer.ensures.next);
      quota = c.next-answer.ensures.quota;
      current = c.next-answer.ensures.current;
      count = omega (
        arith,
        before.count,
        c.loop-task.answers.ok.0,
        c.push_answer.new.answers.ok.0,
        ap (length {A = Answer}) c.push_answer.ensures.items,
        length_push c.loop-task.answers.items c.next-answer.result,
        length_push c.loop-task.yielded c.in-Some.task,
      );
      room = omega (arith, before.room, c.push_answer.ensures.room);
    }

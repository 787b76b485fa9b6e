use Rattle.std.proofs.Common.{◌++◌, ◌∷◌, [], ◌==◌, ◌∙◌, List, cond, length, map, map-id, ap, sym, subst, rules}
use Rattle.std.proofs.lemmas.Iterator.Adapters.{YieldsList-from_vec}
use Rattle.std.proofs.lemmas.Iterator.Consumers.{YieldsList-end, YieldsList-turn}
use Rattle.version_table.specs.Places.{IsRising}
use Rattle.version_table.specs.Passes.{PassView}
use Rattle.session_merge.specs.Joined.{HaveSeen, all_together, answers_of, passes_of, sessions_in}
use Rattle.command_set.specs.declared.command.Command.{Command}
use Rattle.session_run.specs.Answers.{core_answer}
use Rattle.script_run.specs.AtOnce.{CanJoin, all_done}
use Rattle.script_run.specs.declared.at_once.Finished.{Finished}
use Rattle.script_run.proofs.JoinLaws.{first_push, rising_first, joined_one, answers_push}
use Rattle.script_run.proofs.at_once.join_all.Goals as goal

pub join_one-requires-clause-one : goal.join_one-requires-clause-one
join_one-requires-clause-one c =
    let turn = YieldsList-turn (YieldsList-from_vec {s = c.into_iter-one-iterator.result} c.args.finished.items (search rules) (search rules))
    c.loop-one.yielded c.loop-one.one-iterator c.loop-one.yielded_by c.next.result c.next.new.self c.in-Some.one c.in-Some.is c.next.ensures.steps in
    subst (CanJoin c.args.table.now.id) (sym turn.1) (c.requires.each (length c.loop-one.yielded) c.in-Some.one turn.0)

pub loop-one-preserved : goal.loop-one-preserved
loop-one-preserved c =
    let xs : List Finished = c.loop-one.yielded in
    let x : Finished = c.in-Some.one in
    let turn = YieldsList-turn (YieldsList-from_vec {s = c.into_iter-one-iterator.result} c.args.finished.items (search rules) (search rules))
    xs c.loop-one.one-iterator c.loop-one.yielded_by c.next.result c.next.new.self x c.in-Some.is c.next.ensures.steps in
    let first = first_push c.args.finished.items xs x c.loop-one.invariant.first turn in
    let rising : IsRising (sessions_in (all_done (xs ++ x ∷ []))) = subst (λ (ys : List Finished). IsRising (sessions_in (all_done ys))) (sym first) (rising_first c.args.finished.items (length (xs ++ x ∷ [])) c.requires.apart) in
    let joins = joined_one c.args.pass.now c.loop-one.pass c.join_one.new.pass xs x c.loop-one.invariant.pass c.loop-one.invariant.seen c.join_one.ensures.pass c.join_one.ensures.begins.0 c.join_one.ensures.begins.1 in
    record {
      table = ap (λ (p : PassView Command). p.table) c.join_one.ensures.pass ∙ c.loop-one.invariant.table;
      first = first;
      pass = joins.0;
      seen = joins.1;
      eight = c.join_one.ensures.eight;
      answers = λ k.
          c.join_one.ensures.answers k ∙ ap (λ given. cond (x.pass.session == k) (map core_answer x.answers) given) (c.loop-one.invariant.answers k) ∙ sym (answers_push xs x k rising);
    }

pub returns : goal.returns
returns c =
    let end = YieldsList-end (YieldsList-from_vec {s = c.into_iter-one-iterator.result} c.args.finished.items (search rules) (search rules))
    c.loop-one.yielded c.loop-one.one-iterator c.loop-one.yielded_by c.next.result c.next.new.self c.in-None.is c.next.ensures.steps in
    let whole = sym (map-id c.loop-one.yielded) ∙ end.0 in
    record {
      pass = c.loop-one.invariant.pass ∙ ap (λ (fs : List Finished). all_together c.args.pass.now (passes_of (all_done fs))) whole;
      seen = subst (λ (fs : List Finished). HaveSeen c.loop-one.pass.seen (passes_of (all_done fs))) whole c.loop-one.invariant.seen;
      eight = c.loop-one.invariant.eight;
      answers = λ k. c.loop-one.invariant.answers k ∙ ap (λ (fs : List Finished). answers_of (all_done fs) k) whole;
    }

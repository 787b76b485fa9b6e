use Rattle.std.proofs.Common.{◌≡◌, ◌≤◌, ◌∙◌, [], ℕ, List, All, map, length, ap, sym, subst, arith}
use Rattle.std.proofs.lemmas.List.{length-map, get_or_default}
use Rattle.std.proofs.lemmas.List.Elements.{All-weaker}
use Rattle.transcript.specs.Merge.{Entry, order_of}
use Rattle.version_table.specs.Entries.{noted}
use Rattle.version_table.specs.Passes.{PassView}
use Rattle.version_table.specs.Places.{places_from}
use Rattle.version_table.specs.Run.{Told}
use Rattle.version_table.specs.declared.rule.Noted.{Noted}
use Rattle.session_merge.specs.Noted.{entries_of}
use Rattle.command_set.specs.declared.command.Command.{Command}
use Rattle.directory.specs.Listing.{Listing}
use Rattle.mged_words.specs.Entries.{command_entry}
use Rattle.session_run.specs.declared.answer.Answer.{Answer}
use Rattle.session_run.proofs.StartLaws.{named_plain}
use Rattle.script_run.specs.AtOnce.{AreAllRun}
use Rattle.script_run.proofs.AtOnceLaws.{all_calls, at_once, few_at_once, history_sessions}
use Rattle.script_run.proofs.at_once.run_at_once.Goals as goal

pub close-closed-requires-clause-table : goal.close-closed-requires-clause-table
close-closed-requires-clause-table g c κs =
    let script : List (Entry Command) = map command_entry c.args.script.now in
    let all : AreAllRun c.in_ok-table.table.told.state c.in_ok-table.table.id script c.run_sessions.new.pass c.in_ok-answers.answers.items = c.in_ok-answers.ensures.run in
    (all_calls c.in_ok-table.table.told.state c.in_ok-table.table.id script c.run_sessions.new.pass c.in_ok-answers.answers.items c.requires.sessions all).0

pub close-closed-requires-clause-all : goal.close-closed-requires-clause-all
close-closed-requires-clause-all g c κs =
    let script : List (Entry Command) = map command_entry c.args.script.now in
    let all : AreAllRun c.in_ok-table.table.told.state c.in_ok-table.table.id script c.run_sessions.new.pass c.in_ok-answers.answers.items = c.in_ok-answers.ensures.run in
    (all_calls c.in_ok-table.table.told.state c.in_ok-table.table.id script c.run_sessions.new.pass c.in_ok-answers.answers.items c.requires.sessions all).1
    ∙ length-map c.args.script.now command_entry ∙ sym (ap (λ (t : Told Listing). t.calls) c.in_ok-table.ensures.table)

pub written-requires-clause-order : goal.written-requires-clause-order
written-requires-clause-order g c =
    let script : List (Entry Command) = map command_entry c.args.script.now in
    let d : Listing = c.in_ok-table.table.told.state in
    let pass : PassView Command = c.run_sessions.new.pass in
    let lists : List (List Answer) = c.in_ok-answers.answers.items in
    let whole : pass.own ≡ places_from 0 (length pass.seen) = c.close-closed.ensures.own in
    let sessions = history_sessions d c.in_ok-table.table.id script pass lists c.requires.sessions c.in_ok-answers.ensures.run whole in
    let is : c.in_ok-order.order.items ≡ order_of (entries_of pass.seen) =
    c.in_ok-order.ensures ∙ ap (λ (es : List (Noted Command)). order_of (entries_of es)) (ap noted c.deref.ensures.value ∙ c.close-closed.ensures.entries) in
    subst (All (λ (n : ℕ). n ≤ 8)) (sym is) (All-weaker (λ (n : ℕ). (1 ≤ n) × (n ≤ 8)) (λ (n : ℕ). n ≤ 8) (λ n h. h.1) (order_of (entries_of pass.seen)) sessions)

pub written-requires-clause-few : goal.written-requires-clause-few
written-requires-clause-few g c = λ k e lt.
    let script : List (Entry Command) = map command_entry c.args.script.now in
    let d : Listing = c.in_ok-table.table.told.state in
    let pass : PassView Command = c.run_sessions.new.pass in
    let lists : List (List Answer) = c.in_ok-answers.answers.items in
    let whole : pass.own ≡ places_from 0 (length pass.seen) = c.close-closed.ensures.own in
    let few = few_at_once d c.in_ok-table.table.id script pass lists c.requires.sessions c.in_ok-answers.ensures.run whole k in
    omega (arith, few, ap length (get_or_default lists k e [] lt), length-map c.args.script.now command_entry, c.requires.few)

pub returns-clause-run : goal.returns-clause-run
returns-clause-run g c =
    let script : List (Entry Command) = map command_entry c.args.script.now in
    let d : Listing = c.args.directory in
    let pass : PassView Command = c.run_sessions.new.pass in
    let lists : List (List Answer) = c.in_ok-answers.answers.items in
    let whole : pass.own ≡ places_from 0 (length pass.seen) = c.close-closed.ensures.own in
    let opening : c.in_ok-table.table.told.state ≡ d = ap (λ (t : Told Listing). t.state) c.in_ok-table.ensures.table ∙ c.in_ok-opening.ensures.ok in
    let all : AreAllRun d c.in_ok-table.table.id script pass lists = subst (λ (o : Listing). AreAllRun o c.in_ok-table.table.id script pass lists) opening c.in_ok-answers.ensures.run in
    let order_is : c.in_ok-order.order.items ≡ order_of (entries_of pass.seen) =
    c.in_ok-order.ensures ∙ ap (λ (es : List (Noted Command)). order_of (entries_of es)) (ap noted c.deref.ensures.value ∙ c.close-closed.ensures.entries) in
    at_once d c.in_ok-table.table.id script pass lists c.requires.sessions all whole c.written.result c.in_ok-order.order.items
    (named_plain d.objects c.recall_entries.ensures) c.requires.readable (omega (arith, c.requires.few, length-map c.args.script.now command_entry)) order_is
    (omega (arith, c.in_ok-answers.answers.ok.0, c.in_ok-answers.ensures.eight)) c.written.ensures.text c.written.ensures.order c.written.ensures.answers c.written.ensures.refused

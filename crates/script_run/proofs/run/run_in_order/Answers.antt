use Rattle.std.proofs.Common.{◌≡◌, ◌≤◌, ◌==◌, ◌∙◌, [], ℕ, List, All, ap, arith, filter, length, map, subst, sym}
use Rattle.std.proofs.lemmas.List.{get_or_default, length-map}
use Rattle.std.proofs.lemmas.List.Elements.{All-weaker}
use Rattle.transcript.specs.Merge.{Entry, lane}
use Rattle.command_set.specs.declared.command.Command.{Command}
use Rattle.directory.specs.Listing.{Listing}
use Rattle.mged_words.specs.Entries.{command_entry}
use Rattle.session_run.specs.declared.answer.Answer.{Answer}
use Rattle.session_run.proofs.StartLaws.{named_plain}
use Rattle.script_run.specs.Answers.{left_at}
use Rattle.script_run.specs.Runs.{IsOfEight}
use Rattle.script_run.specs.declared.run.Lane.{Lane}
use Rattle.script_run.proofs.LaneLaws.{all_left, order_length, order_of_eight, whole_run}
use Rattle.script_run.proofs.RunLaws.{IsRunBy, few_answers, ordered_run}
use Rattle.script_run.proofs.run.run_in_order.Goals as goal

pub answer_all-requires-clause-sessions : goal.answer_all-requires-clause-sessions
answer_all-requires-clause-sessions g c = λ κs h.
    subst (All IsOfEight) (sym c.deref.ensures.value) (order_of_eight (map command_entry c.args.script.now) c.args.order.items c.requires.sessions c.requires.merge)

pub answer_all-requires-clause-few : goal.answer_all-requires-clause-few
answer_all-requires-clause-few g c =
    omega (
      arith,
      ap length c.deref.ensures.value,
      order_length (map command_entry c.args.script.now) c.args.order.items c.requires.sessions c.requires.merge,
      length-map c.args.script.now command_entry,
      c.requires.few,
    )

pub answer_all-requires-clause-merge : goal.answer_all-requires-clause-merge
answer_all-requires-clause-merge g c = λ κs h session.
    let script : List (Entry Command) = map command_entry c.args.script.now in
    let left : ◌≡◌ {A = ℕ → List Command} (left_at c.in_ok-lanes.lanes.items) (lane script) = all_left script c.in_ok-lanes.lanes.items c.requires.sessions c.in_ok-lanes.ensures.left in
    ap (λ (o : List ℕ). length (filter (λ digit. digit == session) o)) c.deref.ensures.value ∙ c.requires.merge session ∙ ap (λ (f : ℕ → List Command). length (f session)) (sym left)

pub written-requires-clause-order : goal.written-requires-clause-order
written-requires-clause-order g c =
    All-weaker IsOfEight (λ (d : ℕ). d ≤ 8) (λ d h. h.1) c.args.order.items (order_of_eight (map command_entry c.args.script.now) c.args.order.items c.requires.sessions c.requires.merge)

pub written-requires-clause-few : goal.written-requires-clause-few
written-requires-clause-few g c = λ k e lt.
    let d : Listing = c.args.directory in
    let script : List (Entry Command) = map command_entry c.args.script.now in
    let lists : List (List Answer) = c.in_ok-answers.answers.items in
    let run = whole_run d script c.args.order.items c.deref.result.now c.in_ok-lanes.lanes.items c.answer_all.new.lanes.items c.answer_all.new.book c.requires.sessions c.requires.merge c.deref.ensures.value
    c.in_ok-lanes.ensures.left c.in_ok-lanes.ensures.owns c.in_ok-answer_all.ensures.answered in
    let by : IsRunBy d script run.0 lists = subst (λ (ls : List (List Answer)). IsRunBy d script run.0 ls) (sym c.in_ok-answers.ensures) run.2 in
    omega (arith, few_answers d script run.0 lists c.requires.sessions by k, ap length (get_or_default lists k e [] lt), length-map c.args.script.now command_entry, c.requires.few)

pub returns-clause-run : goal.returns-clause-run
returns-clause-run g c =
    let d : Listing = c.args.directory in
    let script : List (Entry Command) = map command_entry c.args.script.now in
    let lists : List (List Answer) = c.in_ok-answers.answers.items in
    let run = whole_run d script c.args.order.items c.deref.result.now c.in_ok-lanes.lanes.items c.answer_all.new.lanes.items c.answer_all.new.book c.requires.sessions c.requires.merge c.deref.ensures.value
    c.in_ok-lanes.ensures.left c.in_ok-lanes.ensures.owns c.in_ok-answer_all.ensures.answered in
    let by : IsRunBy d script run.0 lists = subst (λ (ls : List (List Answer)). IsRunBy d script run.0 ls) (sym c.in_ok-answers.ensures) run.2 in
    let eight : length lists ≡ 8 =
    ap length c.in_ok-answers.ensures ∙ length-map c.answer_all.new.lanes.items (λ (one : Lane). one.answers) ∙ omega (arith, c.answer_all.new.lanes.ok.0, c.in_ok-answer_all.ensures.eight) in
    ordered_run d script run.0 lists c.requires.sessions by c.written.result c.args.order.items (named_plain d.objects c.recall_entries.ensures) c.requires.readable
    (omega (arith, c.requires.few, length-map c.args.script.now command_entry)) (sym run.1) eight c.written.ensures.text c.written.ensures.order c.written.ensures.answers c.written.ensures.refused

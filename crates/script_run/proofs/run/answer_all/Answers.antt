use Rattle.std.proofs.Common.{◌∙◌, ◌+◌, ◌++◌, ℕ, List, ap, drop, get_or, sym, take}
use Rattle.std.proofs.lemmas.List.{drop_more, take-append-drop}
use Rattle.script_run.specs.Answers.{core_state, left_at, owns_of}
use Rattle.script_run.proofs.LaneLaws.{some_left}
use Rattle.script_run.proofs.run.answer_all.Goals as goal

pub answer_next-requires-clause-some : goal.answer_next-requires-clause-some
answer_next-requires-clause-some g c = λ κs h.
    let order : List ℕ = c.args.order.now in
    let i : ℕ = c.loop-session.session-index in
    some_left (core_state c.args.book.now (owns_of c.args.lanes.now.items)) (left_at c.args.lanes.now.items) (take i order) c.loop-session.book c.loop-session.lanes.items c.loop-session.invariant.answered
    order (drop (i + 1) order) (get_or order i 0) c.requires.merge
    (sym (take-append-drop i order) ∙ ap (λ (ds : List ℕ). take i order ++ ds) (drop_more order i 0 c.loop-session-test.true))

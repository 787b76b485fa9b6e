use Rattle.std.proofs.Common.{◌∙◌, ℕ, List, [], sym, arith}
use Rattle.std.specs.Borrow.{Bor}
use Rattle.mged_words.proofs.ListLaws.{known_operator, unknown_operator, some_operator, none_operator, last_left}
use Rattle.mged_words.proofs.list.is_list.Goals as goal

pub returns-then-is_none : goal.returns-then-is_none
returns-then-is_none c =
    let none : Bor (List ℕ) = record { ref_ptr = (0, 0); now = [] } in
    let op = none_operator c.operator.result c.if-is_none.ensures in
    sym (unknown_operator c.args.words.now c.loop-at.at none c.loop-at-test.true (sym c.operator.ensures ∙ op)) ∙ c.loop-at.invariant.same

pub loop-at-preserved : goal.loop-at-preserved
loop-at-preserved c =
    let none : Bor (List ℕ) = record { ref_ptr = (0, 0); now = [] } in
    let op = some_operator c.operator.result c.if-is_none.ensures in
    record {
      within = omega (arith, c.loop-at-test.true);
      same = known_operator c.args.words.now c.loop-at.at none op.0 c.loop-at-test.true (sym c.operator.ensures ∙ op.1) ∙ c.loop-at.invariant.same;
    }

pub returns : goal.returns
returns c = last_left c.args.words.now c.loop-at.at c.loop-at.invariant.within c.loop-at-test.false ∙ c.loop-at.invariant.same

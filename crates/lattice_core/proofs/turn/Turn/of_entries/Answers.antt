use Rattle.std.proofs.Common.{◌∙◌, refl, sym, arith}
use Rattle.std.proofs.lemmas.Bool.{false≢true}
use Rattle.lattice_core.proofs.Turning.{row_at, column_ok, row_of_is, entries_apart}
use Rattle.lattice_core.proofs.turn.Turn.of_entries.Goals as goal

pub returns-in_default-clause-none : goal.returns-in_default-clause-none
returns-in_default-clause-none c = λ turn lt has.
    c.in_default.ensures.none (row_at turn 1) (column_ok turn 1 lt (omega arith, omega arith)) (sym has.first_row)

pub returns-in_default-of_entries-clause-none : goal.returns-in_default-of_entries-clause-none
returns-in_default-of_entries-clause-none c = λ turn lt has.
    c.in_default-of_entries.ensures.none (row_at turn 2) (column_ok turn 2 lt (omega arith, omega arith)) (sym has.second_row)

pub returns-in_default-of_entries-2-clause-none : goal.returns-in_default-of_entries-2-clause-none
returns-in_default-of_entries-2-clause-none c = λ turn lt has.
    c.in_default-of_entries-2.ensures.none (row_at turn 3) (column_ok turn 3 lt (omega arith, omega arith)) (sym has.third_row)

pub of_rows-requires : goal.of_rows-requires
of_rows-requires c = c.if-are_apart.ensures.0 refl

pub returns-then-are_apart-clause-some : goal.returns-then-are_apart-clause-some
returns-then-are_apart-clause-some c = record {
  first_row = sym (row_of_is c.of_rows.result.number 1 c.in-Some.first c.of_rows.ensures.first ∙ c.in-Some.ensures.some.1);
  second_row = sym (row_of_is c.of_rows.result.number 2 c.in-Some-of_entries.second c.of_rows.ensures.second ∙ c.in-Some-of_entries.ensures.some.1);
  third_row = sym (row_of_is c.of_rows.result.number 3 c.in-Some-of_entries-2.third c.of_rows.ensures.third ∙ c.in-Some-of_entries-2.ensures.some.1);
}

pub returns-else-are_apart-clause-none : goal.returns-else-are_apart-clause-none
returns-else-are_apart-clause-none c = λ turn lt has.
    false≢true (c.if-are_apart.ensures.1
    (entries_apart turn c.in-Some.first c.in-Some-of_entries.second c.in-Some-of_entries-2.third c.args.first c.args.second c.args.third lt
    c.in-Some.ensures.some.0 c.in-Some-of_entries.ensures.some.0 c.in-Some-of_entries-2.ensures.some.0
    c.in-Some.ensures.some.1 c.in-Some-of_entries.ensures.some.1 c.in-Some-of_entries-2.ensures.some.1 has))

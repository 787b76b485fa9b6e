use Rattle.std.proofs.Common.{◌≡◌, ℕ, subst}
use Rattle.lattice_core.specs.Turns.{column_of}
use Rattle.lattice_core.specs.Rows.{AreColumns}
use Rattle.lattice_core.proofs.Turning.{after_is, columns_of, columns_after}
use Rattle.lattice_core.proofs.turn.Turn.after.Goals as goal

pub of_rows-requires : goal.of_rows-requires
of_rows-requires c =
    let a = c.args.self.now.number in
    let b = c.args.lower.now.number in
    let one : column_of b (column_of a 1) ≡ c.row_after.result.column = c.row_after.ensures.row.column in
    let two : column_of b (column_of a 2) ≡ c.row_after-2.result.column = c.row_after-2.ensures.row.column in
    let three : column_of b (column_of a 3) ≡ c.row_after-3.result.column = c.row_after-3.ensures.row.column in
    subst (λ (x : ℕ). AreColumns x c.row_after-2.result.column c.row_after-3.result.column) one
    (subst (λ (x : ℕ). AreColumns (column_of b (column_of a 1)) x c.row_after-3.result.column) two
    (subst (λ (x : ℕ). AreColumns (column_of b (column_of a 1)) (column_of b (column_of a 2)) x) three
    (columns_after b (column_of a 1) (column_of a 2) (column_of a 3) c.args.lower.now.in_range (columns_of a c.args.self.now.in_range))))

pub returns : goal.returns
returns c = λ v.
    after_is c.of_rows.result.number c.args.self.now.number c.args.lower.now.number v
    c.row_after.result c.row_after-2.result c.row_after-3.result
    c.of_rows.result.in_range c.args.self.now.in_range c.args.lower.now.in_range
    c.of_rows.ensures.first c.of_rows.ensures.second c.of_rows.ensures.third
    c.row_after.ensures.row c.row_after-2.ensures.row c.row_after-3.ensures.row

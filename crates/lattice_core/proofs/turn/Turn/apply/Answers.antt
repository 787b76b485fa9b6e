use Rattle.std.proofs.Common.{FitsSigned, w64, subst, sym, ◌∙◌, rules, arith}
use Rattle.std.proofs.lemmas.Int.{to_z-of_z}
use Rattle.lattice_core.specs.Limits.{IsBelow}
use Rattle.lattice_core.proofs.Turning.{row_is, turned_below, vector_same}
use Rattle.lattice_core.proofs.turn.Turn.apply.Goals as goal

pub returns-clause-value : goal.returns-clause-value
returns-clause-value c =
    let fx : FitsSigned w64 c.times.result = search rules in
    let fy : FitsSigned w64 c.times-2.result = search rules in
    let fz : FitsSigned w64 c.times-3.result = search rules in
    let n = c.args.self.now.number in
    let v = c.args.v in
    let small = c.args.self.now.in_range in
    simp to_z-of_z (vector_same
    (c.times.ensures ∙ sym (row_is n 1 v c.row.result small (omega arith, omega arith) c.row.ensures.row))
    (c.times-2.ensures ∙ sym (row_is n 2 v c.row-2.result small (omega arith, omega arith) c.row-2.ensures.row))
    (c.times-3.ensures ∙ sym (row_is n 3 v c.row-3.result small (omega arith, omega arith) c.row-3.ensures.row)))

pub returns-clause-size : goal.returns-clause-size
returns-clause-size c = λ limit h. subst (IsBelow limit) (sym (returns-clause-value c)) (turned_below limit c.args.self.now.number c.args.v c.args.self.now.in_range h)

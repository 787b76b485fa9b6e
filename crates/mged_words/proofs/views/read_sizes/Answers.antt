use Rattle.std.proofs.Common.{◌≡◌, ◌∙◌, ◌∷◌, [], List, ℕ, ℤ, pos, Some, ap, map, sym}
use Rattle.std.specs.Borrow.{Bor}
use Rattle.command_set.specs.declared.refusal.Refusal.{Refusal}
use Rattle.mged_words.specs.Commands.{numbers_fault, size_numbers}
use Rattle.mged_words.proofs.ViewLines.{err_told, second_bad, third_bad, three_sizes, cell_fits}
use Rattle.mged_words.proofs.views.read_sizes.Goals as goal

pub returns-in_err-w-clause-fault : goal.returns-in_err-w-clause-fault
returns-in_err-w-clause-fault c =
    let none : Bor (List ℕ) = record { ref_ptr = (0, 0); now = [] } in
    let atoms : List (Bor (List ℕ)) = c.args.atoms.now in
    err_told c.from_residual-in_err-w.result c.in_err-w.field-0.0 (λ (r : Refusal). numbers_fault c.args.word 1 (size_numbers (map (λ (a : Bor (List ℕ)). a.now) atoms)) ≡ Some r) c.from_residual-in_err-w.ensures (λ e h. h)
    (second_bad atoms c.args.word none c.in_ok-cell.cell c.in_err-w.field-0.0 c.requires.three c.in_ok-cell.ensures.cell c.in_err-w.ensures.none c.in_err-w.ensures.fault)

pub returns-clause-sizes : goal.returns-clause-sizes
returns-clause-sizes c =
    let none : Bor (List ℕ) = record { ref_ptr = (0, 0); now = [] } in
    three_sizes c.args.atoms.now none c.in_ok-cell.cell c.in_ok-w.w c.in_ok-h.h c.requires.three c.in_ok-cell.ensures.cell c.in_ok-w.ensures.side c.in_ok-h.ensures.side
    ∙ ap (λ (n : ℤ). Some n ∷ Some (pos c.in_ok-w.w) ∷ Some (pos c.in_ok-h.h) ∷ []) (sym (cell_fits c.in_ok-cell.cell c.in_ok-cell.ensures.within))

pub returns-in_err-h-clause-fault : goal.returns-in_err-h-clause-fault
returns-in_err-h-clause-fault c =
    let none : Bor (List ℕ) = record { ref_ptr = (0, 0); now = [] } in
    let atoms : List (Bor (List ℕ)) = c.args.atoms.now in
    err_told c.from_residual-in_err-h.result c.in_err-h.field-0.0 (λ (r : Refusal). numbers_fault c.args.word 1 (size_numbers (map (λ (a : Bor (List ℕ)). a.now) atoms)) ≡ Some r) c.from_residual-in_err-h.ensures (λ e h. h)
    (third_bad atoms c.args.word none c.in_ok-cell.cell c.in_ok-w.w c.in_err-h.field-0.0 c.requires.three c.in_ok-cell.ensures.cell c.in_ok-w.ensures.side c.in_err-h.ensures.none c.in_err-h.ensures.fault)

use Rattle.std.proofs.Common.{◌∙◌, ap, sym, subst, arith, ℤ, List}
use Rattle.lattice_core.specs.declared.limit.TheConstants.{VIEW_NUMBER}
use Rattle.lattice_core.specs.declared.vector.V3.{V3}
use Rattle.lattice_core.specs.Limits.{IsWithin}
use Rattle.mged_words.specs.Readings.{view_unless_fault}
use Rattle.mged_words.proofs.ViewLines.{err_same, bad_corner, bad_sizes, good_view, corner_near, cell_fits}
use Rattle.mged_words.proofs.views.read_view.Goals as goal

pub returns-in-Some : goal.returns-in-Some
returns-in-Some c = bad_corner c.args.word c.args.dir c.args.atoms.now c.in-Some.refusal c.requires.six (sym c.read_numbers.ensures.fault ∙ c.in-Some.is)

pub returns-in_err-sizes : goal.returns-in_err-sizes
returns-in_err-sizes c =
    let corner : List ℤ = c.read_numbers.new.out in
    err_same c.from_residual.result _ c.in_err-sizes.field-0.0 c.from_residual.ensures (λ e h. h)
    (bad_sizes c.args.word c.args.dir c.args.atoms.now corner c.in_err-sizes.field-0.0 c.requires.six (omega (arith, c.read_numbers.auto.out)) c.in_default.ensures.read c.in_err-sizes.ensures.fault)

pub checked-requires-clause-corner : goal.checked-requires-clause-corner
checked-requires-clause-corner c = subst (IsWithin VIEW_NUMBER) (sym c.vector_at.ensures.value) (corner_near c.read_numbers.new.out (omega (arith, c.read_numbers.auto.out)) c.in_default.ensures.within)

pub returns : goal.returns
returns c =
    let sizes = c.in_ok-sizes.sizes in
    c.checked.ensures
    ∙ ap (λ (z : ℤ). view_unless_fault (record { corner = c.vector_at.result; dir = c.args.dir; cell = z; w = sizes.w; h = sizes.h })) (cell_fits sizes.cell c.in_ok-sizes.ensures.within)
    ∙ ap (λ (v : V3). view_unless_fault (record { corner = v; dir = c.args.dir; cell = sizes.cell; w = sizes.w; h = sizes.h })) c.vector_at.ensures.value
    ∙ good_view c.args.word c.args.dir c.args.atoms.now c.read_numbers.new.out sizes.cell sizes.w sizes.h c.requires.six (omega (arith, c.read_numbers.auto.out)) c.in_default.ensures.read c.in_ok-sizes.ensures.sizes

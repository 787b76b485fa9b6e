use Rattle.std.proofs.Common.{◌∙◌, ap, sym, subst, pos, ◌<ℤ◌, ◌≤ℤ◌, arith, FitsSigned, w64}
use Rattle.std.proofs.lemmas.Int.{ints, to_z-of_z}
use mir.Syntax.{w128}
use Rattle.surd_order.specs.Range.{IsInRange}
use Rattle.surd_order.specs.Spelled.{spelled}
use Rattle.surd_order.proofs.FracLemmas.{fraction_of-positive}
use Rattle.surd_order.specs.declared.position.Pos.{Pos}
use Rattle.solid_set.proofs.SpelledRange.{spelled_range}
use Rattle.solid_set.proofs.Ranges.{fits_over, fits_under, fits_whole}
use Rattle.solid_set.proofs.span.spelled.Goals as goal

pub returns-in-Frac-clause-value : goal.returns-in-Frac-clause-value
returns-in-Frac-clause-value c =
    let range = subst IsInRange c.in-Frac.is c.requires in
    let some : pos 0 ≤ℤ c.in-Frac.q = let more : pos 0 <ℤ c.in-Frac.q = range.positive in omega (arith, ints) in
    let fp : FitsSigned w128 c.in-Frac.p = fits_over c.in-Frac.p range.over in
    let fq : FitsSigned w128 c.in-Frac.q = fits_under c.in-Frac.q range.positive range.under in
    let e = simp to_z-of_z at c.frac.ensures.value in
    e ∙ ap spelled (fraction_of-positive c.in-Frac.p c.in-Frac.q some) ∙ sym (ap spelled c.in-Frac.is)

pub returns-in-Surd-clause-value : goal.returns-in-Surd-clause-value
returns-in-Surd-clause-value c =
    let range = subst IsInRange c.in-Surd.is c.requires in
    let fa : FitsSigned w64 c.in-Surd.a = fits_whole c.in-Surd.a range.whole in
    let e = simp to_z-of_z at c.surd.ensures.value in
    e ∙ sym (ap spelled c.in-Surd.is)

pub returns-in-Frac-clause-range : goal.returns-in-Frac-clause-range
returns-in-Frac-clause-range c = subst (λ (x : Pos). IsInRange x) (sym (returns-in-Frac-clause-value c)) (spelled_range c.args.place c.requires)

pub returns-in-Surd-clause-range : goal.returns-in-Surd-clause-range
returns-in-Surd-clause-range c = subst (λ (x : Pos). IsInRange x) (sym (returns-in-Surd-clause-value c)) (spelled_range c.args.place c.requires)

use Rattle.std.proofs.Common.{◌∙◌, ap, sym, subst, FitsSigned}
use Rattle.std.proofs.lemmas.Int.{to_z-of_z}
use mir.Syntax.{w128}
use Rattle.surd_quot.specs.Range.{IsQuotientInRange}
use Rattle.surd_quot.specs.Spelled.{spelled_quotient}
use Rattle.surd_quot.proofs.Ranges.{spelling_stays_in_range}
use Rattle.surd_quot.specs.declared.position.QPos.TheVariants.{Frac}
use Rattle.oblique_ray.proofs.Runs.{quotient_fraction_is, fraction_fits, divisor_fits}
use Rattle.oblique_ray.proofs.run.fraction_at.Goals as goal

pub returns-clause-value : goal.returns-clause-value
returns-clause-value c =
    let fp : FitsSigned w128 c.args.p = fraction_fits c.args.p c.args.q c.requires in
    let fq : FitsSigned w128 c.args.q = divisor_fits c.args.p c.args.q c.requires in
    simp to_z-of_z at c.frac.ensures.value ∙ ap spelled_quotient (quotient_fraction_is c.args.p c.args.q c.requires.positive)

pub returns-clause-known : goal.returns-clause-known
returns-clause-known c =
    (subst IsQuotientInRange (sym (returns-clause-value c)) (spelling_stays_in_range (Frac c.args.p c.args.q) c.requires), c.frac.ensures.spelled)

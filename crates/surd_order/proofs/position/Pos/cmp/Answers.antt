use Rattle.std.proofs.Common.{arith, FitsSigned, rules}
use Rattle.std.proofs.lemmas.Int.{to_z-of_z, fits_signed_from_abs, ints}
use Rattle.std.proofs.lemmas.Cmp.{int_ranked}
use mir.Syntax.{w64, w128}
use Rattle.surd_order.proofs.FractionOrder.{fractions_ordered}
use Rattle.surd_order.proofs.SurdOrder.{reversed}
use Rattle.surd_order.proofs.PlaceOrderLaws.{ranged_answer}
use Rattle.surd_order.proofs.position.Pos.cmp.Goals as goal

pub returns-in-Frac-Frac-clause-order : goal.returns-in-Frac-Frac-clause-order
returns-in-Frac-Frac-clause-order c =
    let x = rw c.in-Frac-Frac.is-0 at c.requires.self_in_range in
    let y = rw c.in-Frac-Frac.is-1 at c.requires.other_in_range in
    let fp : FitsSigned w128 c.in-Frac-Frac.p = fits_signed_from_abs w128 c.in-Frac-Frac.p (omega (arith, x.over)) in
    let fq : FitsSigned w128 c.in-Frac-Frac.q = fits_signed_from_abs w128 c.in-Frac-Frac.q (omega (arith, ints, x.under, x.positive)) in
    let fr : FitsSigned w128 c.in-Frac-Frac.r = fits_signed_from_abs w128 c.in-Frac-Frac.r (omega (arith, y.over)) in
    let fs : FitsSigned w128 c.in-Frac-Frac.s = fits_signed_from_abs w128 c.in-Frac-Frac.s (omega (arith, ints, y.under, y.positive)) in
    let e = simp to_z-of_z at c.cmp_fractions.ensures in
    rw (c.in-Frac-Frac.is-0, c.in-Frac-Frac.is-1)
    (fractions_ordered c.in-Frac-Frac.p c.in-Frac-Frac.q c.in-Frac-Frac.r c.in-Frac-Frac.s c.cmp_fractions.result x.positive y.positive (int_ranked _ _ c.cmp_fractions.result e))

pub returns-in-Surd-Frac-clause-order : goal.returns-in-Surd-Frac-clause-order
returns-in-Surd-Frac-clause-order c =
    let x = rw c.in-Surd-Frac.is-0 at c.requires.self_in_range in
    let y = rw c.in-Surd-Frac.is-1 at c.requires.other_in_range in
    let fp : FitsSigned w128 c.in-Surd-Frac.p = fits_signed_from_abs w128 c.in-Surd-Frac.p (omega (arith, y.over)) in
    let fq : FitsSigned w128 c.in-Surd-Frac.q = fits_signed_from_abs w128 c.in-Surd-Frac.q (omega (arith, ints, y.under, y.positive)) in
    let fa : FitsSigned w64 c.in-Surd-Frac.a = fits_signed_from_abs w64 c.in-Surd-Frac.a (omega (arith, x.whole)) in
    rw (c.in-Surd-Frac.is-0, c.in-Surd-Frac.is-1, c.reverse.ensures) (reversed _ _ _ (simp to_z-of_z at c.cmp_fraction_with_surd-in-Surd-Frac.ensures))

pub returns-in-Frac-Frac-clause-same : goal.returns-in-Frac-Frac-clause-same
returns-in-Frac-Frac-clause-same c =
    ranged_answer c.cmp_fractions.result c.args.self.now c.args.other.now c.requires.self_in_range c.requires.other_in_range (returns-in-Frac-Frac-clause-order c)

pub returns-in-Frac-Surd-clause-same : goal.returns-in-Frac-Surd-clause-same
returns-in-Frac-Surd-clause-same c =
    ranged_answer c.cmp_fraction_with_surd.result c.args.self.now c.args.other.now c.requires.self_in_range c.requires.other_in_range (search rules)

pub returns-in-Surd-Frac-clause-same : goal.returns-in-Surd-Frac-clause-same
returns-in-Surd-Frac-clause-same c =
    ranged_answer c.reverse.result c.args.self.now c.args.other.now c.requires.self_in_range c.requires.other_in_range (returns-in-Surd-Frac-clause-order c)

pub returns-in-Surd-Surd-clause-same : goal.returns-in-Surd-Surd-clause-same
returns-in-Surd-Surd-clause-same c =
    ranged_answer c.cmp_surds.result c.args.self.now c.args.other.now c.requires.self_in_range c.requires.other_in_range (search rules)

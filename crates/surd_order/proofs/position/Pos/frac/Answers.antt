use Rattle.std.proofs.Common.{FitsSigned, arith, ◌<ℤ◌, ◌≤ℤ◌, pos, ◌-ℤ◌}
use Rattle.std.proofs.lemmas.Int.{to_z-of_z, ints}
use mir.Syntax.{w128}
use Rattle.surd_order.proofs.FracLemmas.{fraction_of-negative, fraction_of-positive}
use Rattle.surd_order.proofs.SpelledPlaces.{spelling_unique, fraction_of-place}
use Rattle.surd_order.proofs.position.Pos.frac.Goals as goal

pub returns-then-q-lt0-clause-same : goal.returns-then-q-lt0-clause-same
returns-then-q-lt0-clause-same c =
    let fp : FitsSigned w128 c.args.p = c.ranges.p in
    let fq : FitsSigned w128 c.args.q = c.ranges.q in
    let fnp : FitsSigned w128 (pos 0 -ℤ c.args.p) = omega (arith, ints) in
    let fnq : FitsSigned w128 (pos 0 -ℤ c.args.q) = omega (arith, ints) in
    let low : c.args.q <ℤ pos 0 = omega (arith, ints) in
    rw (fraction_of-negative c.args.p c.args.q low) (simp to_z-of_z at c.reduced.ensures.same)

pub returns-else-q-lt0-clause-same : goal.returns-else-q-lt0-clause-same
returns-else-q-lt0-clause-same c =
    let fp : FitsSigned w128 c.args.p = c.ranges.p in
    let fq : FitsSigned w128 c.args.q = c.ranges.q in
    let high : pos 0 ≤ℤ c.args.q = omega (arith, ints) in
    rw (fraction_of-positive c.args.p c.args.q high) (simp to_z-of_z at c.reduced-else-q-lt0.ensures.same)

pub returns-then-q-lt0-clause-value : goal.returns-then-q-lt0-clause-value
returns-then-q-lt0-clause-value c =
    spelling_unique _ _ (fraction_of-place c.args.p c.args.q c.requires.divisor) c.reduced.ensures.spelled (returns-then-q-lt0-clause-same c)

pub returns-else-q-lt0-clause-value : goal.returns-else-q-lt0-clause-value
returns-else-q-lt0-clause-value c =
    spelling_unique _ _ (fraction_of-place c.args.p c.args.q c.requires.divisor) c.reduced-else-q-lt0.ensures.spelled (returns-else-q-lt0-clause-same c)

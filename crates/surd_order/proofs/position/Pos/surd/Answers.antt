use Rattle.std.proofs.Common.{arith, FitsSigned, ◌≡◌, ◌≤◌, ◌*◌, ◌+ℤ◌, ◌-ℤ◌, pos, to_z}
use Rattle.std.proofs.lemmas.Int.{to_z-of_z, fits_signed_from_abs, ints}
use mir.Syntax.{w64, w128}
use Rattle.surd_order.proofs.SquareLaws.{root_small, gcd_one, whole_sum, whole_difference}
use Rattle.surd_order.specs.declared.position.Pos.TheVariants.{Surd}
use Rattle.surd_order.proofs.SpelledPlaces.{spelling_unique, surd_kept}
use Rattle.surd_order.proofs.position.Pos.surd.Goals as goal

pub returns-then-plus-clause-spelled : goal.returns-then-plus-clause-spelled
returns-then-plus-clause-spelled c = (omega (arith, ints), gcd_one _)

pub returns-then-plus-clause-same : goal.returns-then-plus-clause-same
returns-then-plus-clause-same c =
    let fa : FitsSigned w64 c.args.a = c.ranges.a in
    let fw : FitsSigned w128 c.args.a = fits_signed_from_abs w128 c.args.a (omega (arith, c.requires)) in
    let small : c.isqrt-root.result ≤ c.args.k = root_small c.isqrt-root.result c.args.k c.isqrt-root.ensures.square in
    let root_is : to_z w128 c.isqrt-root.result ≡ pos c.isqrt-root.result = omega (arith, ints, small, c.ranges.k.fits) in
    let fs : FitsSigned w128 (c.args.a +ℤ pos c.isqrt-root.result) = omega (arith, ints, small, c.ranges.k.fits, c.requires) in
    let square : c.isqrt-root.result * c.isqrt-root.result ≡ c.args.k = omega (arith, c.isqrt-root.ensures.square, c.if-root-k.false) in
    rw c.if-plus.true (simp (root_is, to_z-of_z) (whole_sum c.args.a c.isqrt-root.result c.args.k square))

pub returns-else-plus-clause-spelled : goal.returns-else-plus-clause-spelled
returns-else-plus-clause-spelled c = (omega (arith, ints), gcd_one _)

pub returns-else-plus-clause-same : goal.returns-else-plus-clause-same
returns-else-plus-clause-same c =
    let fa : FitsSigned w64 c.args.a = c.ranges.a in
    let fw : FitsSigned w128 c.args.a = fits_signed_from_abs w128 c.args.a (omega (arith, c.requires)) in
    let small : c.isqrt-root.result ≤ c.args.k = root_small c.isqrt-root.result c.args.k c.isqrt-root.ensures.square in
    let root_is : to_z w128 c.isqrt-root.result ≡ pos c.isqrt-root.result = omega (arith, ints, small, c.ranges.k.fits) in
    let fs : FitsSigned w128 (c.args.a -ℤ pos c.isqrt-root.result) = omega (arith, ints, small, c.ranges.k.fits, c.requires) in
    let square : c.isqrt-root.result * c.isqrt-root.result ≡ c.args.k = omega (arith, c.isqrt-root.ensures.square, c.if-root-k.false) in
    rw c.if-plus.false (simp (root_is, to_z-of_z) (whole_difference c.args.a c.isqrt-root.result c.args.k square))

pub returns-then-plus-clause-value : goal.returns-then-plus-clause-value
returns-then-plus-clause-value c = spelling_unique _ (Surd c.args.a c.args.plus c.args.k) tt (returns-then-plus-clause-spelled c) (returns-then-plus-clause-same c)

pub returns-else-plus-clause-value : goal.returns-else-plus-clause-value
returns-else-plus-clause-value c = spelling_unique _ (Surd c.args.a c.args.plus c.args.k) tt (returns-else-plus-clause-spelled c) (returns-else-plus-clause-same c)

pub returns-then-root-k-clause-value : goal.returns-then-root-k-clause-value
returns-then-root-k-clause-value c =
    let fa : FitsSigned w64 c.args.a = c.ranges.a in
    simp to_z-of_z (surd_kept c.args.a c.args.plus c.args.k c.isqrt-root.result c.if-root-k.true c.isqrt-root.ensures.next)

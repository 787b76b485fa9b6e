use Rattle.std.proofs.Common.{arith, rules, FitsSigned, ◌≡◌, ◌-ℤ◌, ◌*ℤ◌, pos}
use Rattle.std.proofs.lemmas.Int.{ints, to_z-of_z}
use mir.Syntax.{w64, w128}
use Rattle.surd_order.proofs.FractionSurdOrder.{difference_ordered}
use Rattle.surd_order.proofs.order.cmp_fraction_with_difference.Goals as goal

pub returns : goal.returns
returns c =
    let fp : FitsSigned w128 c.args.p = c.ranges.p in
    let fq : FitsSigned w128 c.args.q = c.ranges.q in
    let fa : FitsSigned w64 c.args.a = c.ranges.a in
    let fo : FitsSigned w128 c.offset.result = search rules in
    let fm : FitsSigned w128 (pos 0 -ℤ c.offset.result) = omega (arith, ints) in
    let far = simp to_z-of_z at c.offset.ensures.value in
    let back : pos 0 -ℤ c.offset.result ≡ (c.args.a *ℤ c.args.q) -ℤ c.args.p = omega (arith, ints, far) in
    let scaled = simp to_z-of_z at c.scaled_square.ensures.value in
    let h = simp to_z-of_z at c.cmp_root.ensures in
    rw c.reverse.ensures (difference_ordered c.args.p c.args.q c.args.a c.args.k c.cmp_root.result c.requires.fraction.positive (rw (back, scaled) at h))

use Rattle.std.proofs.Common.{arith, FitsSigned, ◌<ℤ◌}
use Rattle.std.proofs.lemmas.Int.{to_z-of_z, ints}
use mir.Syntax.{w64}
use Rattle.surd_order.proofs.SurdOrder.{mixed_ordered, mixed_beyond}
use Rattle.surd_order.proofs.order.cmp_sum_with_difference.Goals as goal

pub returns-then-a-b : goal.returns-then-a-b
returns-then-a-b c =
    let fa : FitsSigned w64 c.args.a = c.ranges.a in
    let fb : FitsSigned w64 c.args.b = c.ranges.b in
    let apart = simp to_z-of_z at c.distance.ensures.apart in
    rw c.reverse.ensures (mixed_ordered c.args.a c.args.b c.distance.result c.args.k c.args.l c.cmp_whole_with_roots.result apart c.cmp_whole_with_roots.ensures)

pub returns-else-a-b : goal.returns-else-a-b
returns-else-a-b c =
    let fa : FitsSigned w64 c.args.a = c.ranges.a in
    let fb : FitsSigned w64 c.args.b = c.ranges.b in
    let less : c.args.b <ℤ c.args.a = omega (arith, ints) in
    mixed_beyond c.args.a c.args.b c.args.k c.args.l less

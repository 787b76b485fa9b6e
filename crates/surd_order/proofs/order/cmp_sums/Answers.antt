use Rattle.std.proofs.Common.{FitsSigned}
use Rattle.std.proofs.lemmas.Int.{to_z-of_z}
use mir.Syntax.{w64}
use Rattle.surd_order.proofs.SurdOrder.{plus_ordered, reversed}
use Rattle.surd_order.proofs.order.cmp_sums.Goals as goal

pub returns-then-a-b : goal.returns-then-a-b
returns-then-a-b c =
    let fa : FitsSigned w64 c.args.a = c.ranges.a in
    let fb : FitsSigned w64 c.args.b = c.ranges.b in
    let apart = simp to_z-of_z at c.distance.ensures.apart in
    plus_ordered c.args.a c.args.b c.distance.result c.args.k c.args.l c.cmp_root_with_sum.result apart c.cmp_root_with_sum.ensures

pub returns-else-a-b : goal.returns-else-a-b
returns-else-a-b c =
    let fa : FitsSigned w64 c.args.a = c.ranges.a in
    let fb : FitsSigned w64 c.args.b = c.ranges.b in
    let apart = simp to_z-of_z at c.distance-else-a-b.ensures.apart in
    rw c.reverse.ensures (reversed _ _ _ (plus_ordered c.args.b c.args.a c.distance-else-a-b.result c.args.l c.args.k c.cmp_root_with_sum-else-a-b.result apart c.cmp_root_with_sum-else-a-b.ensures))

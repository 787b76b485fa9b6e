use Rattle.std.proofs.Common.{FitsSigned}
use Rattle.std.proofs.lemmas.Int.{to_z-of_z}
use mir.Syntax.{w64}
use Rattle.surd_order.proofs.SurdOrder.{reversed}
use Rattle.surd_order.proofs.order.cmp_surds.Goals as goal

pub returns-in-false-true : goal.returns-in-false-true
returns-in-false-true c =
    let fa : FitsSigned w64 c.args.a = c.ranges.a in
    let fb : FitsSigned w64 c.args.b = c.ranges.b in
    rw (c.in-false-true.is-0, c.in-false-true.is-1, c.reverse.ensures) (reversed _ _ _ (simp to_z-of_z at c.cmp_sum_with_difference-in-false-true.ensures))

use Rattle.std.proofs.Common.{FitsSigned, rules}
use Rattle.std.proofs.lemmas.Int.{to_z-of_z}
use mir.Syntax.{w128}
use Rattle.surd_order.proofs.FracLemmas.{spelled_reduced, same_reduced}
use Rattle.surd_order.proofs.position.Pos.reduced.Goals as goal

pub returns-clause-spelled : goal.returns-clause-spelled
returns-clause-spelled c =
    let fp : FitsSigned w128 c.args.p = c.ranges.p in
    let fq : FitsSigned w128 c.args.q = c.ranges.q in
    let fd : FitsSigned w128 c.common_divisor-divisor.result = search rules in
    let fo : FitsSigned w128 c.quotient.result = search rules in
    let fu : FitsSigned w128 c.quotient-2.result = search rules in
    let over = simp to_z-of_z at c.quotient.ensures in
    let under = simp to_z-of_z at c.quotient-2.ensures in
    let divisor = simp to_z-of_z at c.common_divisor-divisor.ensures.divisor in
    simp to_z-of_z (rw (over, under) (spelled_reduced c.args.p c.args.q c.common_divisor-divisor.result c.requires.positive c.common_divisor-divisor.ensures.positive divisor))

pub returns-clause-same : goal.returns-clause-same
returns-clause-same c =
    let fp : FitsSigned w128 c.args.p = c.ranges.p in
    let fq : FitsSigned w128 c.args.q = c.ranges.q in
    let fd : FitsSigned w128 c.common_divisor-divisor.result = search rules in
    let fo : FitsSigned w128 c.quotient.result = search rules in
    let fu : FitsSigned w128 c.quotient-2.result = search rules in
    let over = simp to_z-of_z at c.quotient.ensures in
    let under = simp to_z-of_z at c.quotient-2.ensures in
    let divisor = simp to_z-of_z at c.common_divisor-divisor.ensures.divisor in
    simp to_z-of_z (rw (over, under) (same_reduced c.args.p c.args.q c.common_divisor-divisor.result c.requires.positive c.common_divisor-divisor.ensures.positive divisor))

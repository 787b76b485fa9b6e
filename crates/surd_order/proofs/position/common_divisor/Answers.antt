use Rattle.std.proofs.Common.{FitsSigned}
use Rattle.std.proofs.lemmas.Int.{to_z-of_z}
use Rattle.std.specs.Int.{IsGcd}
use Rattle.std.specs.Int.RustNames.{unsigned_abs}
use mir.Syntax.{w128}
use Rattle.surd_order.proofs.FracLemmas.{divisor_fits, divisor_positive, divisor_read}
use Rattle.surd_order.proofs.position.common_divisor.Goals as goal

found : (c : goal.After-gcd) → IsGcd (unsigned_abs c.args.p) (unsigned_abs c.args.q) c.gcd.result
found c =
    let fp : FitsSigned w128 c.args.p = c.ranges.p in
    let fq : FitsSigned w128 c.args.q = c.ranges.q in
    let p_is = simp to_z-of_z at c.unsigned_abs.ensures.value in
    let q_is = simp to_z-of_z at c.unsigned_abs-2.ensures.value in
    rw (p_is, q_is) at c.gcd.ensures.divisor

pub overflow_cast-result : goal.overflow_cast-result
overflow_cast-result c = divisor_fits c.args.p c.args.q c.gcd.result c.ranges.q c.requires.positive (found c)

pub returns-clause-divisor : goal.returns-clause-divisor
returns-clause-divisor c = divisor_read c.args.p c.args.q c.gcd.result (divisor_fits c.args.p c.args.q c.gcd.result c.ranges.q c.requires.positive (found c)) (found c)

pub returns-clause-positive : goal.returns-clause-positive
returns-clause-positive c = divisor_positive c.args.p c.args.q c.gcd.result (divisor_fits c.args.p c.args.q c.gcd.result c.ranges.q c.requires.positive (found c)) c.requires.positive (found c)

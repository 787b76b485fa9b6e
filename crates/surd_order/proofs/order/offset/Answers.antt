use Rattle.std.proofs.Common.{arith, rules, FitsSigned, ◌≡◌, ◌≤◌, ◌*◌, ◌-ℤ◌, ◌*ℤ◌, ◌^◌, ℤ, subst, sym, ap}
use Rattle.std.proofs.lemmas.Int.{ints, to_z-of_z, fits_signed_from_abs}
use Rattle.std.specs.Int.RustNames.{unsigned_abs}
use mir.Syntax.{w64, w128}
use Rattle.surd_order.specs.declared.range.TheConstants.{UNDER_LIMIT, WHOLE_LIMIT}
use Rattle.surd_order.proofs.Sizes.{product_size}
use Rattle.surd_order.proofs.order.offset.Goals as goal

far : (c : goal.After-product) → (c.product.result ≡ c.args.a *ℤ c.args.q) × (unsigned_abs (c.args.a *ℤ c.args.q) ≤ WHOLE_LIMIT * unsigned_abs UNDER_LIMIT)
far c =
    let fa : FitsSigned w64 c.args.a = c.ranges.a in
    let fw : FitsSigned w128 c.args.a = fits_signed_from_abs w128 c.args.a (omega (arith, c.requires.whole)) in
    let fq : FitsSigned w128 c.args.q = c.ranges.q in (
      simp to_z-of_z at c.product.ensures,
      product_size c.args.a c.args.q WHOLE_LIMIT (unsigned_abs UNDER_LIMIT) (omega (arith, c.requires.whole)) (omega (arith, ints, c.requires.fraction.positive, c.requires.fraction.under)),
    )

small : (c : goal.After-product) → unsigned_abs c.product.result ≤ WHOLE_LIMIT * unsigned_abs UNDER_LIMIT
small c = subst (λ (z : ℤ). unsigned_abs z ≤ WHOLE_LIMIT * unsigned_abs UNDER_LIMIT) (sym (far c).0) (far c).1

pub overflow_sub-result : goal.overflow_sub-result
overflow_sub-result c = omega (arith, ints, small c, c.requires.fraction.over)

pub returns : goal.returns
returns c =
    let fp : FitsSigned w128 c.args.p = c.ranges.p in
    let fr : FitsSigned w128 c.product.result = search rules in
    let fd : FitsSigned w128 (c.args.p -ℤ c.product.result) = omega (arith, ints, small c, c.requires.fraction.over) in
    let size : unsigned_abs (c.args.p -ℤ c.product.result) ≤ 5 * 2 ^ 61 = omega (arith, ints, small c, c.requires.fraction.over) in
    simp to_z-of_z (record { value = ap (λ z. c.args.p -ℤ z) (far c).0; size = size })

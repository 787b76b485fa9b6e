use Rattle.std.proofs.Common.{◌≡◌, ◌∙◌, ℕ, ℤ, pos, ◌<ℤ◌, ap, sym, subst, false, arith, FitsSigned, to_z, w64}
use Rattle.std.specs.Int.{w128}
use Rattle.std.proofs.lemmas.Int.{ints, to_z-of_z, fits_signed_from_abs}
use Rattle.surd_order.specs.declared.position.Pos.{Pos}
use Rattle.surd_order.specs.declared.position.Pos.TheVariants.{Frac, Surd}
use Rattle.surd_order.specs.Range.{IsInRange}
use Rattle.surd_order.specs.Order.{Precedes}
use Rattle.surd_order.proofs.OrderLaws.{before_fraction}
use Rattle.first_hit.proofs.near.is_well_before.Goals as goal

whole_before : (p near : ℤ) → p <ℤ near → Precedes (Frac p (pos 1)) (Frac near (pos 1))
whole_before p near less = before_fraction (Frac p (pos 1)) near (pos 1) (omega (arith, ints)) (λ within. omega (arith, ints, less, within))

difference_before : (a near : ℤ) (k : ℕ) → a <ℤ near → Precedes (Surd a false k) (Frac near (pos 1))
difference_before a near k less = before_fraction (Surd a false k) near (pos 1) (omega (arith, ints)) (λ within. let from = within.0 in omega (arith, ints, less, from))

pub returns-else-q-ne1 : goal.returns-else-q-ne1
returns-else-q-ne1 c = λ is.
    let range = subst IsInRange c.in-Frac.is c.requires in
    let p : FitsSigned w128 c.in-Frac.p = fits_signed_from_abs w128 c.in-Frac.p (omega (arith, range.over)) in
    let q : FitsSigned w128 c.in-Frac.q = fits_signed_from_abs w128 c.in-Frac.q (omega (arith, ints, range.positive, range.under)) in
    let near : FitsSigned w128 c.args.near = c.ranges.near in
    let one : c.in-Frac.q ≡ pos 1 = sym (to_z-of_z w128 c.in-Frac.q q) ∙ ap (to_z w128) c.if-q-ne1.false in
    let less = simp to_z-of_z at is in
    subst (λ (x : Pos). Precedes x (Frac c.args.near (pos 1))) (sym (c.in-Frac.is ∙ ap (Frac c.in-Frac.p) one))
    (whole_before c.in-Frac.p c.args.near (omega (arith, ints, less)))

pub returns-else-plus : goal.returns-else-plus
returns-else-plus c = λ is.
    let range = subst IsInRange c.in-Surd.is c.requires in
    let a : FitsSigned w64 c.in-Surd.a = fits_signed_from_abs w64 c.in-Surd.a (omega (arith, range.whole)) in
    let wide : FitsSigned w128 c.in-Surd.a = fits_signed_from_abs w128 c.in-Surd.a (omega (arith, range.whole)) in
    let near : FitsSigned w128 c.args.near = c.ranges.near in
    let less = simp to_z-of_z at is in
    subst (λ (x : Pos). Precedes x (Frac c.args.near (pos 1))) (sym (c.in-Surd.is ∙ ap (λ b. Surd c.in-Surd.a b c.in-Surd._k) c.if-plus.false))
    (difference_before c.in-Surd.a c.args.near c.in-Surd._k (omega (arith, ints, less)))

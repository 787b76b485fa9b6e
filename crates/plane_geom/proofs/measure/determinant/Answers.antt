use Rattle.std.proofs.Common.{FitsSigned, w64, ℤ, ◌-ℤ◌, ◌*ℤ◌, ap, ◌∙◌, lit<, pos}
use Rattle.std.proofs.lemmas.Int.{to_z-of_z}
use Rattle.plane_geom.proofs.Sizes.{difference_size, fits64}
use Rattle.lattice_core.specs.declared.limit.TheConstants.{COORD}
use Rattle.plane_geom.specs.declared.limit.TheConstants.{NORMAL}
use Rattle.plane_geom.proofs.measure.determinant.Goals as goal

-- the greatest size of a product
abbrev limit : ℤ
limit = (pos 4 *ℤ COORD) *ℤ COORD

pub returns-clause-value : goal.returns-clause-value
returns-clause-value c =
    let a = c.short_product-down.result in
    let b = c.short_product-up.result in
    let p = difference_size limit limit a b c.short_product-down.ensures.size c.short_product-up.ensures.size in
    let fa : FitsSigned w64 c.short_product-down.result = fits64 limit a (lit< tt) c.short_product-down.ensures.size in
    let fb : FitsSigned w64 c.short_product-up.result = fits64 limit b (lit< tt) c.short_product-up.ensures.size in
    let f : FitsSigned w64 (c.short_product-down.result -ℤ c.short_product-up.result) = fits64 NORMAL (a -ℤ b) (lit< tt) p in
    let ra : FitsSigned w64 c.args.a = c.ranges.a in
    let rb : FitsSigned w64 c.args.b = c.ranges.b in
    let rc : FitsSigned w64 c.args.c = c.ranges.c in
    let rd : FitsSigned w64 c.args.d = c.ranges.d in
    let down = simp to_z-of_z at c.short_product-down.ensures.value in
    let up = simp to_z-of_z at c.short_product-up.ensures.value in
    simp to_z-of_z (ap (λ (z : ℤ). z -ℤ b) down ∙ ap (λ (z : ℤ). (c.args.a *ℤ c.args.d) -ℤ z) up)

pub returns-clause-size : goal.returns-clause-size
returns-clause-size c =
    let a = c.short_product-down.result in
    let b = c.short_product-up.result in
    let p = difference_size limit limit a b c.short_product-down.ensures.size c.short_product-up.ensures.size in
    let fa : FitsSigned w64 c.short_product-down.result = fits64 limit a (lit< tt) c.short_product-down.ensures.size in
    let fb : FitsSigned w64 c.short_product-up.result = fits64 limit b (lit< tt) c.short_product-up.ensures.size in
    let f : FitsSigned w64 (c.short_product-down.result -ℤ c.short_product-up.result) = fits64 NORMAL (a -ℤ b) (lit< tt) p in
    simp to_z-of_z p

use Rattle.std.proofs.Common.{FitsSigned, w64, rules, ℤ, ◌+ℤ◌, ◌*ℤ◌, ap, ◌∙◌, lit<, pos}
use Rattle.std.proofs.lemmas.Int.{to_z-of_z}
use mir.Syntax.{w128}
use Rattle.plane_geom.proofs.Sizes.{sum_size, three_size, fits128}
use Rattle.lattice_core.specs.declared.limit.TheConstants.{WORLD}
use Rattle.plane_geom.specs.declared.limit.TheConstants.{NORMAL}
use Rattle.oblique_ray.proofs.measure.dot.Goals as goal

-- the greatest size of a product
abbrev limit : ℤ
limit = NORMAL *ℤ WORLD

pub overflow_add-result : goal.overflow_add-result
overflow_add-result c =
    let x = c.product-x.result in
    let y = c.product-y.result in
    let fx : FitsSigned w128 c.product-x.result = fits128 limit x (lit< tt) c.product-x.ensures.size in
    let fy : FitsSigned w128 c.product-y.result = fits128 limit y (lit< tt) c.product-y.ensures.size in
    let two = sum_size limit limit x y c.product-x.ensures.size c.product-y.ensures.size in
    let f2 : FitsSigned w128 (c.product-x.result +ℤ c.product-y.result) = fits128 (limit +ℤ limit) (x +ℤ y) (lit< tt) two in
    simp to_z-of_z f2

pub overflow_add-result-2 : goal.overflow_add-result-2
overflow_add-result-2 c =
    let x = c.product-x.result in
    let y = c.product-y.result in
    let z = c.product-z.result in
    let fx : FitsSigned w128 c.product-x.result = fits128 limit x (lit< tt) c.product-x.ensures.size in
    let fy : FitsSigned w128 c.product-y.result = fits128 limit y (lit< tt) c.product-y.ensures.size in
    let fz : FitsSigned w128 c.product-z.result = fits128 limit z (lit< tt) c.product-z.ensures.size in
    let two = sum_size limit limit x y c.product-x.ensures.size c.product-y.ensures.size in
    let f2 : FitsSigned w128 (c.product-x.result +ℤ c.product-y.result) = fits128 (limit +ℤ limit) (x +ℤ y) (lit< tt) two in
    let three = three_size limit x y z c.product-x.ensures.size c.product-y.ensures.size c.product-z.ensures.size in
    let f3 : FitsSigned w128 ((c.product-x.result +ℤ c.product-y.result) +ℤ c.product-z.result) = fits128 (pos 3 *ℤ limit) ((x +ℤ y) +ℤ z) (lit< tt) three in
    simp to_z-of_z f3

pub returns : goal.returns
returns c =
    let x = c.product-x.result in
    let y = c.product-y.result in
    let z = c.product-z.result in
    let fx : FitsSigned w128 c.product-x.result = fits128 limit x (lit< tt) c.product-x.ensures.size in
    let fy : FitsSigned w128 c.product-y.result = fits128 limit y (lit< tt) c.product-y.ensures.size in
    let fz : FitsSigned w128 c.product-z.result = fits128 limit z (lit< tt) c.product-z.ensures.size in
    let two = sum_size limit limit x y c.product-x.ensures.size c.product-y.ensures.size in
    let f2 : FitsSigned w128 (c.product-x.result +ℤ c.product-y.result) = fits128 (limit +ℤ limit) (x +ℤ y) (lit< tt) two in
    let three = three_size limit x y z c.product-x.ensures.size c.product-y.ensures.size c.product-z.ensures.size in
    let f3 : FitsSigned w128 ((c.product-x.result +ℤ c.product-y.result) +ℤ c.product-z.result) = fits128 (pos 3 *ℤ limit) ((x +ℤ y) +ℤ z) (lit< tt) three in
    let ax : FitsSigned w64 c.args.a.x = search rules in
    let ay : FitsSigned w64 c.args.a.y = search rules in
    let az : FitsSigned w64 c.args.a.z = search rules in
    let bx : FitsSigned w64 c.args.b.x = search rules in
    let by : FitsSigned w64 c.args.b.y = search rules in
    let bz : FitsSigned w64 c.args.b.z = search rules in
    let ex = simp to_z-of_z at c.product-x.ensures.value in
    let ey = simp to_z-of_z at c.product-y.ensures.value in
    let ez = simp to_z-of_z at c.product-z.ensures.value in
    let a = c.args.a in
    let b = c.args.b in
    simp to_z-of_z (
    ap (λ (u : ℤ). (u +ℤ y) +ℤ z) ex
    ∙ ap (λ (u : ℤ). ((a.x *ℤ b.x) +ℤ u) +ℤ z) ey
    ∙ ap (λ (u : ℤ). ((a.x *ℤ b.x) +ℤ (a.y *ℤ b.y)) +ℤ u) ez)

use Rattle.std.proofs.Common.{FitsSigned, w64, rules, ℤ, ◌+ℤ◌, ◌*ℤ◌, ap, ◌∙◌, lit<, pos}
use Rattle.std.proofs.lemmas.Int.{to_z-of_z}
use Rattle.plane_geom.proofs.Sizes.{sum_size, three_size, fits64}
use Rattle.plane_geom.specs.declared.limit.TheConstants.{REMOTE}
use Rattle.plane_geom.proofs.chord.length_squared.Goals as goal

-- the greatest square
abbrev limit : ℤ
limit = REMOTE *ℤ REMOTE

pub overflow_add-result-2 : goal.overflow_add-result-2
overflow_add-result-2 c =
    let x = c.squared-x.result in
    let y = c.squared-y.result in
    let z = c.squared-z.result in
    let fx : FitsSigned w64 c.squared-x.result = fits64 limit x (lit< tt) c.squared-x.ensures.size in
    let fy : FitsSigned w64 c.squared-y.result = fits64 limit y (lit< tt) c.squared-y.ensures.size in
    let fz : FitsSigned w64 c.squared-z.result = fits64 limit z (lit< tt) c.squared-z.ensures.size in
    let two = sum_size limit limit x y c.squared-x.ensures.size c.squared-y.ensures.size in
    let f2 : FitsSigned w64 (c.squared-x.result +ℤ c.squared-y.result) = fits64 (limit +ℤ limit) (x +ℤ y) (lit< tt) two in
    let three = three_size limit x y z c.squared-x.ensures.size c.squared-y.ensures.size c.squared-z.ensures.size in
    let f3 : FitsSigned w64 ((c.squared-x.result +ℤ c.squared-y.result) +ℤ c.squared-z.result) = fits64 (pos 3 *ℤ limit) ((x +ℤ y) +ℤ z) (lit< tt) three in
    simp to_z-of_z f3

pub returns-clause-value : goal.returns-clause-value
returns-clause-value c =
    let x = c.squared-x.result in
    let y = c.squared-y.result in
    let z = c.squared-z.result in
    let fx : FitsSigned w64 c.squared-x.result = fits64 limit x (lit< tt) c.squared-x.ensures.size in
    let fy : FitsSigned w64 c.squared-y.result = fits64 limit y (lit< tt) c.squared-y.ensures.size in
    let fz : FitsSigned w64 c.squared-z.result = fits64 limit z (lit< tt) c.squared-z.ensures.size in
    let two = sum_size limit limit x y c.squared-x.ensures.size c.squared-y.ensures.size in
    let f2 : FitsSigned w64 (c.squared-x.result +ℤ c.squared-y.result) = fits64 (limit +ℤ limit) (x +ℤ y) (lit< tt) two in
    let three = three_size limit x y z c.squared-x.ensures.size c.squared-y.ensures.size c.squared-z.ensures.size in
    let f3 : FitsSigned w64 ((c.squared-x.result +ℤ c.squared-y.result) +ℤ c.squared-z.result) = fits64 (pos 3 *ℤ limit) ((x +ℤ y) +ℤ z) (lit< tt) three in
    let vx : FitsSigned w64 c.args.v.x = search rules in
    let vy : FitsSigned w64 c.args.v.y = search rules in
    let vz : FitsSigned w64 c.args.v.z = search rules in
    let ex = simp to_z-of_z at c.squared-x.ensures.value in
    let ey = simp to_z-of_z at c.squared-y.ensures.value in
    let ez = simp to_z-of_z at c.squared-z.ensures.value in
    let v = c.args.v in
    simp to_z-of_z (
    ap (λ (u : ℤ). (u +ℤ y) +ℤ z) ex
    ∙ ap (λ (u : ℤ). ((v.x *ℤ v.x) +ℤ u) +ℤ z) ey
    ∙ ap (λ (u : ℤ). ((v.x *ℤ v.x) +ℤ (v.y *ℤ v.y)) +ℤ u) ez)

pub returns-clause-size : goal.returns-clause-size
returns-clause-size c =
    let x = c.squared-x.result in
    let y = c.squared-y.result in
    let z = c.squared-z.result in
    let fx : FitsSigned w64 c.squared-x.result = fits64 limit x (lit< tt) c.squared-x.ensures.size in
    let fy : FitsSigned w64 c.squared-y.result = fits64 limit y (lit< tt) c.squared-y.ensures.size in
    let fz : FitsSigned w64 c.squared-z.result = fits64 limit z (lit< tt) c.squared-z.ensures.size in
    let two = sum_size limit limit x y c.squared-x.ensures.size c.squared-y.ensures.size in
    let f2 : FitsSigned w64 (c.squared-x.result +ℤ c.squared-y.result) = fits64 (limit +ℤ limit) (x +ℤ y) (lit< tt) two in
    let three = three_size limit x y z c.squared-x.ensures.size c.squared-y.ensures.size c.squared-z.ensures.size in
    let f3 : FitsSigned w64 ((c.squared-x.result +ℤ c.squared-y.result) +ℤ c.squared-z.result) = fits64 (pos 3 *ℤ limit) ((x +ℤ y) +ℤ z) (lit< tt) three in
    simp to_z-of_z three

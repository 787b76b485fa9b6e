use Rattle.std.proofs.Common.{FitsSigned, w64, ◌+ℤ◌, ◌*ℤ◌, lit<}
use Rattle.std.proofs.lemmas.Int.{to_z-of_z}
use Rattle.plane_geom.proofs.Sizes.{product_size, sum_size, fits64}
use Rattle.oblique_ray.specs.declared.limit.TheConstants.{PACE, NEAREST, OVER}
use Rattle.oblique_ray.proofs.measure.raised.Goals as goal

pub overflow_add-result : goal.overflow_add-result
overflow_add-result c =
    let p = product_size PACE OVER c.args.pace c.args.over c.requires.pace c.requires.over in
    let n = product_size NEAREST NEAREST c.args.nearest c.args.nearest c.requires.nearest c.requires.nearest in
    let s = sum_size (PACE *ℤ OVER) (NEAREST *ℤ NEAREST) (c.args.pace *ℤ c.args.over) (c.args.nearest *ℤ c.args.nearest) p n in
    let f1 : FitsSigned w64 c.args.pace = c.ranges.pace in
    let f2 : FitsSigned w64 c.args.over = c.ranges.over in
    let f3 : FitsSigned w64 c.args.nearest = c.ranges.nearest in
    let f4 : FitsSigned w64 (c.args.pace *ℤ c.args.over) = fits64 (PACE *ℤ OVER) (c.args.pace *ℤ c.args.over) (lit< tt) p in
    let f5 : FitsSigned w64 (c.args.nearest *ℤ c.args.nearest) = fits64 (NEAREST *ℤ NEAREST) (c.args.nearest *ℤ c.args.nearest) (lit< tt) n in
    let f6 : FitsSigned w64 ((c.args.pace *ℤ c.args.over) +ℤ (c.args.nearest *ℤ c.args.nearest)) = fits64 ((PACE *ℤ OVER) +ℤ (NEAREST *ℤ NEAREST)) ((c.args.pace *ℤ c.args.over) +ℤ (c.args.nearest *ℤ c.args.nearest)) (lit< tt) s in
    simp to_z-of_z f6

pub returns : goal.returns
returns c =
    let p = product_size PACE OVER c.args.pace c.args.over c.requires.pace c.requires.over in
    let n = product_size NEAREST NEAREST c.args.nearest c.args.nearest c.requires.nearest c.requires.nearest in
    let s = sum_size (PACE *ℤ OVER) (NEAREST *ℤ NEAREST) (c.args.pace *ℤ c.args.over) (c.args.nearest *ℤ c.args.nearest) p n in
    let f1 : FitsSigned w64 c.args.pace = c.ranges.pace in
    let f2 : FitsSigned w64 c.args.over = c.ranges.over in
    let f3 : FitsSigned w64 c.args.nearest = c.ranges.nearest in
    let f4 : FitsSigned w64 (c.args.pace *ℤ c.args.over) = fits64 (PACE *ℤ OVER) (c.args.pace *ℤ c.args.over) (lit< tt) p in
    let f5 : FitsSigned w64 (c.args.nearest *ℤ c.args.nearest) = fits64 (NEAREST *ℤ NEAREST) (c.args.nearest *ℤ c.args.nearest) (lit< tt) n in
    let f6 : FitsSigned w64 ((c.args.pace *ℤ c.args.over) +ℤ (c.args.nearest *ℤ c.args.nearest)) = fits64 ((PACE *ℤ OVER) +ℤ (NEAREST *ℤ NEAREST)) ((c.args.pace *ℤ c.args.over) +ℤ (c.args.nearest *ℤ c.args.nearest)) (lit< tt) s in
    simp to_z-of_z

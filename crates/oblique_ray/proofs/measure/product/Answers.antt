use Rattle.std.proofs.Common.{FitsSigned, arith, ◌*ℤ◌, lit<}
use Rattle.std.proofs.lemmas.Int.{ints, to_z-of_z}
use mir.Syntax.{w128}
use Rattle.lattice_core.specs.Limits.{IsAtMost}
use Rattle.plane_geom.proofs.Sizes.{product_size, fits128}
use Rattle.lattice_core.specs.declared.limit.TheConstants.{WORLD}
use Rattle.plane_geom.specs.declared.limit.TheConstants.{NORMAL}
use Rattle.oblique_ray.proofs.measure.product.Goals as goal

pub returns-clause-size : goal.returns-clause-size
returns-clause-size c =
    let a : IsAtMost NORMAL c.from.result = (omega (arith, ints), omega (arith, ints)) in
    let b : IsAtMost WORLD c.from-2.result = (omega (arith, ints), omega (arith, ints)) in
    let p = product_size NORMAL WORLD c.from.result c.from-2.result a b in
    let fa : FitsSigned w128 c.from.result = fits128 NORMAL c.from.result (lit< tt) a in
    let fb : FitsSigned w128 c.from-2.result = fits128 WORLD c.from-2.result (lit< tt) b in
    let f : FitsSigned w128 (c.from.result *ℤ c.from-2.result) = fits128 (NORMAL *ℤ WORLD) (c.from.result *ℤ c.from-2.result) (lit< tt) p in
    simp to_z-of_z p

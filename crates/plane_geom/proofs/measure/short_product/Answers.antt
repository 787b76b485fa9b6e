use Rattle.std.proofs.Common.{FitsSigned, w64, ℤ, pos, ◌*ℤ◌, refl, lit<}
use Rattle.std.proofs.lemmas.Int.{to_z-of_z}
use Rattle.lattice_core.specs.declared.limit.TheConstants.{COORD}
use Rattle.plane_geom.proofs.Sizes.{product_size, fits64}
use Rattle.plane_geom.proofs.measure.short_product.Goals as goal

abbrev side : ℤ
side = pos 2 *ℤ COORD

pub returns-clause-value : goal.returns-clause-value
returns-clause-value c =
    let p = product_size side side c.args.a c.args.b c.requires.first c.requires.second in
    let fa : FitsSigned w64 c.args.a = c.ranges.a in
    let fb : FitsSigned w64 c.args.b = c.ranges.b in
    let f : FitsSigned w64 (c.args.a *ℤ c.args.b) = fits64 (side *ℤ side) (c.args.a *ℤ c.args.b) (lit< tt) p in
    simp to_z-of_z refl

pub returns-clause-size : goal.returns-clause-size
returns-clause-size c =
    let p = product_size side side c.args.a c.args.b c.requires.first c.requires.second in
    let fa : FitsSigned w64 c.args.a = c.ranges.a in
    let fb : FitsSigned w64 c.args.b = c.ranges.b in
    let f : FitsSigned w64 (c.args.a *ℤ c.args.b) = fits64 (side *ℤ side) (c.args.a *ℤ c.args.b) (lit< tt) p in
    simp to_z-of_z p

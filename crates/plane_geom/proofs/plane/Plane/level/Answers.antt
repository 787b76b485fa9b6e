use Rattle.std.proofs.Common.{◌≡◌, ◌<◌, FitsSigned, w64, arith, ap, ◌∙◌, lit<}
use Rattle.std.proofs.lemmas.Int.{to_z-of_z}
use Rattle.lattice_core.specs.Units.{unit_of}
use Rattle.lattice_core.specs.Vectors.{dot_product}
use Rattle.plane_geom.proofs.Sizes.{fits64}
use Rattle.plane_geom.specs.Vectors.{square_of}
use Rattle.plane_geom.proofs.Levels.{square_some, square_along, level_small}
use Rattle.plane_geom.specs.declared.limit.TheConstants.{NORMAL}
use Rattle.plane_geom.proofs.plane.Plane.level.Goals as goal

pub nonzero_div-result : goal.nonzero_div-result
nonzero_div-result c =
    let some = square_some _ c.requires.crossed in
    let le = square_along c.args.self.now.n c.args.ray.now.dir in
    omega (arith, some, le, c.square_of_length.ensures)

pub overflow_cast-result : goal.overflow_cast-result
overflow_cast-result c =
    let some : 0 < square_of (dot_product c.args.self.now.n (unit_of c.args.ray.now.dir)) = square_some _ c.requires.crossed in
    let le = square_along c.args.self.now.n c.args.ray.now.dir in
    let fa : FitsSigned w64 c.along.result = fits64 NORMAL c.along.result (lit< tt) (c.along.ensures.size NORMAL c.requires.plane.normal) in
    let e = simp to_z-of_z at c.square-square.ensures.value in
    let whole : c.square-square.result ≡ square_of (dot_product c.args.self.now.n (unit_of c.args.ray.now.dir)) = e ∙ ap square_of c.along.ensures.value in
    let l = c.square_of_length.ensures in
    record { fits = level_small c.square-square.result c.square_of_length.result (omega (arith, some, le, l)) (omega (arith, whole, le, l)) }

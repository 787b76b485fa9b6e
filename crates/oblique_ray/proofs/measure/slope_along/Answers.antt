use Rattle.std.proofs.Common.{FitsSigned, lit<, sym, subst}
use Rattle.std.proofs.lemmas.Int.{to_z-of_z}
use mir.Syntax.{w128}
use Rattle.lattice_core.specs.Limits.{IsAtMost}
use Rattle.plane_geom.proofs.Sizes.{fits128}
use Rattle.oblique_ray.specs.declared.limit.TheConstants.{SLOPE}
use Rattle.oblique_ray.proofs.Sizes.{slope_size}
use Rattle.oblique_ray.proofs.measure.slope_along.Goals as goal

pub returns-clause-value : goal.returns-clause-value
returns-clause-value c =
    let size : IsAtMost SLOPE c.dot.result = subst (IsAtMost SLOPE) (sym c.dot.ensures) (slope_size c.args.plane.now c.args.e c.requires.plane c.requires.direction) in
    let f : FitsSigned w128 c.dot.result = fits128 SLOPE c.dot.result (lit< tt) size in
    simp to_z-of_z c.dot.ensures

pub returns-clause-size : goal.returns-clause-size
returns-clause-size c =
    let size : IsAtMost SLOPE c.dot.result = subst (IsAtMost SLOPE) (sym c.dot.ensures) (slope_size c.args.plane.now c.args.e c.requires.plane c.requires.direction) in
    let f : FitsSigned w128 c.dot.result = fits128 SLOPE c.dot.result (lit< tt) size in
    simp to_z-of_z size

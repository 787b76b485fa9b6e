use Rattle.std.proofs.Common.{FitsSigned, w64, lit<, sym, subst}
use Rattle.std.proofs.lemmas.Int.{to_z-of_z}
use mir.Syntax.{w128}
use Rattle.lattice_core.specs.Limits.{IsAtMost}
use Rattle.plane_geom.proofs.Sizes.{fits64, fits128}
use Rattle.oblique_ray.specs.declared.limit.TheConstants.{NEAREST}
use Rattle.oblique_ray.proofs.Sizes.{nearest_size}
use Rattle.oblique_ray.proofs.measure.nearest_along.Goals as goal

pub overflow_cast-result : goal.overflow_cast-result
overflow_cast-result c =
    let size : IsAtMost NEAREST c.dot.result = subst (IsAtMost NEAREST) (sym c.dot.ensures) (nearest_size c.args.apart c.args.e c.requires.apart c.requires.direction) in
    let f : FitsSigned w128 c.dot.result = fits128 NEAREST c.dot.result (lit< tt) size in
    let g : FitsSigned w64 c.dot.result = fits64 NEAREST c.dot.result (lit< tt) size in
    simp to_z-of_z g

pub returns-clause-value : goal.returns-clause-value
returns-clause-value c =
    let size : IsAtMost NEAREST c.dot.result = subst (IsAtMost NEAREST) (sym c.dot.ensures) (nearest_size c.args.apart c.args.e c.requires.apart c.requires.direction) in
    let f : FitsSigned w128 c.dot.result = fits128 NEAREST c.dot.result (lit< tt) size in
    let g : FitsSigned w64 c.dot.result = fits64 NEAREST c.dot.result (lit< tt) size in
    simp to_z-of_z c.dot.ensures

pub returns-clause-size : goal.returns-clause-size
returns-clause-size c =
    let size : IsAtMost NEAREST c.dot.result = subst (IsAtMost NEAREST) (sym c.dot.ensures) (nearest_size c.args.apart c.args.e c.requires.apart c.requires.direction) in
    let f : FitsSigned w128 c.dot.result = fits128 NEAREST c.dot.result (lit< tt) size in
    let g : FitsSigned w64 c.dot.result = fits64 NEAREST c.dot.result (lit< tt) size in
    simp to_z-of_z size

use Rattle.std.proofs.Common.{FitsSigned, w64, lit<, sym, subst}
use Rattle.std.proofs.lemmas.Int.{to_z-of_z}
use Rattle.lattice_core.specs.Limits.{IsAtMost}
use Rattle.plane_geom.proofs.Sizes.{fits64}
use Rattle.oblique_ray.specs.declared.limit.TheConstants.{PACE}
use Rattle.oblique_ray.proofs.Sizes.{pace_size}
use Rattle.oblique_ray.proofs.measure.pace_of.Goals as goal

pub returns-clause-size : goal.returns-clause-size
returns-clause-size c =
    let size : IsAtMost PACE c.length_squared.result = subst (IsAtMost PACE) (sym c.length_squared.ensures.value) (pace_size c.args.e c.requires) in
    let f : FitsSigned w64 c.length_squared.result = fits64 PACE c.length_squared.result (lit< tt) size in
    simp to_z-of_z size

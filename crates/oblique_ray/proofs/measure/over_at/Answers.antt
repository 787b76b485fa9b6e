use Rattle.std.proofs.Common.{FitsSigned, w64, ◌≡◌, ◌-ℤ◌, ◌∙◌, lit<, sym, subst}
use Rattle.std.proofs.lemmas.Int.{to_z-of_z}
use Rattle.lattice_core.specs.Limits.{IsAtMost}
use Rattle.plane_geom.specs.Chords.{squared, length_squared}
use Rattle.plane_geom.proofs.Sizes.{fits64}
use Rattle.oblique_ray.specs.declared.limit.TheConstants.{OVER}
use Rattle.oblique_ray.proofs.Sizes.{over_size, less_nothing}
use Rattle.oblique_ray.proofs.measure.over_at.Goals as goal

pub returns-clause-value : goal.returns-clause-value
returns-clause-value c =
    let r : FitsSigned w64 c.args.radius = c.ranges.radius in
    let is = simp to_z-of_z at c.half_chord.ensures in
    let e : c.half_chord.result ≡ squared c.args.radius -ℤ length_squared c.args.apart = is ∙ less_nothing (squared c.args.radius) (length_squared c.args.apart) in
    let size : IsAtMost OVER c.half_chord.result = subst (IsAtMost OVER) (sym e) (over_size c.args.apart c.args.radius c.requires.apart c.requires.radius) in
    let f : FitsSigned w64 c.half_chord.result = fits64 OVER c.half_chord.result (lit< tt) size in
    simp to_z-of_z e

pub returns-clause-size : goal.returns-clause-size
returns-clause-size c =
    let r : FitsSigned w64 c.args.radius = c.ranges.radius in
    let is = simp to_z-of_z at c.half_chord.ensures in
    let e : c.half_chord.result ≡ squared c.args.radius -ℤ length_squared c.args.apart = is ∙ less_nothing (squared c.args.radius) (length_squared c.args.apart) in
    let size : IsAtMost OVER c.half_chord.result = subst (IsAtMost OVER) (sym e) (over_size c.args.apart c.args.radius c.requires.apart c.requires.radius) in
    let f : FitsSigned w64 c.half_chord.result = fits64 OVER c.half_chord.result (lit< tt) size in
    simp to_z-of_z size

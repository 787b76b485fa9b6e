use Rattle.std.proofs.Common.{FitsSigned, w64, ℤ, ◌≡◌, ◌+ℤ◌, ◌*ℤ◌, ◌≤ℤ◌, lit<, sym, subst}
use Rattle.std.proofs.lemmas.Int.{to_z-of_z}
use Rattle.plane_geom.specs.Chords.{half_chord_along}
use Rattle.plane_geom.proofs.Sizes.{fits64}
use Rattle.oblique_ray.specs.declared.limit.TheConstants.{CHORD, PACE, OVER, NEAREST}
use Rattle.oblique_ray.proofs.Sizes.{half_small, half_chord_is, fits_raised}
use Rattle.oblique_ray.proofs.measure.half_chord_along.Goals as goal

pub returns-clause-value : goal.returns-clause-value
returns-clause-value c =
    let pace : FitsSigned w64 c.pace_of.result = fits64 PACE c.pace_of.result (lit< tt) c.pace_of.ensures.size in
    let over : FitsSigned w64 c.over_at.result = fits64 OVER c.over_at.result (lit< tt) c.over_at.ensures.size in
    let near : FitsSigned w64 c.nearest_along.result = fits64 NEAREST c.nearest_along.result (lit< tt) c.nearest_along.ensures.size in
    let radius : FitsSigned w64 c.args.radius = c.ranges.radius in
    let is : c.raised.result ≡ (c.pace_of.result *ℤ c.over_at.result) +ℤ (c.nearest_along.result *ℤ c.nearest_along.result) = simp to_z-of_z at c.raised.ensures in
    let over_is = simp to_z-of_z at c.over_at.ensures.value in
    let e : c.raised.result ≡ half_chord_along c.args.apart c.args.radius c.args.e =
    half_chord_is c.args.apart c.args.radius c.args.e c.raised.result c.pace_of.result c.over_at.result c.nearest_along.result is c.pace_of.ensures.value over_is c.nearest_along.ensures.value in
    let f : FitsSigned w64 c.raised.result = fits_raised c.raised.result c.pace_of.result c.over_at.result c.nearest_along.result is c.pace_of.ensures.size c.over_at.ensures.size c.nearest_along.ensures.size in
    simp to_z-of_z e

pub returns-clause-size : goal.returns-clause-size
returns-clause-size c =
    let pace : FitsSigned w64 c.pace_of.result = fits64 PACE c.pace_of.result (lit< tt) c.pace_of.ensures.size in
    let over : FitsSigned w64 c.over_at.result = fits64 OVER c.over_at.result (lit< tt) c.over_at.ensures.size in
    let near : FitsSigned w64 c.nearest_along.result = fits64 NEAREST c.nearest_along.result (lit< tt) c.nearest_along.ensures.size in
    let radius : FitsSigned w64 c.args.radius = c.ranges.radius in
    let is : c.raised.result ≡ (c.pace_of.result *ℤ c.over_at.result) +ℤ (c.nearest_along.result *ℤ c.nearest_along.result) = simp to_z-of_z at c.raised.ensures in
    let over_is = simp to_z-of_z at c.over_at.ensures.value in
    let e : c.raised.result ≡ half_chord_along c.args.apart c.args.radius c.args.e =
    half_chord_is c.args.apart c.args.radius c.args.e c.raised.result c.pace_of.result c.over_at.result c.nearest_along.result is c.pace_of.ensures.value over_is c.nearest_along.ensures.value in
    let f : FitsSigned w64 c.raised.result = fits_raised c.raised.result c.pace_of.result c.over_at.result c.nearest_along.result is c.pace_of.ensures.size c.over_at.ensures.size c.nearest_along.ensures.size in
    let size : c.raised.result ≤ℤ CHORD = subst (λ (z : ℤ). z ≤ℤ CHORD) (sym e) (half_small c.args.apart c.args.e c.args.radius c.requires.direction c.requires.radius) in
    simp to_z-of_z size

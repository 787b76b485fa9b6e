use Rattle.std.proofs.Common.{rules, lit<, sym, subst, FitsSigned, w64, ◌<ℤ◌, ℤ, pos}
use Rattle.std.proofs.lemmas.Int.{to_z-of_z}
use Rattle.plane_geom.proofs.Sizes.{fits64}
use Rattle.oblique_ray.specs.declared.limit.TheConstants.{PACE, NEAREST}
use Rattle.oblique_ray.proofs.Sizes.{radius_size}
use Rattle.oblique_ray.proofs.Runs.{ball_through}
use Rattle.oblique_ray.proofs.run.Run.past_ball.Goals as goal

pub half_chord_along-requires-clause-radius : goal.half_chord_along-requires-clause-radius
half_chord_along-requires-clause-radius c =
    let fr : FitsSigned w64 c.args.radius = c.ranges.radius in
    simp to_z-of_z (radius_size c.args.radius c.requires.radius)

pub past_chord-requires-clause-some : goal.past_chord-requires-clause-some
past_chord-requires-clause-some c =
    let fp : FitsSigned w64 c.pace_of.result = fits64 PACE c.pace_of.result (lit< tt) c.pace_of.ensures.size in
    simp to_z-of_z (subst (λ (z : ℤ). pos 0 <ℤ z) (sym c.pace_of.ensures.value) c.requires.some)

pub returns-clause-value : goal.returns-clause-value
returns-clause-value c =
    let fr : FitsSigned w64 c.args.radius = c.ranges.radius in
    let fp : FitsSigned w64 c.pace_of.result = fits64 PACE c.pace_of.result (lit< tt) c.pace_of.ensures.size in
    let fn : FitsSigned w64 c.nearest_along-nearest.result = fits64 NEAREST c.nearest_along-nearest.result (lit< tt) c.nearest_along-nearest.ensures.size in
    let fk : FitsSigned w64 c.half_chord_along.result = search rules in
    let is = simp to_z-of_z at c.past_chord.ensures.value in
    let k_is = simp to_z-of_z at c.half_chord_along.ensures.value in
    ball_through c.args.self c.past_chord.result c.args.centre c.args.radius c.args.o c.args.e c.apart_from-apart.result c.pace_of.result c.nearest_along-nearest.result c.half_chord_along.result is
    c.apart_from-apart.ensures.value c.pace_of.ensures.value c.nearest_along-nearest.ensures.value k_is

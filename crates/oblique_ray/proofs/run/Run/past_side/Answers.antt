use Rattle.std.proofs.Common.{rules, ◌≢◌, arith, lit<, sym, subst, FitsSigned, w64, pos}
use Rattle.std.proofs.lemmas.Int.{ints, to_z-of_z}
use Rattle.lattice_core.specs.Limits.{IsWithin}
use Rattle.plane_geom.proofs.Sizes.{fits64}
use Rattle.slant_ray.specs.declared.ray.TheConstants.{STEP}
use Rattle.oblique_ray.specs.declared.limit.TheConstants.{PACE, NEAREST, OVER}
use Rattle.oblique_ray.proofs.Sizes.{radius_size, across_within, none_step}
use Rattle.oblique_ray.proofs.Runs.{side_along, side_across, some_pace}
use Rattle.oblique_ray.proofs.run.Run.past_side.Goals as goal

pub pace_of-pace-requires : goal.pace_of-pace-requires
pace_of-pace-requires c = subst (IsWithin STEP) (sym c.across-across.ensures.value) (across_within c.args.axis STEP c.args.e none_step c.requires.direction)

pub over_at-requires-clause-radius : goal.over_at-requires-clause-radius
over_at-requires-clause-radius c =
    let fr : FitsSigned w64 c.args.radius = c.ranges.radius in
    simp to_z-of_z (radius_size c.args.radius c.requires.radius)

pub nearest_along-nearest-requires-clause-direction : goal.nearest_along-nearest-requires-clause-direction
nearest_along-nearest-requires-clause-direction c = subst (IsWithin STEP) (sym c.across-across.ensures.value) (across_within c.args.axis STEP c.args.e none_step c.requires.direction)

pub half_chord_along-requires-clause-direction : goal.half_chord_along-requires-clause-direction
half_chord_along-requires-clause-direction c = subst (IsWithin STEP) (sym c.across-across.ensures.value) (across_within c.args.axis STEP c.args.e none_step c.requires.direction)

pub half_chord_along-requires-clause-radius : goal.half_chord_along-requires-clause-radius
half_chord_along-requires-clause-radius c =
    let fr : FitsSigned w64 c.args.radius = c.ranges.radius in
    simp to_z-of_z (radius_size c.args.radius c.requires.radius)

pub past_chord-requires-clause-some : goal.past_chord-requires-clause-some
past_chord-requires-clause-some c =
    let fp : FitsSigned w64 c.pace_of-pace.result = fits64 PACE c.pace_of-pace.result (lit< tt) c.pace_of-pace.ensures.size in
    let some : c.pace_of-pace.result ≢ pos 0 = λ none. absurd (omega (arith, ints, none, c.if-pace-eq0.false)) in
    simp to_z-of_z (some_pace c.across-across.result c.pace_of-pace.result c.pace_of-pace.ensures.value some)

pub returns-then-pace-eq0-clause-value : goal.returns-then-pace-eq0-clause-value
returns-then-pace-eq0-clause-value c =
    let fr : FitsSigned w64 c.args.radius = c.ranges.radius in
    let fp : FitsSigned w64 c.pace_of-pace.result = fits64 PACE c.pace_of-pace.result (lit< tt) c.pace_of-pace.ensures.size in
    let fo : FitsSigned w64 c.over_at.result = fits64 OVER c.over_at.result (lit< tt) c.over_at.ensures.size in
    let over_is = simp to_z-of_z at c.over_at.ensures.value in
    side_along c.args.self c.held.result c.args.centre c.args.radius c.args.axis c.args.o c.args.e c.apart_from.result c.across-apart.result c.across-across.result c.pace_of-pace.result c.over_at.result _
    c.held.ensures.value (search rules) c.apart_from.ensures.value c.across-apart.ensures.value c.across-across.ensures.value c.pace_of-pace.ensures.value over_is (omega (arith, ints, c.if-pace-eq0.true))

pub returns-else-pace-eq0-clause-value : goal.returns-else-pace-eq0-clause-value
returns-else-pace-eq0-clause-value c =
    let fr : FitsSigned w64 c.args.radius = c.ranges.radius in
    let fp : FitsSigned w64 c.pace_of-pace.result = fits64 PACE c.pace_of-pace.result (lit< tt) c.pace_of-pace.ensures.size in
    let fn : FitsSigned w64 c.nearest_along-nearest.result = fits64 NEAREST c.nearest_along-nearest.result (lit< tt) c.nearest_along-nearest.ensures.size in
    let fk : FitsSigned w64 c.half_chord_along.result = search rules in
    let is = simp to_z-of_z at c.past_chord.ensures.value in
    let k_is = simp to_z-of_z at c.half_chord_along.ensures.value in
    side_across c.args.self c.past_chord.result c.args.centre c.args.radius c.args.axis c.args.o c.args.e c.apart_from.result c.across-apart.result c.across-across.result c.pace_of-pace.result c.nearest_along-nearest.result
    c.half_chord_along.result is c.apart_from.ensures.value c.across-apart.ensures.value c.across-across.ensures.value c.pace_of-pace.ensures.value c.nearest_along-nearest.ensures.value k_is
    (λ none. absurd (omega (arith, ints, none, c.if-pace-eq0.false)))

use Rattle.std.proofs.Common.{FitsSigned, w64, rules, ◌≡◌, ◌∙◌, ℤ, pos, ◌-ℤ◌, ap, sym, subst, Option, ◌↔◌, ◌≤ℤ◌, IsNone, IfNone, IfSome, lit<}
use Rattle.std.proofs.lemmas.Int.{to_z-of_z}
use Rattle.lattice_core.specs.Limits.{IsAtMost}
use Rattle.lattice_core.specs.declared.vector.V3.{V3}
use Rattle.lattice_core.specs.Units.{unit_of}
use Rattle.lattice_core.specs.Vectors.{dot_product, vector_difference}
use Rattle.plane_geom.proofs.Sizes.{fits64}
use Rattle.plane_geom.specs.declared.chord.Chord.{Chord}
use Rattle.prim_sphere.specs.Spheres.{squared, length_squared, nearest_on, half_chord_squared, chord_of, IsSmallChord, HoldsBetween, HoldsOnceAtMost}
use Rattle.prim_sphere.proofs.Chords.{none_is, small_at, held_at, missed_at}
use Rattle.plane_geom.specs.declared.limit.TheConstants.{REMOTE}
use Rattle.prim_sphere.proofs.chord.crossed_at.Goals as goal

nearest : (c : goal.After-of) → c.along-a.result ≡ nearest_on c.args.centre c.args.ray.now
nearest c = c.along-a.ensures.value ∙ ap (λ (v : V3). dot_product v (unit_of c.args.ray.now.dir)) c.apart_from-apart.ensures.value

half : (c : goal.After-of) → c.half_chord.result ≡ half_chord_squared c.args.centre c.args.radius c.args.ray.now
half c =
    let fa : FitsSigned w64 c.along-a.result = fits64 REMOTE c.along-a.result (lit< tt) (c.along-a.ensures.size REMOTE c.apart_from-apart.ensures.size) in
    let fr : FitsSigned w64 c.args.radius = c.ranges.radius in
    simp to_z-of_z at c.half_chord.ensures
    ∙ ap (λ (v : V3). squared c.args.radius -ℤ (length_squared v -ℤ squared c.along-a.result)) c.apart_from-apart.ensures.value
    ∙ ap (λ (z : ℤ). squared c.args.radius -ℤ (length_squared (vector_difference c.args.centre c.args.ray.now.origin) -ℤ squared z)) (nearest c)

pub half_chord-requires-clause-along : goal.half_chord-requires-clause-along
half_chord-requires-clause-along c =
    let size : IsAtMost REMOTE c.along-a.result = c.along-a.ensures.size REMOTE c.apart_from-apart.ensures.size in
    let fa : FitsSigned w64 c.along-a.result = fits64 REMOTE c.along-a.result (lit< tt) size in
    simp to_z-of_z size

pub returns-clause-value : goal.returns-clause-value
returns-clause-value c =
    let fa : FitsSigned w64 c.along-a.result = fits64 REMOTE c.along-a.result (lit< tt) (c.along-a.ensures.size REMOTE c.apart_from-apart.ensures.size) in
    let fk : FitsSigned w64 c.half_chord.result = search rules in
    simp to_z-of_z at c.of.ensures
    ∙ ap (λ (z : ℤ). chord_of z c.half_chord.result) (nearest c)
    ∙ ap (λ (z : ℤ). chord_of (nearest_on c.args.centre c.args.ray.now) z) (half c)

pub returns-clause-none : goal.returns-clause-none
returns-clause-none c =
    subst (λ (r : Option Chord). IsNone r ↔ (half_chord_squared c.args.centre c.args.radius c.args.ray.now ≤ℤ pos 0)) (sym (returns-clause-value c))
    (none_is (nearest_on c.args.centre c.args.ray.now) (half_chord_squared c.args.centre c.args.radius c.args.ray.now))

pub returns-clause-small : goal.returns-clause-small
returns-clause-small c =
    subst (λ (r : Option Chord). IfSome r (IsSmallChord c.args.radius)) (sym (returns-clause-value c))
    (small_at c.args.centre c.args.radius c.args.ray.now (subst (IsAtMost REMOTE) (nearest c) (c.along-a.ensures.size REMOTE c.apart_from-apart.ensures.size)) c.requires.radius)

pub returns-clause-held : goal.returns-clause-held
returns-clause-held c =
    subst (λ (r : Option Chord). IfSome r (HoldsBetween c.args.centre c.args.radius c.args.ray.now)) (sym (returns-clause-value c))
    (held_at c.args.centre c.args.radius c.args.ray.now)

pub returns-clause-missed : goal.returns-clause-missed
returns-clause-missed c =
    subst (λ (r : Option Chord). IfNone r (HoldsOnceAtMost c.args.centre c.args.radius c.args.ray.now)) (sym (returns-clause-value c))
    (missed_at c.args.centre c.args.radius c.args.ray.now)

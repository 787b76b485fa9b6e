use Rattle.std.proofs.Common.{◌∙◌, ◌<ℤ◌, pos, sym, subst}
use Rattle.lattice_core.specs.declared.vector.V3.{V3}
use Rattle.plane_geom.specs.Chords.{length_squared}
use Rattle.oblique_ray.proofs.Runs.{has_length, run_of_faces}
use Rattle.oblique_ray.proofs.slant.slant_segment.Goals as goal

pub past_round-requires-clause-some : goal.past_round-requires-clause-some
past_round-requires-clause-some c = subst (λ (v : V3). pos 0 <ℤ length_squared v) (sym c.direction-e.ensures) (has_length _ c.requires.some)

pub returns-clause-value : goal.returns-clause-value
returns-clause-value c =
    c.ended.ensures.value
    ∙ run_of_faces c.args.solid.now.surface c.args.ray.now.origin c.direction-e.result _ c.planes-planes.result c.round.result c.whole.result c.past_planes.result c.past_round.result
    c.direction-e.ensures (has_length _ c.requires.some) c.planes-planes.ensures.value c.round.ensures.value c.whole.ensures.value c.past_planes.ensures.value c.past_round.ensures.value

use Rattle.std.proofs.Common.{◌≡◌, ◌∙◌, flat_map, ap}
use Rattle.std.proofs.lemmas.Result.{IfOk-weaker}
use Rattle.shot_core.specs.Regions.{instances_of}
use Rattle.slant_ray.specs.Rays.{direction_of}
use Rattle.oblique_ray.specs.Shots.{segments_on}
use Rattle.oblique_ray.specs.ShotSteps.{numbered_segment}
use Rattle.oblique_ray.proofs.Reached.{reached}
use Rattle.oblique_ray.proofs.Runs.{has_length}
use Rattle.oblique_ray.proofs.piece.pieces_of.Goals as goal

pub returns-clause-pieces : goal.returns-clause-pieces
returns-clause-pieces c =
    let o = c.args.ray.now.origin in
    let e = direction_of c.args.ray.now in
    let whole : flat_map (numbered_segment (instances_of c.args.scene.now) c.args.ray.now.origin (direction_of c.args.ray.now)) c.deref.result.now ≡ segments_on c.args.scene.now c.args.ray.now.origin (direction_of c.args.ray.now) =
    ap (flat_map (numbered_segment (instances_of c.args.scene.now) o e)) c.deref.ensures.value
    ∙ reached o e c.args.scene.now c.in-Some.index.now c.meets_slant.new.out.items (has_length _ c.requires.some) c.in-Some.ensures.boxes c.in_ok-meets_slant.ensures c.by_instance.ensures.placed in
    IfOk-weaker c.pieces_among.result _ _ (λ v h. h ∙ whole) c.pieces_among.ensures.pieces

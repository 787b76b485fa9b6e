use Rattle.std.proofs.Common.{[], map}
use Rattle.shot_core.specs.Steps.{owned_from}
use Rattle.oblique_ray.specs.CutSteps.{segment_of_piece}
use Rattle.oblique_ray.specs.ShotSteps.{owners_noted}
use Rattle.oblique_ray.proofs.Reached.{noted_next}
use Rattle.oblique_ray.proofs.piece.touched.Goals as goal

pub loop-piece-preserved : goal.loop-piece-preserved
loop-piece-preserved c =
    noted_next c.args.scene.now c.args.pieces.now c.loop-piece.piece-index c.owner.result _ c.loop-piece.numbers.items c.note.new.hit.items
    (owners_noted (owned_from 0 c.args.scene.now) (map segment_of_piece c.args.pieces.now) []) c.loop-piece-test.true
    (c.requires c.loop-piece.piece-index _ c.loop-piece-test.true) c.owner.ensures c.in_ok-note.ensures c.loop-piece.invariant

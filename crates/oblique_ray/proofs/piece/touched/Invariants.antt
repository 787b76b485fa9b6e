use Rattle.std.proofs.Common.{◌≡◌, [], map, drop}
use Rattle.shot_core.specs.Steps.{owned_from}
use Rattle.oblique_ray.specs.CutSteps.{segment_of_piece}
use Rattle.oblique_ray.specs.ShotSteps.{owners_noted}
use Rattle.oblique_ray.proofs.piece.touched.Given as goal

abbrev pub invariant-loop-piece : goal.invariant-loop-piece
invariant-loop-piece l =
    owners_noted (owned_from 0 l.scene) (map segment_of_piece (drop l.piece-index l.pieces)) l.numbers.items ≡ owners_noted (owned_from 0 l.scene) (map segment_of_piece l.pieces) []

use Rattle.std.proofs.Common.{◌≡◌, All, map, flat_map, take}
use Rattle.shot_core.specs.Regions.{instances_of}
use Rattle.slant_ray.specs.Rays.{direction_of}
use Rattle.oblique_ray.specs.CutSteps.{IsPieceInRange, segment_of_piece}
use Rattle.oblique_ray.specs.ShotSteps.{numbered_segment}
use Rattle.oblique_ray.proofs.piece.pieces_among.Given as goal

abbrev pub invariant-loop-number : goal.invariant-loop-number
invariant-loop-number l = record {
  made : map segment_of_piece l.pieces.items ≡ flat_map (numbered_segment (instances_of l.scene) l.ray.origin (direction_of l.ray)) (take l.number-index l.numbers);
  range : All IsPieceInRange l.pieces.items;
}

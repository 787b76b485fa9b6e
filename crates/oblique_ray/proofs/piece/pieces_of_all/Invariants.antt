use Rattle.std.proofs.Common.{◌≡◌, ◌+◌, ◌++◌, All, length, map, drop}
use Rattle.lattice_core.specs.declared.limit.TheConstants.{FAR}
use Rattle.shot_core.specs.Regions.{instances_of}
use Rattle.oblique_ray.specs.CutSteps.{IsPieceInRange, segment_of_piece}
use Rattle.slant_ray.specs.Rays.{direction_of}
use Rattle.oblique_ray.specs.Shots.{segments_from, segments_on}
use Rattle.oblique_ray.proofs.piece.pieces_of_all.Given as goal

abbrev pub invariant-loop-region : goal.invariant-loop-region
invariant-loop-region l = record {
  made : map segment_of_piece l.pieces.items ++ segments_from FAR l.ray.origin (direction_of l.ray) l.first (instances_of (drop l.region-index l.region-items))
      ≡ segments_on l.scene l.ray.origin (direction_of l.ray);
  range : All IsPieceInRange l.pieces.items;
  left : l.first + length (instances_of (drop l.region-index l.region-items)) ≡ length (instances_of l.scene);
}

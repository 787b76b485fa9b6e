use Rattle.std.proofs.Common.{◌≡◌, ◌+◌, ◌++◌, All, map, drop}
use Rattle.lattice_core.specs.declared.limit.TheConstants.{FAR}
use Rattle.shot_core.specs.Prepared.{instance_of}
use Rattle.oblique_ray.specs.CutSteps.{IsPieceInRange, segment_of_piece}
use Rattle.slant_ray.specs.Rays.{direction_of}
use Rattle.oblique_ray.specs.Shots.{segments_from}
use Rattle.oblique_ray.proofs.piece.add_pieces.Given as goal

abbrev pub invariant-loop-i : goal.invariant-loop-i
invariant-loop-i l = record {
  made : map segment_of_piece l.pieces.items ++ segments_from FAR l.ray.origin (direction_of l.ray) (l.first + l.i) (map instance_of (drop l.i l.solids))
      ≡ map segment_of_piece l.fn.pieces.items ++ segments_from FAR l.ray.origin (direction_of l.ray) l.first (map instance_of l.solids);
  range : All IsPieceInRange l.pieces.items;
}

use Rattle.std.proofs.Common.{◌≡◌, map, take}
use Rattle.lattice_core.specs.declared.limit.TheConstants.{FAR}
use Rattle.slant_ranks.specs.Slants.{woven_by_ranks}
use Rattle.oblique_ray.specs.CutSteps.{segment_of_piece}
use Rattle.oblique_ray.proofs.piece.weave_pieces.Given as goal

abbrev pub invariant-loop-piece : goal.invariant-loop-piece
invariant-loop-piece l = l.weave ≡ take l.piece-index (woven_by_ranks FAR (map segment_of_piece l.pieces))

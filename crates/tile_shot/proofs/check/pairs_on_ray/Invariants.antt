use Rattle.std.proofs.Common.{◌≡◌, map, take}
use Rattle.tile_shot.specs.RaySteps.{pair_by_place}
use Rattle.tile_shot.proofs.check.pairs_on_ray.Given as goal

abbrev pub invariant-loop-run : goal.invariant-loop-run
invariant-loop-run l = l.pairs.items ≡ map (pair_by_place l.scene l.column l.row) (take l.run-index l.runs)

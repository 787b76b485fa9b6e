use Rattle.std.proofs.Common.{◌≡◌, map, take}
use Rattle.std.specs.Arc.{arc_value}
use Rattle.tile_shot.specs.Pixels.{bodies_of}
use Rattle.tile_shot.proofs.key.bodies_of.Given as goal

abbrev pub invariant-loop-region : goal.invariant-loop-region
invariant-loop-region l = map arc_value l.bodies.items ≡ bodies_of (take l.region-index l.regions)

use Rattle.std.proofs.Common.{◌≡◌, map, drop, nat_le}
use Rattle.std.specs.Arc.{arc_value}
use Rattle.tile_shot.specs.Named.{size_of_bodies, most_tile_size}
use Rattle.tile_shot.proofs.small.are_small.Given as goal

abbrev pub invariant-loop-body : goal.invariant-loop-body
invariant-loop-body l = nat_le (size_of_bodies (map arc_value (drop l.body-index l.bodies))) l.room ≡ nat_le (size_of_bodies (map arc_value l.bodies)) most_tile_size

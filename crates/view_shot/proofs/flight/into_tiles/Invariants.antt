use Rattle.std.proofs.Common.{◌≡◌, map}
use Rattle.view_shot.specs.declared.work.Shot.TheVariants.{Tile}
use Rattle.view_shot.proofs.flight.into_tiles.Given as goal

abbrev pub invariant-loop-shot : goal.invariant-loop-shot
invariant-loop-shot l = map Tile l.tiles.items ≡ l.yielded

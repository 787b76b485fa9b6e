use Rattle.std.proofs.Common.{All}
use Rattle.tile_workers.specs.Cells.{IsOwn}
use Rattle.tile_workers.proofs.shoot.shoot_next.Given as goal

abbrev pub invariant-loop : goal.invariant-loop
invariant-loop g l = All (IsOwn (g.J.Job.gives l.job)) l.shots.items

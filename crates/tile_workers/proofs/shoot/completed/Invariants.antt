use Rattle.std.proofs.Common.{◌≡◌, length, vec_len}
use Rattle.tile_workers.specs.Results.{AreResults}
use Rattle.tile_workers.proofs.shoot.completed.Given as goal

abbrev pub invariant-loop-cell : goal.invariant-loop-cell
invariant-loop-cell g l = record {
  len : vec_len l.all ≡ length l.yielded;
  each : AreResults (g.J.Job.gives l.job) (vec_len l.all) l.all.items;
}

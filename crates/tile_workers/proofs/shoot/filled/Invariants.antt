use Rattle.std.proofs.Common.{◌≡◌, ◌<◌, ◌^◌, vec_len}
use Rattle.tile_workers.specs.Cells.{HaveOwn}
use Rattle.tile_workers.proofs.shoot.filled.Given as goal

abbrev pub invariant-loop-shots : goal.invariant-loop-shots
invariant-loop-shots g l = record {
  len : vec_len l.cells ≡ g.J.Job.pieces l.job;
  few : vec_len l.cells < 2 ^ 32;
  own : HaveOwn (g.J.Job.gives l.job) l.cells.items;
}

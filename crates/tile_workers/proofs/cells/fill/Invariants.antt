use Rattle.std.proofs.Common.{◌≡◌, vec_len}
use Rattle.tile_workers.specs.Cells.{HaveOwn}
use Rattle.tile_workers.proofs.cells.fill.Given as goal

abbrev pub invariant-loop-shot : goal.invariant-loop-shot
invariant-loop-shot g l = record {
  len : vec_len l.cells ≡ vec_len l.initial.cells;
  own : HaveOwn (g.J.Job.gives l.job) l.cells.items;
}

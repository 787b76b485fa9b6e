use Rattle.std.proofs.Common.{◌≡◌, vec_len}
use Rattle.tile_workers.specs.Cells.{HaveOwn}
use Rattle.tile_workers.proofs.cells.empty_cells.Given as goal

abbrev pub invariant-loop : goal.invariant-loop
invariant-loop g l = record {
  len : vec_len l.cells ≡ l.counter;
  own : HaveOwn (g.J.Job.gives l.job) l.cells.items;
}

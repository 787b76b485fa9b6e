use Rattle.std.proofs.Common.{◌≡◌, vec_len}
use Rattle.tile_pool.proofs.posted.empty_cells.Given as goal

abbrev pub invariant-loop : goal.invariant-loop
invariant-loop g l = vec_len l.cells ≡ l.counter

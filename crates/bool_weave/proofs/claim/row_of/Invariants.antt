use Rattle.std.proofs.Common.{◌≡◌, ◌<◌, ◌+◌, ◌-◌, ℕ, false, slice_index_or, vec_len}
use Rattle.bool_weave.specs.Masks.{mask_holds}
use Rattle.bool_weave.specs.Tables.{at_leaf}
use Rattle.bool_weave.proofs.claim.row_of.Given as goal

abbrev pub invariant-loop-interval : goal.invariant-loop-interval
invariant-loop-interval l = record {
  len : vec_len l.row ≡ l.interval - l.from;
  each : (k : ℕ) → k < l.interval - l.from → slice_index_or l.row.items k false ≡ mask_holds l.tree (at_leaf l.table (l.from + k));
}

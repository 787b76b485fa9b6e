use Rattle.std.proofs.Common.{◌≡◌, ◌<◌, ◌≤◌, ◌+◌, ◌-◌, ℕ, All, length, take, drop, vec_len}
use Rattle.bool_weave.specs.Claims.{spans}
use Rattle.bool_weave.specs.Tables.{interval_at, at_leaf}
use Rattle.bool_weave.proofs.span.spans_of.Given as goal

abbrev pub invariant-loop-one : goal.invariant-loop-one
invariant-loop-one l = record {
  leaves : (k i : ℕ) → k + 1 < length l.cuts → at_leaf l.table.items k i ≡ spans (take l.one-index l.woven) (interval_at l.cuts k) (l.first + i);
  bound : All (λ s. s.to ≤ length l.cuts - 1) l.table.items;
  behind : All (λ w. vec_len l.table + l.first ≤ w.instance) (drop l.one-index l.woven);
}

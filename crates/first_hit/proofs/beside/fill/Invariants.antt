use Rattle.std.proofs.Common.{◌≡◌, ◌+◌, ℕ, take, vec_len}
use Rattle.first_hit.specs.FirstSteps.{value_at, spans_on}
use Rattle.first_hit.proofs.beside.fill.Given as goal

abbrev pub invariant-loop-one : goal.invariant-loop-one
invariant-loop-one l = record {
  len : vec_len l.values ≡ l.count;
  each : (i : ℕ) → value_at l.values.items i ≡ spans_on l.flank (take l.one-index l.own) l.place (l.first + i);
}

use Rattle.std.proofs.Common.{◌≡◌, ◌<◌, ◌≤◌, ℕ, Some, None, cond, false, vec_len, slice_index_or}
use Rattle.overlap_list.specs.Winners.{or_else}
use Rattle.overlap_list.specs.Steps.{winner_at}
use Rattle.overlap_list.proofs.winner.take_free.Given as goal

abbrev pub invariant-loop-k : goal.invariant-loop-k
invariant-loop-k l = record {
  len : vec_len l.winners ≡ vec_len l.initial.winners;
  done : (k : ℕ) → k < l.k → winner_at l.winners.items k ≡ or_else (winner_at l.initial.winners.items k) (cond (slice_index_or l.claims k false) (Some l.place) None);
  left : (k : ℕ) → l.k ≤ k → winner_at l.winners.items k ≡ winner_at l.initial.winners.items k;
}

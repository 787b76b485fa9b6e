use Rattle.std.proofs.Common.{◌≡◌, ℕ, vec_len, take}
use Rattle.std.specs.List.{position}
use Rattle.overlap_list.specs.Winners.{or_else}
use Rattle.overlap_list.specs.Steps.{winner_at, is_claimed_by}
use Rattle.overlap_list.proofs.winner.take_in_order.Given as goal

abbrev pub invariant-loop-i : goal.invariant-loop-i
invariant-loop-i l = record {
  len : vec_len l.winners ≡ vec_len l.initial.winners;
  done : (k : ℕ) → winner_at l.winners.items k ≡ or_else (winner_at l.initial.winners.items k) (position (is_claimed_by l.air k) (take l.i l.regions));
}

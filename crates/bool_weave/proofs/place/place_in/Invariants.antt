use Rattle.std.proofs.Common.{◌-◌, ◌≡◌, ◌<◌, ◌≤◌, ℕ, true, false, length, slice_index_or}
use Rattle.surd_order.specs.declared.position.Pos.{Pos}
use Rattle.bool_weave.specs.Claims.{is_before}
use Rattle.bool_weave.proofs.place.place_in.Given as goal

abbrev pub invariant-loop-low : goal.invariant-loop-low
invariant-loop-low l = record {
  ordered : l.low ≤ l.high;
  within : l.high ≤ length l.places;
  before : (k : ℕ) (d : Pos) → k < l.low → is_before (slice_index_or l.places k d) l.place ≡ true;
  after : (k : ℕ) (d : Pos) → l.high ≤ k → k < length l.places → is_before (slice_index_or l.places k d) l.place ≡ false;
}

abbrev pub decreases-loop-low : goal.decreases-loop-low
decreases-loop-low l = l.high - l.low

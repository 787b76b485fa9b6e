use Rattle.std.proofs.Common.{◌-◌, ◌≡◌, ◌<◌, ◌≤◌, ℕ, true, false, length, slice_index_or}
use Rattle.surd_quot.specs.declared.position.QPos.{QPos}
use Rattle.surd_quot.specs.PlaceOrder.{quotient_cmp}
use Rattle.bool_weave.specs.Lines.{comes_before}
use Rattle.oblique_ray.proofs.cut.rank_in.Given as goal

abbrev pub invariant-loop-low : goal.invariant-loop-low
invariant-loop-low l = record {
  ordered : l.low ≤ l.high;
  within : l.high ≤ length l.places;
  before : (k : ℕ) (d : QPos) → k < l.low → comes_before quotient_cmp (slice_index_or l.places k d) l.place ≡ true;
  after : (k : ℕ) (d : QPos) → l.high ≤ k → k < length l.places → comes_before quotient_cmp (slice_index_or l.places k d) l.place ≡ false;
}

abbrev pub decreases-loop-low : goal.decreases-loop-low
decreases-loop-low l = l.high - l.low

use Rattle.std.proofs.Common.{◌≤◌, ◌-◌, length}
use Rattle.shared_pages.specs.Pages.{AreBelow, AreFrom}
use Rattle.shared_pages.proofs.search.first_from.Given as goal

abbrev pub invariant-loop-low : goal.invariant-loop-low
invariant-loop-low g l = record {
  below : AreBelow l.pages l.number l.low;
  from : AreFrom l.pages l.number l.high;
  within : l.high ≤ length l.pages;
  order : l.low ≤ l.high;
}

abbrev pub decreases-loop-low : goal.decreases-loop-low
decreases-loop-low g l = l.high - l.low

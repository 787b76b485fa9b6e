use Rattle.std.proofs.Common.{◌≤◌, ◌+◌, ◌-◌, length}
use Rattle.shared_pages.specs.Pages.{AreBelow, AreFrom}
use Rattle.shared_pages.specs.Groups.{firsts}
use Rattle.shared_pages.proofs.spot.groups_upto.Given as goal

abbrev pub invariant-loop-low : goal.invariant-loop-low
invariant-loop-low g l = record {
  below : AreBelow (firsts l.groups) (l.number + 1) l.low;
  from : AreFrom (firsts l.groups) (l.number + 1) l.high;
  within : l.high ≤ length l.groups;
  order : l.low ≤ l.high;
}

abbrev pub decreases-loop-low : goal.decreases-loop-low
decreases-loop-low g l = l.high - l.low

use Rattle.std.proofs.Common.{◌≡◌, ◌≤◌, drop, length}
use Rattle.overlap_list.specs.Hits.{lowest}
use Rattle.plain_shot.proofs.hit.lowest.Given as goal

abbrev pub invariant-loop-left : goal.invariant-loop-left
invariant-loop-left l = record {
  within : l.left ≤ length l.segments;
  best : l.best ≡ lowest (drop l.left l.segments);
}

abbrev pub decreases-loop-left : goal.decreases-loop-left
decreases-loop-left l = l.left

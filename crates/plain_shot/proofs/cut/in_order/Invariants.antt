use Rattle.std.proofs.Common.{◌≡◌, ◌≤◌, drop, length}
use Rattle.bool_weave.specs.Cuts.{in_order}
use Rattle.plain_shot.proofs.cut.in_order.Given as goal

abbrev pub invariant-loop-left : goal.invariant-loop-left
invariant-loop-left l = record {
  within : l.left ≤ length l.places;
  sorted : l.sorted.items ≡ in_order (drop l.left l.places);
}

abbrev pub decreases-loop-left : goal.decreases-loop-left
decreases-loop-left l = l.left

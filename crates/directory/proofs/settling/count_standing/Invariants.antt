use Rattle.std.proofs.Common.{◌<◌, ◌≤◌, ◌-◌, take, length}
use Rattle.directory.specs.Walks.{deepest, most_depth}
use Rattle.directory.proofs.settling.count_standing.Given as goal

abbrev pub invariant-loop-refused : goal.invariant-loop-refused
invariant-loop-refused l = record {
  apart : l.standing < l.refused;
  within : l.refused ≤ length l.objects;
  sound : deepest (take l.standing l.objects) ≤ most_depth;
  deep : most_depth < deepest (take l.refused l.objects);
}

abbrev pub decreases-loop-refused : goal.decreases-loop-refused
decreases-loop-refused l = l.refused - l.standing

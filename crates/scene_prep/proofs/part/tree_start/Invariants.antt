use Rattle.std.proofs.Common.{◌≤◌, length}
use Rattle.scene_prep.proofs.Parts.{AreWanted}
use Rattle.scene_prep.proofs.part.tree_start.Given as goal

abbrev pub invariant-loop-wanted : goal.invariant-loop-wanted
invariant-loop-wanted l = record {
  within : l.start ≤ length l.nodes;
  room : l.wanted ≤ l.start;
  wants : AreWanted l.nodes l.start l.wanted;
}

abbrev pub decreases-loop-wanted : goal.decreases-loop-wanted
decreases-loop-wanted l = l.start

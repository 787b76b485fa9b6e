use Rattle.std.proofs.Common.{◌≡◌, ◌++◌, filter, length}
use Rattle.box_index.specs.Nodes.{content, is_crossed_at, AreSound}
use Rattle.box_index.proofs.slant.add_crossed.Given as goal

abbrev pub invariant-loop-node : goal.invariant-loop-node
invariant-loop-node l = record {
  sound : AreSound l.boxes l.rest;
  found : l.out.items ++ filter (is_crossed_at l.boxes l.line) (content l.rest) ≡ l.initial.out.items ++ filter (is_crossed_at l.boxes l.line) (content l.nodes);
}

abbrev pub decreases-loop-node : goal.decreases-loop-node
decreases-loop-node l = length l.rest

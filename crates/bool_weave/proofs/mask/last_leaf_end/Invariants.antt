use Rattle.std.proofs.Common.{◌≤◌, ◌^◌, take}
use Rattle.bool_weave.specs.Tables.{AreLeavesBelow}
use Rattle.bool_weave.proofs.mask.last_leaf_end.Given as goal

abbrev pub invariant-loop-node : goal.invariant-loop-node
invariant-loop-node l = record {
  all : AreLeavesBelow l.end (take l.node-index l.nodes);
  bound : l.end ≤ 2 ^ 32;
}

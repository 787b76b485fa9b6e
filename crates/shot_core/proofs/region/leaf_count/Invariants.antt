use Rattle.std.proofs.Common.{◌≡◌, ◌+◌, length, filter, drop}
use Rattle.shot_core.specs.Steps.{is_leaf}
use Rattle.shot_core.proofs.region.leaf_count.Given as goal

abbrev pub invariant-loop-node : goal.invariant-loop-node
invariant-loop-node l = l.count + length (filter is_leaf (drop l.node-index l.nodes)) ≡ length (filter is_leaf l.nodes)

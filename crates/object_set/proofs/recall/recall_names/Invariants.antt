use Rattle.std.proofs.Common.{All, take}
use Rattle.object_set.specs.Named.{HasName}
use Rattle.object_set.proofs.recall.recall_names.Given as goal

abbrev pub invariant-loop-node : goal.invariant-loop-node
invariant-loop-node l = All HasName (take l.node-index l.nodes)

use Rattle.std.proofs.Common.{◌+◌, ◌*◌, take}
use Rattle.scene_prep.proofs.Writing.{HasWritten}
use Rattle.scene_prep.proofs.expand.+expand.Given as goal

abbrev pub decreases-expand_name : goal.decreases-expand_name
decreases-expand_name l = 3 * l.levels

abbrev pub decreases-expand_node : goal.decreases-expand_node
decreases-expand_node l = 3 * l.levels + 1

abbrev pub decreases-expand_nodes : goal.decreases-expand_nodes
decreases-expand_nodes l = 3 * l.levels + 2

abbrev pub invariant-expand_nodes-loop-node : goal.invariant-expand_nodes-loop-node
invariant-expand_nodes-loop-node l = HasWritten l.directory.objects l.by l.initial.out l.out (take l.node-index l.nodes)

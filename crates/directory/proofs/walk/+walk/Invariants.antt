use Rattle.std.proofs.Common.{◌+◌, ◌*◌, take}
use Rattle.directory.specs.Places.{AreFound, KeepsFound}
use Rattle.directory.proofs.FindLemmas.{NodesFound}
use Rattle.directory.proofs.walk.+walk.Given as goal

abbrev pub decreases-find_object : goal.decreases-find_object
decreases-find_object l = 5 * l.levels

abbrev pub decreases-find_place : goal.decreases-find_place
decreases-find_place l = 5 * l.levels + 1

abbrev pub decreases-find_name : goal.decreases-find_name
decreases-find_name l = 5 * l.levels + 2

abbrev pub decreases-find_node : goal.decreases-find_node
decreases-find_node l = 5 * l.levels + 3

abbrev pub decreases-find_nodes : goal.decreases-find_nodes
decreases-find_nodes l = 5 * l.levels + 4

abbrev pub invariant-find_nodes-loop-node : goal.invariant-find_nodes-loop-node
invariant-find_nodes-loop-node l = record {
  depth : NodesFound (take l.count l.objects) (take l.node-index l.nodes) l.levels l.most;
  found : AreFound (take l.count l.objects) l.depths;
  kept : KeepsFound l.initial.depths l.depths;
}

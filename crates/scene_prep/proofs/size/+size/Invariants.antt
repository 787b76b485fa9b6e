use Rattle.std.proofs.Common.{◌≡◌, ◌+◌, ◌*◌, take}
use Rattle.std.specs.HashMap.{get}
use Rattle.name_core.specs.Same.{same_name}
use Rattle.scene_prep.specs.Sizes.{told_size}
use Rattle.scene_prep.specs.Levels.{nodes_size, AreSizes}
use Rattle.scene_prep.proofs.size.+size.Given as goal

abbrev pub decreases-size_of_name : goal.decreases-size_of_name
decreases-size_of_name l = 4 * l.levels + 1

abbrev pub decreases-size_of_object : goal.decreases-size_of_object
decreases-size_of_object l = 4 * l.levels

abbrev pub decreases-size_of_nodes : goal.decreases-size_of_nodes
decreases-size_of_nodes l = 4 * l.levels + 3

abbrev pub decreases-size_of_node : goal.decreases-size_of_node
decreases-size_of_node l = 4 * l.levels + 2

abbrev pub invariant-size_of_nodes-loop-node : goal.invariant-size_of_nodes-loop-node
invariant-size_of_nodes-loop-node l = record {
  size : l.total ≡ told_size (nodes_size l.directory.objects (take l.node-index l.nodes));
  known : AreSizes l.directory.objects (get same_name l.sizes);
}

use Rattle.directory.specs.Depths.{depth_kept}
use Rattle.directory.proofs.PlaceLemmas.{nodes_step}
use Rattle.directory.proofs.depths.Depths.deepest_of.Goals as goal

pub loop-node-preserved : goal.loop-node-preserved
loop-node-preserved c =
    nodes_step (depth_kept c.args.self.now) c.args.nodes.now c.loop-node.node-index c.node-item.result c.node-item.result c.loop-node.most c.of_node.result c.larger-most.result
    c.loop-node-test.true c.node-item.is c.loop-node.invariant c.of_node.ensures c.larger-most.ensures

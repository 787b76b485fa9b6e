use Rattle.std.proofs.Common.{arith}
use Rattle.object_set.specs.Named.{HasName}
use Rattle.object_set.proofs.Each.{all_more, all_done}
use Rattle.object_set.proofs.recall.recall_names.Goals as goal

pub loop-node-preserved : goal.loop-node-preserved
loop-node-preserved c = all_more HasName c.args.nodes.now c.loop-node.node-index c.node-item.result c.loop-node-test.true c.node-item.is c.loop-node.invariant c.recall_name.ensures

pub returns : goal.returns
returns c = all_done HasName c.args.nodes.now c.loop-node.node-index (omega arith) c.loop-node.invariant

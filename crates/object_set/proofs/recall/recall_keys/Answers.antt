use Rattle.std.proofs.Common.{arith}
use Rattle.object_set.specs.Named.{HasKey}
use Rattle.object_set.proofs.Each.{all_more, all_done}
use Rattle.object_set.proofs.recall.recall_keys.Goals as goal

pub loop-attribute-preserved : goal.loop-attribute-preserved
loop-attribute-preserved c = all_more HasKey c.args.kept.now c.loop-attribute.attribute-index c.attribute-item.result c.loop-attribute-test.true c.attribute-item.is c.loop-attribute.invariant c.bytes-bytes.ensures.named

pub returns : goal.returns
returns c = all_done HasKey c.args.kept.now c.loop-attribute.attribute-index (omega arith) c.loop-attribute.invariant

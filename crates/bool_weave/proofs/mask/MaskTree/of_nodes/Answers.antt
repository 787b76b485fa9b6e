use Rattle.std.proofs.Common.{rules}
use Rattle.bool_weave.proofs.Held.{nodes_kept}
use Rattle.bool_weave.proofs.mask.MaskTree.of_nodes.Goals as goal

pub invariant_of-result : goal.invariant_of-result
invariant_of-result c = (nodes_kept c.requires.0 c.args.nodes.items c.requires.1, search rules, search rules)

pub returns : goal.returns
returns c = nodes_kept c.requires.0 c.args.nodes.items c.requires.1

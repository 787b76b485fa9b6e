use Rattle.std.proofs.Common.{◌∙◌, reverse, length}
use Rattle.std.proofs.lemmas.Iterator.Adapters.{YieldsList-from_rev_slice}
use Rattle.std.proofs.lemmas.Iterator.Consumers.{YieldsList-turn}
use Rattle.std.proofs.lemmas.List.{length_push}
use Rattle.put_form.proofs.WritingLaws.{node_more}
use Rattle.put_form.proofs.write_tree.push_nodes_backwards.Goals as goal

pub loop-node-preserved : goal.loop-node-preserved
loop-node-preserved c =
    let here = YieldsList-turn (YieldsList-from_rev_slice c.args.nodes.now cc) c.loop-node.yielded _ c.loop-node.yielded_by _ _ c.in-Some.node c.in-Some.is c.next.ensures.steps in
    node_more (reverse c.args.nodes.now) (length c.loop-node.yielded) _ c.in-Some.node.now c.loop-node.line.items c.push_node.new.line.items (reverse c.loop-node.stack.items) (reverse c.push_node.new.stack.items)
    here (length_push c.loop-node.yielded c.in-Some.node) c.in_ok-push_node.ensures.line c.in_ok-push_node.ensures.stack
    ∙ c.loop-node.invariant

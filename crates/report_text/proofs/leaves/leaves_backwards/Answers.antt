use Rattle.std.proofs.Common.{◌∙◌, reverse, length}
use Rattle.std.proofs.lemmas.Iterator.Adapters.{YieldsList-from_rev_slice}
use Rattle.std.proofs.lemmas.Iterator.Consumers.{YieldsList-turn}
use Rattle.std.proofs.lemmas.List.{length_push}
use Rattle.report_text.proofs.LeafLaws.{node_found}
use Rattle.report_text.proofs.leaves.leaves_backwards.Goals as goal

pub loop-node-preserved : goal.loop-node-preserved
loop-node-preserved c =
    let here = YieldsList-turn (YieldsList-from_rev_slice c.args.nodes.now cc) c.loop-node.yielded _ c.loop-node.yielded_by _ _ c.in-Some.node c.in-Some.is c.next.ensures.steps in
    node_found (reverse c.args.nodes.now) (length c.loop-node.yielded) _ c.in-Some.node.now c.loop-node.found.items c.pass_node.new.found.items (reverse c.loop-node.operators.items) (reverse c.pass_node.new.operators.items)
    here (length_push c.loop-node.yielded c.in-Some.node) c.in_ok-pass_node.ensures.found c.in_ok-pass_node.ensures.operators
    ∙ c.loop-node.invariant

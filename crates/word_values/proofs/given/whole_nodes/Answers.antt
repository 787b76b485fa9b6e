use Rattle.std.proofs.Common.{◌+◌, ◌++◌, ◌∙◌, List, ap, sym, drop, map}
use Rattle.std.specs.Option.{option_map}
use Rattle.comb_tree.specs.declared.node.CombNode.{CombNode}
use Rattle.word_values.specs.Reading.{comb_node, all_there}
use Rattle.word_values.proofs.GivenLaws.{whole_more}
use Rattle.word_values.proofs.given.whole_nodes.Goals as goal

pub loop-node-preserved : goal.loop-node-preserved
loop-node-preserved c =
    let at = c.loop-node.node-index in
    ap (λ (done : List CombNode). option_map (λ more. done ++ more) (all_there (map comb_node (drop (at + 1) c.args.nodes.now)))) c.in_ok-push.ensures.items
    ∙ whole_more c.args.nodes.now at c.node-item.result c.in-Some.node c.loop-node.found.items c.loop-node-test.true (ap comb_node (sym c.node-item.is) ∙ sym c.in-Some.ensures) ∙ c.loop-node.invariant

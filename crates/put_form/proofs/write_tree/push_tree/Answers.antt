use Rattle.std.proofs.Common.{◌≡◌, ◌≢◌, ◌++◌, ◌∙◌, ap, sym, codes, length, reverse, [], append-nil, append_assoc, arith, List}
use Rattle.std.proofs.lemmas.Bool.{eqb-true, eqb-false}
use Rattle.comb_tree.specs.declared.node.CombNode.{CombNode}
use Rattle.put_form.specs.WritingSteps.{walked}
use Rattle.put_form.proofs.WritingLaws.{two_more, no_nodes, some_nodes}
use Rattle.put_form.proofs.write_tree.push_tree.Goals as goal

pub returns-then-is_empty : goal.returns-then-is_empty
returns-then-is_empty c =
    let none : length c.nodes-nodes.result.now ≡ 0 = eqb-true (length c.nodes-nodes.result.now) 0 (sym c.is_empty.ensures ∙ c.if-is_empty.true) in
    sym (ap (λ text. c.args.line.now.items ++ text) (no_nodes c.args.tree.now (sym (ap (length {A = CombNode}) c.nodes-nodes.ensures.tree) ∙ none)) ∙ append-nil c.args.line.now.items)

pub returns : goal.returns
returns c =
    let nodes = c.nodes-nodes.result.now in
    let text = reverse (walked (reverse nodes) []) in
    let some : length nodes ≢ 0 = eqb-false (length nodes) 0 (sym c.is_empty.ensures ∙ c.if-is_empty.false) in
    two_more c.args.line.now.items (codes " tree {" ++ text) (codes "}") _ _ c.in_ok-push.ensures.items
    (two_more c.args.line.now.items (codes " tree {") text _ _ c.in_ok-push_nodes.ensures c.in_ok-extend_from_slice.ensures.items)
    ∙ ap (λ all. c.args.line.now.items ++ all)
    (append_assoc (codes " tree {") text (codes "}")
    ∙ ap (λ (ns : List CombNode). codes " tree {" ++ (reverse (walked (reverse ns) []) ++ codes "}")) c.nodes-nodes.ensures.tree
    ∙ some_nodes c.args.tree.now (omega (arith, some, ap (length {A = CombNode}) c.nodes-nodes.ensures.tree)))

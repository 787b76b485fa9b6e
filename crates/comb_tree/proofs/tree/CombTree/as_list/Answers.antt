use Rattle.std.proofs.Common.{rules, arith, length, ◌≤◌, ◌≡◌, ◌∙◌, ap, sym}
use Rattle.comb_tree.specs.Nodes.{comb_nodes, comb_of, members}
use Rattle.comb_tree.specs.Steps.{entries}
use Rattle.comb_tree.specs.Lists.{tree_of_list, HasList}
use Rattle.comb_tree.proofs.Reading.{one_list}
use Rattle.comb_tree.proofs.Changed.{list_length}
use Rattle.comb_tree.proofs.Kept.{read_it, no_list}
use Rattle.comb_tree.proofs.tree.CombTree.as_list.Goals as goal

-- what was read is the tree's list
own : (c : goal.After-drop-again) → HasList c.args.self.now c.in_ok-list.list.items
own c =
    let nodes : comb_nodes c.args.self.now ≡ c.self.inside.nodes.items = ap comb_nodes (sym c.self.view_is) ∙ c.self.invariant.0 in
    let read : c.in_ok-list.list.items ≡ entries c.self.inside.nodes.items = c.in_ok-list.ensures ∙ ap entries c.deref.ensures.value in
    let made : c.in_ok-again.again.items ≡ comb_nodes (tree_of_list c.in_ok-list.list.items) =
    c.in_ok-again.ensures ∙ ap (λ x. comb_nodes (tree_of_list x)) c.deref-2.ensures.value in
    let same : c.in_ok-again.again.items ≡ c.self.inside.nodes.items =
    sym c.deref-3.ensures.value ∙ c.same_nodes.ensures.0 (search rules) ∙ c.deref-4.ensures.value in
    read_it c.args.self.now c.self.inside.nodes.items c.in_ok-list.list.items nodes read (sym made ∙ same)

pub returns-then-same_nodes-clause-ok : goal.returns-then-same_nodes-clause-ok
returns-then-same_nodes-clause-ok c = own c

pub returns-then-same_nodes-clause-only : goal.returns-then-same_nodes-clause-only
returns-then-same_nodes-clause-only c = let o = own c in λ l e. one_list l c.in_ok-list.list.items (e ∙ sym o.tree) ∙ o.first

pub returns-then-same_nodes-clause-few : goal.returns-then-same_nodes-clause-few
returns-then-same_nodes-clause-few c =
    let seen : length (members (comb_of c.self.inside.nodes.items)) ≡ length (members c.args.self.now) = ap (λ t. length (members t)) c.self.view_is in
    let long : length c.in_ok-list.list.items ≤ 4096 = omega (arith, list_length c.args.self.now c.in_ok-list.list.items (own c), seen, c.self.invariant.1) in
    search rules

pub returns-else-same_nodes-clause-ok : goal.returns-else-same_nodes-clause-ok
returns-else-same_nodes-clause-ok c =
    let nodes : comb_nodes c.args.self.now ≡ c.self.inside.nodes.items = ap comb_nodes (sym c.self.view_is) ∙ c.self.invariant.0 in
    let read : c.in_ok-list.list.items ≡ entries c.self.inside.nodes.items = c.in_ok-list.ensures ∙ ap entries c.deref.ensures.value in
    let made : c.in_ok-again.again.items ≡ comb_nodes (tree_of_list c.in_ok-list.list.items) =
    c.in_ok-again.ensures ∙ ap (λ x. comb_nodes (tree_of_list x)) c.deref-2.ensures.value in
    no_list c.args.self.now c.self.inside.nodes.items c.in_ok-list.list.items nodes read
    (λ e. let t = c.if-same_nodes.ensures.1 (c.deref-3.ensures.value ∙ made ∙ e ∙ sym c.deref-4.ensures.value) in search rules)

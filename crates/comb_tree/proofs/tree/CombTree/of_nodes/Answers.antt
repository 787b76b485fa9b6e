use Rattle.std.proofs.Common.{arith, ◌≡◌, ◌∙◌, ap, length}
use Rattle.std.specs.List.{filter}
use Rattle.comb_tree.specs.Steps.{is_leaf}
use Rattle.comb_tree.proofs.Changed.{nodes_kept, count_is, count_of}
use Rattle.comb_tree.proofs.tree.CombTree.of_nodes.Goals as goal

pub overflow_cast-result : goal.overflow_cast-result
overflow_cast-result c = omega arith

pub returns-then-count-gt-LEAVES : goal.returns-then-count-gt-LEAVES
returns-then-count-gt-LEAVES c = (
  c.requires.tree.0,
  c.requires.tree.1,
  c.count_leaves-count.ensures.count ∙ ap (λ xs. length (filter is_leaf xs)) c.deref.ensures.value ∙ count_is c.requires.tree.0 c.args.nodes.items c.requires.tree.1,
  c.if-count-gt-LEAVES.true,
)

pub invariant_of-result : goal.invariant_of-result
invariant_of-result c =
    let count : c.count_leaves-count.result ≡ length (filter is_leaf c.args.nodes.items) = c.count_leaves-count.ensures.count ∙ ap (λ xs. length (filter is_leaf xs)) c.deref.ensures.value in
    (nodes_kept c.requires.tree.0 c.args.nodes.items c.requires.tree.1, omega (arith, count, count_of c.requires.tree.0 c.args.nodes.items c.requires.tree.1, c.if-count-gt-LEAVES.false))

pub returns : goal.returns
returns c =
    let count : c.count_leaves-count.result ≡ length (filter is_leaf c.args.nodes.items) = c.count_leaves-count.ensures.count ∙ ap (λ xs. length (filter is_leaf xs)) c.deref.ensures.value in
    (nodes_kept c.requires.tree.0 c.args.nodes.items c.requires.tree.1, omega (arith, count, count_of c.requires.tree.0 c.args.nodes.items c.requires.tree.1, c.if-count-gt-LEAVES.false))

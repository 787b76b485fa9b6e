use Rattle.name_core.specs.Same.{same_name}
use Rattle.std.proofs.Common.{arith, ◌≡◌, ◌∙◌, ap, length}
use Rattle.std.specs.List.{filter}
use Rattle.comb_tree.specs.Nodes.{Member, members}
use Rattle.comb_tree.specs.Steps.{is_at}
use Rattle.comb_tree.specs.Changes.{placed}
use Rattle.comb_tree.proofs.Changed.{changed_tree, changed_nodes, changed_count, name_count_in, filter_short}
use Rattle.comb_tree.specs.Meaning.{comb_holds}
use Rattle.comb_tree.proofs.Meant.{members_mean}
use Rattle.comb_tree.proofs.tree.CombTree.place_leaf.Goals as goal

pub overflow_cast-result : goal.overflow_cast-result
overflow_cast-result c =
    let count : c.count_named-count.result ≡ length (filter (is_at c.args.name.now) c.self.inside.nodes.items) =
    c.count_named-count.ensures ∙ ap (λ xs. length (filter (is_at c.args.name.now) xs)) c.deref.ensures.value in
    omega (
      arith,
      count,
      name_count_in c.args.name.now c.args.self.now c.self.inside.nodes.items c.self.view_is c.self.invariant.0,
      filter_short (λ (m : Member). same_name m.name c.args.name.now) (members c.args.self.now),
      ap (λ t. length (members t)) c.self.view_is,
      c.self.invariant.1,
    )

pub invariant_of-self : goal.invariant_of-self
invariant_of-self c = (
  changed_nodes (placed c.args.name.now c.args.by) c.self.inside.nodes.items c.place_nodes.new.nodes.items c.self.invariant.0 c.place_nodes.ensures,
  omega (arith, c.self.invariant.1, changed_count (placed c.args.name.now c.args.by) c.self.inside.nodes.items c.place_nodes.new.nodes.items c.self.invariant.0 c.place_nodes.ensures),
)

pub returns-clause-tree : goal.returns-clause-tree
returns-clause-tree c =
    changed_tree (placed c.args.name.now c.args.by) c.args.self.now c.self.inside.nodes.items c.place_nodes.new.nodes.items c.self.view_is c.self.invariant.0 c.place_nodes.ensures

pub returns-clause-count : goal.returns-clause-count
returns-clause-count c =
    c.count_named-count.ensures ∙ ap (λ xs. length (filter (is_at c.args.name.now) xs)) c.deref.ensures.value
    ∙ name_count_in c.args.name.now c.args.self.now c.self.inside.nodes.items c.self.view_is c.self.invariant.0

pub returns-clause-meaning : goal.returns-clause-meaning
returns-clause-meaning c values =
    ap (λ t. comb_holds t values) (changed_tree (placed c.args.name.now c.args.by) c.args.self.now c.self.inside.nodes.items c.place_nodes.new.nodes.items c.self.view_is c.self.invariant.0 c.place_nodes.ensures)
    ∙ members_mean (placed c.args.name.now c.args.by) c.args.self.now values

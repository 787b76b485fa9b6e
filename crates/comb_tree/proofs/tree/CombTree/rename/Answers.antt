use Rattle.std.proofs.Common.{arith, ◌∙◌, ap}
use Rattle.comb_tree.specs.Changes.{renamed}
use Rattle.comb_tree.proofs.Changed.{changed_tree, changed_nodes, changed_count}
use Rattle.comb_tree.specs.Meaning.{comb_holds}
use Rattle.comb_tree.proofs.Meant.{members_mean}
use Rattle.comb_tree.proofs.tree.CombTree.rename.Goals as goal

pub invariant_of-self : goal.invariant_of-self
invariant_of-self c = (
  changed_nodes (renamed c.args.old.now c.args.new.now) c.self.inside.nodes.items c.rename_nodes.new.nodes.items c.self.invariant.0 c.rename_nodes.ensures,
  omega (arith, c.self.invariant.1, changed_count (renamed c.args.old.now c.args.new.now) c.self.inside.nodes.items c.rename_nodes.new.nodes.items c.self.invariant.0 c.rename_nodes.ensures),
)

pub returns-clause-tree : goal.returns-clause-tree
returns-clause-tree c = changed_tree (renamed c.args.old.now c.args.new.now) c.args.self.now c.self.inside.nodes.items c.rename_nodes.new.nodes.items c.self.view_is c.self.invariant.0 c.rename_nodes.ensures

pub returns-clause-meaning : goal.returns-clause-meaning
returns-clause-meaning c values =
    ap (λ t. comb_holds t values) (changed_tree (renamed c.args.old.now c.args.new.now) c.args.self.now c.self.inside.nodes.items c.rename_nodes.new.nodes.items c.self.view_is c.self.invariant.0 c.rename_nodes.ensures)
    ∙ members_mean (renamed c.args.old.now c.args.new.now) c.args.self.now values

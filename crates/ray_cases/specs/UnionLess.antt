-- Trees that no list gives.
use Rattle.std.specs.Prelude.{◌≡◌, List, Some}
use Rattle.tree_forms.specs.declared.Op.TheVariants.{U, Minus}
use Rattle.tree_forms.specs.Trees.{Tree, Leaf, Join}
use Rattle.lattice_core.specs.declared.limit.TheConstants.{COORD}
use Rattle.lattice_core.specs.Limits.{IsWithin}
use Rattle.comb_tree.specs.declared.node.CombNode.{CombNode}
use Rattle.comb_tree.specs.Nodes.{Member, comb_nodes}

abbrev pub union_less : Member → Member → Member → Tree Member
union_less one two less = Join Minus (Join U (Leaf one) (Leaf two)) (Leaf less)

-- the nodes of the union of two members less a third, all of which are near
pub record IsUnionLess (nodes : List CombNode) : Type 0 where
  pub one : Member
  pub two : Member
  pub less : Member
  pub nodes_are : comb_nodes (Some (union_less one two less)) ≡ nodes
  pub one_near : IsWithin COORD one.placement.shift
  pub two_near : IsWithin COORD two.placement.shift
  pub less_near : IsWithin COORD less.placement.shift

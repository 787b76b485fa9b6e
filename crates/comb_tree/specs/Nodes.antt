-- Trees over named members, and their nodes.
use Rattle.std.specs.Prelude.{◌≡◌, ℕ, List, [], Option, Some, None, ◌⊎◌}
use Rattle.std.proofs.Common.{refl, inl, inr}
use Rattle.std.specs.Coded.{Coded, code_by, coded×, coded_list, coded_ℕ}
use Rattle.tree_forms.specs.declared.Op.{Op}
use Rattle.tree_forms.specs.declared.Op.TheVariants as op
use Rattle.tree_forms.specs.Trees.{Tree, leaves}
use Rattle.tree_forms.specs.Stacks.{IsNodes, tree_of, nodes_of}
use Rattle.tree_forms.proofs.Stored.{tree_code}
use Rattle.name_core.specs.declared.name.Name.{Name}
use Rattle.lattice_core.specs.declared.placement.Placement.{Placement}
use Rattle.lattice_core.specs.contracts.placement.Placement as placements
use Rattle.comb_tree.specs.declared.node.CombNode.{CombNode}
use Rattle.comb_tree.specs.declared.node.CombNode.TheVariants as node

-- what a leaf refers to: a name, and where that object is placed
pub record Member : Type 0 where
  pub name : Name
  pub placement : Placement

-- a tree, None being the empty one
abbrev pub Comb : Type 0
Comb = Option (Tree Member)

-- its leaves from left to right
abbrev pub members : Comb → List Member
members None = []
members (Some t) = leaves t

abbrev pub leaf : Member → CombNode
leaf m = node.Leaf m.name m.placement

abbrev pub apply : Op → CombNode
apply op.U = node.U
apply op.N = node.N
apply op.Minus = node.Minus
apply op.X = node.X

-- its nodes in postfix order
abbrev pub comb_nodes : Comb → List CombNode
comb_nodes t = nodes_of leaf apply t

-- the nodes are a tree's, or there are none
abbrev pub IsWellFormed : List CombNode → Type 0
IsWellFormed ns = (t : Comb) × (comb_nodes t ≡ ns)

abbrev pub read : CombNode → Member ⊎ Op
read (node.Leaf name placement) = inl (record { name = name; placement = placement })
read node.U = inr op.U
read node.N = inr op.N
read node.Minus = inr op.Minus
read node.X = inr op.X

pub apply_back : (o : Op) → read (apply o) ≡ inr o
apply_back op.U = refl
apply_back op.N = refl
apply_back op.Minus = refl
apply_back op.X = refl

abbrev pub node_laws : IsNodes leaf apply read
node_laws = record { leaf_back = λ m. refl; apply_back = apply_back }

-- the tree of nodes, where they are one's
abbrev pub comb_of : List CombNode → Comb
comb_of ns = tree_of read ns

abbrev pub member_code : Coded Member
member_code = code_by (List ℕ × Placement) (coded× (coded_list coded_ℕ) placements.the_row.coded) (λ m. (m.name, m.placement))
    (λ p. record { name = p.0; placement = p.1 }) (λ _. refl)

abbrev pub comb_code : Coded Comb
comb_code = tree_code member_code

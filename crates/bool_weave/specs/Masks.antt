-- Trees over numbered leaves, and their nodes.
use Rattle.std.specs.Prelude.{◌≡◌, ℕ, List, Option, Some, None, ◌⊎◌, Bool, false}
use Rattle.std.proofs.Common.{refl, inl, inr}
use Rattle.std.specs.Coded.{Coded, code_by, coded_option, coded_ℕ}
use Rattle.tree_forms.specs.declared.Op.{Op}
use Rattle.tree_forms.specs.declared.Op.TheVariants as op
use Rattle.tree_forms.specs.Trees.{Tree, Leaf, holds_by, postfix}
use Rattle.tree_forms.specs.Stacks.{IsNodes, tree_of}
use Rattle.tree_forms.proofs.Stored.{tree_code}
use Rattle.bool_weave.specs.declared.mask.MaskNode.{MaskNode}
use Rattle.bool_weave.specs.declared.mask.MaskNode.TheVariants as node

-- a tree whose leaves are numbers, None being a leaf that is always false
abbrev pub Mask : Type 0
Mask = Tree (Option ℕ)

abbrev pub leaf_value : (ℕ → Bool) → Option ℕ → Bool
leaf_value values None = false
leaf_value values (Some i) = values i

-- whether the tree holds, for a truth value per number
abbrev pub mask_holds : Mask → (ℕ → Bool) → Bool
mask_holds t values = holds_by (leaf_value values) t

abbrev pub leaf : Option ℕ → MaskNode
leaf None = node.Never
leaf (Some i) = node.Leaf i

abbrev pub apply : Op → MaskNode
apply op.U = node.U
apply op.N = node.N
apply op.Minus = node.Minus
apply op.X = node.X

-- its nodes in postfix order
abbrev pub mask_nodes : Mask → List MaskNode
mask_nodes t = postfix leaf apply t

-- the nodes are a tree's
abbrev pub IsMask : List MaskNode → Type 0
IsMask ns = (t : Mask) × (mask_nodes t ≡ ns)

abbrev pub read : MaskNode → Option ℕ ⊎ Op
read (node.Leaf i) = inl (Some i)
read node.Never = inl None
read node.U = inr op.U
read node.N = inr op.N
read node.Minus = inr op.Minus
read node.X = inr op.X

pub leaf_back : (l : Option ℕ) → read (leaf l) ≡ inl l
leaf_back None = refl
leaf_back (Some i) = refl

pub apply_back : (o : Op) → read (apply o) ≡ inr o
apply_back op.U = refl
apply_back op.N = refl
apply_back op.Minus = refl
apply_back op.X = refl

abbrev pub node_laws : IsNodes leaf apply read
node_laws = record { leaf_back = leaf_back; apply_back = apply_back }

abbrev pub or_never : Option Mask → Mask
or_never None = Leaf None
or_never (Some t) = t

-- the tree of nodes, where they are one's
abbrev pub mask_of : List MaskNode → Mask
mask_of ns = or_never (tree_of read ns)

abbrev pub mask_code : Coded Mask
mask_code = code_by (Option Mask) (tree_code (coded_option coded_ℕ)) (λ t. Some t) or_never (λ _. refl)

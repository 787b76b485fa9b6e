-- The list of a tree, read off the tree.
use Rattle.std.specs.Prelude.{List, [], ◌∷◌, ◌++◌, Option, Some, None}
use Rattle.tree_forms.specs.declared.Op.{Op}
use Rattle.tree_forms.specs.declared.Op.TheVariants.{U, N, Minus, X}
use Rattle.tree_forms.specs.Trees.{Tree, Leaf, Join}
use Rattle.comb_tree.specs.declared.node.ListEntry.{ListEntry}
use Rattle.comb_tree.specs.Nodes.{Comb, Member}

abbrev pub entry_of : Op → Member → ListEntry
entry_of op m = record { op = op; name = m.name; placement = m.placement }

-- one list after the other, where both are there
abbrev pub both : Option (List ListEntry) → Option (List ListEntry) → Option (List ListEntry)
both None second = None
both (Some first) None = None
both (Some first) (Some second) = Some (first ++ second)

-- an operator's entry, where the right side is one leaf
abbrev pub one_entry : Op → Tree Member → Option (List ListEntry)
one_entry op (Leaf m) = Some (entry_of op m ∷ [])
one_entry op (Join o l r) = None

-- the list of a product: its first leaf, and a leaf for each further operator
abbrev pub product_of : Tree Member → Option (List ListEntry)
product_of (Leaf m) = Some (entry_of U m ∷ [])
product_of (Join U l r) = None
product_of (Join N l r) = both (product_of l) (one_entry N r)
product_of (Join Minus l r) = both (product_of l) (one_entry Minus r)
product_of (Join X l r) = both (product_of l) (one_entry X r)

-- the list of a union of products, taken from the left
abbrev pub union_list : Tree Member → Option (List ListEntry)
union_list (Leaf m) = product_of (Leaf m)
union_list (Join U l r) = both (union_list l) (product_of r)
union_list (Join N l r) = product_of (Join N l r)
union_list (Join Minus l r) = product_of (Join Minus l r)
union_list (Join X l r) = product_of (Join X l r)

-- the list of a tree, where it has one
abbrev pub list_of : Comb → Option (List ListEntry)
list_of None = Some []
list_of (Some t) = union_list t

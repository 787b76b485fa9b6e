-- Lists of members, and the tree that a list gives.
use Rattle.std.specs.Prelude.{◌≡◌, List, [], ◌∷◌, Some, None, Bool, true, false, cond}
use Rattle.tree_forms.specs.declared.Op.{Op}
use Rattle.tree_forms.specs.declared.Op.TheVariants.{U, N, Minus, X}
use Rattle.tree_forms.specs.Trees.{Tree, Leaf, Join}
use Rattle.comb_tree.specs.declared.node.ListEntry.{ListEntry}
use Rattle.comb_tree.specs.Nodes.{Member, Comb}

abbrev pub member : ListEntry → Member
member e = record { name = e.name; placement = e.placement }

abbrev pub is_u : Op → Bool
is_u U = true
is_u N = false
is_u Minus = false
is_u X = false

-- what is left of a list begins with u, or is at its end
abbrev pub is_cut : List ListEntry → Bool
is_cut [] = true
is_cut (e ∷ es) = is_u e.op

abbrev pub onto : ListEntry → List (List ListEntry) → List (List ListEntry)
onto e [] = (e ∷ []) ∷ []
onto e (p ∷ ps) = (e ∷ p) ∷ ps

-- the products of a list: it is cut before each u, and its first entry begins a product whatever its operator
abbrev pub products : List ListEntry → List (List ListEntry)
products [] = []
products (e ∷ es) = cond (is_cut es) ((e ∷ []) ∷ products es) (onto e (products es))

-- a product is taken from the left
abbrev pub grown : Tree Member → List ListEntry → Tree Member
grown t [] = t
grown t (e ∷ es) = grown (Join e.op t (Leaf (member e))) es

abbrev pub product_tree : List ListEntry → Comb
product_tree [] = None
product_tree (e ∷ es) = Some (grown (Leaf (member e)) es)

abbrev pub united : Comb → Comb → Comb
united None t = t
united (Some a) None = Some a
united (Some a) (Some b) = Some (Join U a b)

-- and so is the union of the products
abbrev pub union_of : Comb → List (List ListEntry) → Comb
union_of t [] = t
union_of t (p ∷ ps) = union_of (united t (product_tree p)) ps

-- the tree of a list: the union of its products, from the left
abbrev pub tree_of_list : List ListEntry → Comb
tree_of_list l = union_of None (products l)

-- the list with its first operator read as u
abbrev pub from_u : List ListEntry → List ListEntry
from_u [] = []
from_u (e ∷ es) = (record e { op = U }) ∷ es

-- some list gives the tree
abbrev pub HasListForm : Comb → Type 0
HasListForm t = (l : List ListEntry) × (tree_of_list l ≡ t)

-- l is the tree's list: it gives the tree, and its first operator is u
pub record HasList (t : Comb) (l : List ListEntry) : Type 0 where
  pub tree : tree_of_list l ≡ t
  pub first : from_u l ≡ l

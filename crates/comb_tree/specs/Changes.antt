-- What is changed in trees and in their lists.
use Rattle.std.specs.Prelude.{List, [], ◌∷◌, Option, Some, None, Bool, cond, not, ◌&&◌, map, find, filter}
use Rattle.std.specs.List.{list_any}
use Rattle.name_core.specs.Same.{same_name}
use Rattle.name_core.specs.declared.name.Name.{Name}
use Rattle.lattice_core.specs.declared.placement.Placement.{Placement}
use Rattle.tree_forms.specs.Trees.{map_leaves}
use Rattle.comb_tree.specs.declared.node.ListEntry.{ListEntry}
use Rattle.comb_tree.specs.declared.node.CombNode.{CombNode}
use Rattle.comb_tree.specs.declared.node.CombNode.TheVariants as node
use Rattle.comb_tree.specs.Nodes.{Member, Comb, leaf}
use Rattle.comb_tree.specs.Lists.{products}

-- the tree with each member changed
abbrev pub map_members : (Member → Member) → Comb → Comb
map_members f None = None
map_members f (Some t) = Some (map_leaves f t)

-- a member of this name with another name, and every other one as it is
abbrev pub renamed : Name → Name → Member → Member
renamed old new m = cond (same_name m.name old) (record m { name = new }) m

-- a member of this name with another placement, and every other one as it is
abbrev pub placed : Name → Placement → Member → Member
placed name by m = cond (same_name m.name name) (record m { placement = by }) m

-- the same of a node, where operators stay
abbrev pub on_leaf : (Member → Member) → CombNode → CombNode
on_leaf f (node.Leaf name placement) = leaf (f (record { name = name; placement = placement }))
on_leaf f node.U = node.U
on_leaf f node.N = node.N
on_leaf f node.Minus = node.Minus
on_leaf f node.X = node.X

abbrev pub names_of : List ListEntry → List Name
names_of l = map (λ e. e.name) l

-- whether a name is one of the names
abbrev pub is_among : List Name → Name → Bool
is_among names n = list_any (same_name n) names

-- the first given name without an entry
abbrev pub first_absent : List Name → List ListEntry → Option Name
first_absent names l = find (λ n. not (is_among (names_of l) n)) names

-- an entry stays where its name is not gone
abbrev pub stays : (Name → Bool) → ListEntry → Bool
stays gone e = not (gone e.name)

abbrev pub without : (Name → Bool) → List ListEntry → List ListEntry
without gone l = filter (stays gone) l

-- the head of a product that is gone, while a later entry of the product stays
abbrev pub lost_head : (Name → Bool) → List ListEntry → Option Name
lost_head gone [] = None
lost_head gone (e ∷ es) = cond (gone e.name && list_any (stays gone) es) (Some e.name) None

abbrev pub or_next : Option Name → Option Name → Option Name
or_next None next = next
or_next (Some n) next = Some n

abbrev pub first_lost : (Name → Bool) → List (List ListEntry) → Option Name
first_lost gone [] = None
first_lost gone (p ∷ ps) = or_next (lost_head gone p) (first_lost gone ps)

-- the first head of a product of the list that is so lost
abbrev pub first_lost_head : (Name → Bool) → List ListEntry → Option Name
first_lost_head gone l = first_lost gone (products l)

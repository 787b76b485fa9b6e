-- The words of the code: how it goes through nodes and entries.
use Rattle.name_core.specs.Same.{same_name}
use Rattle.std.specs.Prelude.{List, [], ◌∷◌, ◌++◌, Bool, true, false, cond, ◌&&◌, Option, Some, None}
use Rattle.name_core.specs.declared.name.Name.{Name}
use Rattle.tree_forms.specs.declared.Op.{Op}
use Rattle.tree_forms.specs.declared.Op.TheVariants.{U, N, Minus, X}
use Rattle.comb_tree.specs.declared.node.ListEntry.{ListEntry}
use Rattle.comb_tree.specs.declared.node.CombNode.{CombNode}
use Rattle.comb_tree.specs.declared.node.CombNode.TheVariants as node
use Rattle.comb_tree.specs.Nodes.{leaf, apply}
use Rattle.comb_tree.specs.Lists.{member, is_u}

-- the nodes that are written for a list
abbrev pub tail_of : Bool → List CombNode
tail_of later = cond later (node.U ∷ []) []

abbrev pub later_after : Bool → ListEntry → Bool
later_after later e = cond (is_u e.op) true later

abbrev pub nodes_after : Bool → List CombNode → ListEntry → List CombNode
nodes_after later ns e = cond (is_u e.op) ((ns ++ tail_of later) ++ leaf (member e) ∷ []) ((ns ++ leaf (member e) ∷ []) ++ apply e.op ∷ [])

abbrev pub nodes_from : Bool → List CombNode → List ListEntry → List CombNode
nodes_from later ns [] = ns ++ tail_of later
nodes_from later ns (e ∷ es) = nodes_from (later_after later e) (nodes_after later ns e) es

-- the operator of a leaf: that of the node after it
abbrev pub op_before : List CombNode → Op
op_before [] = U
op_before (node.Leaf name placement ∷ ns) = U
op_before (node.U ∷ ns) = U
op_before (node.N ∷ ns) = N
op_before (node.Minus ∷ ns) = Minus
op_before (node.X ∷ ns) = X

abbrev pub entry_at : CombNode → List CombNode → List ListEntry
entry_at (node.Leaf name placement) ns = (record { op = op_before ns; name = name; placement = placement }) ∷ []
entry_at node.U ns = []
entry_at node.N ns = []
entry_at node.Minus ns = []
entry_at node.X ns = []

-- the entries of nodes, each leaf with the operator after it
abbrev pub entries : List CombNode → List ListEntry
entries [] = []
entries (n ∷ ns) = entry_at n ns ++ entries ns

abbrev pub is_leaf : CombNode → Bool
is_leaf (node.Leaf name placement) = true
is_leaf node.U = false
is_leaf node.N = false
is_leaf node.Minus = false
is_leaf node.X = false

-- whether an entry stays in the product that goes on
abbrev pub rest_stays : (Name → Bool) → List ListEntry → Bool
rest_stays gone [] = false
rest_stays gone (e ∷ es) = cond (is_u e.op) false (cond (gone e.name) (rest_stays gone es) true)

abbrev pub is_lost : (Name → Bool) → ListEntry → List ListEntry → Bool
is_lost gone e es = is_u e.op && (gone e.name && rest_stays gone es)

abbrev pub head_from : (Name → Bool) → List ListEntry → Option Name
head_from gone [] = None
head_from gone (e ∷ es) = cond (is_lost gone e es) (Some e.name) (head_from gone es)

abbrev pub is_at : Name → CombNode → Bool
is_at name (node.Leaf n placement) = same_name n name
is_at name node.U = false
is_at name node.N = false
is_at name node.Minus = false
is_at name node.X = false

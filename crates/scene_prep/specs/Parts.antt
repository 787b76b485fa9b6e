-- What the unions at the root of a tree unite, by their nodes and their numbers.
use Rattle.std.specs.Prelude.{◌≡◌, ℕ, ◌+◌, nat_lt, cond, List, [], ◌∷◌, ◌++◌, length, Some, Bool}
use Rattle.std.specs.Borrow.{Bor}
use Rattle.tree_forms.specs.Trees.{Tree, Leaf, Join}
use Rattle.comb_tree.specs.declared.node.CombNode.{CombNode}
use Rattle.comb_tree.specs.Nodes.{Member, comb_nodes}
use Rattle.scene_prep.specs.declared.part.Part.{Part}

-- a part: its nodes, and its number
abbrev pub shown : Part → List CombNode × ℕ
shown part = (part.nodes.now, part.number)

-- the parts with their numbers: 0 for a leaf, the others counted on from `number` at the left
abbrev pub parts_from : ℕ → List (Tree Member) → List (List CombNode × ℕ)
parts_from number [] = []
parts_from number (Leaf member ∷ parts) = (comb_nodes (Some (Leaf member)), 0) ∷ parts_from number parts
parts_from number (Join op l r ∷ parts) = (comb_nodes (Some (Join op l r)), number) ∷ parts_from (number + 1) parts

-- ---- in the words of the code
abbrev pub tree_nodes : Tree Member → List CombNode
tree_nodes t = comb_nodes (Some t)

abbrev pub nodes_behind : Bor (List CombNode) → List CombNode
nodes_behind lent = lent.now

-- the nodes of a tree that is no leaf
abbrev pub is_join : Bor (List CombNode) → Bool
is_join lent = nat_lt 1 (length lent.now)

abbrev pub numbered_part : List CombNode → ℕ → List CombNode × ℕ
numbered_part nodes number = (nodes, cond (nat_lt 1 (length nodes)) number 0)

-- the last of the nodes are a tree's
abbrev pub EndsWithTree : List CombNode → Type 0
EndsWithTree nodes = (front : List CombNode) × (t : Tree Member) × (nodes ≡ front ++ comb_nodes (Some t))

-- so many of them stand before that tree
abbrev pub IsBefore : List CombNode → ℕ → Type 0
IsBefore nodes count = (front : List CombNode) (t : Tree Member) → nodes ≡ front ++ comb_nodes (Some t) → count ≡ length front

-- The names of the leaves of a list of nodes.
use Rattle.std.specs.Prelude.{◌≡◌, false, ℕ, List, [], ◌∷◌, flat_map, Option, None, Some}
use Rattle.std.specs.List.{count_by}
use Rattle.name_core.specs.declared.name.Name.{Name}
use Rattle.name_core.specs.Same.{same_name}
use Rattle.comb_tree.specs.Changes.{is_among}
use Rattle.comb_tree.specs.declared.node.CombNode.{CombNode}
use Rattle.comb_tree.specs.declared.node.CombNode.TheVariants.{Leaf, U, N, Minus, X}

-- the name of a leaf
abbrev pub name_of_node : CombNode → List Name
name_of_node (Leaf name placement) = name ∷ []
name_of_node U = []
name_of_node N = []
name_of_node Minus = []
name_of_node X = []

-- the names of the leaves among the nodes, in order
abbrev pub node_names : List CombNode → List Name
node_names nodes = flat_map name_of_node nodes

-- how many of the names are a
abbrev pub times : List Name → Name → ℕ
times names a = count_by (λ n. same_name n a) names

-- a first name is none of the others, and where there is no first there are no others
abbrev pub AreApart : Option Name → List Name → Type 0
AreApart None rest = rest ≡ []
AreApart (Some first) rest = is_among rest first ≡ false

-- The words of the code: how a tree is read from the left, token by token, and what its nodes are then.
use Rattle.std.specs.Prelude.{◌≡◌, ℕ, ℤ, Bool, true, false, nat_lt, ◌==◌, List, [], ◌∷◌, ◌++◌, length, reverse, Option, Some, None, is_some, Result, Ok, Err, if◌then◌else◌}
use Rattle.std.specs.Option.{option_map}
use Rattle.std.specs.Result.{result_ok}
use Rattle.name_core.specs.declared.name.Name.{Name}
use Rattle.name_core.specs.NameText.{read_name}
use Rattle.lattice_core.specs.declared.placement.Placement.{Placement}
use Rattle.tree_forms.specs.declared.Op.{Op}
use Rattle.tree_forms.specs.Trees.{Tree}
use Rattle.tree_forms.specs.Stacks.{nodes_of}
use Rattle.comb_tree.specs.declared.node.CombNode.{CombNode}
use Rattle.comb_tree.specs.declared.node.CombNode.TheVariants as comb_nodes
use Rattle.comb_tree.specs.Nodes.{Comb, apply}
use Rattle.tcl_words.specs.declared.token.Kind.{Kind}
use Rattle.tcl_words.specs.declared.token.Kind.TheVariants as kinds
use Rattle.word_values.specs.Kinds.{number_as, kind_at}
use Rattle.word_values.specs.declared.atoms.NumberList.TheVariants as lists
use Rattle.word_values.specs.Matrices.{identity, placement_read}
use Rattle.word_values.specs.Trees.{Given, placement_of, operator_of, is_leaf_word, tree_with}
use Rattle.word_values.specs.declared.tree.TreeFault.{TreeFault}
use Rattle.word_values.specs.declared.tree.TreeFault.TheVariants as faults
use Rattle.word_values.specs.declared.given.GivenNode.{GivenNode}
use Rattle.word_values.specs.declared.given.GivenNode.TheVariants as nodes
use Rattle.word_values.specs.declared.reading.Side.{Side}
use Rattle.word_values.specs.declared.reading.Side.TheVariants as sides
use Rattle.word_values.specs.declared.reading.Place.{Place}
use Rattle.word_values.specs.declared.reading.Place.TheVariants as places
use Rattle.word_values.specs.declared.reading.Lone.{Lone}
use Rattle.word_values.specs.declared.reading.Lone.TheVariants as lone
use Rattle.word_values.specs.declared.reading.Reader.{Reader}

-- the nodes of a tree in postfix order, with what the names and matrices of its leaves are
abbrev pub leaf_node : Given → GivenNode
leaf_node g = nodes.Leaf (result_ok (read_name g.name)) (placement_of g.matrix)

abbrev pub join_node : Op → GivenNode
join_node op = nodes.Join op

abbrev pub given_nodes : Option (Tree Given) → List GivenNode
given_nodes t = nodes_of leaf_node join_node t

abbrev pub is_leaf : GivenNode → Bool
is_leaf (nodes.Leaf name placement) = true
is_leaf (nodes.Join op) = false

abbrev pub is_named : GivenNode → Bool
is_named (nodes.Leaf name placement) = is_some name
is_named (nodes.Join op) = true

-- the node of a tree, where a leaf has a name and a placement
abbrev pub leaf_with : Option Name → Option Placement → Option CombNode
leaf_with None placement = None
leaf_with (Some name) None = None
leaf_with (Some name) (Some placement) = Some (comb_nodes.Leaf name placement)

abbrev pub comb_node : GivenNode → Option CombNode
comb_node (nodes.Leaf name placement) = leaf_with name placement
comb_node (nodes.Join op) = Some (apply op)

abbrev pub all_there : List (Option CombNode) → Option (List CombNode)
all_there [] = Some []
all_there (None ∷ rest) = None
all_there (Some node ∷ rest) = option_map (λ found. node ∷ found) (all_there rest)

-- what a call gave is the tree or the first fault, unless memory ran out
abbrev pub IsTreeWith : Result Comb TreeFault → Option (Tree Given) → Type 0
IsTreeWith (Err faults.Memory) t = Unit {0}
IsTreeWith (Ok tree) t = tree_with t ≡ Ok tree
IsTreeWith (Err fault) t = tree_with t ≡ Err fault

-- what was read up to a token: the nodes, the sides that are open, the innermost first, the name and the numbers of the last
-- leaf, what may come next, and how far a group of one atom is read
pub record State : Type 0 where
  pub nodes : List GivenNode
  pub sides : List Side
  pub name : Option Name
  pub numbers : List (Option ℤ)
  pub place : Place
  pub lone : Lone

abbrev pub state_of : Reader → State
state_of r = record { nodes = r.nodes.items; sides = reverse r.sides.items; name = r.name; numbers = r.numbers.items; place = r.place; lone = r.lone }

abbrev pub start : State
start = record { nodes = []; sides = []; name = None; numbers = []; place = places.Node; lone = lone.No }

abbrev pub first_word : List ℕ → Option Place
first_word word = if is_leaf_word word then Some places.Name else option_map (λ op. places.Group (sides.Left op)) (operator_of word)

-- after an atom
abbrev pub atom_at : Place → State → List ℕ → Option State
atom_at places.Node s atom = option_map (λ place. record s { place = place }) (first_word atom)
atom_at places.Name s atom = Some (record s { name = result_ok (read_name atom); place = places.Matrix })
atom_at places.Number s atom = if nat_lt (length s.numbers) 16 then Some (record s { numbers = s.numbers ++ number_as (kind_at lists.Matrix (length s.numbers)) atom ∷ [] }) else None
atom_at (places.Group side) s atom = None
atom_at places.Matrix s atom = None
atom_at places.End s atom = None

-- after an opening brace
abbrev pub open_at : Place → State → Option State
open_at places.Node s = Some (record s { lone = lone.Opened })
open_at places.Name s = Some (record s { lone = lone.Opened })
open_at places.Number s = Some (record s { lone = lone.Opened })
open_at (places.Group side) s = Some (record s { sides = side ∷ s.sides; place = places.Node })
open_at places.Matrix s = Some (record s { numbers = []; place = places.Number })
open_at places.End s = None

abbrev pub with_node : GivenNode → State → State
with_node node s = record s { nodes = s.nodes ++ node ∷ [] }

abbrev pub with_leaf : Option Placement → State → State
with_leaf placement s = with_node (nodes.Leaf s.name placement) s

-- behind a side
abbrev pub after_side : Side → State → State
after_side (sides.Left op) s = record s { place = places.Group (sides.Right op) }
after_side (sides.Right op) s = record (with_node (join_node op) s) { place = places.End }

abbrev pub side_ended : List Side → State → Option State
side_ended [] s = None
side_ended (side ∷ rest) s = Some (after_side side (record s { sides = rest }))

-- after a closing brace
abbrev pub close_at : Place → State → Option State
close_at places.Matrix s = side_ended s.sides (with_leaf (Some identity) s)
close_at places.Number s = if length s.numbers == 16 then Some (record (with_leaf (placement_read s.numbers) s) { place = places.End }) else None
close_at places.End s = side_ended s.sides s
close_at places.Node s = None
close_at places.Name s = None
close_at (places.Group side) s = None

abbrev pub closing : State → State
closing s = record s { lone = lone.Read }

abbrev pub token_at : Lone → Kind → State → List ℕ → Option State
token_at lone.No kinds.Atom s bytes = atom_at s.place s bytes
token_at lone.No kinds.Open s bytes = open_at s.place s
token_at lone.No kinds.Close s bytes = close_at s.place s
token_at lone.Opened kinds.Atom s bytes = option_map closing (atom_at s.place s bytes)
token_at lone.Opened kinds.Open s bytes = None
token_at lone.Opened kinds.Close s bytes = None
token_at lone.Read kinds.Close s bytes = Some (record s { lone = lone.No })
token_at lone.Read kinds.Open s bytes = None
token_at lone.Read kinds.Atom s bytes = None

-- after a token
abbrev pub next : State → Kind → List ℕ → Option State
next s kind bytes = token_at s.lone kind s bytes

-- the nodes where all tokens are read
abbrev pub nodes_at : Lone → Place → List Side → State → Option (List GivenNode)
nodes_at lone.No places.End [] s = Some s.nodes
nodes_at lone.No places.Matrix [] s = Some (s.nodes ++ nodes.Leaf s.name (Some identity) ∷ [])
nodes_at grouped place still s = None

-- what a call gave is the state, unless there is none or memory ran out
abbrev pub IsNext : Result (Unit {0}) TreeFault → Option State → State → Type 0
IsNext (Ok done) next state = next ≡ Some state
IsNext (Err faults.Form) next state = next ≡ None
IsNext (Err faults.Memory) next state = Unit {0}
IsNext (Err faults.Name) next state = ⊥
IsNext (Err faults.Number) next state = ⊥

-- a call gave no nodes since there are none, or memory ran out
abbrev pub IsNone : TreeFault → Option (List GivenNode) → Type 0
IsNone faults.Form found = found ≡ None
IsNone faults.Memory found = Unit {0}
IsNone faults.Name found = ⊥
IsNone faults.Number found = ⊥

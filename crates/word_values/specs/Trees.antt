-- Boolean trees as texts: an empty text, or a node. A node is `l NAME`, `l NAME {16 numbers}`, or an operator with its two
-- sides in groups: `u` for the union, `n` or `+` for the intersection, `-` for the difference, `^` for the exclusive union.
use Rattle.std.specs.Prelude.{◌≡◌, ℕ, Bool, not, ◌==◌, nat_lt, List, [], length, Option, Some, None, is_some, is_ok, Result, Ok, Err, codes, bytes_eq, unwrap_or, if◌then◌else◌}
use Rattle.std.specs.List.{list_all}
use Rattle.std.specs.Option.{option_map}
use Rattle.lattice_core.specs.declared.placement.Placement.{Placement}
use Rattle.name_core.specs.NameText.{read_name}
use Rattle.tree_forms.specs.declared.Op.{Op}
use Rattle.tree_forms.specs.declared.Op.TheVariants.{U, N, Minus, X}
use Rattle.tree_forms.specs.Trees.{Tree, Leaf, Join, leaves, map_leaves}
use Rattle.comb_tree.specs.Nodes.{Comb, Member}
use Rattle.word_values.specs.Kinds.{numbers_as}
use Rattle.word_values.specs.declared.atoms.NumberList.TheVariants as lists
use Rattle.word_values.specs.Groups.{Words, End, Atom, Group, atoms_of}
use Rattle.word_values.specs.Matrices.{placement_read, identity}
use Rattle.word_values.specs.declared.tree.TreeFault.{TreeFault}
use Rattle.word_values.specs.declared.tree.TreeFault.TheVariants.{Form, Name, Number}

-- a leaf as it is given: what stands for its name, and the sixteen words of its matrix, where it has one
pub record Given : Type 0 where
  pub name : List ℕ
  pub matrix : Option (List (List ℕ))

abbrev pub operator_of : List ℕ → Option Op
operator_of word =
    if bytes_eq word (codes "u") then Some U
    else (if bytes_eq word (codes "n") then Some N
    else (if bytes_eq word (codes "+") then Some N
    else (if bytes_eq word (codes "-") then Some Minus
    else (if bytes_eq word (codes "^") then Some X else None))))

abbrev pub is_leaf_word : List ℕ → Bool
is_leaf_word word = bytes_eq word (codes "l")

-- the first word, where it is an atom or a group of one, and what follows it
abbrev pub first_atom : Words → Option (List ℕ × Words)
first_atom End = None
first_atom (Atom atom rest) = Some (atom, rest)
first_atom (Group (Atom atom End) rest) = Some (atom, rest)
first_atom (Group inner rest) = None

abbrev pub given : List ℕ → Option (List (List ℕ)) → Tree Given
given name matrix = Leaf (record { name = name; matrix = matrix })

abbrev pub given_if : List ℕ → Option (List (List ℕ)) → Option (Tree Given)
given_if name None = None
given_if name (Some atoms) = if length atoms == 16 then Some (given name (Some atoms)) else None

-- a name, and then nothing or one group of sixteen words
abbrev pub leaf_after : Option (List ℕ × Words) → Option (Tree Given)
leaf_after None = None
leaf_after (Some (name, End)) = Some (given name None)
leaf_after (Some (name, Group matrix End)) = given_if name (atoms_of matrix)
leaf_after (Some (name, rest)) = None

-- `l`, and what follows it
abbrev pub leaf_of : List ℕ → Words → Option (Tree Given)
leaf_of word rest = if is_leaf_word word then leaf_after (first_atom rest) else None

-- an operator over a left and a right side, where all three are there
abbrev pub joined_by : Option Op → Option (Tree Given) → Option (Tree Given) → Option (Tree Given)
joined_by None left right = None
joined_by (Some op) None right = None
joined_by (Some op) (Some left) None = None
joined_by (Some op) (Some left) (Some right) = Some (Join op left right)

-- `l` begins a leaf also where two groups follow it
abbrev pub node_with : List ℕ → Option (Tree Given) → Option (Tree Given) → Option (Tree Given) → Option (Tree Given)
node_with word leaf left right = if is_leaf_word word then leaf else joined_by (operator_of word) left right

-- a node: its first word, an atom or a group of one, and then two groups behind an operator, or what `l` wants
abbrev pub node_of : Words → Option (Tree Given)
node_of End = None
node_of (Atom word (Group left (Group right End))) = node_with word (leaf_of word (Group left (Group right End))) (node_of left) (node_of right)
node_of (Atom word rest) = leaf_of word rest
node_of (Group (Atom word End) (Group left (Group right End))) = node_with word (leaf_of word (Group left (Group right End))) (node_of left) (node_of right)
node_of (Group (Atom word End) rest) = leaf_of word rest
node_of (Group inner rest) = None

-- the tree that words spell, None where they spell none; no words spell the empty tree
abbrev pub tree_in : Words → Option (Option (Tree Given))
tree_in End = Some None
tree_in words = option_map (λ t. Some t) (node_of words)

abbrev pub given_leaves : Option (Tree Given) → List Given
given_leaves None = []
given_leaves (Some t) = leaves t

-- the placement of a leaf: that of its matrix, and without a matrix the one that moves nothing
abbrev pub placement_of : Option (List (List ℕ)) → Option Placement
placement_of None = Some identity
placement_of (Some atoms) = placement_read (numbers_as lists.Matrix atoms)

abbrev pub has_name : Given → Bool
has_name g = is_ok (read_name g.name)

abbrev pub has_placement : Given → Bool
has_placement g = is_some (placement_of g.matrix)

abbrev pub member_of : Given → Member
member_of g = record { name = g.name; placement = unwrap_or (placement_of g.matrix) identity }

abbrev pub members_in : Option (Tree Given) → Comb
members_in None = None
members_in (Some t) = Some (map_leaves member_of t)

-- at most so many leaves
abbrev pub most_leaves : ℕ
most_leaves = 4096

-- the first that holds: over 4,096 leaves; a name that is none; a matrix with a number that is none or out of its range, or
-- that is no placement, or whose shift is over `COORD` in size
abbrev pub tree_with : Option (Tree Given) → Result Comb TreeFault
tree_with t =
    if nat_lt most_leaves (length (given_leaves t)) then Err Form
    else (if not (list_all has_name (given_leaves t)) then Err Name
    else (if not (list_all has_placement (given_leaves t)) then Err Number
    else Ok (members_in t)))

abbrev pub tree_if : Option (Option (Tree Given)) → Result Comb TreeFault
tree_if None = Err Form
tree_if (Some t) = tree_with t

-- the tree that words spell, or the first fault
abbrev pub tree_of : Words → Result Comb TreeFault
tree_of words = tree_if (tree_in words)

-- what a call gave is that tree or that fault, unless memory ran out
abbrev pub IsTreeRead : Result Comb TreeFault → Words → Type 0
IsTreeRead (Err TreeFault.Memory) words = Unit {0}
IsTreeRead (Ok tree) words = tree_of words ≡ Ok tree
IsTreeRead (Err fault) words = tree_of words ≡ Err fault

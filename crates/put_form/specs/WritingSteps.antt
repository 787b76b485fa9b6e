-- How the text of an object is put together, in the steps of the code.
use Rattle.std.specs.Prelude.{ℕ, ℤ, ◌==◌, ◌+◌, List, [], ◌∷◌, ◌++◌, codes, decimal, reverse, if◌then◌else◌}
use Rattle.lattice_core.specs.declared.vector.V3.{V3}
use Rattle.lattice_core.specs.declared.placement.Placement.{Placement}
use Rattle.name_core.specs.declared.name.Name.{Name}
use Rattle.region_attr.specs.declared.attr.Attr.{Attr}
use Rattle.word_values.specs.Kinds.{coordinate_kind, kind_at}
use Rattle.word_values.specs.declared.atoms.NumberKind.{NumberKind}
use Rattle.word_values.specs.declared.atoms.NumberList.{NumberList}
use Rattle.tree_forms.specs.declared.Op.TheVariants as op
use Rattle.comb_tree.specs.declared.node.CombNode.{CombNode}
use Rattle.comb_tree.specs.declared.node.CombNode.TheVariants as node
use Rattle.put_form.specs.declared.write_tree.Before.{Before}
use Rattle.put_form.specs.declared.write_tree.Before.TheVariants.{Operator, LeftSide}
use Rattle.put_form.specs.Written.{length_text, number_text, words_text, number_words, vector_text, operator_text, matrix_text}

-- a number at a place of a list, after a blank where it is not the first
abbrev pub placed_text : NumberList → ℕ → ℤ → List ℕ
placed_text list place n = (if place == 0 then [] else codes " ") ++ number_text (kind_at list place) n

-- the numbers from a place on
abbrev pub placed_texts : NumberList → ℕ → List ℤ → List ℕ
placed_texts list place [] = []
placed_texts list place (n ∷ rest) = placed_text list place n ++ placed_texts list (place + 1) rest

-- a vertex and its number, after a blank
abbrev pub vertex_text : ℕ → V3 → List ℕ
vertex_text number v = codes " V" ++ (decimal number ++ (codes " " ++ vector_text coordinate_kind v))

-- a vector of a kind and a length, each with its key before it
abbrev pub keyed_text : List ℕ → NumberKind → V3 → List ℕ → ℤ → List ℕ
keyed_text before kind vector between length = before ++ (vector_text kind vector ++ (between ++ length_text length))

-- `rcc` and its keys with their values
abbrev pub rcc_text : V3 → V3 → ℤ → List ℕ
rcc_text base height radius = codes "rcc V " ++ (vector_text coordinate_kind base ++ keyed_text (codes " H ") coordinate_kind height (codes " r ") radius)

abbrev pub numbers_of_attr : Attr → List ℕ
numbers_of_attr attr =
    codes " id " ++ (decimal attr.id ++ (codes " air " ++ (decimal attr.air ++ (codes " los " ++ (decimal attr.los ++ (codes " mater " ++ decimal attr.mater))))))

-- a group of numbers, after a blank
abbrev pub group_text : NumberList → List ℤ → List ℕ
group_text list numbers = codes " {" ++ (words_text (number_words list 0 numbers) ++ codes "}")

abbrev pub leaf_text : Name → Placement → List ℕ
leaf_text name placement = codes "l " ++ (name ++ matrix_text placement)

-- what stands before a left side, and before a right one
abbrev pub before_text : Before → List ℕ
before_text (Operator o) = operator_text o ++ codes " {"
before_text LeftSide = codes "} {"

-- what stands before a leaf, backwards: the operators of all parts that begin with it, and where these are a right side
-- what stands before that
abbrev pub owed : List Before → List ℕ
owed [] = []
owed (Operator o ∷ stack) = reverse (before_text (Operator o)) ++ owed stack
owed (LeftSide ∷ stack) = reverse (before_text LeftSide)

abbrev pub after : List Before → List Before
after [] = []
after (Operator o ∷ stack) = after stack
after (LeftSide ∷ stack) = stack

-- what a node adds, backwards
abbrev pub step_text : CombNode → List Before → List ℕ
step_text (node.Leaf name placement) stack = reverse (leaf_text name placement) ++ owed stack
step_text node.U stack = codes "}"
step_text node.N stack = codes "}"
step_text node.Minus stack = codes "}"
step_text node.X stack = codes "}"

abbrev pub step_stack : CombNode → List Before → List Before
step_stack (node.Leaf name placement) stack = after stack
step_stack node.U stack = LeftSide ∷ Operator op.U ∷ stack
step_stack node.N stack = LeftSide ∷ Operator op.N ∷ stack
step_stack node.Minus stack = LeftSide ∷ Operator op.Minus ∷ stack
step_stack node.X stack = LeftSide ∷ Operator op.X ∷ stack

-- what nodes add, the last of the tree being the first
abbrev pub walked : List CombNode → List Before → List ℕ
walked [] stack = []
walked (n ∷ nodes) stack = step_text n stack ++ walked nodes (step_stack n stack)

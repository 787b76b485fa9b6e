-- The words of the code: lines that are put at the end of a body, and leaves that are found from the last node to the first.
use Rattle.std.specs.Prelude.{◌≡◌, ◌<◌, ◌+◌, ℕ, List, [], ◌∷◌, ◌++◌, length, Result, Ok, Err}
use Rattle.transcript.specs.Lines.{text_of}
use Rattle.tree_forms.specs.declared.Op.{Op}
use Rattle.tree_forms.specs.declared.Op.TheVariants as ops
use Rattle.comb_tree.specs.declared.node.CombNode.{CombNode}
use Rattle.comb_tree.specs.declared.node.CombNode.TheVariants as nodes
use Rattle.report_text.specs.Listings.{Listed}
use Rattle.report_text.specs.declared.fault.TextFault.{TextFault}
use Rattle.report_text.specs.declared.fault.TextFault.TheVariants.{Room, Memory}

-- the lines stand behind what the body had, and so much room is left, or there is less room than they take
abbrev pub IsPushed : Result ℕ TextFault → List (List ℕ) → List (List ℕ) → List (List ℕ) → ℕ → Type 0
IsPushed (Ok left) old new lines room = (new ≡ old ++ lines) × (left + length (text_of lines) ≡ room)
IsPushed (Err Room) old new lines room = room < length (text_of lines)
IsPushed (Err Memory) old new lines room = Unit {0}

-- the operators that are owed, the next one first
abbrev pub first_operator : List Op → Op
first_operator [] = ops.U
first_operator (op ∷ rest) = op

abbrev pub other_operators : List Op → List Op
other_operators [] = []
other_operators (op ∷ rest) = rest

-- what a node adds to the leaves
abbrev pub found_at : CombNode → List Op → List Listed
found_at (nodes.Leaf name placement) operators = record { op = first_operator operators; name = name } ∷ []
found_at nodes.U operators = []
found_at nodes.N operators = []
found_at nodes.Minus operators = []
found_at nodes.X operators = []

-- what is owed after a node
abbrev pub operators_after : CombNode → List Op → List Op
operators_after (nodes.Leaf name placement) operators = other_operators operators
operators_after nodes.U operators = ops.U ∷ operators
operators_after nodes.N operators = ops.N ∷ operators
operators_after nodes.Minus operators = ops.Minus ∷ operators
operators_after nodes.X operators = ops.X ∷ operators

-- the leaves of nodes that are gone through
abbrev pub found_in : List CombNode → List Op → List Listed
found_in [] operators = []
found_in (node ∷ rest) operators = found_at node operators ++ found_in rest (operators_after node operators)

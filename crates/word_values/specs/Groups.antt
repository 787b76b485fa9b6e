-- The words of a text with all that stands in their groups: a tree of atoms and groups.
use Rattle.std.specs.Prelude.{ℕ, List, [], ◌∷◌, Option, Some, None}
use Rattle.std.specs.List.{slice_range}
use Rattle.std.specs.Option.{option_map}
use Rattle.tcl_words.specs.declared.token.Token.{Token}
use Rattle.tcl_words.specs.declared.token.Kind.{Kind}
use Rattle.tcl_words.specs.declared.token.Kind.TheVariants as kinds

-- words one after the other: an atom or a group, and then the rest
pub data Words : Type 0 where
  End : Words
  Atom : List ℕ → Words → Words
  Group : Words → Words → Words

-- From the right, token by token. What is open to the left is a list of words for each level, the innermost first: an
-- atom goes to the front of the innermost one, a closing brace begins one, and an opening brace makes it a group.
abbrev pub with_atom : List ℕ → List Words → List Words
with_atom atom [] = []
with_atom atom (words ∷ levels) = Atom atom words ∷ levels

abbrev pub with_group : List Words → List Words
with_group [] = []
with_group (inner ∷ []) = []
with_group (inner ∷ words ∷ levels) = Group inner words ∷ levels

abbrev pub with_token : Kind → List ℕ → List Words → List Words
with_token kinds.Atom atom levels = with_atom atom levels
with_token kinds.Close brace levels = End ∷ levels
with_token kinds.Open brace levels = with_group levels

abbrev pub levels_of : List ℕ → List Token → List Words
levels_of text [] = End ∷ []
levels_of text (t ∷ ts) = with_token t.kind (slice_range text t.start t.end) (levels_of text ts)

abbrev pub innermost : List Words → Words
innermost [] = End
innermost (words ∷ levels) = words

-- the words of tokens in which each group is opened before it is closed, and all are closed
abbrev pub words_of_tokens : List ℕ → List Token → Words
words_of_tokens text tokens = innermost (levels_of text tokens)

-- the atoms, where each word is one or a group of one
abbrev pub atoms_of : Words → Option (List (List ℕ))
atoms_of End = Some []
atoms_of (Atom atom rest) = option_map (λ atoms. atom ∷ atoms) (atoms_of rest)
atoms_of (Group (Atom atom End) rest) = option_map (λ atoms. atom ∷ atoms) (atoms_of rest)
atoms_of (Group inner rest) = None

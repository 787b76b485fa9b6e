-- The keys and values of a command, two words each.
use Rattle.std.specs.Prelude.{ℕ, Bool, true, false, not, ◌&&◌, ◌+◌, List, [], ◌∷◌, Option, None, Some, bytes_eq, find, is_some}
use Rattle.std.specs.List.{list_any}
use Rattle.std.specs.Option.{option_map}
use Rattle.tcl_words.specs.TopWords.{atom_of}
use Rattle.tcl_words.specs.declared.token.Token.{Token}
use Rattle.tcl_words.specs.declared.token.Word.{Word}

-- a key, none where the word is no atom, and its value with the number of the value's word
pub record Pair : Type 0 where
  pub key : Option (List ℕ)
  pub value : Word
  pub place : ℕ

abbrev pub pair : Option (List ℕ) → Word → ℕ → Pair
pair key value place = record { key = key; value = value; place = place }

-- the pairs of the words from this one on, none where the last key has no value
abbrev pub pairs_of : List ℕ → List Token → ℕ → List Word → Option (List Pair)
pairs_of text tokens place [] = Some []
pairs_of text tokens place (key ∷ []) = None
pairs_of text tokens place (key ∷ value ∷ rest) =
    option_map (λ pairs. pair (atom_of text tokens key) value (place + 1) ∷ pairs) (pairs_of text tokens (place + 2) rest)

abbrev pub is_key : List ℕ → Option (List ℕ) → Bool
is_key key None = false
is_key key (Some other) = bytes_eq key other

-- the pair of a key
abbrev pub pair_of : List ℕ → List Pair → Option Pair
pair_of key pairs = find (λ p. is_key key p.key) pairs

abbrev pub is_given : List Pair → List ℕ → Bool
is_given pairs key = is_some (pair_of key pairs)

-- one key; a word that is no atom is none
abbrev pub same_keys : Option (List ℕ) → Option (List ℕ) → Bool
same_keys None other = false
same_keys (Some key) other = is_key key other

-- no key is given twice
abbrev pub are_distinct : List Pair → Bool
are_distinct [] = true
are_distinct (p ∷ rest) = not (list_any (λ (other : Pair). same_keys p.key other.key) rest) && are_distinct rest

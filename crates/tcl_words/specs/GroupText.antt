-- Texts that can stand between one pair of braces.
use Rattle.std.specs.Prelude.{ℕ, Bool, ◌&&◌, ◌==◌, List, [], ◌∷◌, ◌++◌, length, is_none}
use Rattle.tcl_words.specs.Faults.{word_fault}
use Rattle.tcl_words.specs.Tokens.{tokens_of}
use Rattle.tcl_words.specs.TopWords.{top_words}

abbrev pub braced : List ℕ → List ℕ
braced value = 123 ∷ [] ++ value ++ 125 ∷ []

-- between braces it reads as one group
abbrev pub is_group_text : List ℕ → Bool
is_group_text value = is_none (word_fault (braced value)) && length (top_words (tokens_of (braced value))) == 1

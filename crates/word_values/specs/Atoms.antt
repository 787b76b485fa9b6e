-- Words that are atoms, and numbers among them.
use Rattle.std.specs.Prelude.{ℕ, ℤ, ◌==◌, ◌+◌, ◌-◌, List, [], ◌∷◌, Option, Some, None, map, length, nat_le, unwrap_or, if◌then◌else◌}
use Rattle.std.specs.List.{slice_range}
use Rattle.std.specs.Option.{option_map}
use Rattle.std.specs.Int.RustNames.{unsigned_abs}
use Rattle.tcl_words.specs.TopWords.{top_words, atom_of, raw_of, nth}
use Rattle.tcl_words.specs.declared.token.Token.{Token}
use Rattle.tcl_words.specs.declared.token.Word.{Word}

-- the atoms, where all are there
abbrev pub all_atoms : List (Option (List ℕ)) → Option (List (List ℕ))
all_atoms [] = Some []
all_atoms (None ∷ rest) = None
all_atoms (Some atom ∷ rest) = option_map (λ atoms. atom ∷ atoms) (all_atoms rest)

-- the atoms of words, each an atom or a group of one atom; none where one is another group
abbrev pub atoms_in : List ℕ → List Token → List Word → Option (List (List ℕ))
atoms_in text tokens words = all_atoms (map (atom_of text tokens) words)

-- the words in a group, where each is an atom or a group of one atom; a word that is no group has none
abbrev pub words_in : List ℕ → List Token → Word → Option (List (List ℕ))
words_in text tokens w =
    if w.first == w.last then None
    else atoms_in text (slice_range tokens (w.first + 1) w.last) (top_words (slice_range tokens (w.first + 1) w.last))

-- a number, where it is at most this size
abbrev pub kept_to : ℕ → Option ℤ → Option ℤ
kept_to most None = None
kept_to most (Some n) = if nat_le (unsigned_abs n) most then Some n else None

-- the numbers, where all are there
abbrev pub all_numbers : List (Option ℤ) → Option (List ℤ)
all_numbers [] = Some []
all_numbers (None ∷ rest) = None
all_numbers (Some n ∷ rest) = option_map (λ numbers. n ∷ numbers) (all_numbers rest)

abbrev pub last_token : List Token → Token
last_token tokens = nth tokens (length tokens - 1)

-- the bytes from the start of a word to the end of the text's last word
abbrev pub text_from : List ℕ → List Token → Word → List ℕ
text_from text tokens w = slice_range text (nth tokens w.first).start (last_token tokens).end

-- the raw text of a single group, or the bytes from the first word's start to the last word's end
abbrev pub value_of : List ℕ → List Token → Word → List Word → List ℕ
value_of text tokens w [] = unwrap_or (raw_of text tokens w) (text_from text tokens w)
value_of text tokens w (next ∷ rest) = text_from text tokens w

-- A text and its lines.
use Rattle.std.specs.Prelude.{◌≡◌, ◌≢◌, ℕ, ◌==◌, cond, List, [], ◌∷◌, ◌++◌, flat_map, length, take}
use Rattle.std.specs.List.{AllByRecursion}

abbrev pub onto_line : ℕ → List (List ℕ) → List (List ℕ)
onto_line byte [] = (byte ∷ []) ∷ []
onto_line byte (line ∷ rest) = (byte ∷ line) ∷ rest

-- a text is cut at its line feeds; a last piece that is not empty is a line too
abbrev pub lines_in : List ℕ → List (List ℕ)
lines_in [] = []
lines_in (byte ∷ rest) = cond (byte == 10) ([] ∷ lines_in rest) (onto_line byte (lines_in rest))

-- a line, ended by a line feed
abbrev pub ended : List ℕ → List ℕ
ended line = line ++ 10 ∷ []

-- each line, ended by a line feed
abbrev pub text_of : List (List ℕ) → List ℕ
text_of lines = flat_map ended lines

-- no byte is this one
abbrev pub Lacks : ℕ → List ℕ → Type 0
Lacks byte bytes = AllByRecursion (λ b. b ≢ byte) bytes

-- each line of the text is ended, and there are so many
pub record HasWholeLines (text : List ℕ) (count : ℕ) : Type 0 where
  pub whole : text ≡ text_of (lines_in text)
  pub counted : count ≡ length (lines_in text)

-- the new text begins with the old one
abbrev pub Extends : List ℕ → List ℕ → Type 0
Extends old new = take (length old) new ≡ old

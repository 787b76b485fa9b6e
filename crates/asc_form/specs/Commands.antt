-- A text is cut into commands at the line feeds outside braces. A line whose first byte that is no blank is `#` ends at
-- its line feed, whatever braces it has.
use Rattle.std.specs.Prelude.{ℕ, Bool, false, ◌&&◌, ◌||◌, ◌==◌, ◌+◌, not, zero, suc, List, [], ◌∷◌, length, take, drop, find, count_by, Option, None, Some, slice_index}
use Rattle.std.specs.List.{range_with_len}
use Rattle.tcl_words.specs.Bytes.{is_blank}
use Rattle.tcl_words.specs.Faults.{depth}

-- a command, and the number of the line on which it begins
pub record Piece : Type 0 where
  pub line : ℕ
  pub text : List ℕ

abbrev pub piece : ℕ → List ℕ → Piece
piece line text = record { line = line; text = text }

abbrev pub is_pound : Option ℕ → Bool
is_pound None = false
is_pound (Some byte) = byte == 35

-- the first byte that is no blank
abbrev pub first_byte : List ℕ → Option ℕ
first_byte text = find (λ byte. not (is_blank byte)) text

-- the first command of a text ends at this place: a line feed outside braces, or the first one after `#`
abbrev pub ends_at : List ℕ → ℕ → Bool
ends_at text place = slice_index text place == 10 && (is_pound (first_byte (take place text)) || depth text place == 0)

abbrev pub end_of : List ℕ → Option ℕ
end_of text = find (ends_at text) (range_with_len 0 (length text))

abbrev pub is_line_feed : ℕ → Bool
is_line_feed byte = byte == 10

-- what is left behind a command that ends at this place begins one line further on, and one for each line feed in it
abbrev pub line_after : ℕ → List ℕ → ℕ → ℕ
line_after line text place = line + 1 + count_by is_line_feed (take place text)

-- the first command, where it ends, and the others
abbrev pub cut : (ℕ → List ℕ → List Piece) → ℕ → List ℕ → Option ℕ → List Piece
cut others line text None = piece line text ∷ []
cut others line text (Some place) = piece line (take place text) ∷ others (line_after line text place) (drop (place + 1) text)

-- the commands of a text from this line on, so many at most
abbrev pub pieces_within : ℕ → ℕ → List ℕ → List Piece
pieces_within zero line text = []
pieces_within (suc most) line text = cut (pieces_within most) line text (end_of text)

-- the commands of a text: no more than it has bytes, and one; the last one may be empty
abbrev pub pieces_of : List ℕ → List Piece
pieces_of text = pieces_within (length text + 1) 1 text

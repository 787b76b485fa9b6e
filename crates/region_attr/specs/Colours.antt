-- Colours as texts.
use Rattle.std.specs.Prelude.{◌≡◌, ◌<◌, ◌⊎◌, ℕ, true, ◌+◌, ◌++◌, slice_index, Bool, ◌==◌, nat_lt, not, List, [], ◌∷◌, Option, Some, None, length, take, drop, filter, if◌then◌else◌}
use Rattle.std.specs.List.{prefix_len, list_any}
use Rattle.tcl_words.specs.Bytes.{is_blank}
use Rattle.region_attr.specs.Ranges.{most_part}
use Rattle.region_attr.specs.Values.{number_to, IsNumberTo}
use Rattle.region_attr.specs.declared.attr.Rgb.{Rgb}

abbrev pub is_slash : ℕ → Bool
is_slash b = b == 47

-- a byte before the first of some pieces
abbrev pub onto_first : ℕ → List (List ℕ) → List (List ℕ)
onto_first b [] = (b ∷ []) ∷ []
onto_first b (piece ∷ pieces) = (b ∷ piece) ∷ pieces

-- the pieces of a text between the bytes that part it
abbrev pub pieces : (ℕ → Bool) → List ℕ → List (List ℕ)
pieces parts [] = [] ∷ []
pieces parts (b ∷ bs) = if parts b then [] ∷ pieces parts bs else onto_first b (pieces parts bs)

-- the pieces between blanks that have a byte
abbrev pub words : List ℕ → List (List ℕ)
words text = filter (λ piece. nat_lt 0 (length piece)) (pieces is_blank text)

-- a part of a colour
abbrev pub part : List ℕ → Option ℕ
part text = number_to most_part text

abbrev pub colour : Option ℕ → Option ℕ → Option ℕ → Option Rgb
colour None g b = None
colour (Some r) None b = None
colour (Some r) (Some g) None = None
colour (Some r) (Some g) (Some b) = Some (record { r = r; g = g; b = b })

-- exactly three parts
abbrev pub colour_of_parts : List (List ℕ) → Option Rgb
colour_of_parts [] = None
colour_of_parts (r ∷ []) = None
colour_of_parts (r ∷ g ∷ []) = None
colour_of_parts (r ∷ g ∷ b ∷ []) = colour (part r) (part g) (part b)
colour_of_parts (r ∷ g ∷ b ∷ x ∷ xs) = None

-- three parts between slashes, or else between blanks
abbrev pub colour_of : List ℕ → Option Rgb
colour_of text = if list_any is_slash text then colour_of_parts (pieces is_slash text) else colour_of_parts (words text)

-- ---- the same as relations of a text and its colour

abbrev pub IsPart : List ℕ → ℕ → Type 0
IsPart text n = IsNumberTo most_part text n

abbrev pub AreBlanks : List ℕ → Type 0
AreBlanks text = (k : ℕ) → k < length text → is_blank (slice_index text k) ≡ true

-- three parts with a slash between them
pub record IsSlashed (text : List ℕ) (c : Rgb) : Type 0 where
  pub red : List ℕ
  pub green : List ℕ
  pub blue : List ℕ
  pub spelled : text ≡ red ++ (47 ∷ (green ++ (47 ∷ blue)))
  pub is_red : IsPart red c.r
  pub is_green : IsPart green c.g
  pub is_blue : IsPart blue c.b

-- three parts with blanks between them, and maybe blanks around them
pub record IsSpaced (text : List ℕ) (c : Rgb) : Type 0 where
  pub front : List ℕ
  pub red : List ℕ
  pub first_gap : List ℕ
  pub green : List ℕ
  pub second_gap : List ℕ
  pub blue : List ℕ
  pub rest : List ℕ
  pub spelled : text ≡ front ++ (red ++ (first_gap ++ (green ++ (second_gap ++ (blue ++ rest)))))
  pub is_red : IsPart red c.r
  pub is_green : IsPart green c.g
  pub is_blue : IsPart blue c.b
  pub front_blank : AreBlanks front
  pub first_blank : AreBlanks first_gap
  pub second_blank : AreBlanks second_gap
  pub rest_blank : AreBlanks rest
  pub first_some : 0 < length first_gap
  pub second_some : 0 < length second_gap

abbrev pub IsColour : List ℕ → Rgb → Type 0
IsColour text c = IsSlashed text c ⊎ IsSpaced text c

-- ---- how the program cuts a text

-- how many bytes stand before the first that parts
abbrev pub len_before : (ℕ → Bool) → List ℕ → ℕ
len_before parts text = prefix_len (λ b. not (parts b)) text

-- a text without the blanks at its front
abbrev pub trimmed : List ℕ → List ℕ
trimmed text = drop (prefix_len is_blank text) text

-- the first word and what follows it; the first is empty where there is none
abbrev pub first_word : List ℕ → List ℕ
first_word text = take (len_before is_blank (trimmed text)) (trimmed text)

abbrev pub after_word : List ℕ → List ℕ
after_word text = drop (len_before is_blank (trimmed text)) (trimmed text)

-- what stands before the first slash, and what behind it
abbrev pub first_piece : List ℕ → List ℕ
first_piece text = take (len_before is_slash text) text

abbrev pub after_piece : List ℕ → List ℕ
after_piece text = drop (len_before is_slash text + 1) text

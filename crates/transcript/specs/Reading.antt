-- What is read back from the bytes of a transcript: the order and the marks.
use Rattle.std.specs.Prelude.{ℕ, zero, suc, ◌-◌, ◌==◌, ◌&&◌, Bool, cond, List, [], ◌∷◌, map, filter, drop, codes, bytes_eq, slice_index}
use Rattle.std.specs.Str.Parse.{digits_value}
use Rattle.transcript.specs.Lines.{lines_in}

-- the bytes before the first of a kind, and those after it
abbrev pub before : ℕ → List ℕ → List ℕ
before c [] = []
before c (b ∷ bs) = cond (b == c) [] (b ∷ before c bs)

abbrev pub after : ℕ → List ℕ → List ℕ
after c [] = []
after c (b ∷ bs) = cond (b == c) bs (after c bs)

-- the sessions that the first line names, each as a blank and a digit after the word `order`
abbrev pub digits_in : List ℕ → List ℕ
digits_in [] = []
digits_in (blank ∷ []) = []
digits_in (blank ∷ digit ∷ rest) = (digit - 48) ∷ digits_in rest

abbrev pub order_in_lines : List (List ℕ) → List ℕ
order_in_lines [] = []
order_in_lines (first ∷ rest) = digits_in (drop 5 first)

-- the order that the first line prints
abbrev pub order_in : List ℕ → List ℕ
order_in bytes = order_in_lines (lines_in bytes)

-- what a header line says
pub record Header : Type 0 where
  pub session : ℕ
  pub is_memory : Bool
  pub body : ℕ

-- by the session's digit, the second word, and all that follows the third
abbrev pub header_said : ℕ → List ℕ → List ℕ → Header
header_said digit outcome detail = record {
  session = digit - 48;
  is_memory = bytes_eq outcome (codes "refused") && bytes_eq detail (codes "memory");
  body = cond (bytes_eq outcome (codes "ok")) (digits_value 10 detail) 0;
}

abbrev pub read_header : List ℕ → Header
read_header line = header_said (slice_index line 0) (before 32 (after 32 line)) (after 32 (after 32 (after 32 line)))

-- the header lines, once so many body lines are passed over
abbrev pub headers_in : ℕ → List (List ℕ) → List Header
headers_in body [] = []
headers_in zero (line ∷ rest) = read_header line ∷ headers_in (read_header line).body rest
headers_in (suc body) (line ∷ rest) = headers_in body rest

abbrev pub marks_among : List Header → ℕ → List Bool
marks_among headers session = map (λ (h : Header). h.is_memory) (filter (λ (h : Header). h.session == session) headers)

-- the marks: which commands of a session are answered `memory`, in sequence
abbrev pub marks_in : List ℕ → ℕ → List Bool
marks_in bytes session = marks_among (headers_in 0 (drop 1 (lines_in bytes))) session

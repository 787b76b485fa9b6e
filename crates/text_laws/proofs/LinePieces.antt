-- Pieces of a line: written, and read again as tokens.
use Rattle.std.proofs.Common.{◌≡◌, ◌∙◌, ℕ, zero, suc, List, [], ◌∷◌, ◌++◌, get_or, Ok, refl, ap, sym, subst, arith, append_assoc}
use Rattle.std.specs.List.{slice_range}
use Rattle.lattice_core.specs.declared.vector.V3.{V3}
use Rattle.tcl_words.specs.Pieces.{pieces, written_after}
use Rattle.tcl_words.specs.Reading.{reading, words_of}
use Rattle.tcl_words.specs.Tokens.{token, tokens_of}
use Rattle.tcl_words.specs.TopWords.{nth}
use Rattle.tcl_words.specs.declared.token.Kind.TheVariants.{Open, Close, Atom}
use Rattle.tcl_words.specs.declared.token.Token.{Token}
use Rattle.tcl_words.specs.declared.token.Word.{Word}
use Rattle.tcl_words.proofs.Fine.{fine_words}
use Rattle.tcl_words.proofs.Scan.{Piece, scanned}
use Rattle.tcl_words.proofs.Written.{Again, Good, read_again}
use Rattle.word_values.specs.declared.atoms.NumberKind.{NumberKind}
use Rattle.put_form.specs.Written.{number_text, vector_text}
use Rattle.put_form.proofs.NameWords.{word_good}
use Rattle.text_laws.proofs.LineNumbers.{AreOf, of_kind_word}

-- the words of good pieces that are written are these pieces
pub record HasPieces (line : List ℕ) (ps : List Piece) : Type 0 where
  pub tokens : List Token
  pub read : words_of line ≡ Ok tokens
  pub are : pieces line tokens ≡ ps

pub read_line : (line : List ℕ) (ps : List Piece) → line ≡ written_after Open ps → Good 0 ps → HasPieces line ps
read_line line ps is good =
    let again : Again 32 0 line ps = subst (λ (text : List ℕ). Again 32 0 text ps) (sym is) (read_again Open 32 0 ps (refl, refl) good) in
    record { tokens = tokens_of line; read = ap (λ f. reading f (tokens_of line)) (fine_words line again.0); are = scanned line ∙ again.1 }

-- tokens of known kinds, whose places are given by their number
abbrev pub placed : (ℕ → ℕ) → (ℕ → ℕ) → List Piece → List Token
placed start end [] = []
placed start end (p ∷ ps) = token p.0 (start 0) (end 0) ∷ placed (λ i. start (suc i)) (λ i. end (suc i)) ps

abbrev pub no_piece : Piece
no_piece = (Open, [])

abbrev pub HasBytes : List ℕ → (ℕ → ℕ) → (ℕ → ℕ) → List Piece → Type 0
HasBytes text start end ps = (i : ℕ) → slice_range text (start i) (end i) ≡ (get_or ps i no_piece).1

are_placed : (text : List ℕ) (tokens : List Token) → placed (λ i. (nth tokens i).start) (λ i. (nth tokens i).end) (pieces text tokens) ≡ tokens
are_placed text [] = refl
are_placed text (t ∷ ts) = ap (λ (rest : List Token). t ∷ rest) (are_placed text ts)

have_bytes : (text : List ℕ) (tokens : List Token) → HasBytes text (λ i. (nth tokens i).start) (λ i. (nth tokens i).end) (pieces text tokens)
have_bytes text [] i = refl
have_bytes text (t ∷ ts) zero = refl
have_bytes text (t ∷ ts) (suc i) = have_bytes text ts i

-- what holds of tokens of these pieces wherever they lie holds of the tokens that are read
pub by_places : (P : List Token → Type 0) (text : List ℕ) (tokens : List Token) (ps : List Piece) → pieces text tokens ≡ ps
    → ((start end : ℕ → ℕ) → HasBytes text start end ps → P (placed start end ps)) → P tokens
by_places P text tokens ps are all =
    let start : ℕ → ℕ = λ i. (nth tokens i).start in
    let end : ℕ → ℕ = λ i. (nth tokens i).end in
    let same : placed start end ps ≡ tokens = ap (placed start end) (sym are) ∙ are_placed text tokens in
    subst P same (all start end (subst (HasBytes text start end) are (have_bytes text tokens)))

abbrev pub word : ℕ → ℕ → Word
word first last = record { first = first; last = last }

-- ---- a vector

abbrev pub atom : List ℕ → Piece
atom bytes = (Atom, bytes)

abbrev pub opening : Piece
opening = (Open, 123 ∷ [])

abbrev pub closing : Piece
closing = (Close, 125 ∷ [])

abbrev pub vector_pieces : NumberKind → V3 → List Piece → List Piece
vector_pieces kind v rest = opening ∷ atom (number_text kind v.x) ∷ atom (number_text kind v.y) ∷ atom (number_text kind v.z) ∷ closing ∷ rest

-- three atoms in braces, and what follows
abbrev pub triple_text : List ℕ → List ℕ → List ℕ → List ℕ → List ℕ
triple_text x y z rest = 123 ∷ (x ++ 32 ∷ (y ++ 32 ∷ (z ++ 125 ∷ rest)))

grouped : (x y z rest : List ℕ) → ((x ++ 32 ∷ (y ++ 32 ∷ z)) ++ 125 ∷ []) ++ rest ≡ x ++ 32 ∷ (y ++ 32 ∷ (z ++ 125 ∷ rest))
grouped x y z rest = simp append_assoc

pub vector_written : (kind : NumberKind) (v : V3) (rest : List ℕ) → vector_text kind v ++ rest ≡ triple_text (number_text kind v.x) (number_text kind v.y) (number_text kind v.z) rest
vector_written kind v rest = ap (λ (text : List ℕ). 123 ∷ text) (grouped (number_text kind v.x) (number_text kind v.y) (number_text kind v.z) rest)

pub vector_good : (kind : NumberKind) (v : V3) (rest : List Piece) → AreOf kind v → Good 0 rest → Good 0 (vector_pieces kind v rest)
vector_good kind v rest are good = (
  (refl, refl),
  (
    word_good (number_text kind v.x) 1 (of_kind_word kind v.x are.x),
    (word_good (number_text kind v.y) 1 (of_kind_word kind v.y are.y), (word_good (number_text kind v.z) 1 (of_kind_word kind v.z are.z), ((refl, omega arith), good))),
  ),
)

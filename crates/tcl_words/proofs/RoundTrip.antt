-- What is written has the words of the text it was written from, and what a writing loop needs.
use Rattle.std.proofs.Common.{◌≡◌, ℕ, zero, suc, ◌+◌, ◌<◌, ◌≤◌, List, [], ◌∷◌, ◌++◌, length, drop, get_or, cond, Bool, true, false, arith, Option, Some, None, Ok, refl, ap, sym, ◌∙◌, subst, length-drop, append-nil}
use Rattle.std.specs.Prelude.{filter_map, not, ◌&&◌}
use Rattle.std.specs.List.{prefix_len, cons_option, range_with_len}
use Rattle.std.proofs.lemmas.List.Sums.{prefix_len-le-length}
use Rattle.std.proofs.lemmas.List.{drop_all}
use Rattle.tcl_words.specs.Bytes.{is_open, is_close, is_atom, before}
use Rattle.tcl_words.specs.Faults.{word_fault}
use Rattle.tcl_words.specs.Tokens.{token, token_at, tokens_of}
use Rattle.tcl_words.specs.Reading.{reading, words_of}
use Rattle.tcl_words.specs.Pieces.{pieces, written_after, written, HasWordsOf}
use Rattle.tcl_words.specs.TopWords.{Lies, AllLie}
use Rattle.tcl_words.specs.declared.token.Token.{Token}
use Rattle.tcl_words.specs.declared.token.Kind.{Kind}
use Rattle.tcl_words.specs.declared.token.Kind.TheVariants.{Open, Close, Atom}
use Rattle.tcl_words.specs.declared.fault.WordFault.{WordFault}
use Rattle.tcl_words.proofs.Scan.{Piece, scan, scanned}
use Rattle.tcl_words.proofs.Fine.{words_fine, fine_words}
use Rattle.tcl_words.proofs.Written.{Again, fine_good, read_again}

pub reading_ok : (f : Option WordFault) (ts us : List Token) → reading f ts ≡ Ok us → (f ≡ None) × (ts ≡ us)
reading_ok None ts us e = (refl, cc)
reading_ok (Some f) ts us e = cc

pub written_again : (text : List ℕ) (tokens : List Token) → words_of text ≡ Ok tokens → HasWordsOf (written text tokens) text tokens
written_again text tokens read =
    let was : (word_fault text ≡ None) × (tokens_of text ≡ tokens) = reading_ok (word_fault text) (tokens_of text) tokens read in
    let same : pieces text tokens ≡ scan 32 text = ap (pieces text) (sym was.1) ∙ scanned text in
    let again : Again 32 0 (written_after Open (scan 32 text)) (scan 32 text) = read_again Open 32 0 (scan 32 text) (refl, refl) (fine_good 32 0 text (words_fine text was.0)) in
    let new : Again 32 0 (written text tokens) (pieces text tokens) = subst (λ (ps : List Piece). Again 32 0 (written_after Open ps) ps) (sym same) again in
    (tokens_of (written text tokens), ap (λ f. reading f (tokens_of (written text tokens))) (fine_words (written text tokens) new.0), scanned (written text tokens) ∙ new.1)

-- ---- each token lies in the text

abbrev LiesSome : ℕ → Option Token → Type 0
LiesSome n None = Unit {0}
LiesSome n (Some t) = Lies n t

lies_cons : (n : ℕ) (o : Option Token) (ts : List Token) → LiesSome n o → AllLie n ts → AllLie n (cons_option o ts)
lies_cons n None ts here rest = rest
lies_cons n (Some t) ts here rest = (here, rest)

lies_choice : (n p r : ℕ) (o c a : Bool) → p < n → p + r ≤ n → LiesSome n (cond o (Some (token Open p (p + 1))) (cond c (Some (token Close p (p + 1))) (cond a (Some (token Atom p (p + r))) None)))
lies_choice n p r true c a within run = (omega arith, omega arith)
lies_choice n p r false true a within run = (omega arith, omega arith)
lies_choice n p r false false true within run = (omega arith, omega arith)
lies_choice n p r false false false within run = tt

lies_at : (text : List ℕ) (p : ℕ) → p < length text → LiesSome (length text) (token_at text p)
lies_at text p within = lies_choice (length text) p (prefix_len is_atom (drop p text)) (is_open (get_or text p 0)) (is_close (get_or text p 0)) (is_atom (get_or text p 0) && not (is_atom (before text p))) within (omega (arith, prefix_len-le-length is_atom (drop p text), length-drop p text))

lie_from : (text : List ℕ) (a n : ℕ) → a + n ≤ length text → AllLie (length text) (filter_map (token_at text) (range_with_len a n))
lie_from text a zero within = tt
lie_from text a (suc n) within = lies_cons (length text) (token_at text a) (filter_map (token_at text) (range_with_len (a + 1) n)) (lies_at text a (omega arith)) (lie_from text (a + 1) n (omega arith))

pub lies_index : (n : ℕ) (ts : List Token) (i : ℕ) (d : Token) → AllLie n ts → i < length ts → Lies n (get_or ts i d)
lies_index n [] i d all within = absurd (omega arith)
lies_index n (t ∷ ts) zero d all within = all.0
lies_index n (t ∷ ts) (suc i) d all within = lies_index n ts i d all.1 (omega arith)

pub read_lies : (text : List ℕ) (tokens : List Token) → words_of text ≡ Ok tokens → AllLie (length text) tokens
read_lies text tokens read = subst (AllLie (length text)) (reading_ok (word_fault text) (tokens_of text) tokens read).1 (lie_from text 0 (length text) (omega arith))

-- ---- the end of the writing loop

pub all_written : (text out : List ℕ) (k : Kind) (tokens : List Token) (i : ℕ) → length tokens ≤ i → out ++ written_after k (pieces text (drop i tokens)) ≡ written text tokens → words_of text ≡ Ok tokens → HasWordsOf out text tokens
all_written text out k tokens i end is read =
    let whole : written text tokens ≡ out = sym is ∙ ap (λ (ts : List Token). out ++ written_after k (pieces text ts)) (drop_all i tokens end) ∙ append-nil out in
    subst (λ (new : List ℕ). HasWordsOf new text tokens) whole (written_again text tokens read)

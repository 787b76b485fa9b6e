-- The words of a text are balanced.
use Rattle.std.proofs.Common.{◌≡◌, ℕ, zero, suc, ◌+◌, ◌≤◌, List, [], ◌∷◌, take, cond, arith, Ok, None, ap, sym, ◌∙◌, subst}
use Rattle.std.specs.Prelude.{count_by}
use Rattle.std.proofs.lemmas.List.Sums.{sum_by-cons}
use Rattle.tcl_words.specs.Faults.{word_fault}
use Rattle.tcl_words.specs.Tokens.{tokens_of}
use Rattle.tcl_words.specs.Reading.{words_of}
use Rattle.tcl_words.specs.Pieces.{piece, pieces}
use Rattle.tcl_words.specs.TopWords.{is_open_kind, is_close_kind, opens, closes, IsBalanced}
use Rattle.tcl_words.specs.declared.token.Token.{Token}
use Rattle.tcl_words.specs.declared.token.Kind.{Kind}
use Rattle.tcl_words.specs.declared.token.Kind.TheVariants.{Open, Close, Atom}
use Rattle.tcl_words.proofs.Scan.{scanned}
use Rattle.tcl_words.proofs.Fine.{words_fine}
use Rattle.tcl_words.proofs.Written.{GoodPiece, Good, after, fine_good}
use Rattle.tcl_words.proofs.RoundTrip.{reading_ok}

step_le : (kind : Kind) (bytes : List ℕ) (g a b : ℕ) → GoodPiece kind bytes g → a ≤ after kind g + b → cond (is_close_kind kind) 1 0 + a ≤ g + (cond (is_open_kind kind) 1 0 + b)
step_le Open bytes g a b good le = omega arith
step_le Close bytes g a b good le = omega (arith, good.1)
step_le Atom bytes g a b good le = omega arith

step_is : (kind : Kind) (bytes : List ℕ) (g a b : ℕ) → GoodPiece kind bytes g → a ≡ after kind g + b → cond (is_close_kind kind) 1 0 + a ≡ g + (cond (is_open_kind kind) 1 0 + b)
step_is Open bytes g a b good is = omega arith
step_is Close bytes g a b good is = omega (arith, good.1)
step_is Atom bytes g a b good is = omega arith

good_prefix : (text : List ℕ) (ts : List Token) (g k : ℕ) → Good g (pieces text ts) → count_by closes (take k ts) ≤ g + count_by opens (take k ts)
good_prefix text ts g zero good = omega arith
good_prefix text [] g (suc k) good = omega arith
good_prefix text (t ∷ ts) g (suc k) good =
    omega (
      arith,
      sum_by-cons (λ x. cond (closes x) 1 0) t (take k ts),
      sum_by-cons (λ x. cond (opens x) 1 0) t (take k ts),
      step_le t.kind (piece text t).1 g (count_by closes (take k ts)) (count_by opens (take k ts)) good.0 (good_prefix text ts (after t.kind g) k good.1),
    )

good_total : (text : List ℕ) (ts : List Token) (g : ℕ) → Good g (pieces text ts) → count_by closes ts ≡ g + count_by opens ts
good_total text [] g good = omega arith
good_total text (t ∷ ts) g good =
    omega (
      arith,
      sum_by-cons (λ x. cond (closes x) 1 0) t ts,
      sum_by-cons (λ x. cond (opens x) 1 0) t ts,
      step_is t.kind (piece text t).1 g (count_by closes ts) (count_by opens ts) good.0 (good_total text ts (after t.kind g) good.1),
    )

pub read_balanced : (text : List ℕ) (tokens : List Token) → words_of text ≡ Ok tokens → IsBalanced tokens
read_balanced text tokens read =
    let was : (word_fault text ≡ None) × (tokens_of text ≡ tokens) = reading_ok (word_fault text) (tokens_of text) tokens read in
    let good : Good 0 (pieces text tokens) = subst (Good 0) (sym (ap (pieces text) (sym was.1) ∙ scanned text)) (fine_good 32 0 text (words_fine text was.0)) in
    ((λ k. omega (arith, good_prefix text tokens 0 k good)), omega (arith, good_total text tokens 0 good))

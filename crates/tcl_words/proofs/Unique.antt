-- Only one list of tokens covers a text.
use Rattle.std.proofs.Common.{◌≡◌, ℕ, ◌<◌, ◌≤◌, inl, inr, List, [], ◌∷◌, length, get_or, Bool, true, false, arith, refl, ap, sym, ◌∙◌, subst}
use Rattle.std.specs.Prelude.{not, ◌||◌}
use Rattle.std.proofs.lemmas.Bool.{eqb-true, cases_lt}
use Rattle.tcl_words.specs.Bytes.{is_blank, is_open, is_close, is_atom}
use Rattle.tcl_words.specs.Tokens.{token}
use Rattle.tcl_words.specs.Cover.{AllBetween, IsTokenOf, Covers}
use Rattle.tcl_words.specs.declared.token.Token.{Token}
use Rattle.tcl_words.specs.declared.token.Kind.{Kind}
use Rattle.tcl_words.specs.declared.token.Kind.TheVariants.{Open, Close, Atom}

clash : (b : Bool) → b ≡ true → b ≡ false → ⊥
clash b p q = cc

first_none : (a b c : Bool) → not (a || b || c) ≡ true → a ≡ false
first_none true b c e = cc
first_none false b c e = refl

not_blank : (kind : Kind) (text : List ℕ) (s e : ℕ) → IsTokenOf kind text s e → (s < e) × (is_blank (get_or text s 0) ≡ false)
not_blank Open text s e is = (omega (arith, is.1), ap is_blank (eqb-true (get_or text s 0) 123 is.0))
not_blank Close text s e is = (omega (arith, is.1), ap is_blank (eqb-true (get_or text s 0) 125 is.0))
not_blank Atom text s e is = (is.0, first_none (is_blank (get_or text s 0)) (is_open (get_or text s 0)) (is_close (get_or text s 0)) (is.1 s (omega arith) is.0))

-- a place that two tokens' blanks and bytes disagree on
no_later : (text : List ℕ) (a s e f : ℕ) (kind : Kind) → AllBetween is_blank text a f → a ≤ s → IsTokenOf kind text s e → s < f → ⊥
no_later text a s e f kind blanks low is early = clash (is_blank (get_or text s 0)) (blanks s low early) (not_blank kind text s e is).1

same_start : (text : List ℕ) (a s e t f : ℕ) (k m : Kind) → a ≤ s → a ≤ t → AllBetween is_blank text a s → AllBetween is_blank text a t → IsTokenOf k text s e → IsTokenOf m text t f → s ≡ t
same_start text a s e t f k m low_s low_t blank_s blank_t is_s is_t = elim (cases_lt s t) [
  | inl before_ ↦ absurd (no_later text a s e t k blank_t low_s is_s before_)
  | inr late ↦ elim (cases_lt t s) [
    | inl before_ ↦ absurd (no_later text a t f s m blank_s low_t is_t before_)
    | inr late_ ↦ omega arith
  ]
]

no_longer : (text : List ℕ) (s e f : ℕ) → IsTokenOf Atom text s e → IsTokenOf Atom text s f → f ≤ length text → e < f → ⊥
no_longer text s e f one two within short = clash (is_atom (get_or text e 0)) (two.1 e (omega (arith, one.0)) short) (one.2 (omega arith))

atom_end : (text : List ℕ) (s e f : ℕ) → IsTokenOf Atom text s e → IsTokenOf Atom text s f → e ≤ length text → f ≤ length text → e ≡ f
atom_end text s e f one two in_e in_f = elim (cases_lt e f) [
  | inl short ↦ absurd (no_longer text s e f one two in_f short)
  | inr long ↦ elim (cases_lt f e) [ inl short ↦ absurd (no_longer text s f e two one in_e short) | inr same ↦ omega arith ]
]

open_is : (text : List ℕ) (s : ℕ) → is_open (get_or text s 0) ≡ true → (is_close (get_or text s 0) ≡ false) × (is_atom (get_or text s 0) ≡ false)
open_is text s is = (ap is_close (eqb-true (get_or text s 0) 123 is), ap is_atom (eqb-true (get_or text s 0) 123 is))

close_is : (text : List ℕ) (s : ℕ) → is_close (get_or text s 0) ≡ true → is_atom (get_or text s 0) ≡ false
close_is text s is = ap is_atom (eqb-true (get_or text s 0) 125 is)

same_token : (k m : Kind) (text : List ℕ) (s e f : ℕ) → IsTokenOf k text s e → IsTokenOf m text s f → e ≤ length text → f ≤ length text → (k ≡ m) × (e ≡ f)
same_token Open Open text s e f one two in_e in_f = (refl, one.1 ∙ sym two.1)
same_token Open Close text s e f one two in_e in_f = absurd (clash (is_close (get_or text s 0)) two.0 (open_is text s one.0).0)
same_token Open Atom text s e f one two in_e in_f = absurd (clash (is_atom (get_or text s 0)) (two.1 s (omega arith) two.0) (open_is text s one.0).1)
same_token Close Open text s e f one two in_e in_f = absurd (clash (is_close (get_or text s 0)) one.0 (open_is text s two.0).0)
same_token Close Close text s e f one two in_e in_f = (refl, one.1 ∙ sym two.1)
same_token Close Atom text s e f one two in_e in_f = absurd (clash (is_atom (get_or text s 0)) (two.1 s (omega arith) two.0) (close_is text s one.0))
same_token Atom Open text s e f one two in_e in_f = absurd (clash (is_atom (get_or text s 0)) (one.1 s (omega arith) one.0) (open_is text s two.0).1)
same_token Atom Close text s e f one two in_e in_f = absurd (clash (is_atom (get_or text s 0)) (one.1 s (omega arith) one.0) (close_is text s two.0))
same_token Atom Atom text s e f one two in_e in_f = (refl, atom_end text s e f one two in_e in_f)

token_is : (x y : Token) → x.kind ≡ y.kind → x.start ≡ y.start → x.end ≡ y.end → x ≡ y
token_is x y k s e = ap (λ (a : Kind). token a x.start x.end) k ∙ ap (λ (b : ℕ). token y.kind b x.end) s ∙ ap (λ (c : ℕ). token y.kind y.start c) e

heads : (text : List ℕ) (a : ℕ) (x y : Token) (xs ys : List Token) → Covers text a (x ∷ xs) → Covers text a (y ∷ ys) → x ≡ y
heads text a x y xs ys one two =
    let start : x.start ≡ y.start = same_start text a x.start x.end y.start y.end x.kind y.kind one.0 two.0 one.2 two.2 one.3 two.3 in
    let rest : (x.kind ≡ y.kind) × (x.end ≡ y.end) = same_token x.kind y.kind text x.start x.end y.end one.3 (subst (λ (s : ℕ). IsTokenOf y.kind text s y.end) (sym start) two.3) one.1 two.1 in
    token_is x y rest.0 start rest.1

nothing_left : (text : List ℕ) (a : ℕ) (y : Token) (ys : List Token) → AllBetween is_blank text a (length text) → Covers text a (y ∷ ys) → ⊥
nothing_left text a y ys blanks two = no_later text a y.start y.end (length text) y.kind blanks two.0 two.3 (omega (arith, two.1, (not_blank y.kind text y.start y.end two.3).0))

pub unique : (text : List ℕ) (a : ℕ) (xs ys : List Token) → Covers text a xs → Covers text a ys → xs ≡ ys
unique text a [] [] one two = refl
unique text a [] (y ∷ ys) one two = absurd (nothing_left text a y ys one two)
unique text a (x ∷ xs) [] one two = absurd (nothing_left text a x xs two one)
unique text a (x ∷ xs) (y ∷ ys) one two =
    let same : x ≡ y = heads text a x y xs ys one two in
    let rest : xs ≡ ys = unique text x.end xs ys one.4 (subst (λ (t : Token). Covers text t.end ys) (sym same) two.4) in
    ap (λ (t : Token). t ∷ xs) same ∙ ap (λ (ts : List Token). y ∷ ts) rest

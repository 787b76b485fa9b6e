-- What is read back from a text of whole lines.
use Rattle.std.proofs.Common.{zero, suc, get_or, take, drop, ◌≢◌, Bool, true, false, cond, sym, append-nil, length, length-append, ◌+◌, ◌≡◌, ℕ, ◌<◌, ◌^◌, ◌==◌, List, [], ◌∷◌, ◌++◌, refl, ap, ◌∙◌, append_assoc, arith, decimal, ne_eqb, eq-eqb}
use Rattle.std.proofs.lemmas.Bool.{cond-true, cond-false}
use Rattle.std.proofs.lemmas.Fmt.{digits_decimal, digits_value-decimal}
use Rattle.std.proofs.lemmas.Str.Parse.{IsNumeralModel, numerals_by_value}
use Rattle.std.proofs.lemmas.Bool.{eqb-false}
use Rattle.std.proofs.lemmas.List.Concat.{flat_map-append}
use Rattle.std.specs.Int.{IsInRange}
use Rattle.std.specs.List.{AllByRecursion}
use Rattle.std.specs.Str.Parse.{digits_value}
use Rattle.transcript.specs.Lines.{lines_in, onto_line, ended, text_of, Lacks, HasWholeLines}
use Rattle.transcript.specs.Reading.{before, after}

-- a line that lacks a line feed is read back
pub line_read : (line rest : List ℕ) → Lacks 10 line → lines_in (line ++ 10 ∷ rest) ≡ line ∷ lines_in rest
line_read [] rest h = refl
line_read (b ∷ bs) rest h = cond-false (b == 10) _ _ (ne_eqb b 10 h.0) ∙ ap (onto_line b) (line_read bs rest h.1)

pub text_read : (lines : List (List ℕ)) → AllByRecursion (Lacks 10) lines → lines_in (text_of lines) ≡ lines
text_read [] h = refl
text_read (line ∷ rest) h = ap lines_in (append_assoc line (10 ∷ []) (text_of rest)) ∙ line_read line (text_of rest) h.0 ∙ ap (λ ls. line ∷ ls) (text_read rest h.1)

pub before_read : (c : ℕ) (xs ys : List ℕ) → Lacks c xs → before c (xs ++ c ∷ ys) ≡ xs
before_read c [] ys h = cond-true (c == c) _ _ (eq-eqb c c refl)
before_read c (b ∷ bs) ys h = cond-false (b == c) _ _ (ne_eqb b c h.0) ∙ ap (λ l. b ∷ l) (before_read c bs ys h.1)

pub after_read : (c : ℕ) (xs ys : List ℕ) → Lacks c xs → after c (xs ++ c ∷ ys) ≡ ys
after_read c [] ys h = cond-true (c == c) _ _ (eq-eqb c c refl)
after_read c (b ∷ bs) ys h = cond-false (b == c) _ _ (ne_eqb b c h.0) ∙ after_read c bs ys h.1

pub lacks_append : (c : ℕ) (xs ys : List ℕ) → Lacks c xs → Lacks c ys → Lacks c (xs ++ ys)
lacks_append c [] ys h k = k
lacks_append c (x ∷ xs) ys h k = (h.0, lacks_append c xs ys h.1 k)

-- decimal numbers
own : IsNumeralModel (AllByRecursion (IsInRange 48 57)) (digits_value 10)
own = numerals_by_value _ (record { empty = tt; parts = λ c cs h. (h.0, h.1); more = λ c cs h k. (h, k) })

digits_lack : (c : ℕ) → c < 48 → (ds : List ℕ) → AllByRecursion (IsInRange 48 57) ds → Lacks c ds
digits_lack c small [] h = tt
digits_lack c small (d ∷ ds) h = (λ e. omega (arith, h.0, e), digits_lack c small ds h.1)

pub decimal_lacks : (c n : ℕ) → c < 48 → n < 2 ^ 64 → Lacks c (decimal n)
decimal_lacks c n small fits = digits_lack c small (decimal n) (digits_decimal own n fits)

pub decimal_read : (n : ℕ) → n < 2 ^ 64 → digits_value 10 (decimal n) ≡ n
decimal_read n fits = digits_value-decimal own n fits

-- no line holds a line feed
onto_lacks : (b : ℕ) (lines : List (List ℕ)) → b ≢ 10 → AllByRecursion (Lacks 10) lines → AllByRecursion (Lacks 10) (onto_line b lines)
onto_lacks b [] other h = ((other, tt), tt)
onto_lacks b (line ∷ rest) other h = ((other, h.0), h.1)

step_lacks : (t : Bool) (b : ℕ) (lines : List (List ℕ)) → (t ≡ false → b ≢ 10) → AllByRecursion (Lacks 10) lines → AllByRecursion (Lacks 10) (cond t ([] ∷ lines) (onto_line b lines))
step_lacks true b lines other h = (tt, h)
step_lacks false b lines other h = onto_lacks b lines (other refl) h

pub lines_lack : (text : List ℕ) → AllByRecursion (Lacks 10) (lines_in text)
lines_lack [] = tt
lines_lack (b ∷ bs) = step_lacks (b == 10) b (lines_in bs) (eqb-false b 10) (lines_lack bs)

lack_more : (lines : List (List ℕ)) (line : List ℕ) → AllByRecursion (Lacks 10) lines → Lacks 10 line → AllByRecursion (Lacks 10) (lines ++ line ∷ [])
lack_more [] line h k = (k, tt)
lack_more (l ∷ ls) line h k = (h.0, lack_more ls line h.1 k)

-- one more whole line
pub lines_more : (text line : List ℕ) (count : ℕ) → HasWholeLines text count → Lacks 10 line → lines_in (text ++ (line ++ 10 ∷ [])) ≡ lines_in text ++ line ∷ []
lines_more text line count h k =
    let lines : List (List ℕ) = lines_in text in
    let both : text ++ ended line ≡ text_of (lines ++ line ∷ []) =
    ap (λ t. t ++ ended line) h.whole ∙ sym (flat_map-append ended lines (line ∷ []) ∙ ap (λ r. text_of lines ++ r) (append-nil (ended line))) in
    ap lines_in both ∙ text_read (lines ++ line ∷ []) (lack_more lines line (lines_lack text) k)

pub whole_more : (text line : List ℕ) (count : ℕ) → HasWholeLines text count → Lacks 10 line → HasWholeLines (text ++ (line ++ 10 ∷ [])) (count + 1)
whole_more text line count h k =
    let lines : List (List ℕ) = lines_in text in
    let more : lines_in (text ++ ended line) ≡ lines ++ line ∷ [] = lines_more text line count h k in
    record {
      whole = ap (λ t. t ++ ended line) h.whole ∙ sym (flat_map-append ended lines (line ∷ []) ∙ ap (λ r. text_of lines ++ r) (append-nil (ended line))) ∙ sym (ap text_of more);
      counted = omega (arith, h.counted, ap length more, length-append lines (line ∷ []));
    }

-- the first line of a text, up to its line feed
pub lines_cut : (text : List ℕ) (end : ℕ) → end < length text → get_or text end 0 ≡ 10 → ((k : ℕ) → k < end → get_or text k 0 ≢ 10)
    → lines_in text ≡ take end text ∷ lines_in (drop (suc end) text)
lines_cut [] end lt at none = absurd (omega (arith, lt))
lines_cut (b ∷ bs) zero lt at none = cond-true (b == 10) _ _ (eq-eqb b 10 at)
lines_cut (b ∷ bs) (suc end) lt at none =
    let rest : lines_in bs ≡ take end bs ∷ lines_in (drop (suc end) bs) = lines_cut bs end (omega (arith, lt)) at (λ k h. none (suc k) (omega (arith, h))) in
    cond-false (b == 10) _ _ (ne_eqb b 10 (none 0 (omega arith))) ∙ ap (onto_line b) rest

-- a text without a line feed is one line
pub lines_one : (text : List ℕ) → 0 < length text → ((k : ℕ) → k < length text → get_or text k 0 ≢ 10) → lines_in text ≡ text ∷ []
lines_one [] some none = absurd (omega (arith, some))
lines_one (b ∷ []) some none = cond-false (b == 10) _ _ (ne_eqb b 10 (none 0 (omega arith)))
lines_one (b ∷ c ∷ bs) some none =
    cond-false (b == 10) _ _ (ne_eqb b 10 (none 0 (omega arith))) ∙ ap (onto_line b) (lines_one (c ∷ bs) (omega arith) (λ k h. none (suc k) (omega (arith, h))))

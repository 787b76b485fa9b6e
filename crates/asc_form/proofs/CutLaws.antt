-- A text is gone through byte by byte, up to the place at which its first command ends.
use Rattle.std.proofs.Common.{◌≡◌, ◌≢◌, ◌<◌, ◌≤◌, ◌+◌, ◌-◌, ◌==◌, ◌++◌, ◌∷◌, [], ℕ, suc, Bool, true, false, not, cond, List, length, take, get_or, Option, Some, None, arith, refl, ap, sym, ◌∙◌, zero, inl, inr}
use Rattle.std.specs.Prelude.{◌&&◌, ◌||◌, count_by, find}
use Rattle.std.specs.List.{range_with_len}
use Rattle.std.proofs.lemmas.Bool.{cases_eq, eq-eqb, ne_eqb, and_left, and_right, or_left, or_right, or_from, eqb-true, false_from_ne_true, both_ways}
use Rattle.std.proofs.lemmas.List.Sums.{count_by_more_no}
use Rattle.std.proofs.lemmas.List.{take_more}
use Rattle.tcl_words.specs.Bytes.{is_blank, is_open, is_close}
use Rattle.asc_form.specs.Commands.{is_pound, first_byte, ends_at}
use Rattle.asc_form.specs.CutSteps.{first_after, IsPoundFrom, IsFirstFrom}

first_alone : (t : Bool) (b : ℕ) → cond (not t) (Some b) None ≡ cond t None (Some b)
first_alone true b = refl
first_alone false b = refl

first_past : (t : Bool) (x b : ℕ) (longer shorter : Option ℕ) → longer ≡ first_after shorter b → cond (not t) (Some x) longer ≡ first_after (cond (not t) (Some x) shorter) b
first_past true x b longer shorter h = h
first_past false x b longer shorter h = refl

first_last : (xs : List ℕ) (b : ℕ) → first_byte (xs ++ b ∷ []) ≡ first_after (first_byte xs) b
first_last [] b = first_alone (is_blank b) b
first_last (x ∷ xs) b = first_past (is_blank x) x b (first_byte (xs ++ b ∷ [])) (first_byte xs) (first_last xs b)

-- the first byte that is no blank, with one byte more
pub next_first : (text : List ℕ) (i : ℕ) → i < length text → first_byte (take (i + 1) text) ≡ first_after (first_byte (take i text)) (get_or text i 0)
next_first text i lt = ap first_byte (take_more text i 0 lt) ∙ first_last (take i text) (get_or text i 0)

one_more : (text : List ℕ) (i : ℕ) → i < length text → find (ends_at text) (range_with_len i (length text - i)) ≡ cond (ends_at text i) (Some i) (find (ends_at text) (range_with_len (i + 1) (length text - (i + 1))))
one_more text i lt =
    let more : length text - i ≡ suc (length text - (i + 1)) = omega (arith, lt) in
    ap (λ (n : ℕ). find (ends_at text) (range_with_len i n)) more

-- it ends at a place, or further on
pub ends_here : (text : List ℕ) (i : ℕ) → i < length text → ends_at text i ≡ true → find (ends_at text) (range_with_len i (length text - i)) ≡ Some i
ends_here text i lt ends = one_more text i lt ∙ ap (λ (b : Bool). cond b (Some i) (find (ends_at text) (range_with_len (i + 1) (length text - (i + 1))))) ends

pub ends_later : (text : List ℕ) (i : ℕ) → i < length text → ends_at text i ≡ false
    → find (ends_at text) (range_with_len i (length text - i)) ≡ find (ends_at text) (range_with_len (i + 1) (length text - (i + 1)))
ends_later text i lt ends = one_more text i lt ∙ ap (λ (b : Bool). cond b (Some i) (find (ends_at text) (range_with_len (i + 1) (length text - (i + 1))))) ends

pub ends_nowhere : (text : List ℕ) (i : ℕ) → length text ≤ i → find (ends_at text) (range_with_len i (length text - i)) ≡ None
ends_nowhere text i le =
    let none : length text - i ≡ 0 = omega (arith, le) in
    ap (λ (n : ℕ). find (ends_at text) (range_with_len i n)) none

-- the first byte that is no blank stays
first_stays : (text : List ℕ) (start b d : ℕ) → first_byte (take (start + 1) text) ≡ Some b → start + 1 + d < length text → first_byte (take (start + 1 + d) text) ≡ Some b
first_stays text start b zero is lt = ap (λ (n : ℕ). first_byte (take n text)) (let e : start + 1 + 0 ≡ start + 1 = omega arith in e) ∙ is
first_stays text start b (suc d) is lt =
    ap (λ (n : ℕ). first_byte (take n text)) (let e : start + 1 + suc d ≡ (start + 1 + d) + 1 = omega arith in e)
    ∙ next_first text (start + 1 + d) (omega arith)
    ∙ ap (λ (o : Option ℕ). first_after o (get_or text (start + 1 + d) 0)) (first_stays text start b d is (omega arith))

first_from : (text : List ℕ) (start k : ℕ) → start < k → k < length text → first_byte (take start text) ≡ None → is_blank (get_or text start 0) ≡ false → first_byte (take k text) ≡ Some (get_or text start 0)
first_from text start k low high none is =
    ap (λ (n : ℕ). first_byte (take n text)) (let e : k ≡ start + 1 + (k - (start + 1)) = omega arith in e)
    ∙ first_stays text start (get_or text start 0) (k - (start + 1))
    (next_first text start (omega arith) ∙ ap (λ (o : Option ℕ). first_after o (get_or text start 0)) none ∙ ap (λ (t : Bool). cond t None (Some (get_or text start 0))) is)
    (omega arith)

pub pound_from : (text : List ℕ) (start : ℕ) → first_byte (take start text) ≡ None → get_or text start 0 ≡ 35 → IsPoundFrom text start
pound_from text start none is = record {
  byte = is;
  later = λ k low high. ap is_pound (first_from text start k low high none (ap is_blank is)) ∙ ap (λ (b : ℕ). b == 35) is;
}

other_first : (text : List ℕ) (start k : ℕ) → first_byte (take start text) ≡ None → is_blank (get_or text start 0) ≡ false → (get_or text start 0 == 35) ≡ false → start ≤ k → k < length text → is_pound (first_byte (take k text)) ≡ false
other_first text start k none is other low high = elim (cases_eq start k) [
  | inl same ↦ ap (λ (n : ℕ). is_pound (first_byte (take n text))) (sym same) ∙ ap is_pound none
  | inr apart ↦ ap is_pound (first_from text start k (omega (arith, low, apart)) high none is) ∙ other
]

pub other_from : (text : List ℕ) (start : ℕ) → count_by is_open (take start text) ≡ 0 → count_by is_close (take start text) ≡ 0 → first_byte (take start text) ≡ None → is_blank (get_or text start 0) ≡ false → (get_or text start 0 == 35) ≡ false → IsFirstFrom text start
other_from text start o c none is other = record { opened = o; closed = c; later = λ k low high. other_first text start k none is other low high }

-- a line feed ends a command, or does not, by what stands before it
pub feed_ends : (text : List ℕ) (i opened closed : ℕ) → get_or text i 0 ≡ 10 → opened ≡ count_by is_open (take i text) → closed ≡ count_by is_close (take i text) → opened ≤ closed → ends_at text i ≡ true
feed_ends text i opened closed is o c le =
    ap (λ (b : ℕ). b == 10 && (is_pound (first_byte (take i text)) || count_by is_open (take i text) - count_by is_close (take i text) == 0)) is
    ∙ or_right (is_pound (first_byte (take i text))) (count_by is_open (take i text) - count_by is_close (take i text) == 0) (eq-eqb (count_by is_open (take i text) - count_by is_close (take i text)) 0 (omega arith))

pub feed_stays : (text : List ℕ) (i opened closed : ℕ) → opened ≡ count_by is_open (take i text) → closed ≡ count_by is_close (take i text) → is_pound (first_byte (take i text)) ≡ false → closed < opened → ends_at text i ≡ false
feed_stays text i opened closed o c plain lt =
    and_right (get_or text i 0 == 10) (is_pound (first_byte (take i text)) || count_by is_open (take i text) - count_by is_close (take i text) == 0)
    (or_from (is_pound (first_byte (take i text))) (count_by is_open (take i text) - count_by is_close (take i text) == 0) plain (ne_eqb (count_by is_open (take i text) - count_by is_close (take i text)) 0 (λ e. omega arith)))

pub pound_ends : (text : List ℕ) (i : ℕ) → get_or text i 0 ≡ 10 → is_pound (first_byte (take i text)) ≡ true → ends_at text i ≡ true
pound_ends text i is pound =
    ap (λ (b : ℕ). b == 10 && (is_pound (first_byte (take i text)) || count_by is_open (take i text) - count_by is_close (take i text) == 0)) is
    ∙ or_left (is_pound (first_byte (take i text))) (count_by is_open (take i text) - count_by is_close (take i text) == 0) pound

pub no_feed : (text : List ℕ) (i : ℕ) → get_or text i 0 ≢ 10 → ends_at text i ≡ false
no_feed text i other = and_left (get_or text i 0 == 10) (is_pound (first_byte (take i text)) || count_by is_open (take i text) - count_by is_close (take i text) == 0) (ne_eqb (get_or text i 0) 10 other)

-- a line feed behind a `#`
pub pound_feed : (text : List ℕ) (start i : ℕ) → IsPoundFrom text start → start ≤ i → i < length text → get_or text i 0 ≡ 10 → ends_at text i ≡ true
pound_feed text start i from low lt is = elim (cases_eq start i) [
  | inl same ↦ let clash : 35 ≡ 10 = sym from.byte ∙ ap (λ (m : ℕ). get_or text m 0) same ∙ is in absurd (omega (arith, clash))
  | inr apart ↦ pound_ends text i is (from.later i (omega (arith, low, apart)) lt)
]

-- a blank is no brace
blank_no_open : (b : ℕ) → is_blank b ≡ true → is_open b ≡ false
blank_no_open b is = false_from_ne_true (is_open b) (λ e. both_ways (is_blank b) (ap is_blank (eqb-true b 123 e)) is)

blank_no_close : (b : ℕ) → is_blank b ≡ true → is_close b ≡ false
blank_no_close b is = false_from_ne_true (is_close b) (λ e. both_ways (is_blank b) (ap is_blank (eqb-true b 125 e)) is)

pub blank_more : (text : List ℕ) (i : ℕ) → i < length text → is_blank (get_or text i 0) ≡ true → count_by is_open (take i text) ≡ 0 → count_by is_close (take i text) ≡ 0 → first_byte (take i text) ≡ None
    → (count_by is_open (take (i + 1) text) ≡ 0) × (count_by is_close (take (i + 1) text) ≡ 0) × (first_byte (take (i + 1) text) ≡ None)
blank_more text i lt is o c none = (
  count_by_more_no is_open text i 0 lt (blank_no_open (get_or text i 0) is) ∙ o,
  count_by_more_no is_close text i 0 lt (blank_no_close (get_or text i 0) is) ∙ c,
  next_first text i lt ∙ ap (λ (f : Option ℕ). first_after f (get_or text i 0)) none ∙ ap (λ (t : Bool). cond t None (Some (get_or text i 0))) is,
)

-- one more at most
pub at_most : (more : Bool) (n m r : ℕ) → r ≡ n + cond more 1 0 → n ≤ m → r ≤ m + 1
at_most true n m r is le = omega (arith, is, le)
at_most false n m r is le = omega (arith, is, le)

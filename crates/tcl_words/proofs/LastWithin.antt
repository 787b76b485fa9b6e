-- The last token of a word is a token.
use Rattle.std.proofs.Common.{◌≡◌, ℕ, zero, suc, ◌+◌, ◌-◌, ◌<◌, ◌≤◌, List, [], ◌∷◌, get_or, length, cond, Bool, true, false, arith, Some, None, refl, ap, sym, ◌∙◌, take_all}
use Rattle.std.specs.Prelude.{All, count_by, filter_map, not, ◌==◌}
use Rattle.std.specs.List.{prefix_len, cons_option, range_with_len}
use Rattle.std.proofs.lemmas.Bool.{eq-eqb, eqb-true, eqb-false}
use Rattle.std.proofs.lemmas.List.Sums.{prefix_len_passes, prefix_len_stops, prefix_len-le-length}
use Rattle.std.proofs.lemmas.List.FromFn.{length-range_with_len, get_or-range_with_len}
use Rattle.tcl_words.specs.TopWords.{opens, closes, level, IsBalanced, word_last, word_at, top_words, IsWordOf}
use Rattle.tcl_words.specs.declared.token.Token.{Token}
use Rattle.tcl_words.specs.declared.token.Word.{Word}

all_closed : (ts : List Token) → IsBalanced ts → (level ts (length ts) == 0) ≡ true
all_closed ts balanced = eq-eqb (level ts (length ts)) 0 (ap (λ (xs : List Token). count_by opens xs - count_by closes xs) (take_all (length ts) ts (omega arith)) ∙ omega (arith, balanced.1))

clash : (b : Bool) → b ≡ true → b ≡ false → ⊥
clash b p q = cc

by_head : (q : ℕ → Bool) (a n e : ℕ) (b : Bool) → q a ≡ b → a ≤ e → (q a ≡ true → (a + 1) + prefix_len q (range_with_len (a + 1) n) ≤ e) → a + cond (q a) (1 + prefix_len q (range_with_len (a + 1) n)) 0 ≤ e
by_head q a n e true is le later = omega (arith, ap (λ b. cond b (1 + prefix_len q (range_with_len (a + 1) n)) 0) is, later is)
by_head q a n e false is le later = omega (arith, ap (λ b. cond b (1 + prefix_len q (range_with_len (a + 1) n)) 0) is)

-- a test that fails at the last place of a range stops there at the latest
stops_by : (q : ℕ → Bool) (a n e : ℕ) → a + n ≡ e → q e ≡ false → a + prefix_len q (range_with_len a (suc n)) ≤ e
stops_by q a zero e is fails = by_head q a zero e (q a) refl (omega arith) (λ on. absurd (clash (q a) on (ap q (let h : a ≡ e = omega arith in h) ∙ fails)))
stops_by q a (suc n) e is fails = by_head q a (suc n) e (q a) refl (omega arith) (λ on. stops_by q (a + 1) n e (omega arith) fails)

pub last_within : (ts : List Token) (i : ℕ) → IsBalanced ts → i < length ts → word_last ts i < length ts
last_within ts i balanced within =
    let e : ℕ = length ts - 1 in
    let stop : i + prefix_len (λ j. not (level ts (j + 1) == 0)) (range_with_len i (suc (length ts - 1 - i))) ≤ length ts - 1 =
    stops_by (λ j. not (level ts (j + 1) == 0)) i (length ts - 1 - i) (length ts - 1) (omega arith) (ap not (ap (λ (n : ℕ). level ts n == 0) (let h : (length ts - 1) + 1 ≡ length ts = omega arith in h) ∙ all_closed ts balanced)) in
    omega (arith, stop, ap (λ (n : ℕ). i + prefix_len (λ j. not (level ts (j + 1) == 0)) (range_with_len i n)) (let h : suc (length ts - 1 - i) ≡ length ts - i = omega arith in h))

q_passes : (q : ℕ → Bool) (a n k : ℕ) → a ≤ k → k < a + prefix_len q (range_with_len a n) → q k ≡ true
q_passes q a n k low high =
    let within : k - a < n = omega (arith, prefix_len-le-length q (range_with_len a n), length-range_with_len a n) in
    ap q (let e : k ≡ a + (k - a) = omega arith in e) ∙ ap q (sym (get_or-range_with_len a n (k - a) 0 within)) ∙ prefix_len_passes q (range_with_len a n) (k - a) 0 (omega arith)

q_stops : (q : ℕ → Bool) (a n : ℕ) → prefix_len q (range_with_len a n) < n → q (a + prefix_len q (range_with_len a n)) ≡ false
q_stops q a n within = ap q (sym (get_or-range_with_len a n (prefix_len q (range_with_len a n)) 0 within)) ∙ prefix_len_stops q (range_with_len a n) 0 (omega (arith, length-range_with_len a n))

not_true : (b : Bool) → not b ≡ true → b ≡ false
not_true true e = cc
not_true false e = refl

not_false : (b : Bool) → not b ≡ false → b ≡ true
not_false true e = refl
not_false false e = cc

pub is_word : (ts : List Token) (i : ℕ) → IsBalanced ts → i < length ts → (level ts i == 0) ≡ true → IsWordOf ts (record { first = i; last = word_last ts i })
is_word ts i balanced within out = record {
  ordered = omega arith;
  within = last_within ts i balanced within;
  outside = eqb-true (level ts i) 0 out;
  open_till = λ j low high. eqb-false (level ts (j + 1)) 0 (not_true (level ts (j + 1) == 0) (q_passes (λ j. not (level ts (j + 1) == 0)) i (length ts - i) j low high));
  ends = eqb-true (level ts (word_last ts i + 1)) 0 (not_false (level ts (word_last ts i + 1) == 0) (q_stops (λ j. not (level ts (j + 1) == 0)) i (length ts - i) (omega (arith, last_within ts i balanced within))));
}

abbrev AreWordsOf : List Token → List Word → Type 0
AreWordsOf tokens [] = Unit {0}
AreWordsOf tokens (w ∷ ws) = IsWordOf tokens w × AreWordsOf tokens ws

words_cons : (ts : List Token) (i : ℕ) (b : Bool) (ws : List Word) → (level ts i == 0) ≡ b → ((level ts i == 0) ≡ true → IsWordOf ts (record { first = i; last = word_last ts i })) → AreWordsOf ts ws → AreWordsOf ts (cons_option (cond b (Some (record { first = i; last = word_last ts i })) None) ws)
words_cons ts i true ws is word rest = (word is, rest)
words_cons ts i false ws is word rest = rest

words_range : (ts : List Token) (a n : ℕ) → IsBalanced ts → a + n ≤ length ts → AreWordsOf ts (filter_map (word_at ts) (range_with_len a n))
words_range ts a zero balanced within = tt
words_range ts a (suc n) balanced within = words_cons ts a (level ts a == 0) (filter_map (word_at ts) (range_with_len (a + 1) n)) refl (is_word ts a balanced (omega arith)) (words_range ts (a + 1) n balanced (omega arith))

-- a word from the list
words_index : (ts : List Token) (ws : List Word) (i : ℕ) (d : Word) → AreWordsOf ts ws → i < length ws → IsWordOf ts (get_or ws i d)
words_index ts [] i d all within = absurd (omega arith)
words_index ts (w ∷ ws) zero d all within = all.0
words_index ts (w ∷ ws) (suc i) d all within = words_index ts ws i d all.1 (omega arith)

pub top_within : (ts : List Token) → IsBalanced ts → All (IsWordOf ts) (top_words ts)
top_within ts balanced = λ i d within. words_index ts (top_words ts) i d (words_range ts 0 (length ts) balanced (omega arith)) within

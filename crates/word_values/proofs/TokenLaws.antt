-- Tokens and words of a line.
use Rattle.std.proofs.Common.{◌≡◌, ◌<◌, ◌≤◌, ◌+◌, ◌-◌, ◌∷◌, [], ℕ, zero, suc, List, Option, Some, None, length, get_or, filter_map, arith, ap, inl, inr}
use Rattle.std.specs.List.{range_with_len, cons_option}
use Rattle.std.proofs.lemmas.Bool.{cases_lt}
use Rattle.std.proofs.lemmas.List.FromFn.{length-range_with_len}
use Rattle.tcl_words.specs.declared.token.Token.{Token}
use Rattle.tcl_words.specs.declared.token.Word.{Word}
use Rattle.tcl_words.specs.TopWords.{Lies, AllLie, StartsFrom, AreTokensIn, top_words, word_at}
use Rattle.tcl_words.proofs.Order.{in_order}

pub lies_at : (n : ℕ) (ts : List Token) (i : ℕ) (d : Token) → AllLie n ts → i < length ts → Lies n (get_or ts i d)
lies_at n [] i d h lt = absurd (omega (arith, lt))
lies_at n (t ∷ ts) zero d h lt = h.0
lies_at n (t ∷ ts) (suc i) d h lt = lies_at n ts i d h.1 (omega (arith, lt))

-- the last token ends behind the start of each, and in the line
pub last_behind : (n : ℕ) (ts : List Token) (i : ℕ) (d : Token) → AreTokensIn n ts → i < length ts → (get_or ts i d).start ≤ (get_or ts (length ts - 1) d).end
last_behind n ts i d h lt =
    let last = lies_at n ts (length ts - 1) d h.lie (omega (arith, lt)) in
    elim (cases_lt i (length ts - 1)) [
      | inl before ↦ let order = in_order 0 ts i (length ts - 1) d h.starts before (omega (arith, lt)) in omega (arith, order, last.0)
      | inr at ↦ let same : length ts - 1 ≡ i = omega (arith, lt, at) in
          let start : (get_or ts (length ts - 1) d).start ≡ (get_or ts i d).start = ap (λ (k : ℕ). (get_or ts k d).start) same in omega (arith, start, last.0)
    ]

pub last_within : (n : ℕ) (ts : List Token) (d : Token) → AreTokensIn n ts → 0 < length ts → (get_or ts (length ts - 1) d).end ≤ n
last_within n ts d h lt = (lies_at n ts (length ts - 1) d h.lie (omega (arith, lt))).1

few_from : (n a : ℕ) (ts : List Token) → AllLie n ts → StartsFrom a ts → a ≤ n + 1 → length ts + a ≤ n + 1
few_from n a [] lie starts h = omega (arith, h)
few_from n a (t ∷ ts) lie starts h =
    let rest = few_from n (t.start + 1) ts lie.1 starts.1 (omega (arith, lie.0.0, lie.0.1)) in omega (arith, rest, starts.0)

one_more : (o : Option Word) (rest : List Word) → length (cons_option o rest) ≤ length rest + 1
one_more None rest = omega arith
one_more (Some w) rest = omega arith

few_mapped : (f : ℕ → Option Word) (xs : List ℕ) → length (filter_map f xs) ≤ length xs
few_mapped f [] = omega arith
few_mapped f (x ∷ xs) = let one = one_more (f x) (filter_map f xs) in let rest = few_mapped f xs in omega (arith, one, rest)

-- a line has at most one word more than bytes
pub few_words : (n : ℕ) (ts : List Token) → AreTokensIn n ts → length (top_words ts) ≤ n + 1
few_words n ts h =
    let words = few_mapped (word_at ts) (range_with_len 0 (length ts)) in
    let tokens = few_from n 0 ts h.lie h.starts (omega arith) in
    omega (arith, words, tokens, length-range_with_len 0 (length ts))

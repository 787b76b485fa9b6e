-- Tokens and words of a line.
use Rattle.std.proofs.Common.{◌≤◌, ◌+◌, ◌∷◌, [], ℕ, List, Option, Some, None, length, filter_map, arith}
use Rattle.std.specs.List.{range_with_len, cons_option}
use Rattle.std.proofs.lemmas.List.FromFn.{length-range_with_len}
use Rattle.tcl_words.specs.declared.token.Token.{Token}
use Rattle.tcl_words.specs.declared.token.Word.{Word}
use Rattle.tcl_words.specs.TopWords.{AllLie, StartsFrom, AreTokensIn, top_words, word_at}

few_from : (n a : ℕ) (ts : List Token) → AllLie n ts → StartsFrom a ts → a ≤ n + 1 → length ts + a ≤ n + 1
few_from n a [] lie starts h = omega (arith, h)
few_from n a (t ∷ ts) lie starts h =
    let rest = few_from n (t.start + 1) ts lie.1 starts.1 (omega (arith, lie.0.0, lie.0.1)) in omega (arith, rest, starts.0)

one_more : (o : Option Word) (rest : List Word) → length (cons_option o rest) ≤ length rest + 1
one_more None rest = omega arith
one_more (Some w) rest = omega arith

few_mapped : (f : ℕ → Option Word) (xs : List ℕ) → length (filter_map f xs) ≤ length xs
few_mapped f [] = omega arith
few_mapped f (x ∷ xs) = let one = one_more (f x) (filter_map f xs) in let rest = few_mapped f xs in omega (arith, one, rest)

-- a line has at most one word more than bytes
pub few_words : (n : ℕ) (ts : List Token) → AreTokensIn n ts → length (top_words ts) ≤ n + 1
few_words n ts h =
    let words = few_mapped (word_at ts) (range_with_len 0 (length ts)) in
    let tokens = few_from n 0 ts h.lie h.starts (omega arith) in
    omega (arith, words, tokens, length-range_with_len 0 (length ts))

-- The pairs of words.
use Rattle.std.proofs.Common.{◌≡◌, ◌≢◌, ◌<◌, ◌≤◌, ◌+◌, ◌++◌, ◌∷◌, [], ◌∙◌, ℕ, List, length, get_or, drop, Option, Some, None, append_assoc, length-drop, arith, ap, sym, refl}
use Rattle.std.specs.Option.{option_map}
use Rattle.std.proofs.lemmas.List.{drop_more}
use Rattle.tcl_words.specs.TopWords.{atom_of}
use Rattle.tcl_words.specs.declared.token.Token.{Token}
use Rattle.tcl_words.specs.declared.token.Word.{Word}
use Rattle.put_form.specs.Pairs.{Pair, pair, pairs_of}

two_more : (words : List Word) (at : ℕ) (d : Word) → at + 1 < length words → drop at words ≡ get_or words at d ∷ get_or words (at + 1) d ∷ drop (at + 2) words
two_more words at d lt =
    let sum : (at + 1) + 1 ≡ at + 2 = omega arith in
    drop_more words at d (omega (arith, lt)) ∙ ap (λ (xs : List Word). get_or words at d ∷ xs) (drop_more words (at + 1) d lt)
    ∙ ap (λ n. get_or words at d ∷ get_or words (at + 1) d ∷ drop n words) sum

regrouped : (done : List Pair) (p : Pair) (o : Option (List Pair)) → option_map (λ rest. (done ++ p ∷ []) ++ rest) o ≡ option_map (λ rest. done ++ rest) (option_map (λ pairs. p ∷ pairs) o)
regrouped done p None = refl
regrouped done p (Some rest) = ap (λ (xs : List Pair). Some xs) (append_assoc done (p ∷ []) rest)

pub pairs_more : (text : List ℕ) (tokens : List Token) (words : List Word) (place at : ℕ) (d : Word) (done : List Pair) → at + 1 < length words
    → option_map (λ rest. (done ++ pair (atom_of text tokens (get_or words at d)) (get_or words (at + 1) d) (place + at + 1) ∷ []) ++ rest) (pairs_of text tokens (place + (at + 2)) (drop (at + 2) words))
    ≡ option_map (λ rest. done ++ rest) (pairs_of text tokens (place + at) (drop at words))
pairs_more text tokens words place at d done lt =
    let p : Pair = pair (atom_of text tokens (get_or words at d)) (get_or words (at + 1) d) (place + at + 1) in
    let sum : place + (at + 2) ≡ (place + at) + 2 = omega arith in
    regrouped done p (pairs_of text tokens (place + (at + 2)) (drop (at + 2) words))
    ∙ ap (λ n. option_map (λ (rest : List Pair). done ++ rest) (option_map (λ (pairs : List Pair). p ∷ pairs) (pairs_of text tokens n (drop (at + 2) words)))) sum
    ∙ sym (ap (λ (ws : List Word). option_map (λ (rest : List Pair). done ++ rest) (pairs_of text tokens (place + at) ws)) (two_more words at d lt))

odd : (text : List ℕ) (tokens : List Token) (place : ℕ) (words : List Word) (done : List Pair) → length words ≡ 1 → option_map (λ rest. done ++ rest) (pairs_of text tokens place words) ≡ None
odd text tokens place [] done h = absurd (omega (arith, h))
odd text tokens place (w ∷ []) done h = refl
odd text tokens place (w ∷ v ∷ rest) done h = absurd (omega (arith, h))

-- a key is left
pub pairs_odd : (text : List ℕ) (tokens : List Token) (words : List Word) (place at : ℕ) (done : List Pair) → at ≤ length words → length words ≤ at + 1 → at ≢ length words
    → None ≡ option_map (λ rest. done ++ rest) (pairs_of text tokens (place + at) (drop at words))
pairs_odd text tokens words place at done within most other =
    sym (odd text tokens (place + at) (drop at words) done (omega (arith, length-drop {A = Word} at words, within, most, other)))

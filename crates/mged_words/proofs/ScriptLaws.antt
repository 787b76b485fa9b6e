-- Where a line ends.
use Rattle.std.proofs.Common.{◌≡◌, ◌≢◌, ◌<◌, ◌≤◌, ◌==◌, ℕ, Bool, true, false, cond, nat_lt, List, Some, None, position, get_or, length, take, drop, [], arith, ap, sym, ◌∙◌}
use Rattle.std.proofs.Math.Seq.{take-length}
use Rattle.std.specs.List.{position_or_len}
use Rattle.std.proofs.lemmas.Bool.{eqb-false, ltb-false}
use Rattle.std.proofs.lemmas.List.Sums.{fails_before_first}

none_of : (t : Bool) (i : ℕ) → cond t (Some i) None ≡ None → t ≡ false
none_of true i h = absurd cc
none_of false i h = λ j. false

pub no_line_feed : (text : List ℕ) → position (λ (b : ℕ). b == 10) text ≡ None → (k : ℕ) → k < length text → get_or text k 0 ≢ 10
no_line_feed text h k lt =
    let p : ℕ → Bool = λ (b : ℕ). b == 10 in
    let past : length text ≤ position_or_len p text = ltb-false _ _ (none_of (nat_lt (position_or_len p text) (length text)) (position_or_len p text) h) in
    eqb-false _ _ (fails_before_first p text k 0 (omega (arith, past, lt)))

pub take_all : (n : ℕ) (xs : List ℕ) → length xs ≡ n → take n xs ≡ xs
take_all n xs e = ap (λ k. take k xs) (sym e) ∙ take-length xs

pub take_none : (xs : List ℕ) (n m : ℕ) → n ≡ 0 → take n (drop m xs) ≡ []
take_none xs n m e = ap (λ k. take k (drop m xs)) e

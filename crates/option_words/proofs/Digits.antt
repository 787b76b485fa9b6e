-- Digits and their value.
use Rattle.std.proofs.Common.{◌≡◌, ◌^◌, ◌<◌, ◌≤◌, ℕ, zero, suc, List, [], ◌∷◌, length, true, arith}
use Rattle.std.specs.Prelude.{nat_le, nat_lt, ◌&&◌}
use Rattle.std.specs.List.{list_all}
use Rattle.std.specs.Char.{is_ascii_digit}
use Rattle.std.proofs.lemmas.Bool.{and_parts, leb-true}
use Rattle.std.proofs.lemmas.Bool.Decides.{nat_tests}
use Rattle.std.proofs.Math.Nat.{pow-le-pow_right}
use Rattle.option_words.specs.Numbers.{AreDigits, is_number}

pub ten_to : (i : ℕ) → i < 9 → 10 ^ i ≤ 100000000
ten_to i below = pow-le-pow_right {n = 10} (omega arith) {i = i} {j = 8} (omega arith)

pub ten_to_few : (i : ℕ) → i ≤ 9 → 10 ^ i ≤ 10 ^ 9
ten_to_few i few = pow-le-pow_right {n = 10} (omega arith) {i = i} {j = 9} few

pub digit_most : (b : ℕ) → is_ascii_digit b ≡ true → b ≤ 57
digit_most b is = grind (arith, nat_tests)

all_digits : (text : List ℕ) → list_all is_ascii_digit text ≡ true → AreDigits text
all_digits [] all k lt = absurd (omega (arith, lt))
all_digits (d ∷ ds) all zero lt = (and_parts (is_ascii_digit d) (list_all is_ascii_digit ds) all).0
all_digits (d ∷ ds) all (suc k) lt = all_digits ds (and_parts (is_ascii_digit d) (list_all is_ascii_digit ds) all).1 k (omega (arith, lt))

pub record Fits (text : List ℕ) : Type 0 where
  pub few : length text ≤ 9
  pub digits : AreDigits text

pub number_fits : (text : List ℕ) → is_number text ≡ true → Fits text
number_fits text is =
    let rest = (and_parts (nat_lt 0 (length text)) (nat_le (length text) 9 && list_all is_ascii_digit text) is).1 in
    let both = and_parts (nat_le (length text) 9) (list_all is_ascii_digit text) rest in
    record { few = leb-true (length text) 9 both.0; digits = all_digits text both.1 }

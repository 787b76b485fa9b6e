-- How long the parts of a position's text are.
use Rattle.std.proofs.Common.{◌≡◌, ◌<◌, ◌≤◌, ◌+◌, ◌^◌, ◌++◌, ℕ, ℤ, pos, negsuc, List, length, length-append, ap, arith, Bool, true, false, suc, FitsSigned, to_z}
use Rattle.std.proofs.lemmas.Fmt.{length-decimal-le_wide}
use Rattle.std.specs.Fmt.{decimal, signed_decimal}
use Rattle.std.proofs.lemmas.Int.{ints}
use Rattle.surd_order.specs.Text.{sign_text}
use mir.Syntax.{w64, w128}

pub length_whole : (z : ℤ) → FitsSigned w128 z → length (signed_decimal z) ≤ 40
length_whole (pos n) fits = let short : length (decimal n) ≤ 39 = length-decimal-le_wide 39 n (omega arith) (omega (arith, fits.sfits)) (omega (arith, fits.sfits)) in omega arith
length_whole (negsuc n) fits =
    let short : length (decimal (suc n)) ≤ 39 = length-decimal-le_wide 39 (suc n) (omega arith) (omega (arith, fits.sfits)) (omega (arith, fits.sfits)) in omega arith

-- whatever a signed variable of 128 or of 64 bits holds
pub length_read : (n : ℕ) → length (signed_decimal (to_z w128 n)) ≤ 40
length_read n = length_whole (to_z w128 n) (omega (arith, ints))

length_short : (z : ℤ) → FitsSigned w64 z → length (signed_decimal z) ≤ 20
length_short (pos n) fits = let short : length (decimal n) ≤ 19 = length-decimal-le_wide 19 n (omega arith) (omega (arith, fits.sfits)) (omega (arith, fits.sfits)) in omega arith
length_short (negsuc n) fits =
    let short : length (decimal (suc n)) ≤ 19 = length-decimal-le_wide 19 (suc n) (omega arith) (omega (arith, fits.sfits)) (omega (arith, fits.sfits)) in omega arith

pub length_read_64 : (n : ℕ) → length (signed_decimal (to_z w64 n)) ≤ 20
length_read_64 n = length_short (to_z w64 n) (omega (arith, ints))

pub length_natural : (n : ℕ) → n < 2 ^ 64 → length (decimal n) ≤ 20
length_natural n fits = length-decimal-le_wide 20 n (omega arith) (omega arith) (omega arith)

pub appended : (new old piece : List ℕ) (m k : ℕ) → new ≡ old ++ piece → length old ≤ m → length piece ≤ k → length new ≤ m + k
appended new old piece m k is one two = omega (arith, ap length is, length-append old piece)

pub length_sign : (plus : Bool) → length (sign_text plus) ≤ 1
length_sign true = omega arith
length_sign false = omega arith

-- What fits 128 bits of numbers that fit 64.
use Rattle.std.proofs.Common.{◌<◌, ◌≤◌, ◌*◌, ◌^◌, ℕ, ℤ, ◌-ℤ◌, ◌*ℤ◌, subst, sym, arith, FitsSigned, w64}
use Rattle.std.specs.Int.RustNames.{unsigned_abs}
use Rattle.std.proofs.lemmas.Int.{ints, unsigned_abs-mul, fits_signed_from_abs}
use Rattle.std.proofs.lemmas.Nat.{mul-le}
use mir.Syntax.{w128}

abs_of : (z : ℤ) → FitsSigned w64 z → unsigned_abs z ≤ 9223372036854775808
abs_of z h = omega (arith, ints, h)

gap_of : (a o : ℤ) → FitsSigned w64 a → FitsSigned w64 o → unsigned_abs (a -ℤ o) ≤ 18446744073709551615
gap_of a o f g = omega (arith, ints, f, g)

pub wider : (z : ℤ) → FitsSigned w64 z → FitsSigned w128 z
wider z h = fits_signed_from_abs w128 z (omega (arith, abs_of z h))

pub gap_fits : (a o : ℤ) → FitsSigned w64 a → FitsSigned w64 o → FitsSigned w128 (a -ℤ o)
gap_fits a o f g = fits_signed_from_abs w128 (a -ℤ o) (omega (arith, gap_of a o f g))

pub product_fits : (a o k : ℤ) → FitsSigned w64 a → FitsSigned w64 o → FitsSigned w64 k → FitsSigned w128 ((a -ℤ o) *ℤ k)
product_fits a o k f g h =
    let wide : unsigned_abs (a -ℤ o) * unsigned_abs k ≤ 18446744073709551615 * 9223372036854775808 = mul-le _ _ _ _ (gap_of a o f g) (abs_of k h) in
    fits_signed_from_abs w128 ((a -ℤ o) *ℤ k) (subst (λ (n : ℕ). n < 2 ^ 127) (sym (unsigned_abs-mul (a -ℤ o) k)) (omega (arith, wide)))

-- What dividing both terms of a fraction by their greatest common divisor gives.
use Rattle.std.proofs.Common.{◌≡◌, ◌<◌, ◌≤◌, ◌*◌, ◌/◌, ◌∙◌, ℕ, suc, ℤ, pos, negsuc, neg_ℤ, int_div, ◌*ℤ◌, ◌-ℤ◌, ◌<ℤ◌, ◌≤ℤ◌, refl, ap, subst, arith, inl, inr, FitsSigned, to_z}
use Rattle.std.proofs.lemmas.Int.{ints, fits_signed_from_abs}
use Rattle.std.proofs.lemmas.Nat.Gcd.{le_of_dvd}
use borrow.Author.Differences.{up, down}
use mir.Syntax.{w128}
use Rattle.std.specs.Int.{IsGcd}
use Rattle.std.specs.Int.RustNames.{unsigned_abs}
use Rattle.std.proofs.lemmas.Bool.{cases_lt}
use Rattle.std.proofs.Math.Nat.{div-mul_cancel}
use Rattle.wide_core.proofs.Divisors.{coprime_quotients, divisor_some}
use Rattle.surd_order.specs.declared.position.Pos.TheVariants.{Frac}
use Rattle.surd_order.specs.Spelling.{fraction_of, HaveSameFractions, IsSpelled}
use Rattle.surd_order.proofs.FractionOrder.{fractions_same}
use Rattle.surd_order.proofs.OrderLaws.{fractions_from_same}

-- a divisor of a number over 0 leaves a quotient over 0
quotient_some : (d g : ℕ) → 0 < d → d / g * g ≡ d → 0 < d / g
quotient_some d g some whole =
    elim (cases_lt 0 (d / g)) [
      | inl more ↦ more
      | inr none ↦ absurd (let zero_is : d / g ≡ 0 = omega arith in omega (arith, whole, ap (λ x. x * g) zero_is))
    ]

pub spelled_quotients : (p : ℤ) (d g : ℕ) → 0 < d → 0 < g → IsGcd (unsigned_abs p) d g → IsSpelled (Frac (int_div p (pos g)) (pos (d / g)))
spelled_quotients (pos n) d g some some' h = (let more : 0 < d / g = quotient_some d g some (div-mul_cancel g h.1) in omega (arith, ints), coprime_quotients n d g some' h)
spelled_quotients (negsuc n) d g some some' h = (
  let more : 0 < d / g = quotient_some d g some (div-mul_cancel g h.1) in omega (arith, ints),
  subst (λ (x : ℕ). IsGcd x (d / g) 1) (let e : suc n / g ≡ unsigned_abs (int_div (negsuc n) (pos g)) = omega (arith, ints) in e) (coprime_quotients (suc n) d g some' h),
)

pub same_quotients : (p : ℤ) (d g : ℕ) → 0 < d → 0 < g → IsGcd (unsigned_abs p) d g → HaveSameFractions (Frac (int_div p (pos g)) (pos (d / g))) (Frac p (pos d))
same_quotients (pos n) d g some some' h =
    let n_is : n / g * g ≡ n = div-mul_cancel g h.0 in
    let d_is : d / g * g ≡ d = div-mul_cancel g h.1 in
    let more : 0 < d / g = quotient_some d g some d_is in
    let cross : n / g * d ≡ n * (d / g) = omega (arith, ap (λ x. n / g * x) d_is, ap (λ x. x * (d / g)) n_is) in
    fractions_from_same _ _ (fractions_same (pos (n / g)) (pos (d / g)) (pos n) (pos d) (omega (arith, ints)) (omega (arith, ints)) (omega (arith, ints, cross)))
same_quotients (negsuc n) d g some some' h =
    let n_is : suc n / g * g ≡ suc n = div-mul_cancel g h.0 in
    let d_is : d / g * g ≡ d = div-mul_cancel g h.1 in
    let more : 0 < d / g = quotient_some d g some d_is in
    let cross : suc n / g * d ≡ suc n * (d / g) = omega (arith, ap (λ x. suc n / g * x) d_is, ap (λ x. x * (d / g)) n_is) in
    let sized : down (int_div (negsuc n) (pos g)) ≡ suc n / g = omega (arith, ints) in
    let low : up (int_div (negsuc n) (pos g)) ≡ 0 = omega (arith, ints) in
    let product : int_div (negsuc n) (pos g) *ℤ pos d ≡ negsuc n *ℤ pos (d / g) = omega (arith, ints, cross, ap (λ x. x * d) sized, ap (λ x. x * d) low) in
    fractions_from_same _ _ (fractions_same (int_div (negsuc n) (pos g)) (pos (d / g)) (negsuc n) (pos d) (omega (arith, ints)) (omega (arith, ints)) product)

-- a common divisor is no greater than a denominator
pub divisor_fits : (p q : ℤ) (g : ℕ) → FitsSigned w128 q → pos 0 <ℤ q → IsGcd (unsigned_abs p) (unsigned_abs q) g → FitsSigned w128 (pos g)
divisor_fits p (pos d) g fits some h =
    let small : g ≤ d = le_of_dvd (omega (arith, ints)) h.1 in fits_signed_from_abs w128 (pos g) (omega (arith, small, fits.sfits))
divisor_fits p (negsuc d) g fits some h = absurd (omega (arith, ints))

pub spelled_reduced : (p q g : ℤ) → pos 0 <ℤ q → pos 0 <ℤ g → IsGcd (unsigned_abs p) (unsigned_abs q) (unsigned_abs g) → IsSpelled (Frac (int_div p g) (int_div q g))
spelled_reduced p (pos d) (pos g) some some' h = spelled_quotients p d g (omega (arith, ints)) (omega (arith, ints)) h
spelled_reduced p (negsuc d) g some some' h = absurd (omega (arith, ints))
spelled_reduced p (pos d) (negsuc g) some some' h = absurd (omega (arith, ints))

pub same_reduced : (p q g : ℤ) → pos 0 <ℤ q → pos 0 <ℤ g → IsGcd (unsigned_abs p) (unsigned_abs q) (unsigned_abs g) → HaveSameFractions (Frac (int_div p g) (int_div q g)) (Frac p q)
same_reduced p (pos d) (pos g) some some' h = same_quotients p d g (omega (arith, ints)) (omega (arith, ints)) h
same_reduced p (negsuc d) g some some' h = absurd (omega (arith, ints))
same_reduced p (pos d) (negsuc g) some some' h = absurd (omega (arith, ints))

pub fraction_of-negative : (p q : ℤ) → q <ℤ pos 0 → fraction_of p q ≡ Frac (pos 0 -ℤ p) (pos 0 -ℤ q)
fraction_of-negative p (pos q) low = absurd (omega (arith, ints))
fraction_of-negative p (negsuc q) low =
    let over : neg_ℤ p ≡ pos 0 -ℤ p = omega (arith, ints) in
    let under : pos (suc q) ≡ pos 0 -ℤ negsuc q = omega (arith, ints) in ap (λ x. Frac x (pos (suc q))) over ∙ ap (λ x. Frac (pos 0 -ℤ p) x) under

pub fraction_of-positive : (p q : ℤ) → pos 0 ≤ℤ q → fraction_of p q ≡ Frac p q
fraction_of-positive p (pos q) high = refl
fraction_of-positive p (negsuc q) high = absurd (omega (arith, ints))

pub divisor_read : (p q : ℤ) (g : ℕ) → FitsSigned w128 (pos g) → IsGcd (unsigned_abs p) (unsigned_abs q) g → IsGcd (unsigned_abs p) (unsigned_abs q) (unsigned_abs (to_z w128 g))
divisor_read p q g fits h = subst (λ (x : ℕ). IsGcd (unsigned_abs p) (unsigned_abs q) x) (let e : g ≡ unsigned_abs (to_z w128 g) = omega (arith, ints, fits.sfits) in e) h

pub divisor_positive : (p q : ℤ) (g : ℕ) → FitsSigned w128 (pos g) → pos 0 <ℤ q → IsGcd (unsigned_abs p) (unsigned_abs q) g → pos 0 <ℤ to_z w128 g
divisor_positive p (pos d) g fits some h = let more : 0 < g = divisor_some (unsigned_abs p) d g (omega (arith, ints)) h in omega (arith, ints, fits.sfits)
divisor_positive p (negsuc d) g fits some h = absurd (omega (arith, ints))

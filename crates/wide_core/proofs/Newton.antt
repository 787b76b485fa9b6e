-- Newton's step for the square root.
use Rattle.std.proofs.Common.{◌≡◌, ◌<◌, ◌≤◌, ◌+◌, ◌*◌, ◌-◌, ◌/◌, ◌%◌, ◌^◌, ℕ, ap, sym, subst, arith, pow-add, inl, inr}
use Rattle.std.proofs.lemmas.Nat.{mul-le, leading_length}
use Rattle.std.proofs.lemmas.Bool.{cases_lt}
use Rattle.std.proofs.Math.Pow.{pow_mono}
use Rattle.std.specs.Int.Count.{count_leading_zeros}

above : (n q e r h : ℕ) → n ≡ q * (q + e + 1) + r → r < q + e + 1 → q + e + 1 + q ≤ 2 * h + 1 → n < (h + 1) * (h + 1)
above n q e r h n_is small half =
    let wide : (q + e + 1 + q + 1) * (q + e + 1 + q + 1) ≤ (2 * (h + 1)) * (2 * (h + 1)) = mul-le _ _ _ _ (omega arith) (omega arith) in
    omega (arith, wide)

-- the mean of x and n / x, rounded down, is no less than the root rounded down
pub newton_above : (n x : ℕ) → 0 < x → n / x < x → n < ((x + n / x) / 2 + 1) * ((x + n / x) / 2 + 1)
newton_above n x some less =
    let e : ℕ = x - n / x - 1 in
    let x_is : x ≡ n / x + e + 1 = omega arith in
    let n_is : n ≡ n / x * (n / x + e + 1) + n % x = omega (arith, ap (λ y. n / x * y) x_is) in
    above n (n / x) e (n % x) ((x + n / x) / 2) n_is (omega arith) (omega arith)

pub newton_some : (n x : ℕ) → 0 < n → 0 < x → n / x < x → 0 < (x + n / x) / 2
newton_some n x n_some some less =
    elim (cases_lt 1 x) [
      | inl more ↦ omega arith
      | inr one ↦ absurd (let x_is : x ≡ 1 = omega arith in omega (arith, ap (λ y. n / x * y) x_is))
    ]

-- where the quotient is no less than the divisor, its square is at most n
pub square_at_most : (n x : ℕ) → 0 < x → x ≤ n / x → x * x ≤ n
square_at_most n x some le = omega (arith, mul-le x x (n / x) x le (omega arith))

doubled : (j : ℕ) → 2 ^ (j + j) ≡ 2 ^ j * 2 ^ j
doubled j = pow-add 2 j j

-- a power of two of half as many digits as n, rounded up
pub half_power_above : (n : ℕ) → n < 2 ^ 64 → n < 2 ^ ((65 - count_leading_zeros 64 n) / 2) * 2 ^ ((65 - count_leading_zeros 64 n) / 2)
half_power_above n fits =
    let found = leading_length 64 n fits in
    let j : ℕ = (65 - count_leading_zeros 64 n) / 2 in
    let far : 2 ^ found.0 ≤ 2 ^ (j + j) = pow_mono (omega (arith, found.1)) in
    subst (λ (x : ℕ). n < x) (doubled j) (omega (arith, far, found.2))

-- the same, cut down to 64 bits
pub shifted_above : (n : ℕ) → n < 2 ^ 64 → (let m = 1 * 2 ^ ((65 - count_leading_zeros 64 n) / 2) % 2 ^ 64 in n < m * m)
shifted_above n fits =
    let j : ℕ = (65 - count_leading_zeros 64 n) / 2 in
    let small : 2 ^ j ≤ 2 ^ 32 = pow_mono {i = j} {j = 32} (omega arith) in
    let same : 1 * 2 ^ j % 2 ^ 64 ≡ 2 ^ j = omega (arith, small) in
    subst (λ (x : ℕ). n < x * x) (sym same) (half_power_above n fits)

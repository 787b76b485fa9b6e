-- Fractions in lowest terms.
use Rattle.std.proofs.Common.{◌≡◌, ◌<◌, ◌≤◌, ◌+◌, ◌*◌, ◌-◌, ◌/◌, ◌%◌, ℕ, zero, suc, ap, sym, subst, arith, inl, inr}
use Rattle.std.specs.Int.{IsGcd, ◌∣◌}
use Rattle.std.proofs.lemmas.Nat.{mul-le}
use Rattle.std.proofs.lemmas.Nat.Gcd.{dvd_refl, le_of_dvd}
use Rattle.std.proofs.lemmas.Bool.{cases_lt}
use Rattle.std.proofs.Math.Nat.{one-dvd, dvd-add, dvd-mul_left, dvd-mul_left_of_dvd, mul-dvd-mul_right, div-mul_cancel, eq-zero_of_zero-dvd, eq-one_of_dvd-one}

-- only 1 divides both
abbrev pub IsCoprime : ℕ → ℕ → Type 0
IsCoprime n d = (e : ℕ) → e ∣ n → e ∣ d → e ∣ 1

coprime_rest : (n d : ℕ) → IsCoprime n d → IsCoprime d (n % d)
coprime_rest n d alone = λ e in_d in_rest.
    let whole : n / d * d + n % d ≡ n = omega arith in
    alone e (subst (λ (x : ℕ). e ∣ x) whole (dvd-add e (dvd-mul_left_of_dvd e in_d (n / d)) in_rest)) in_d

-- n / d in lowest terms is m / s: then m and s are n and d times one number
pub lowest_terms : (fuel n d m s : ℕ) → d ≤ fuel → 0 < d → IsCoprime n d → n * s ≡ m * d → (c : ℕ) × (m ≡ n * c) × (s ≡ d * c)
lowest_terms zero n d m s room some alone cross = absurd (omega arith)
lowest_terms (suc fuel) n d m s room some alone cross =
    let whole : n ≡ n / d * d + n % d = omega arith in
    elim (cases_lt 0 (n % d)) [
      | inl more ↦
          let multiple : n * s ≡ (n / d * d + n % d) * s = ap (λ x. x * s) whole in
          let enough : n / d * s ≤ m = elim (cases_lt m (n / d * s)) [
            | inl short ↦ absurd (omega (arith, multiple, cross, mul-le (m + 1) d (n / d * s) d (omega arith) (omega arith)))
            | inr good ↦ good
          ] in
          let below : ℕ = m - n / d * s in
          let m_is : m ≡ below + n / d * s = omega arith in
          let rest : d * below ≡ s * (n % d) = omega (arith, multiple, cross, ap (λ x. x * d) m_is) in
          let found = lowest_terms fuel d (n % d) s below (omega arith) more (coprime_rest n d alone) rest in
          (found.0, omega (arith, m_is, found.2, ap (λ x. n / d * x) found.1, ap (λ x. x * found.0) whole), found.1)
      | inr none ↦
          let gone : n % d ≡ 0 = omega arith in
          let even : n ≡ n / d * d = omega arith in
          let one : d ≡ 1 = eq-one_of_dvd-one (alone d (subst (λ (x : ℕ). d ∣ x) (sym even) (dvd-mul_left d (n / d))) (dvd_refl d)) in
          (s, omega (arith, cross, ap (λ x. m * x) one), omega (arith, ap (λ x. x * s) one))
    ]

-- a fraction has one spelling in lowest terms
pub same_lowest_terms : (n d m s : ℕ) → 0 < d → 0 < s → IsCoprime n d → IsCoprime m s → n * s ≡ m * d → (n ≡ m) × (d ≡ s)
same_lowest_terms n d m s some some' alone alone' cross =
    let found = lowest_terms d n d m s (omega arith) some alone cross in
    let in_m : found.0 ∣ m = subst (λ (x : ℕ). found.0 ∣ x) (sym found.1) (dvd-mul_left found.0 n) in
    let in_s : found.0 ∣ s = subst (λ (x : ℕ). found.0 ∣ x) (sym found.2) (dvd-mul_left found.0 d) in
    let one : found.0 ≡ 1 = eq-one_of_dvd-one (alone' found.0 in_m in_s) in
    (omega (arith, found.1, ap (λ x. n * x) one), omega (arith, found.2, ap (λ x. d * x) one))

-- the quotients by the greatest common divisor have none but 1
pub coprime_quotients : (n d g : ℕ) → 0 < g → IsGcd n d g → IsGcd (n / g) (d / g) 1
coprime_quotients n d g some h = (
  one-dvd (n / g),
  one-dvd (d / g),
  λ e in_n in_d.
      let n_is : n / g * g ≡ n = div-mul_cancel g h.0 in
      let d_is : d / g * g ≡ d = div-mul_cancel g h.1 in
      let both : e * g ∣ g = h.2 (e * g) (subst (λ (x : ℕ). e * g ∣ x) n_is (mul-dvd-mul_right e in_n g)) (subst (λ (x : ℕ). e * g ∣ x) d_is (mul-dvd-mul_right e in_d g)) in
      let small : e * g ≤ g = le_of_dvd some both in
      elim (cases_lt 1 e) [
        | inl more ↦ absurd (omega (arith, mul-le 2 g e g more (omega arith)))
        | inr less ↦ elim (cases_lt 0 e) [
          | inl one ↦ subst (λ (x : ℕ). x ∣ 1) (let back : 1 ≡ e = omega arith in back) (dvd_refl 1)
          | inr none ↦ absurd (let zero_is : e * g ≡ 0 = omega (arith, ap (λ x. x * g) (let e_is : e ≡ 0 = omega arith in e_is)) in
              let gone : g ≡ 0 = eq-zero_of_zero-dvd (subst (λ (x : ℕ). x ∣ g) zero_is both) in omega arith)
        ]
      ],
)

-- a number with a divisor over 0 has a greatest common divisor over 0 with any other
pub divisor_some : (n d g : ℕ) → 0 < d → IsGcd n d g → 0 < g
divisor_some n d g some h =
    elim (cases_lt 0 g) [
      | inl more ↦ more
      | inr none ↦ absurd (let zero_is : g ≡ 0 = omega arith in let gone : d ≡ 0 = eq-zero_of_zero-dvd (subst (λ (x : ℕ). x ∣ d) zero_is h.1) in omega arith)
    ]

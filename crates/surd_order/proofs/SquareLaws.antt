-- Squares: which numbers are none, and what a root that is a whole number or a fraction says.
use Rattle.std.proofs.Common.{◌≡◌, ◌≢◌, ◌<◌, ◌≤◌, ◌+◌, ◌*◌, ◌-◌, ◌/◌, ◌%◌, ◌∙◌, ℕ, zero, suc, ℤ, pos, ◌+ℤ◌, ◌-ℤ◌, ◌*ℤ◌, ap, sym, arith, inl, inr, true, false}
use Rattle.std.proofs.lemmas.Int.{ints}
use Rattle.std.proofs.lemmas.Nat.{mul-le}
use Rattle.std.proofs.lemmas.Bool.{cases_lt}
use Rattle.std.proofs.Math.Nat.{one-dvd}
use Rattle.std.specs.Int.{IsGcd}
use Rattle.surd_order.specs.declared.position.Pos.TheVariants.{Frac, Surd}
use Rattle.surd_order.specs.Spelling.{HaveSameFractions}
use Rattle.surd_order.proofs.OrderLaws.{fractions_from_same}
use Rattle.surd_order.proofs.SurdOrder.{at_plus, at_minus}

-- a number strictly between the squares of two neighbours is no square
pub between_squares : (r k : ℕ) → r * r < k → k < (r + 1) * (r + 1) → (n : ℕ) → n * n ≢ k
between_squares r k low high n = λ square. elim (cases_lt r n) [
  | inl more ↦ omega (arith, square, mul-le (r + 1) (r + 1) n n (omega arith) (omega arith))
  | inr less ↦ omega (arith, square, mul-le n n r r less less)
]

pub root_small : (r k : ℕ) → r * r ≤ k → r ≤ k
root_small r k low = elim (cases_lt 0 r) [ inl some ↦ omega (arith, mul-le 1 r r r some (omega arith)) | inr none ↦ omega arith ]

-- a whole number over 1 is in lowest terms
pub gcd_one : (n : ℕ) → IsGcd n 1 1
gcd_one n = (one-dvd n, one-dvd 1, λ e left right. right)

pub whole_sum : (a : ℤ) (r k : ℕ) → r * r ≡ k → HaveSameFractions (Frac (a +ℤ pos r) (pos 1)) (Surd a true k)
whole_sum a r k square =
    let a_is : a *ℤ pos 1 ≡ a = omega (arith, ints) in
    fractions_from_same _ _ (at_plus a (a +ℤ pos r) r 1 k (omega arith) (omega (arith, ints)) (omega (arith, square)))

pub whole_difference : (a : ℤ) (r k : ℕ) → r * r ≡ k → HaveSameFractions (Frac (a -ℤ pos r) (pos 1)) (Surd a false k)
whole_difference a r k square =
    let a_is : a *ℤ pos 1 ≡ a = omega (arith, ints) in
    fractions_from_same _ _ (at_minus a (a -ℤ pos r) r 1 k (omega arith) (omega (arith, ints)) (omega (arith, square)))

-- a natural number whose root is a fraction is a square
pub square_from_fraction : (fuel m q k : ℕ) → q ≤ fuel → 0 < q → m * m ≡ k * (q * q) → (r : ℕ) × (r * r ≡ k)
square_from_fraction zero m q k room some square = absurd (omega arith)
square_from_fraction (suc fuel) m q k room some square =
    let r : ℕ = m / q in
    let rest : ℕ = m % q in
    let m_is : m ≡ r * q + rest = omega arith in
    elim (cases_lt 0 rest) [
      | inl more ↦
          let enough : r * m ≤ k * q = elim (cases_lt (k * q) (r * m)) [
            | inl over ↦ absurd (enough_root m q k r rest some m_is square over)
            | inr good ↦ good
          ] in
          let next : ℕ = k * q - r * m in
          let next_is : k * q ≡ next + r * m = omega arith in
          square_from_fraction fuel next rest k (omega arith) more (descent m q k r rest next m_is next_is square)
      | inr none ↦
          (r, whole_root m q k r rest some (omega arith) m_is square)
    ]
  where
    enough_root : (m q k r rest : ℕ) → 0 < q → m ≡ r * q + rest → m * m ≡ k * (q * q) → k * q < r * m → ⊥
    enough_root m q k r rest some m_is square over =
        let s1 : (k * q + 1) * q ≤ (r * m) * q = mul-le _ _ _ _ (omega arith) (omega arith) in
        let s2 : (r * q) * m ≤ m * m = mul-le _ _ _ _ (omega arith) (omega arith) in
        omega (arith, s1, s2, square, some)

    descent : (m q k r rest next : ℕ) → m ≡ r * q + rest → k * q ≡ next + r * m → m * m ≡ k * (q * q) → next * next ≡ k * (rest * rest)
    descent m q k r rest next m_is next_is square =
        let sm : m * m ≡ (r * q + rest) * m = ap (λ x. x * m) m_is in
        let sr : rest * m ≡ rest * (r * q + rest) = ap (λ x. rest * x) m_is in
        let a1 : (k * q) * (k * q) ≡ (next + r * m) * (next + r * m) = ap (λ x. x * x) next_is in
        let a2 : k * (m * m) ≡ k * (k * (q * q)) = ap (λ x. k * x) square in
        let a3 : r * r * (m * m) ≡ r * r * (k * (q * q)) = ap (λ x. r * r * x) square in
        let a4 : k * (m * m) ≡ k * ((r * q + rest) * (r * q + rest)) = ap (λ x. k * (x * x)) m_is in
        let a5 : (k * q) * (r * m) ≡ (next + r * m) * (r * m) = ap (λ x. x * (r * m)) next_is in
        let a6 : (k * q) * (r * m) ≡ (k * q) * (r * (r * q + rest)) = ap (λ x. (k * q) * (r * x)) m_is in
        omega (arith, a1, a2, a3, a4, a5, a6)

    whole_root : (m q k r rest : ℕ) → 0 < q → rest ≡ 0 → m ≡ r * q + rest → m * m ≡ k * (q * q) → r * r ≡ k
    whole_root m q k r rest some none m_is square =
        let e : m ≡ r * q = omega arith in
        let s : (r * q) * (r * q) ≡ k * (q * q) = sym (ap (λ x. x * x) e) ∙ square in
        let one : 1 ≤ q * q = mul-le 1 1 q q some some in
        elim (cases_lt (r * r) k) [
          | inl less ↦ absurd (omega (arith, s, one, mul-le (r * r + 1) (q * q) k (q * q) (omega arith) (omega arith)))
          | inr more ↦ elim (cases_lt k (r * r)) [
            | inl less ↦ absurd (omega (arith, s, one, mul-le (k + 1) (q * q) (r * r) (q * q) (omega arith) (omega arith)))
            | inr same ↦ omega arith
          ]
        ]

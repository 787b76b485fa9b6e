-- Whole numbers against square roots: what is at most a root, and what is at least a root, after scaling and at smaller and greater numbers.
use Rattle.std.proofs.Common.{◌≡◌, ◌<◌, ◌≤◌, ◌+◌, ◌*◌, ◌⊎◌, ℕ, ℤ, pos, negsuc, ◌*ℤ◌, ◌<ℤ◌, ◌≤ℤ◌, ap, arith, inl, inr}
use Rattle.std.proofs.lemmas.Int.{ints, by_lt_z}
use Rattle.std.proofs.lemmas.Nat.{mul-le}
use Rattle.std.proofs.lemmas.Bool.{cases_lt}
use Rattle.std.specs.declared.cmp.Ordering.{Ordering}
use Rattle.std.specs.declared.cmp.Ordering.TheVariants.{Less, Equal, Greater}
use Rattle.surd_order.specs.AtMost.{IsAtMostRoot, IsAtLeastRoot}
use Rattle.surd_order.specs.Roots.{IsBelowRoot, IsRoot, IsAboveRoot, IsRootOrder}

pub int_cases : (a b : ℤ) → (a ≤ℤ b) ⊎ (b <ℤ a)
int_cases a b = by_lt_z b a (λ h. inr h) (λ h. inl h)

-- M / q is at most M' / q', which is at most √k
squares_down : (M M' q q' k : ℕ) → 0 < q' → M * q' ≤ M' * q → M' * M' ≤ k * (q' * q') → M * M ≤ k * (q * q)
squares_down M M' q q' k some le root =
    elim (cases_lt (k * (q * q)) (M * M)) [
      | inl over ↦ absurd (
          let s1 : (M * q') * (M * q') ≤ (M' * q) * (M' * q) = mul-le _ _ _ _ le le in
          let s2 : (M' * M') * (q * q) ≤ (k * (q' * q')) * (q * q) = mul-le _ _ _ _ root (omega arith) in
          let s3 : (k * (q * q) + 1) * (q' * q') ≤ (M * M) * (q' * q') = mul-le _ _ _ _ (omega arith) (omega arith) in
          let s4 : 1 ≤ q' * q' = mul-le 1 1 q' q' (omega arith) (omega arith) in
          omega (arith, s1, s2, s3, s4))
      | inr good ↦ good
    ]

squares_up : (M M' q q' k : ℕ) → 0 < q' → M' * q ≤ M * q' → k * (q' * q') ≤ M' * M' → k * (q * q) ≤ M * M
squares_up M M' q q' k some le root =
    elim (cases_lt (M * M) (k * (q * q))) [
      | inl over ↦ absurd (
          let s1 : (M' * q) * (M' * q) ≤ (M * q') * (M * q') = mul-le _ _ _ _ le le in
          let s2 : (k * (q' * q')) * (q * q) ≤ (M' * M') * (q * q) = mul-le _ _ _ _ root (omega arith) in
          let s3 : (M * M + 1) * (q' * q') ≤ (k * (q * q)) * (q' * q') = mul-le _ _ _ _ (omega arith) (omega arith) in
          let s4 : 1 ≤ q' * q' = mul-le 1 1 q' q' (omega arith) (omega arith) in
          omega (arith, s1, s2, s3, s4))
      | inr good ↦ good
    ]

none_left : (M q : ℕ) → 0 < q → M * q ≤ 0 → M ≤ 0
none_left M q some none = elim (cases_lt 0 M) [ inl more ↦ absurd (omega (arith, mul-le 1 q M q more (omega arith))) | inr less ↦ less ]

-- m / q is at most m' / q', which is at most √k
pub root_down : (m m' : ℤ) (q q' k : ℕ) → 0 < q → 0 < q' → (m *ℤ pos q') ≤ℤ (m' *ℤ pos q) → IsAtMostRoot m' (pos (k * (q' * q'))) → IsAtMostRoot m (pos (k * (q * q)))
root_down (negsuc M) m' q q' k some some' le root = inl (omega (arith, ints))
root_down (pos M) (negsuc M') q q' k some some' le root = absurd (omega (arith, ints))
root_down (pos M) (pos M') q q' k some some' le root =
    elim root [
      | inl none ↦ let M'_none : M' ≡ 0 = omega (arith, ints) in
          let product : M' * q ≡ 0 = omega (arith, ap (λ x. x * q) M'_none) in
          let M_none : M ≤ 0 = none_left M q' some' (omega (arith, ints)) in inl (omega (arith, ints))
      | inr square ↦ let le' : M * q' ≤ M' * q = omega (arith, ints) in
          let square' : M' * M' ≤ k * (q' * q') = omega (arith, ints) in
          let all : M * M ≤ k * (q * q) = squares_down M M' q q' k some' le' square' in inr (omega (arith, ints))
    ]

-- m / q is at least m' / q', which is at least √k
pub root_up : (m m' : ℤ) (q q' k : ℕ) → 0 < q → 0 < q' → (m' *ℤ pos q) ≤ℤ (m *ℤ pos q') → IsAtLeastRoot m' (pos (k * (q' * q'))) → IsAtLeastRoot m (pos (k * (q * q)))
root_up m (negsuc M') q q' k some some' le root = absurd (omega (arith, ints, root.0))
root_up (negsuc M) (pos M') q q' k some some' le root = absurd (omega (arith, ints))
root_up (pos M) (pos M') q q' k some some' le root =
    let le' : M' * q ≤ M * q' = omega (arith, ints) in
    let square : k * (q' * q') ≤ M' * M' = omega (arith, ints, root.1) in
    let all : k * (q * q) ≤ M * M = squares_up M M' q q' k some' le' square in (omega (arith, ints), omega (arith, ints))

-- each of the two tests holds or does not
pub at_most_root_or_not : (m n : ℤ) → IsAtMostRoot m n ⊎ ¬ (IsAtMostRoot m n)
at_most_root_or_not m n =
    elim (int_cases m (pos 0)) [
      | inl low ↦ inl (inl low)
      | inr high ↦ elim (int_cases (m *ℤ m) n) [
        | inl square ↦ inl (inr square)
        | inr over ↦ inr (λ h. elim h [ inl low ↦ omega (arith, ints) | inr square ↦ omega (arith, ints) ])
      ]
    ]

pub at_least_root_or_not : (m n : ℤ) → IsAtLeastRoot m n ⊎ ¬ (IsAtLeastRoot m n)
at_least_root_or_not m n =
    elim (int_cases (pos 0) m) [
      | inl high ↦ elim (int_cases n (m *ℤ m)) [ inl square ↦ inl (high, square) | inr under ↦ inr (λ h. omega (arith, ints, h.1)) ]
      | inr low ↦ inr (λ h. omega (arith, ints, h.0))
    ]

-- what is above a root is not at most it, and the like
pub above_not_at_most : (m : ℤ) (c : ℕ) → IsAboveRoot m (pos c) → ¬ (IsAtMostRoot m (pos c))
above_not_at_most (negsuc m) c above = λ h. omega (arith, ints, above.0)
above_not_at_most (pos m) c above = λ h. elim h [
  | inl none ↦ let m_is : m ≡ 0 = omega (arith, ints) in omega (arith, ints, above.1, ap (λ x. x * m) m_is)
  | inr square ↦ omega (arith, ints, above.1)
]

pub below_not_at_least : (m : ℤ) (c : ℕ) → IsBelowRoot m (pos c) → ¬ (IsAtLeastRoot m (pos c))
below_not_at_least m c below = λ h. elim below [ inl low ↦ omega (arith, ints, h.0) | inr square ↦ omega (arith, ints, h.1) ]

pub below_at_most : (m n : ℤ) → IsBelowRoot m n → IsAtMostRoot m n
below_at_most m n below = elim below [ inl low ↦ inl (omega (arith, ints)) | inr square ↦ inr (omega (arith, ints)) ]

pub above_at_least : (m n : ℤ) → IsAboveRoot m n → IsAtLeastRoot m n
above_at_least m n above = (above.0, omega (arith, ints, above.1))

pub root_at_most : (m n : ℤ) → IsRoot m n → IsAtMostRoot m n
root_at_most m n root = inr (omega (arith, ints, root.1))

pub root_at_least : (m n : ℤ) → IsRoot m n → IsAtLeastRoot m n
root_at_least m n root = (root.0, omega (arith, ints, root.1))

-- a whole number is below a root, at it or above it
pub root_order : (m n : ℤ) → (r : Ordering) × IsRootOrder r m n
root_order m n =
    by_lt_z m (pos 0) (λ low. (Less, inl low)) (λ high. by_lt_z (m *ℤ m) n (λ less. (Less, inr less))
    (λ more. by_lt_z n (m *ℤ m) (λ over. (Greater, (high, over))) (λ under. (Equal, (high, omega (arith, ints))))))

squares_meet : (M U q Q k : ℕ) → M * M ≡ k * (q * q) → U * U ≤ k * (Q * Q) → U * q ≤ M * Q
squares_meet M U q Q k root most =
    elim (cases_lt (M * Q) (U * q)) [
      | inl over ↦ absurd (
          let s1 : (M * Q + 1) * (M * Q + 1) ≤ (U * q) * (U * q) = mul-le _ _ _ _ (omega arith) (omega arith) in
          let s2 : (U * U) * (q * q) ≤ (k * (Q * Q)) * (q * q) = mul-le _ _ _ _ most (omega arith) in
          omega (arith, s1, s2, ap (λ x. x * (Q * Q)) root))
      | inr good ↦ good
    ]

squares_meet_above : (M U q Q k : ℕ) → M * M ≡ k * (q * q) → k * (Q * Q) ≤ U * U → M * Q ≤ U * q
squares_meet_above M U q Q k root least =
    elim (cases_lt (U * q) (M * Q)) [
      | inl over ↦ absurd (
          let s1 : (U * q + 1) * (U * q + 1) ≤ (M * Q) * (M * Q) = mul-le _ _ _ _ (omega arith) (omega arith) in
          let s2 : (k * (Q * Q)) * (q * q) ≤ (U * U) * (q * q) = mul-le _ _ _ _ least (omega arith) in
          omega (arith, s1, s2, ap (λ x. x * (Q * Q)) root))
      | inr good ↦ good
    ]

-- m / q is √k: what is at most √k is at most it, and what is at least √k at least it
pub root_top : (m u : ℤ) (q Q k : ℕ) → 0 < q → 0 < Q → IsRoot m (pos (k * (q * q))) → IsAtMostRoot u (pos (k * (Q * Q))) → (u *ℤ pos q) ≤ℤ (m *ℤ pos Q)
root_top (negsuc M) u q Q k some some' root most = absurd (omega (arith, ints, root.0))
root_top (pos M) (negsuc U) q Q k some some' root most = omega (arith, ints)
root_top (pos M) (pos U) q Q k some some' root most =
    let root' : M * M ≡ k * (q * q) = omega (arith, ints, root.1) in
    elim most [
      | inl none ↦ let U_is : U ≡ 0 = omega (arith, ints) in omega (arith, ints, ap (λ x. x * q) U_is)
      | inr square ↦ let all : U * q ≤ M * Q = squares_meet M U q Q k root' (omega (arith, ints)) in omega (arith, ints)
    ]

pub root_bottom : (m u : ℤ) (q Q k : ℕ) → 0 < q → 0 < Q → IsRoot m (pos (k * (q * q))) → IsAtLeastRoot u (pos (k * (Q * Q))) → (m *ℤ pos Q) ≤ℤ (u *ℤ pos q)
root_bottom (negsuc M) u q Q k some some' root least = absurd (omega (arith, ints, root.0))
root_bottom (pos M) (negsuc U) q Q k some some' root least = absurd (omega (arith, ints, least.0))
root_bottom (pos M) (pos U) q Q k some some' root least =
    let root' : M * M ≡ k * (q * q) = omega (arith, ints, root.1) in
    let all : M * Q ≤ U * q = squares_meet_above M U q Q k root' (omega (arith, ints, least.1)) in omega (arith, ints)

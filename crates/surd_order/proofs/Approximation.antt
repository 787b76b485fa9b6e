-- Square roots of two numbers, scaled by n and rounded down: where √k and √l compare with a whole number d, a large n shows it.
use Rattle.std.proofs.Common.{◌≡◌, ◌<◌, ◌≤◌, ◌+◌, ◌*◌, ℕ, zero, suc, ap, arith, inl, inr}
use Rattle.std.proofs.lemmas.Nat.{mul-le}
use Rattle.std.proofs.lemmas.Bool.{cases_lt}

-- r is the root of x, rounded down
pub record IsFloorRoot (r x : ℕ) : Type 0 where
  pub low : r * r ≤ x
  pub next : x ≤ r * r + 2 * r

pub floor_root : (x : ℕ) → (r : ℕ) × IsFloorRoot r x
floor_root zero = (0, record { low = omega arith; next = omega arith })
floor_root (suc x) =
    let found = floor_root x in
    let r : ℕ = found.0 in
    elim (cases_lt (suc x) ((r + 1) * (r + 1))) [
      | inl below ↦ (r, record { low = omega (arith, found.1.low); next = omega (arith, below) })
      | inr above ↦ (r + 1, record { low = omega (arith, above); next = omega (arith, found.1.next) })
    ]

pub floor_root_small : (k n r : ℕ) → r * r ≤ k * (n * n) → r ≤ (k + 1) * n
floor_root_small k n r root =
    elim (cases_lt ((k + 1) * n) r) [
      | inl over ↦ absurd (omega (arith, mul-le ((k + 1) * n + 1) ((k + 1) * n + 1) r r (omega arith) (omega arith)))
      | inr small ↦ small
    ]

-- n is too large for this
too_large : (n E : ℕ) → n ≡ E + 1 → ¬ (n * n * n * n ≤ E * (n * n * n))
too_large n E n_is = λ le.
    let some : 1 ≤ n * n * n = mul-le 1 1 (n * n) n (mul-le 1 1 n n (omega arith) (omega arith)) (omega arith) in
    omega (arith, le, some, ap (λ x. n * n * n * x) n_is)

too_large_square : (n C : ℕ) → n ≡ C + 1 → ¬ (n * n ≤ C * n)
too_large_square n C n_is = λ le. omega (arith, le, ap (λ x. n * x) n_is)

-- x is at most m n² + c n, and x² is y n⁴ but for n³: then y is no more than m² for large n
over_core : (m n C G X Y : ℕ) → 0 < n → X ≤ m * (n * n) + C * n → Y * (n * n * n * n) ≤ X * X + G * (n * n * n) → m * m < Y → n * n * n * n ≤ (2 * (m * C) + C * C + G) * (n * n * n)
over_core m n C G X Y some first second less =
    let s1 : X * X ≤ (m * (n * n) + C * n) * (m * (n * n) + C * n) = mul-le _ _ _ _ first first in
    let s2 : (m * m + 1) * (n * n * n * n) ≤ Y * (n * n * n * n) = mul-le _ _ _ _ (omega arith) (omega arith) in
    let s3 : (C * C * (n * n)) * 1 ≤ (C * C * (n * n)) * n = mul-le _ _ _ _ (omega arith) (omega arith) in
    omega (arith, s1, s2, s3, second)

-- m n² is at most x + c n, and x² at most y n⁴: then m² is no more than y for large n
under_core : (m n C H X Y : ℕ) → 0 < n → m * (n * n) ≤ X + C * n → X * X ≤ Y * (n * n * n * n) → X ≤ H * (n * n) → Y < m * m → n * n * n * n ≤ (2 * (H * C) + C * C) * (n * n * n)
under_core m n C H X Y some first second small less =
    let s1 : (m * (n * n)) * (m * (n * n)) ≤ (X + C * n) * (X + C * n) = mul-le _ _ _ _ first first in
    let s2 : (Y + 1) * (n * n * n * n) ≤ (m * m) * (n * n * n * n) = mul-le _ _ _ _ (omega arith) (omega arith) in
    let s3 : (C * C * (n * n)) * 1 ≤ (C * C * (n * n)) * n = mul-le _ _ _ _ (omega arith) (omega arith) in
    let s4 : X * (C * n) ≤ (H * (n * n)) * (C * n) = mul-le _ _ _ _ small (omega arith) in
    omega (arith, s1, s2, s3, s4, second)

-- √k < d + √l
sum_slack : (k l d n r s : ℕ) → IsFloorRoot r (k * (n * n)) → IsFloorRoot s (l * (n * n)) → d * n + s ≤ r + 1
    → d * d * (n * n) + 2 * (d * n * s) + l * (n * n) ≤ k * (n * n) + (2 * (k + 1) + 2 * (l + 1)) * n + 1
sum_slack k l d n r s root root' near =
    let square : (d * n + s) * (d * n + s) ≤ (r + 1) * (r + 1) = mul-le _ _ _ _ near near in
    omega (arith, square, root.low, root'.next, floor_root_small k n r root.low, floor_root_small l n s root'.low)

pub sum_near : (k l d n r s : ℕ) → n ≡ 2 * (k + 1) + 2 * (l + 1) + 2 → k < d * d + l → IsFloorRoot r (k * (n * n)) → IsFloorRoot s (l * (n * n)) → r + 1 < d * n + s
sum_near k l d n r s n_is less root root' =
    elim (cases_lt (r + 1) (d * n + s)) [
      | inl good ↦ good
      | inr near ↦ absurd (
          let slack = sum_slack k l d n r s root root' near in
          let gap : (k + 1) * (n * n) ≤ (d * d + l) * (n * n) = mul-le _ _ _ _ (omega arith) (omega arith) in
          too_large_square n (2 * (k + 1) + 2 * (l + 1) + 1) (omega arith) (omega (arith, slack, gap)))
    ]

pub sum_near_root : (k l d m n r s C : ℕ) → C ≡ 2 * (k + 1) + 2 * (l + 1) + 1 → n ≡ 2 * (m * C) + C * C + 8 * (d * d * (l + 1)) + 1 → k ≡ d * d + l + m → m * m < 4 * (d * d * l)
    → IsFloorRoot r (k * (n * n)) → IsFloorRoot s (l * (n * n)) → r + 1 < d * n + s
sum_near_root k l d m n r s C C_is n_is k_is less root root' =
    elim (cases_lt (r + 1) (d * n + s)) [
      | inl good ↦ good
      | inr near ↦ absurd (
          let slack = sum_slack k l d n r s root root' near in
          let first : 2 * (d * n * s) ≤ m * (n * n) + C * n = omega (arith, slack, ap (λ x. x * (n * n)) k_is, ap (λ x. x * n) C_is) in
          let wide : (4 * (d * d * (n * n))) * (l * (n * n)) ≤ (4 * (d * d * (n * n))) * (s * s + 2 * s) = mul-le _ _ _ _ (omega arith) root'.next in
          let small : (8 * (d * d * (n * n))) * s ≤ (8 * (d * d * (n * n))) * ((l + 1) * n) = mul-le _ _ _ _ (omega arith) (floor_root_small l n s root'.low) in
          let second : (4 * (d * d * l)) * (n * n * n * n) ≤ (2 * (d * n * s)) * (2 * (d * n * s)) + (8 * (d * d * (l + 1))) * (n * n * n) = omega (arith, wide, small) in
          too_large n (2 * (m * C) + C * C + 8 * (d * d * (l + 1))) n_is (over_core m n C (8 * (d * d * (l + 1))) (2 * (d * n * s)) (4 * (d * d * l)) (omega arith) first second less))
    ]

-- √k + d < √l
pub shift_near : (k l d m n r s C : ℕ) → C ≡ 2 * (k + 1) + 2 * (l + 1) + 2 * d + 1 → n ≡ 2 * (2 * (d * (k + 1)) * C) + C * C + 1 → l ≡ k + d * d + m → 4 * (d * d * k) < m * m
    → IsFloorRoot r (k * (n * n)) → IsFloorRoot s (l * (n * n)) → r + 1 + d * n < s
shift_near k l d m n r s C C_is n_is l_is less root root' =
    elim (cases_lt (r + 1 + d * n) s) [
      | inl good ↦ good
      | inr near ↦ absurd (
          let square : s * s ≤ (r + 1 + d * n) * (r + 1 + d * n) = mul-le _ _ _ _ near near in
          let small : r ≤ (k + 1) * n = floor_root_small k n r root.low in
          let first : m * (n * n) ≤ 2 * (d * n * r) + C * n =
          omega (arith, square, root.low, root'.next, small, floor_root_small l n s root'.low, ap (λ x. x * (n * n)) l_is, ap (λ x. x * n) C_is) in
          let wide : (4 * (d * d * (n * n))) * (r * r) ≤ (4 * (d * d * (n * n))) * (k * (n * n)) = mul-le _ _ _ _ (omega arith) root.low in
          let second : (2 * (d * n * r)) * (2 * (d * n * r)) ≤ (4 * (d * d * k)) * (n * n * n * n) = omega (arith, wide) in
          let third : (2 * (d * n)) * r ≤ (2 * (d * n)) * ((k + 1) * n) = mul-le _ _ _ _ (omega arith) small in
          too_large n (2 * (2 * (d * (k + 1)) * C) + C * C) n_is (under_core m n C (2 * (d * (k + 1))) (2 * (d * n * r)) (4 * (d * d * k)) (omega arith) first second (omega (arith, third)) less))
    ]

-- √k + √l < d
pub roots_near : (k l d m n r s C : ℕ) → C ≡ 2 * (k + 1) + 2 * (l + 1) + 1 → n ≡ 2 * (2 * ((k + 1) * (l + 1)) * C) + C * C + 1 → d * d ≡ k + l + m → 4 * (k * l) < m * m
    → IsFloorRoot r (k * (n * n)) → IsFloorRoot s (l * (n * n)) → r + s + 1 < d * n
roots_near k l d m n r s C C_is n_is d_is less root root' =
    elim (cases_lt (r + s + 1) (d * n)) [
      | inl good ↦ good
      | inr near ↦ absurd (
          let square : (d * n) * (d * n) ≤ (r + s + 1) * (r + s + 1) = mul-le _ _ _ _ near near in
          let small : r ≤ (k + 1) * n = floor_root_small k n r root.low in
          let small' : s ≤ (l + 1) * n = floor_root_small l n s root'.low in
          let first : m * (n * n) ≤ 2 * (r * s) + C * n = omega (arith, square, root.low, root'.low, small, small', ap (λ x. x * (n * n)) d_is, ap (λ x. x * n) C_is) in
          let wide : (r * r) * (s * s) ≤ (k * (n * n)) * (l * (n * n)) = mul-le _ _ _ _ root.low root'.low in
          let second : (2 * (r * s)) * (2 * (r * s)) ≤ (4 * (k * l)) * (n * n * n * n) = omega (arith, wide) in
          let third : r * s ≤ ((k + 1) * n) * ((l + 1) * n) = mul-le _ _ _ _ small small' in
          too_large n (2 * (2 * ((k + 1) * (l + 1)) * C) + C * C) n_is (under_core m n C (2 * ((k + 1) * (l + 1))) (2 * (r * s)) (4 * (k * l)) (omega arith) first second (omega (arith, third)) less))
    ]

-- d < √k + √l
whole_slack : (k l d n r s : ℕ) → IsFloorRoot r (k * (n * n)) → IsFloorRoot s (l * (n * n)) → r + s ≤ d * n + 1
    → (k + l) * (n * n) + 2 * (r * s) ≤ d * d * (n * n) + (2 * (k + 1) + 2 * (l + 1) + 2 * d) * n + 1
whole_slack k l d n r s root root' near =
    let square : (r + s) * (r + s) ≤ (d * n + 1) * (d * n + 1) = mul-le _ _ _ _ near near in
    omega (arith, square, root.next, root'.next, floor_root_small k n r root.low, floor_root_small l n s root'.low)

pub whole_near : (k l d n r s : ℕ) → n ≡ 2 * (k + 1) + 2 * (l + 1) + 2 * d + 2 → d * d < k + l → IsFloorRoot r (k * (n * n)) → IsFloorRoot s (l * (n * n)) → d * n + 1 < r + s
whole_near k l d n r s n_is less root root' =
    elim (cases_lt (d * n + 1) (r + s)) [
      | inl good ↦ good
      | inr near ↦ absurd (
          let slack = whole_slack k l d n r s root root' near in
          let gap : (d * d + 1) * (n * n) ≤ (k + l) * (n * n) = mul-le _ _ _ _ (omega arith) (omega arith) in
          too_large_square n (2 * (k + 1) + 2 * (l + 1) + 2 * d + 1) (omega arith) (omega (arith, slack, gap)))
    ]

pub whole_near_roots : (k l d m n r s C G : ℕ) → C ≡ 2 * (k + 1) + 2 * (l + 1) + 2 * d + 1
    → G ≡ 8 * ((k + 1) * (k + 1) * (l + 1)) + 8 * ((k + 1) * (l + 1) * (l + 1)) + 16 * ((k + 1) * (l + 1))
    → n ≡ 2 * (m * C) + C * C + G + 1 → d * d ≡ k + l + m → m * m < 4 * (k * l)
    → IsFloorRoot r (k * (n * n)) → IsFloorRoot s (l * (n * n)) → d * n + 1 < r + s
whole_near_roots k l d m n r s C G C_is G_is n_is d_is less root root' =
    elim (cases_lt (d * n + 1) (r + s)) [
      | inl good ↦ good
      | inr near ↦ absurd (
          let slack = whole_slack k l d n r s root root' near in
          let small : r ≤ (k + 1) * n = floor_root_small k n r root.low in
          let small' : s ≤ (l + 1) * n = floor_root_small l n s root'.low in
          let first : 2 * (r * s) ≤ m * (n * n) + C * n = omega (arith, slack, ap (λ x. x * (n * n)) d_is, ap (λ x. x * n) C_is) in
          let wide : (k * (n * n)) * (l * (n * n)) ≤ (r * r + 2 * r) * (s * s + 2 * s) = mul-le _ _ _ _ root.next root'.next in
          let both : r * s ≤ ((k + 1) * n) * ((l + 1) * n) = mul-le _ _ _ _ small small' in
          let left : r * (r * s) ≤ ((k + 1) * n) * (((k + 1) * n) * ((l + 1) * n)) = mul-le _ _ _ _ small both in
          let right : (r * s) * s ≤ (((k + 1) * n) * ((l + 1) * n)) * ((l + 1) * n) = mul-le _ _ _ _ both small' in
          let up : (16 * ((k + 1) * (l + 1)) * (n * n)) * 1 ≤ (16 * ((k + 1) * (l + 1)) * (n * n)) * n = mul-le _ _ _ _ (omega arith) (omega arith) in
          let second : (4 * (k * l)) * (n * n * n * n) ≤ (2 * (r * s)) * (2 * (r * s)) + G * (n * n * n) = omega (arith, wide, both, left, right, up, ap (λ x. x * (n * n * n)) G_is) in
          too_large n (2 * (m * C) + C * C + G) n_is (over_core m n C G (2 * (r * s)) (4 * (k * l)) (omega arith) first second less))
    ]

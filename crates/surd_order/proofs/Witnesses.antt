-- Fractions near a root: for each of the four ways in which √k and √l compare with a whole number d, numbers u and n such that u / n shows it.
use Rattle.std.proofs.Common.{◌≡◌, ◌<◌, ◌≤◌, ◌+◌, ◌*◌, ◌-◌, ◌⊎◌, ℕ, ℤ, pos, ◌-ℤ◌, refl, sym, subst, arith, inl, inr}
use Rattle.std.proofs.lemmas.Int.{ints}
use Rattle.std.proofs.lemmas.Nat.{mul-le}
use Rattle.std.proofs.lemmas.Bool.{cases_lt}
use Rattle.surd_order.specs.Roots.{IsBelowRoot, IsAboveRoot}
use Rattle.surd_order.proofs.Approximation.{IsFloorRoot, floor_root, sum_near, sum_near_root, shift_near, roots_near, whole_near, whole_near_roots}

-- a difference of naturals that is below a root: it is negative, or a natural whose square is below
below_root_cases : (x y c : ℕ) → IsBelowRoot (pos x -ℤ pos y) (pos c) → (x < y) ⊎ ((m : ℕ) × (x ≡ y + m) × (m * m < c))
below_root_cases x y c below =
    elim (cases_lt x y) [
      | inl less ↦ inl less
      | inr more ↦
          let m : ℕ = x - y in
          let m_is : pos x -ℤ pos y ≡ pos m = omega (arith, ints) in
          let below' : IsBelowRoot (pos m) (pos c) = subst (λ (z : ℤ). IsBelowRoot z (pos c)) m_is below in
          inr (m, omega arith, elim below' [ inl low ↦ absurd (omega (arith, ints)) | inr square ↦ omega (arith, ints) ])
    ]

above_root_case : (x y c : ℕ) → IsAboveRoot (pos x -ℤ pos y) (pos c) → (m : ℕ) × (x ≡ y + m) × (c < m * m)
above_root_case x y c above =
    let m : ℕ = x - y in
    let more : y ≤ x = omega (arith, ints, above.0) in
    let m_is : pos x -ℤ pos y ≡ pos m = omega (arith, ints) in
    let above' : IsAboveRoot (pos m) (pos c) = subst (λ (z : ℤ). IsAboveRoot z (pos c)) m_is above in
    (m, omega arith, omega (arith, ints, above'.1))

-- u / n is above √k and below d + √l
pub record IsBetweenSum (k d l u n : ℕ) : Type 0 where
  pub some : 0 < n
  pub above : k * (n * n) < u * u
  pub below : IsBelowRoot (pos u -ℤ pos (d * n)) (pos (l * (n * n)))

between_sum : (k d l r s n : ℕ) → 0 < n → IsFloorRoot r (k * (n * n)) → IsFloorRoot s (l * (n * n)) → r + 1 < d * n + s → IsBetweenSum k d l (r + 1) n
between_sum k d l r s n some root root' near = record {
  some = some;
  above = omega (arith, root.next);
  below = elim (cases_lt (r + 1) (d * n)) [
    | inl less ↦ inl (omega (arith, ints))
    | inr more ↦
        let e : ℕ = r + 1 - d * n in
        let e_is : pos (r + 1) -ℤ pos (d * n) ≡ pos e = omega (arith, ints) in
        let square : (e + 1) * (e + 1) ≤ s * s = mul-le _ _ _ _ (omega arith) (omega arith) in
        subst (λ (z : ℤ). IsBelowRoot z (pos (l * (n * n)))) (sym e_is) (inr (omega (arith, ints, square, root'.low)))
  ];
}

pub sum_witness : (k d l : ℕ) → IsBelowRoot (pos k -ℤ pos (d * d + l)) (pos (4 * (d * d * l))) → (u : ℕ) × (n : ℕ) × IsBetweenSum k d l u n
sum_witness k d l below =
    elim (below_root_cases k (d * d + l) (4 * (d * d * l)) below) [
      | inl less ↦
          let n : ℕ = 2 * (k + 1) + 2 * (l + 1) + 2 in
          let r = floor_root (k * (n * n)) in
          let s = floor_root (l * (n * n)) in
          (r.0 + 1, n, between_sum k d l r.0 s.0 n (omega arith) r.1 s.1 (sum_near k l d n r.0 s.0 refl less r.1 s.1))
      | inr found ↦
          let m : ℕ = found.0 in
          let C : ℕ = 2 * (k + 1) + 2 * (l + 1) + 1 in
          let n : ℕ = 2 * (m * C) + C * C + 8 * (d * d * (l + 1)) + 1 in
          let r = floor_root (k * (n * n)) in
          let s = floor_root (l * (n * n)) in
          (r.0 + 1, n, between_sum k d l r.0 s.0 n (omega arith) r.1 s.1 (sum_near_root k l d m n r.0 s.0 C refl refl found.1 found.2 r.1 s.1))
    ]

-- u / n is above √k, and u / n + d is below √l
pub record IsBetweenShift (k d l u n : ℕ) : Type 0 where
  pub some : 0 < n
  pub above : k * (n * n) < u * u
  pub below : (u + d * n) * (u + d * n) < l * (n * n)

between_shift : (k d l r s n : ℕ) → 0 < n → IsFloorRoot r (k * (n * n)) → IsFloorRoot s (l * (n * n)) → r + 1 + d * n < s → IsBetweenShift k d l (r + 1) n
between_shift k d l r s n some root root' near =
    let square : (r + 1 + d * n + 1) * (r + 1 + d * n + 1) ≤ s * s = mul-le _ _ _ _ (omega arith) (omega arith) in
    record { some = some; above = omega (arith, root.next); below = omega (arith, square, root'.low) }

pub shift_witness : (k d l : ℕ) → IsAboveRoot (pos l -ℤ pos (d * d + k)) (pos (4 * (d * d * k))) → (u : ℕ) × (n : ℕ) × IsBetweenShift k d l u n
shift_witness k d l above =
    let found = above_root_case l (d * d + k) (4 * (d * d * k)) above in
    let m : ℕ = found.0 in
    let C : ℕ = 2 * (k + 1) + 2 * (l + 1) + 2 * d + 1 in
    let n : ℕ = 2 * (2 * (d * (k + 1)) * C) + C * C + 1 in
    let r = floor_root (k * (n * n)) in
    let s = floor_root (l * (n * n)) in
    let near : r.0 + 1 + d * n < s.0 = shift_near k l d m n r.0 s.0 C refl refl (omega (arith, found.1)) found.2 r.1 s.1 in
    (r.0 + 1, n, between_shift k d l r.0 s.0 n (omega arith) r.1 s.1 near)

-- u / n is above √k, v / n above √l, and both together are d
pub record IsBetweenRoots (k d l u v n : ℕ) : Type 0 where
  pub some : 0 < n
  pub whole : u + v ≡ d * n
  pub above : k * (n * n) < u * u
  pub above' : l * (n * n) < v * v

between_roots : (k d l r s n : ℕ) → 0 < n → IsFloorRoot r (k * (n * n)) → IsFloorRoot s (l * (n * n)) → r + s + 1 < d * n → IsBetweenRoots k d l (r + 1) (d * n - (r + 1)) n
between_roots k d l r s n some root root' near =
    let v : ℕ = d * n - (r + 1) in
    let square : (s + 1) * (s + 1) ≤ v * v = mul-le _ _ _ _ (omega arith) (omega arith) in
    record { some = some; whole = omega arith; above = omega (arith, root.next); above' = omega (arith, square, root'.next) }

pub roots_witness : (k d l : ℕ) → IsAboveRoot (pos (d * d) -ℤ pos (k + l)) (pos (4 * (k * l))) → (u : ℕ) × (v : ℕ) × (n : ℕ) × IsBetweenRoots k d l u v n
roots_witness k d l above =
    let found = above_root_case (d * d) (k + l) (4 * (k * l)) above in
    let m : ℕ = found.0 in
    let C : ℕ = 2 * (k + 1) + 2 * (l + 1) + 1 in
    let n : ℕ = 2 * (2 * ((k + 1) * (l + 1)) * C) + C * C + 1 in
    let r = floor_root (k * (n * n)) in
    let s = floor_root (l * (n * n)) in
    let near : r.0 + s.0 + 1 < d * n = roots_near k l d m n r.0 s.0 C refl refl found.1 found.2 r.1 s.1 in
    (r.0 + 1, d * n - (r.0 + 1), n, between_roots k d l r.0 s.0 n (omega arith) r.1 s.1 near)

-- w / n is below √k, and d - w / n is below √l
pub record IsBetweenWhole (k d l : ℕ) (w : ℤ) (n : ℕ) : Type 0 where
  pub some : 0 < n
  pub below : IsBelowRoot w (pos (k * (n * n)))
  pub below' : IsBelowRoot (pos (d * n) -ℤ w) (pos (l * (n * n)))

between_whole : (k d l r s n : ℕ) → 0 < n → IsFloorRoot r (k * (n * n)) → IsFloorRoot s (l * (n * n)) → d * n + 1 < r + s → IsBetweenWhole k d l (pos r -ℤ pos 1) n
between_whole k d l r s n some root root' near = record {
  some = some;
  below = elim (cases_lt 0 r) [
    | inl more ↦
        let q : ℕ = r - 1 in
        let q_is : pos r -ℤ pos 1 ≡ pos q = omega (arith, ints) in
        let square : (q + 1) * (q + 1) ≤ r * r = mul-le _ _ _ _ (omega arith) (omega arith) in
        subst (λ (z : ℤ). IsBelowRoot z (pos (k * (n * n)))) (sym q_is) (inr (omega (arith, ints, square, root.low)))
    | inr none ↦ inl (omega (arith, ints))
  ];
  below' = elim (cases_lt (d * n + 1) r) [
    | inl less ↦ inl (omega (arith, ints))
    | inr more ↦
        let e : ℕ = d * n + 1 - r in
        let e_is : pos (d * n) -ℤ (pos r -ℤ pos 1) ≡ pos e = omega (arith, ints) in
        let square : (e + 1) * (e + 1) ≤ s * s = mul-le _ _ _ _ (omega arith) (omega arith) in
        subst (λ (z : ℤ). IsBelowRoot z (pos (l * (n * n)))) (sym e_is) (inr (omega (arith, ints, square, root'.low)))
  ];
}

pub whole_witness : (k d l : ℕ) → IsBelowRoot (pos (d * d) -ℤ pos (k + l)) (pos (4 * (k * l))) → (w : ℤ) × (n : ℕ) × IsBetweenWhole k d l w n
whole_witness k d l below =
    elim (below_root_cases (d * d) (k + l) (4 * (k * l)) below) [
      | inl less ↦
          let n : ℕ = 2 * (k + 1) + 2 * (l + 1) + 2 * d + 2 in
          let r = floor_root (k * (n * n)) in
          let s = floor_root (l * (n * n)) in
          (pos r.0 -ℤ pos 1, n, between_whole k d l r.0 s.0 n (omega arith) r.1 s.1 (whole_near k l d n r.0 s.0 refl less r.1 s.1))
      | inr found ↦
          let m : ℕ = found.0 in
          let C : ℕ = 2 * (k + 1) + 2 * (l + 1) + 2 * d + 1 in
          let G : ℕ = 8 * ((k + 1) * (k + 1) * (l + 1)) + 8 * ((k + 1) * (l + 1) * (l + 1)) + 16 * ((k + 1) * (l + 1)) in
          let n : ℕ = 2 * (m * C) + C * C + G + 1 in
          let r = floor_root (k * (n * n)) in
          let s = floor_root (l * (n * n)) in
          (pos r.0 -ℤ pos 1, n, between_whole k d l r.0 s.0 n (omega arith) r.1 s.1 (whole_near_roots k l d m n r.0 s.0 C G refl refl refl found.1 found.2 r.1 s.1))
    ]

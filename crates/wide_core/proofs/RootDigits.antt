-- The square root by its digits is the greatest number whose square is not over n.
use Rattle.std.proofs.Common.{◌≡◌, ◌≤◌, ◌<◌, ◌+◌, ◌*◌, ◌/◌, ◌%◌, ℕ, zero, suc, arith, inl, inr}
use Rattle.std.proofs.lemmas.Nat.{mul-le}
use Rattle.std.proofs.lemmas.Bool.{cases_lt}
use Rattle.std.proofs.lemmas.Bool.Decides.{nat_tests}
use Rattle.wide_core.specs.Root.{root_from, root_within, root_of}

-- r is the square root of n, rounded down
pub record IsFloorRoot (r n : ℕ) : Type 0 where
  pub square : r * r ≤ n
  pub next : n < (r + 1) * (r + 1)

from_is : (r n : ℕ) → r * r ≤ n → n < (r + 2) * (r + 2) → IsFloorRoot (root_from r n) n
from_is r n low high = record { square = grind (arith, nat_tests); next = grind (arith, nat_tests) }

within_is : (bound n : ℕ) → n ≤ bound → IsFloorRoot (root_within bound n) n
within_is zero n room = record { square = omega arith; next = omega arith }
within_is (suc bound) zero room = record { square = omega arith; next = omega arith }
within_is (suc bound) (suc n) room =
    let q : ℕ = suc n / 4 in
    let whole : suc n ≡ 4 * q + suc n % 4 = omega arith in
    let below : IsFloorRoot (root_within bound q) q = within_is bound q (omega arith) in
    from_is (2 * root_within bound q) (suc n) (omega (arith, below.square)) (omega (arith, below.next))

pub root_of-is : (n : ℕ) → IsFloorRoot (root_of n) n
root_of-is n = within_is n n (omega arith)

-- two such roots are one
pub floor_root_unique : (r s n : ℕ) → IsFloorRoot r n → IsFloorRoot s n → r ≡ s
floor_root_unique r s n left right =
    elim (cases_lt r s) [
      | inl less ↦ absurd (omega (arith, left.next, right.square, mul-le (r + 1) (r + 1) s s (omega arith) (omega arith)))
      | inr rest ↦ elim (cases_lt s r) [
        | inl less ↦ absurd (omega (arith, left.square, right.next, mul-le (s + 1) (s + 1) r r (omega arith) (omega arith)))
        | inr same ↦ omega arith
      ]
    ]

pub root_same : (r n : ℕ) → r * r ≤ n → n < (r + 1) * (r + 1) → r ≡ root_of n
root_same r n square next = floor_root_unique r (root_of n) n (record { square = square; next = next }) (root_of-is n)

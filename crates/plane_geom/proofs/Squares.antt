-- Squares of whole numbers.
use Rattle.std.proofs.Common.{◌≡◌, ◌≤◌, ◌+◌, ◌*◌, ◌∙◌, ℕ, zero, suc, ℤ, pos, negsuc, ◌*ℤ◌, ◌-ℤ◌, ◌≤ℤ◌, refl, ap, sym, arith, inl, inr}
use Rattle.std.proofs.Math.IntN.{neg_ℤ}
use Rattle.std.proofs.lemmas.Int.{ints}
use Rattle.std.proofs.lemmas.Nat.{mul-le}
use Rattle.std.proofs.lemmas.Bool.{cases_lt}
use Rattle.lattice_core.proofs.Products.{mul_assoc, mul_swap}
use Rattle.plane_geom.specs.Chords.{squared}

pub square_of_product : (a b : ℤ) → squared (a *ℤ b) ≡ squared a *ℤ squared b
square_of_product a b = sym (mul_assoc (a *ℤ b) a b) ∙ ap (λ (z : ℤ). z *ℤ b) (mul_swap a b a) ∙ mul_assoc (a *ℤ a) b b

square_of_negative : (z : ℤ) → squared (neg_ℤ z) ≡ squared z
square_of_negative (pos zero) = refl
square_of_negative (pos (suc n)) = refl
square_of_negative (negsuc n) = refl

pub square_of_opposite : (s t : ℤ) → s ≡ neg_ℤ t → squared s ≡ squared t
square_of_opposite s t e = ap squared e ∙ square_of_negative t

pub square_none : (z : ℤ) → squared z ≤ℤ pos 0 → z ≡ pos 0
square_none (pos zero) low = refl
square_none (pos (suc n)) low = absurd (omega (arith, ints, low))
square_none (negsuc n) low = absurd (omega (arith, ints, low))

root_below : (m n : ℕ) → m * m ≤ n * n → m ≤ n
root_below m n le = elim (cases_lt n m) [
  | inl less ↦ absurd (omega (arith, le, mul-le (n + 1) (n + 1) m m (omega arith) (omega arith)))
  | inr more ↦ more
]

-- a number whose square is at most that of t lies between -t and t
pub square_between : (s t : ℤ) → pos 0 ≤ℤ t → squared s ≤ℤ squared t → ((pos 0 -ℤ t) ≤ℤ s) × (s ≤ℤ t)
square_between (pos m) (pos n) high le = let below : m ≤ n = root_below m n (omega (arith, ints, le)) in (omega (arith, ints), omega (arith, ints))
square_between (negsuc m) (pos n) high le = let below : suc m ≤ n = root_below (suc m) n (omega (arith, ints, le)) in (omega (arith, ints), omega (arith, ints))
square_between s (negsuc n) high le = absurd (omega (arith, ints, high))

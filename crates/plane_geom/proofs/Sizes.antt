-- Sizes of products and sums, by limits that are whole numbers.
use Rattle.std.proofs.Common.{◌<◌, ◌≤◌, ◌*◌, ◌^◌, ℕ, ℤ, pos, negsuc, ◌+ℤ◌, ◌-ℤ◌, ◌*ℤ◌, ◌≤ℤ◌, subst, sym, arith, FitsSigned, w64}
use Rattle.std.specs.Int.RustNames.{unsigned_abs}
use Rattle.std.proofs.lemmas.Int.{ints, unsigned_abs-mul, fits_signed_from_abs}
use mir.Syntax.{w128}
use Rattle.std.proofs.lemmas.Nat.{mul-le}
use Rattle.lattice_core.specs.declared.vector.V3.{V3}
use Rattle.lattice_core.specs.Limits.{IsAtMost, IsWithin}
use Rattle.lattice_core.specs.Vectors.{dot_product}

pub abs_of : (m z : ℤ) → IsAtMost m z → unsigned_abs z ≤ unsigned_abs m
abs_of m z h = omega (arith, ints, h.0, h.1)

of_abs : (m : ℕ) (z : ℤ) → unsigned_abs z ≤ m → IsAtMost (pos m) z
of_abs m z h = (omega (arith, ints, h), omega (arith, ints, h))

pub product_size : (m n a b : ℤ) → IsAtMost m a → IsAtMost n b → IsAtMost (m *ℤ n) (a *ℤ b)
product_size (pos m) (pos n) a b p q =
    of_abs (m * n) (a *ℤ b) (subst (λ (k : ℕ). k ≤ m * n) (sym (unsigned_abs-mul a b)) (mul-le _ _ _ _ (abs_of (pos m) a p) (abs_of (pos n) b q)))
product_size (pos m) (negsuc n) a b p q = absurd (omega (arith, ints, q.0, q.1))
product_size (negsuc m) n a b p q = absurd (omega (arith, ints, p.0, p.1))

pub sum_size : (m n a b : ℤ) → IsAtMost m a → IsAtMost n b → IsAtMost (m +ℤ n) (a +ℤ b)
sum_size m n a b p q = (omega (arith, ints, p.0, p.1, q.0, q.1), omega (arith, ints, p.0, p.1, q.0, q.1))

pub difference_size : (m n a b : ℤ) → IsAtMost m a → IsAtMost n b → IsAtMost (m +ℤ n) (a -ℤ b)
difference_size m n a b p q = (omega (arith, ints, p.0, p.1, q.0, q.1), omega (arith, ints, p.0, p.1, q.0, q.1))

pub three_size : (m x y z : ℤ) → IsAtMost m x → IsAtMost m y → IsAtMost m z → IsAtMost (pos 3 *ℤ m) ((x +ℤ y) +ℤ z)
three_size m x y z p q r = (omega (arith, ints, p.0, p.1, q.0, q.1, r.0, r.1), omega (arith, ints, p.0, p.1, q.0, q.1, r.0, r.1))

pub dot_size : (m n : ℤ) (a b : V3) → IsWithin m a → IsWithin n b → IsAtMost (pos 3 *ℤ (m *ℤ n)) (dot_product a b)
dot_size m n a b p q = three_size _ _ _ _ (product_size m n a.x b.x p.x q.x) (product_size m n a.y b.y p.y q.y) (product_size m n a.z b.z p.z q.z)

pub fits128 : (m z : ℤ) → unsigned_abs m < 2 ^ 127 → IsAtMost m z → FitsSigned w128 z
fits128 m z small h = fits_signed_from_abs w128 z (omega (arith, abs_of m z h, small))

pub fits64 : (m z : ℤ) → unsigned_abs m < 2 ^ 63 → IsAtMost m z → FitsSigned w64 z
fits64 m z small h = fits_signed_from_abs w64 z (omega (arith, abs_of m z h, small))

-- a limit may be raised
raised : (m n z : ℤ) → m ≤ℤ n → IsAtMost m z → IsAtMost n z
raised m n z le h = (omega (arith, ints, le, h.0, h.1), omega (arith, ints, le, h.0, h.1))

pub wider : (m n : ℤ) (v : V3) → m ≤ℤ n → IsWithin m v → IsWithin n v
wider m n v le h = record { x = raised m n v.x le h.x; y = raised m n v.y le h.y; z = raised m n v.z le h.z }

-- Euclid's algorithm gives the greatest common divisor.
use Rattle.std.proofs.Common.{◌≡◌, ◌≤◌, ◌<◌, ◌%◌, ℕ, zero, suc, refl, arith}
use Rattle.std.proofs.Math.Nat.{mod-lt, zero-lt-suc}
use Rattle.std.proofs.lemmas.Nat.Gcd.{IsGcd-from_mod, IsGcd-from_zero, same_from_IsGcd}
use Rattle.std.specs.Int.{IsGcd}
use Rattle.wide_core.specs.Gcd.{gcd_within, gcd_of}

within_is : (bound a b : ℕ) → b ≤ bound → IsGcd a b (gcd_within bound a b)
within_is zero a b room = IsGcd-from_zero a b (omega arith)
within_is (suc bound) a zero room = IsGcd-from_zero a zero refl
within_is (suc bound) a (suc b) room =
    let less : a % suc b < suc b = mod-lt a (zero-lt-suc b) in
    IsGcd-from_mod a (suc b) _ (within_is bound (suc b) (a % suc b) (omega arith))

pub gcd_of-is : (a b : ℕ) → IsGcd a b (gcd_of a b)
gcd_of-is a b = within_is b a b (omega arith)

pub gcd_same : (a b g : ℕ) → IsGcd a b g → g ≡ gcd_of a b
gcd_same a b g h = same_from_IsGcd a b g (gcd_of a b) h (gcd_of-is a b)

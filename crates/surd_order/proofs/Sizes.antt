-- How large products are.
use Rattle.std.proofs.Common.{◌≤◌, ◌*◌, ◌*ℤ◌, ℕ, ℤ}
use Rattle.std.specs.Int.RustNames.{unsigned_abs}
use Rattle.std.proofs.lemmas.Int.{unsigned_abs-mul}
use Rattle.std.proofs.lemmas.Nat.{mul-le}

pub product_size : (a b : ℤ) (m n : ℕ) → unsigned_abs a ≤ m → unsigned_abs b ≤ n → unsigned_abs (a *ℤ b) ≤ m * n
product_size a b m n left right = rw unsigned_abs-mul (mul-le (unsigned_abs a) (unsigned_abs b) m n left right)

-- How large the products are by which positions in range are compared: each is below 2^127, so that none leaves 128 bits.
use Rattle.std.specs.Prelude.{◌<◌, ◌^◌, ◌+◌, ◌*◌, ℕ, ℤ, pos, ◌-ℤ◌, ◌*ℤ◌}
use Rattle.std.specs.Int.RustNames.{unsigned_abs}
use Rattle.surd_order.specs.Range.{IsFractionInRange, IsSurdInRange}

abbrev pub squared : ℤ → ℤ
squared z = z *ℤ z

-- how far two whole numbers are apart, squared
abbrev pub distance_squared : ℤ → ℤ → ℕ
distance_squared a b = unsigned_abs (b -ℤ a) * unsigned_abs (b -ℤ a)

-- p / q and r / s are compared by cross products; p / q and a ± √k by p - a q and its square and by k q²; a ± √k and b ± √l,
-- with d the distance of a and b, by the squares of k - d² - l and of d² - k - l, and by 4 d² l and 4 k l
pub record ProductsAreSmall : Type 0 where
  pub fractions : (p q r s : ℤ) → IsFractionInRange p q → IsFractionInRange r s → unsigned_abs (p *ℤ s) < 2 ^ 127
  pub times_whole : (p q a : ℤ) (k : ℕ) → IsFractionInRange p q → IsSurdInRange a k → unsigned_abs (a *ℤ q) < 2 ^ 127
  pub offset : (p q a : ℤ) (k : ℕ) → IsFractionInRange p q → IsSurdInRange a k → unsigned_abs (p -ℤ (a *ℤ q)) < 5 * 2 ^ 61
  pub beside_root : (p q a : ℤ) (k : ℕ) → IsFractionInRange p q → IsSurdInRange a k → unsigned_abs (squared (p -ℤ (a *ℤ q))) < 2 ^ 127
  pub root : (p q a : ℤ) (k : ℕ) → IsFractionInRange p q → IsSurdInRange a k → unsigned_abs (pos k *ℤ squared q) < 2 ^ 127
  pub beside_both : (a b : ℤ) (k l : ℕ) → IsSurdInRange a k → IsSurdInRange b l → unsigned_abs (squared (pos k -ℤ pos (distance_squared a b + l))) < 2 ^ 127
  pub under_one : (a b : ℤ) (k l : ℕ) → IsSurdInRange a k → IsSurdInRange b l → 4 * (distance_squared a b * l) < 2 ^ 127
  pub beside_sum : (a b : ℤ) (k l : ℕ) → IsSurdInRange a k → IsSurdInRange b l → unsigned_abs (squared (pos (distance_squared a b) -ℤ pos (k + l))) < 2 ^ 127
  pub under_both : (a b : ℤ) (k l : ℕ) → IsSurdInRange a k → IsSurdInRange b l → 4 * (k * l) < 2 ^ 127

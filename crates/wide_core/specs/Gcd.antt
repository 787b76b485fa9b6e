-- The greatest common divisor by Euclid's algorithm.
use Rattle.std.specs.Prelude.{ℕ, zero, suc, ◌%◌}

-- within a bound on the number of divisions
abbrev pub gcd_within : ℕ → ℕ → ℕ → ℕ
gcd_within zero a b = a
gcd_within (suc bound) a zero = a
gcd_within (suc bound) a (suc b) = gcd_within bound (suc b) (a % suc b)

-- the greatest common divisor, by divisions with remainder; b falls at each, so b of them are enough
abbrev pub gcd_of : ℕ → ℕ → ℕ
gcd_of a b = gcd_within b a b

-- The square root of a whole number, rounded down.
use Rattle.std.specs.Prelude.{ℕ, zero, suc, ◌+◌, ◌*◌, ◌/◌, cond, nat_lt}

-- the root is r or r + 1
abbrev pub root_from : ℕ → ℕ → ℕ
root_from r n = cond (nat_lt n ((r + 1) * (r + 1))) r (r + 1)

-- digit by digit in base 4, within a bound on the number of digits
abbrev pub root_within : ℕ → ℕ → ℕ
root_within zero n = 0
root_within (suc bound) zero = 0
root_within (suc bound) (suc n) = root_from (2 * root_within bound (suc n / 4)) (suc n)

-- the square root of a number, rounded down, digit by digit in base 4
abbrev pub root_of : ℕ → ℕ
root_of n = root_within n n

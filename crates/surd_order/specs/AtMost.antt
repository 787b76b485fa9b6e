-- Which fractions are at most a position.
use Rattle.std.specs.Prelude.{◌⊎◌, ℤ, pos, ◌*ℤ◌, ◌-ℤ◌, ◌≤ℤ◌, true, false}
use Rattle.surd_order.specs.declared.position.Pos.{Pos}
use Rattle.surd_order.specs.declared.position.Pos.TheVariants.{Frac, Surd}

-- m is at most √n
abbrev pub IsAtMostRoot : ℤ → ℤ → Type 0
IsAtMostRoot m n = (m ≤ℤ pos 0) ⊎ ((m *ℤ m) ≤ℤ n)

-- m is at least √n
abbrev pub IsAtLeastRoot : ℤ → ℤ → Type 0
IsAtLeastRoot m n = (pos 0 ≤ℤ m) × (n ≤ℤ (m *ℤ m))

-- the fraction p / q, with q > 0, is at most the position: for a + √k this is (p - a q) / q at most √k, and for a - √k it is
-- (a q - p) / q at least √k
abbrev pub AtMost : ℤ → ℤ → Pos → Type 0
AtMost p q (Frac r s) = (p *ℤ s) ≤ℤ (r *ℤ q)
AtMost p q (Surd a true k) = IsAtMostRoot (p -ℤ (a *ℤ q)) (pos k *ℤ (q *ℤ q))
AtMost p q (Surd a false k) = IsAtLeastRoot ((a *ℤ q) -ℤ p) (pos k *ℤ (q *ℤ q))

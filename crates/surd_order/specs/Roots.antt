-- A whole number beside a square root.
use Rattle.std.specs.Prelude.{◌≡◌, ◌⊎◌, ℤ, pos, ◌*ℤ◌, ◌≤ℤ◌, ◌<ℤ◌}
use Rattle.std.specs.Ordering.{MatchOrdering}
use Rattle.std.specs.declared.cmp.Ordering.{Ordering}

-- m is below √n
abbrev pub IsBelowRoot : ℤ → ℤ → Type 0
IsBelowRoot m n = (m <ℤ pos 0) ⊎ ((m *ℤ m) <ℤ n)

-- m is √n
abbrev pub IsRoot : ℤ → ℤ → Type 0
IsRoot m n = (pos 0 ≤ℤ m) × (m *ℤ m ≡ n)

-- m is above √n
abbrev pub IsAboveRoot : ℤ → ℤ → Type 0
IsAboveRoot m n = (pos 0 ≤ℤ m) × (n <ℤ (m *ℤ m))

-- the answer says how m stands to √n
abbrev pub IsRootOrder : Ordering → ℤ → ℤ → Type 0
IsRootOrder answer m n = MatchOrdering answer (IsBelowRoot m n) (IsRoot m n) (IsAboveRoot m n)

-- Parts of a 4 by 4 matrix that is given row by row.
use Rattle.std.specs.Prelude.{◌≡◌, ℕ, ◌+◌, ℤ, pos, List, slice_index_or}
use Rattle.lattice_core.specs.declared.vector.V3.{V3}

abbrev pub number_at : List ℤ → ℕ → ℤ
number_at m i = slice_index_or m i (pos 0)

abbrev pub numbers_at : List ℤ → ℕ → V3
numbers_at m i = record { x = number_at m i; y = number_at m (i + 1); z = number_at m (i + 2) }

abbrev pub fourth_column : List ℤ → V3
fourth_column m = record { x = number_at m 3; y = number_at m 7; z = number_at m 11 }

-- 0 0 0 1
pub record HasLastRow (m : List ℤ) : Type 0 where
  pub first : number_at m 12 ≡ pos 0
  pub second : number_at m 13 ≡ pos 0
  pub third : number_at m 14 ≡ pos 0
  pub fourth : number_at m 15 ≡ pos 1

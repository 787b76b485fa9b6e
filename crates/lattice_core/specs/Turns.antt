-- The 48 turns, the signed permutations of the axes, by their numbers. Turn 8 p + s has the permutation p of the
-- columns and the signs s of the rows.
use Rattle.std.specs.Prelude.{ℕ, ◌-◌, ◌/◌, ◌%◌, ◌^◌, ℤ, pos, negsuc, Bool, cond, ◌==◌, List, [], ◌∷◌, slice_index, slice_index_or}
use Rattle.lattice_core.specs.declared.vector.V3.{V3}
use Rattle.lattice_core.specs.Vectors.{dot_product}

-- for each permutation, the columns of the one entry of the rows 1, 2 and 3
abbrev pub permutations : List (List ℕ)
permutations =
    (1 ∷ 2 ∷ 3 ∷ []) ∷ (1 ∷ 3 ∷ 2 ∷ []) ∷ (2 ∷ 1 ∷ 3 ∷ [])
    ∷ (2 ∷ 3 ∷ 1 ∷ []) ∷ (3 ∷ 1 ∷ 2 ∷ []) ∷ (3 ∷ 2 ∷ 1 ∷ []) ∷ []

-- the column of the one entry of a row, rows and columns being counted from 1
abbrev pub column_in : ℕ → ℕ → ℕ
column_in permutation row = slice_index (slice_index_or permutations permutation []) (row - 1)

-- whether the entry is -1: bit row - 1 of the signs, counted from the lowest
abbrev pub is_negated_in : ℕ → ℕ → Bool
is_negated_in signs row = signs / 2 ^ (row - 1) % 2 == 1

abbrev pub column_of : ℕ → ℕ → ℕ
column_of turn row = column_in (turn / 8) row

abbrev pub is_negated : ℕ → ℕ → Bool
is_negated turn row = is_negated_in (turn % 8) row

-- the entry in a row and a column
abbrev pub entry_of : ℕ → ℕ → ℕ → ℤ
entry_of turn row column =
    cond (column_of turn row == column) (cond (is_negated turn row) (negsuc 0) (pos 1)) (pos 0)

abbrev pub row_of : ℕ → ℕ → V3
row_of turn row = record { x = entry_of turn row 1; y = entry_of turn row 2; z = entry_of turn row 3 }

-- the vector that a turn makes of one: the matrix times the vector
abbrev pub turned : ℕ → V3 → V3
turned turn v = record {
  x = dot_product (row_of turn 1) v;
  y = dot_product (row_of turn 2) v;
  z = dot_product (row_of turn 3) v;
}

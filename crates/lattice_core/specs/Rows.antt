-- A row of a turn as the column of its one entry and whether that entry is -1.
use Rattle.std.specs.Prelude.{ℕ, ℤ, pos, negsuc, ◌≡◌, ◌≢◌, ◌≤◌, Bool, true, false, not, cond, ◌==◌}
use Rattle.std.proofs.Math.IntN.{neg_ℤ}
use Rattle.lattice_core.specs.declared.vector.V3.{V3}
use Rattle.lattice_core.specs.declared.row.Row.{Row}
use Rattle.lattice_core.specs.Turns.{column_of, is_negated, row_of}

-- the component of a column
abbrev pub picked : ℕ → V3 → ℤ
picked column v = cond (column == 1) v.x (cond (column == 2) v.y v.z)

abbrev pub signed_by : Bool → ℤ → ℤ
signed_by negated z = cond negated (neg_ℤ z) z

-- the row times a vector
abbrev pub row_times : Row → V3 → ℤ
row_times row v = signed_by row.negated (picked row.column v)

-- a row or a column, counted from 1
abbrev pub IsPlace : ℕ → Type 0
IsPlace n = (1 ≤ n) × (n ≤ 3)

-- three columns, each of another place
pub record AreColumns (first second third : ℕ) : Type 0 where
  pub first_in : IsPlace first
  pub second_in : IsPlace second
  pub third_in : IsPlace third
  pub second_new : second ≢ first
  pub third_new : third ≢ first
  pub third_newer : third ≢ second

-- the row of a turn
pub record IsRowOf (turn place : ℕ) (row : Row) : Type 0 where
  pub column : column_of turn place ≡ row.column
  pub negated : is_negated turn place ≡ row.negated

-- the entry in a column of a row
abbrev pub row_entry : Row → ℕ → ℤ
row_entry row column = cond (row.column == column) (cond row.negated (negsuc 0) (pos 1)) (pos 0)

abbrev pub row_vector : Row → V3
row_vector row = record { x = row_entry row 1; y = row_entry row 2; z = row_entry row 3 }

-- exactly one of two is true
abbrev pub differ : Bool → Bool → Bool
differ true b = not b
differ false b = b

-- the row of a product of turns
pub record IsRowAfter (upper lower place : ℕ) (row : Row) : Type 0 where
  pub column : column_of lower (column_of upper place) ≡ row.column
  pub negated : differ (is_negated upper place) (is_negated lower (column_of upper place)) ≡ row.negated

-- the rows are those of a turn
pub record HasEntries (first second third : V3) (turn : ℕ) : Type 0 where
  pub first_row : first ≡ row_of turn 1
  pub second_row : second ≡ row_of turn 2
  pub third_row : third ≡ row_of turn 3

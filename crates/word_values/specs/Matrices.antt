-- The placement that sixteen numbers are the matrix of, given row by row.
use Rattle.std.specs.Prelude.{◌≡◌, ◌+◌, ◌==◌, ◌&&◌, ℕ, ℤ, pos, Bool, true, false, refl, nat_lt, nat_le, List, length, find, Option, Some, None, if◌then◌else◌}
use Rattle.std.specs.List.{range_with_len}
use Rattle.std.specs.Option.{option_map}
use Rattle.std.specs.Ordering.{int_eq}
use Rattle.std.specs.Int.RustNames.{unsigned_abs}
use Rattle.std.proofs.lemmas.Bool.{ltb-true}
use Rattle.lattice_core.specs.Matrices.{number_at, fourth_column}
use Rattle.lattice_core.specs.Limits.{IsWithin}
use Rattle.lattice_core.specs.Placements.{matrix_of}
use Rattle.lattice_core.specs.declared.limit.TheConstants.{COORD}
use Rattle.lattice_core.specs.Turns.{entry_of}
use Rattle.lattice_core.specs.Vectors.{zero_vector}
use Rattle.lattice_core.specs.declared.vector.V3.{V3}
use Rattle.lattice_core.specs.declared.turn.Turn.{Turn}
use Rattle.lattice_core.specs.declared.placement.Placement.{Placement}
use Rattle.word_values.specs.Atoms.{all_numbers}

-- the placement that moves nothing
abbrev pub identity : Placement
identity = record { turn = record { number = 0; in_range = ltb-true 0 48 refl }; shift = zero_vector }

-- the three numbers from a place on are a row of a turn
abbrev pub has_row : List ℤ → ℕ → ℕ → ℕ → Bool
has_row numbers place turn row =
    int_eq (number_at numbers place) (entry_of turn row 1) && int_eq (number_at numbers (place + 1)) (entry_of turn row 2) && int_eq (number_at numbers (place + 2)) (entry_of turn row 3)

abbrev pub has_rows : List ℤ → ℕ → Bool
has_rows numbers turn = has_row numbers 0 turn 1 && has_row numbers 4 turn 2 && has_row numbers 8 turn 3

-- 0 0 0 1
abbrev pub has_last_row : List ℤ → Bool
has_last_row numbers =
    int_eq (number_at numbers 12) (pos 0) && int_eq (number_at numbers 13) (pos 0) && int_eq (number_at numbers 14) (pos 0) && int_eq (number_at numbers 15) (pos 1)

-- the number of the turn with these rows, one of 48
abbrev pub turn_number : List ℤ → Option ℕ
turn_number numbers = find (has_rows numbers) (range_with_len 0 48)

abbrev pub turn_if : (number : ℕ) (within : Bool) → nat_lt number 48 ≡ within → Option Turn
turn_if number true small = Some (record { number = number; in_range = ltb-true number 48 small })
turn_if number false large = None

abbrev pub turn_numbered : Option ℕ → Option Turn
turn_numbered None = None
turn_numbered (Some number) = turn_if number (nat_lt number 48) refl

abbrev pub is_near_number : ℤ → Bool
is_near_number c = nat_le (unsigned_abs c) (unsigned_abs COORD)

-- a shift that is not too far
abbrev pub is_near : V3 → Bool
is_near shift = is_near_number shift.x && is_near_number shift.y && is_near_number shift.z

-- a turn, followed by the shift in the fourth column
abbrev pub placement_by : V3 → Turn → Placement
placement_by shift turn = record { turn = turn; shift = shift }

-- the placement that sixteen numbers are, if they are one within the limits
abbrev pub placement_in : List ℤ → Option Placement
placement_in numbers =
    if has_last_row numbers && is_near (fourth_column numbers) then option_map (placement_by (fourth_column numbers)) (turn_numbered (turn_number numbers)) else None

-- the numbers are the matrix of a placement whose shift is not too far
abbrev pub IsNearMatrix : List ℤ → Type 0
IsNearMatrix numbers = (p : Placement) × (numbers ≡ matrix_of p) × IsWithin COORD p.shift

abbrev pub placement_of_all : Option (List ℤ) → Option Placement
placement_of_all None = None
placement_of_all (Some numbers) = if length numbers == 16 then placement_in numbers else None

-- the placement that numbers are the matrix of, where they are all there and its shift is not too far
abbrev pub placement_read : List (Option ℤ) → Option Placement
placement_read numbers = placement_of_all (all_numbers numbers)

-- Which numbers stand in a list: whole numbers or lengths, and how large each may be.
use Rattle.std.specs.Prelude.{ℕ, ℤ, pos, ◌≤◌, ◌<◌, ◌==◌, ◌+◌, ◌||◌, nat_lt, List, [], ◌∷◌, Option, length, slice_index_or, if◌then◌else◌}
use Rattle.std.specs.Int.RustNames.{unsigned_abs}
use Rattle.lattice_core.specs.declared.limit.TheConstants.{COORD, HALF_NORMAL, VIEW_NUMBER}
use Rattle.tcl_words.specs.Numbers.{number_of, tenths_of}
use Rattle.word_values.specs.Atoms.{kept_to}
use Rattle.word_values.specs.declared.atoms.NumberKind.{NumberKind}
use Rattle.word_values.specs.declared.atoms.NumberKind.TheVariants.{Whole, Length}
use Rattle.word_values.specs.declared.atoms.NumberList.{NumberList}
use Rattle.word_values.specs.declared.atoms.NumberList.TheVariants as lists
use Rattle.word_values.specs.declared.atoms.TheConstants.{WHOLE_NUMBER}
use Rattle.word_values.specs.declared.solid.SolidKind.{SolidKind}
use Rattle.word_values.specs.declared.solid.SolidKind.TheVariants as solids

-- an atom as a number of a kind: a whole number, or a length in tenths of a millimetre
abbrev pub number_as : NumberKind → List ℕ → Option ℤ
number_as (Whole most) atom = kept_to most (number_of atom)
number_as (Length most) atom = kept_to most (tenths_of atom)

-- the greatest size of a number of a kind
abbrev pub most_of : NumberKind → ℕ
most_of (Whole most) = most
most_of (Length most) = most

-- a coordinate, a radius, or the distance of a half-space
abbrev pub coordinate_kind : NumberKind
coordinate_kind = Length (unsigned_abs COORD)

-- a component of a half-space's normal
abbrev pub normal_kind : NumberKind
normal_kind = Whole (unsigned_abs HALF_NORMAL)

-- a coordinate of a ray's origin or of a view's corner, a view's cell, or a component of a matrix's shift
abbrev pub point_kind : NumberKind
point_kind = Length (unsigned_abs VIEW_NUMBER)

-- any other number
abbrev pub plain_kind : NumberKind
plain_kind = Whole WHOLE_NUMBER

-- a half-space has three numbers of its normal and then its distance
abbrev pub solid_kind_at : SolidKind → ℕ → NumberKind
solid_kind_at solids.Half place = if nat_lt place 3 then normal_kind else coordinate_kind
solid_kind_at solids.Rpp place = coordinate_kind
solid_kind_at solids.Arb8 place = coordinate_kind
solid_kind_at solids.Sphere place = coordinate_kind
solid_kind_at solids.Rcc place = coordinate_kind

-- the kind of the number at a place, counted from 0; the shift of a matrix is its fourth column
abbrev pub kind_at : NumberList → ℕ → NumberKind
kind_at (lists.Solid kind) place = solid_kind_at kind place
kind_at lists.Point place = point_kind
kind_at lists.Matrix place = if place == 3 || place == 7 || place == 11 then point_kind else plain_kind

abbrev pub numbers_from : NumberList → ℕ → List (List ℕ) → List (Option ℤ)
numbers_from list place [] = []
numbers_from list place (atom ∷ atoms) = number_as (kind_at list place) atom ∷ numbers_from list (place + 1) atoms

-- atoms as the numbers of a list
abbrev pub numbers_as : NumberList → List (List ℕ) → List (Option ℤ)
numbers_as list atoms = numbers_from list 0 atoms

-- each number is at most as large as its place allows
abbrev pub AllWithinKinds : NumberList → List ℤ → Type 0
AllWithinKinds list numbers = (k : ℕ) → k < length numbers → unsigned_abs (slice_index_or numbers k (pos 0)) ≤ most_of (kind_at list k)

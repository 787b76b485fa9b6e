-- Solids that are put: their keys, their numbers, and the first fault of these.
use Rattle.std.specs.Prelude.{ℕ, ℤ, pos, Bool, true, false, not, ◌&&◌, ◌==◌, List, [], ◌∷◌, ◌++◌, length, map, Option, None, Some, is_some, codes, find, if◌then◌else◌}
use Rattle.std.specs.List.{list_all, slice_index_or}
use Rattle.std.specs.Option.{option_map}
use Rattle.std.specs.Ordering.{int_eq}
use Rattle.tcl_words.specs.TopWords.{atom_of}
use Rattle.tcl_words.specs.declared.token.Token.{Token}
use Rattle.tcl_words.specs.declared.token.Word.{Word}
use Rattle.word_values.specs.Atoms.{words_in}
use Rattle.word_values.specs.Kinds.{number_as}
use Rattle.word_values.specs.SolidForms.{Key, keys_of, key_in, vector_key}
use Rattle.word_values.specs.declared.solid_form.SolidForm.{SolidForm}
use Rattle.word_values.specs.declared.solid_form.SolidForm.TheVariants.{Sphere, Ellipsoid, Half, Arb8, Rcc}
use Rattle.put_form.specs.Pairs.{Pair, pair_of, is_key}

abbrev pub nth_number : List (Option ℤ) → ℕ → Option ℤ
nth_number numbers i = slice_index_or numbers i None

-- a list of so many
abbrev pub of_count : ℕ → Option (List (List ℕ)) → Option (List (List ℕ))
of_count count None = None
of_count count (Some atoms) = if length atoms == count then Some atoms else None

abbrev pub single : Option (List ℕ) → Option (List (List ℕ))
single None = None
single (Some atom) = Some (atom ∷ [])

-- the atoms of a value: one, or the three of a group
abbrev pub value_atoms : List ℕ → List Token → ℕ → Word → Option (List (List ℕ))
value_atoms text tokens count value = if count == 1 then single (atom_of text tokens value) else of_count count (words_in text tokens value)

-- its numbers by its key, each of which may be none
abbrev pub value_numbers : List ℕ → List Token → Key → Word → Option (List (Option ℤ))
value_numbers text tokens key value = option_map (λ atoms. map (number_as key.kind) atoms) (value_atoms text tokens key.count value)

abbrev pub numbers_at : List ℕ → List Token → Key → Option Pair → Option (List (Option ℤ))
numbers_at text tokens key None = None
numbers_at text tokens key (Some p) = value_numbers text tokens key p.value

-- the numbers of a key, none where it is missing or its value is not in its form
abbrev pub key_numbers : List ℕ → List Token → List Pair → Key → Option (List (Option ℤ))
key_numbers text tokens pairs key = numbers_at text tokens key (pair_of key.name pairs)

abbrev pub appended : Option (List (Option ℤ)) → Option (List (Option ℤ)) → Option (List (Option ℤ))
appended None rest = None
appended (Some first) None = None
appended (Some first) (Some rest) = Some (first ++ rest)

-- the numbers of all keys, in the order of the keys
abbrev pub all_numbers : List ℕ → List Token → List Pair → List Key → Option (List (Option ℤ))
all_numbers text tokens pairs [] = Some []
all_numbers text tokens pairs (key ∷ keys) = appended (key_numbers text tokens pairs key) (all_numbers text tokens pairs keys)

-- Each key is given once, and no other: there are as many pairs as keys, and each key is among them.
-- And each value is in its form.
abbrev pub numbers_of : List ℕ → List Token → SolidForm → List Pair → Option (List (Option ℤ))
numbers_of text tokens form pairs = if length pairs == length (keys_of form) then all_numbers text tokens pairs (keys_of form) else None

abbrev pub or_no_numbers : Option (List (Option ℤ)) → List (Option ℤ)
or_no_numbers None = []
or_no_numbers (Some numbers) = numbers

abbrev pub numbers_by : List ℕ → List Token → Word → Option Key → List (Option ℤ)
numbers_by text tokens value None = []
numbers_by text tokens value (Some key) = or_no_numbers (value_numbers text tokens key value)

-- the numbers of a pair, by its own key
abbrev pub pair_numbers : List ℕ → List Token → SolidForm → Pair → List (Option ℤ)
pair_numbers text tokens form p = numbers_by text tokens p.value (key_in (keys_of form) p.key)

abbrev pub is_number : ℤ → Option ℤ → Bool
is_number n None = false
is_number n (Some m) = int_eq n m

-- equal to a number that is there, and anything where there is none
abbrev pub is_radius : Option ℤ → Option ℤ → Bool
is_radius None number = true
is_radius (Some r) number = is_number r number

-- three numbers are the radius on this axis, any number where there is no radius, and 0 on the others
abbrev pub is_along : ℕ → Option ℤ → List (Option ℤ) → Bool
is_along axis r numbers =
    (if axis == 0 then is_radius r (nth_number numbers 0) else is_number (pos 0) (nth_number numbers 0))
    && (if axis == 1 then is_radius r (nth_number numbers 1) else is_number (pos 0) (nth_number numbers 1))
    && (if axis == 2 then is_radius r (nth_number numbers 2) else is_number (pos 0) (nth_number numbers 2))

-- the axis of an ellipsoid that a key stands for
abbrev pub axis_of : Option (List ℕ) → Option ℕ
axis_of key =
    if is_key (codes "A") key then Some 0
    else (if is_key (codes "B") key then Some 1
    else (if is_key (codes "C") key then Some 2 else None))

abbrev pub is_on : Option ℕ → Option ℤ → List (Option ℤ) → Bool
is_on None r numbers = true
is_on (Some axis) r numbers = is_along axis r numbers

-- the radius of an ellipsoid: the first number of A, where it is a number in its range
abbrev pub radius_in : List ℕ → List Token → List Pair → Option ℤ
radius_in text tokens pairs = nth_number (or_no_numbers (key_numbers text tokens pairs (vector_key (codes "A")))) 0

-- An axis of an ellipsoid is as long as A, and lies along x, y or z by its key; where A has no length in its range, it only
-- lies so. Every other value has no axis to look at.
abbrev pub has_axis : SolidForm → Option (List ℕ) → Option ℤ → List (Option ℤ) → Bool
has_axis Sphere key radius numbers = true
has_axis Ellipsoid key radius numbers = is_on (axis_of key) radius numbers
has_axis Half key radius numbers = true
has_axis Arb8 key radius numbers = true
has_axis Rcc key radius numbers = true

-- a value is good where all its numbers are in their range, and an axis where it has its form too
abbrev pub is_good : List ℕ → List Token → SolidForm → List Pair → Pair → Bool
is_good text tokens form pairs p = list_all is_some (pair_numbers text tokens form p) && has_axis form p.key (radius_in text tokens pairs) (pair_numbers text tokens form p)

-- the first pair whose value is not good
abbrev pub bad_pair : List ℕ → List Token → SolidForm → List Pair → Option Pair
bad_pair text tokens form pairs = find (λ p. not (is_good text tokens form pairs p)) pairs

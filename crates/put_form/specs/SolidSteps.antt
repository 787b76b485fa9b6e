-- The words of the code: solids.
use Rattle.std.specs.Prelude.{◌&&◌, ◌==◌, ◌<◌, ◌≤◌, ℕ, ℤ, pos, Bool, List, [], ◌∷◌, length, take, Option, None, Some, unwrap_or, is_some, if◌then◌else◌}
use Rattle.std.specs.Int.RustNames.{unsigned_abs}
use Rattle.std.specs.List.{list_all, slice_index_or}
use Rattle.tcl_words.specs.declared.token.Token.{Token}
use Rattle.word_values.specs.Kinds.{kind_at, most_of}
use Rattle.word_values.specs.Solids.{number_count, solid_made}
use Rattle.word_values.specs.SolidForms.{made_as}
use Rattle.word_values.specs.declared.atoms.NumberKind.{NumberKind}
use Rattle.word_values.specs.declared.atoms.NumberList.{NumberList}
use Rattle.word_values.specs.declared.solid_form.SolidForm.{SolidForm}
use Rattle.put_form.specs.Pairs.{Pair}
use Rattle.put_form.specs.Solids.{nth_number, is_number, is_radius, has_axis, pair_numbers}
use Rattle.put_form.specs.Puts.{Put, unless_fault, name_fault, solid_put}
use Rattle.put_form.specs.Steps.{word_fault}

-- the number of a component is the radius on its own axis, and 0 on another
abbrev pub is_component : ℕ → Option ℤ → List (Option ℤ) → ℕ → Bool
is_component axis r numbers place = if axis == place then is_radius r (nth_number numbers place) else is_number (pos 0) (nth_number numbers place)

-- the numbers of a pair are in their range, and those of an axis in their form
abbrev pub is_good : List ℕ → List Token → SolidForm → Option ℤ → Pair → Bool
is_good text tokens form r p = list_all is_some (pair_numbers text tokens form p) && has_axis form p.key r (pair_numbers text tokens form p)

-- a number, where it is there, is at most as large as its kind allows
abbrev pub IsOfKind : NumberKind → Option ℤ → Type 0
IsOfKind kind None = Unit {0}
IsOfKind kind (Some n) = unsigned_abs n ≤ most_of kind

-- each number of a list, by its place
abbrev pub AreOfKinds : NumberList → List (Option ℤ) → Type 0
AreOfKinds list numbers = (k : ℕ) → k < length numbers → IsOfKind (kind_at list k) (slice_index_or numbers k None)

abbrev pub or_zero : Option ℤ → ℤ
or_zero number = unwrap_or number (pos 0)

-- the solid of these numbers, where no word is bad
abbrev pub named_solid : Option (List ℕ) → SolidForm → List (Option ℤ) → Option ℕ → Put
named_solid name form numbers bad = unless_fault (name_fault name ∷ word_fault bad ∷ []) (solid_put name (solid_made (made_as form) (take (number_count (made_as form)) numbers)))

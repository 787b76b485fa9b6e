-- Lines of words that are parted by single blanks.
use Rattle.std.specs.Prelude.{◌≡◌, ◌<◌, ℕ, ℤ, pos, true, false, List, ◌∷◌, [], ◌++◌, Some, map, flat_map, length, codes}
use Rattle.std.specs.List.{AllByRecursion}
use Rattle.lattice_core.specs.declared.ray.Dir.{Dir}
use Rattle.lattice_core.specs.declared.ray.Dir.TheVariants.{PlusX, MinusX, PlusY, MinusY, PlusZ, MinusZ}
use Rattle.lattice_core.specs.declared.view.View.{View}
use Rattle.slant_ray.specs.declared.ray.SlantRay.{SlantRay}
use Rattle.name_core.specs.NameText.{IsName}
use Rattle.tcl_words.specs.Bytes.{is_atom}
use Rattle.tcl_words.specs.Faults.{is_bad_at}
use Rattle.word_values.specs.Kinds.{number_as, numbers_as, plain_kind, point_kind}
use Rattle.word_values.specs.declared.atoms.NumberList.{NumberList}
use Rattle.word_values.specs.declared.atoms.NumberList.TheVariants as lists
use Rattle.tree_forms.specs.declared.Op.{Op}
use Rattle.tree_forms.specs.declared.Op.TheVariants.{U, N, Minus, X}
use Rattle.comb_tree.specs.declared.node.ListEntry.{ListEntry}
use Rattle.mged_words.specs.Commands.{entry_of}

-- each of the words is a name
abbrev pub AreNames : List (List ℕ) → Type 0
AreNames names = AllByRecursion IsName names

-- a word, and others behind it
abbrev pub line_of : List ℕ → List (List ℕ) → List ℕ
line_of word others = word ++ flat_map (λ (other : List ℕ). 32 ∷ other) others

abbrev pub operator_word : Op → List ℕ
operator_word U = codes "u"
operator_word N = codes "+"
operator_word Minus = codes "-"
operator_word X = codes "^"

-- a new member of a list, by its operator and its name
abbrev pub Member : Type 0
Member = Op × List ℕ

abbrev pub HasMemberName : Member → Type 0
HasMemberName m = IsName m.1

-- each member's name is one
abbrev pub AreMembers : List Member → Type 0
AreMembers members = AllByRecursion HasMemberName members

-- the words of a list: each member's operator and name
abbrev pub member_words : List Member → List (List ℕ)
member_words members = flat_map (λ (m : Member). operator_word m.0 ∷ m.1 ∷ []) members

-- a member as a new entry of a list, where it stands
abbrev pub new_entry : Member → ListEntry
new_entry m = entry_of m.0 m.1

-- the word of a direction
abbrev pub direction_word : Dir → List ℕ
direction_word PlusX = codes "+x"
direction_word MinusX = codes "-x"
direction_word PlusY = codes "+y"
direction_word MinusY = codes "-y"
direction_word PlusZ = codes "+z"
direction_word MinusZ = codes "-z"

-- a byte of an atom outside all groups
abbrev pub IsAtomByte : ℕ → Type 0
IsAtomByte b = (is_atom b ≡ true) × (is_bad_at b 0 ≡ false)

-- a word that is an atom
pub record IsAtom (word : List ℕ) : Type 0 where
  pub some : 0 < length word
  pub bytes : AllByRecursion IsAtomByte word

-- words that are read as these numbers, each by its place in a list
abbrev pub AreNumbers : NumberList → List (List ℕ) → List ℤ → Type 0
AreNumbers list words numbers = numbers_as list words ≡ map (λ (n : ℤ). Some n) numbers

-- words that are read as the numbers of a view: `X Y Z` of its corner, and then `CELL W H`
pub record AreViewNumbers (x y z cell w h : List ℕ) (view : View) : Type 0 where
  pub read_corner : AreNumbers lists.Point (x ∷ y ∷ z ∷ []) (view.corner.x ∷ view.corner.y ∷ view.corner.z ∷ [])
  pub read_cell : number_as point_kind cell ≡ Some view.cell
  pub read_columns : number_as plain_kind w ≡ Some (pos view.w)
  pub read_rows : number_as plain_kind h ≡ Some (pos view.h)

-- words that are read as the numbers of a ray in a lattice direction: `X Y Z` of its origin, and then `DX DY DZ`
pub record AreSlantNumbers (x y z dx dy dz : List ℕ) (ray : SlantRay) : Type 0 where
  pub read_origin : AreNumbers lists.Point (x ∷ y ∷ z ∷ []) (ray.origin.x ∷ ray.origin.y ∷ ray.origin.z ∷ [])
  pub read_x : number_as plain_kind dx ≡ Some ray.x
  pub read_y : number_as plain_kind dy ≡ Some ray.y
  pub read_z : number_as plain_kind dz ≡ Some ray.z

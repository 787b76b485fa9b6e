-- The words of a line that are to be names, those that are to be numbers, its ray or its view, and its solid. A line that has
-- the form of a command is told of the first of them that is none, in this order: a number only where all names are names, a ray
-- or a view only where all numbers are in their ranges too, and a solid last.
use Rattle.std.specs.Prelude.{◌≡◌, ◌⊎◌, ℕ, ℤ, Bool, ◌+◌, ◌-◌, ◌++◌, List, [], ◌∷◌, Option, Some, None, Result, Ok, Err, is_ok, is_some, map, take, codes, bytes_eq, if◌then◌else◌}
use Rattle.std.specs.List.{slice_range}
use Rattle.std.specs.Option.{option_map}
use Rattle.name_core.specs.NameText.{read_name}
use Rattle.tcl_words.specs.Reading.{words_of}
use Rattle.tcl_words.specs.TopWords.{top_words, atom_of}
use Rattle.tcl_words.specs.declared.fault.WordFault.{WordFault}
use Rattle.tcl_words.specs.declared.token.Token.{Token}
use Rattle.tcl_words.specs.declared.token.Word.{Word}
use Rattle.lattice_core.specs.declared.ray.Dir.{Dir}
use Rattle.lattice_core.specs.declared.vector.V3.{V3}
use Rattle.lattice_core.specs.Views.{view_fault}
use Rattle.plane_geom.specs.declared.fault.ShapeFault.{ShapeFault}
use Rattle.solid_set.specs.declared.solid.Solid.{Solid}
use Rattle.region_attr.specs.Attrs.{is_setting}
use Rattle.word_values.specs.Atoms.{atoms_in, value_of}
use Rattle.word_values.specs.Kinds.{numbers_as}
use Rattle.word_values.specs.declared.atoms.NumberList.TheVariants as lists
use Rattle.word_values.specs.Groups.{words_of_tokens}
use Rattle.word_values.specs.Matrices.{placement_read}
use Rattle.word_values.specs.Solids.{kind_of, number_count, solid_made, vector_at}
use Rattle.word_values.specs.SolidForms.{made_as}
use Rattle.word_values.specs.Trees.{Given, given_leaves, tree_in as tree_spelled}
use Rattle.word_values.specs.declared.solid.SolidKind.{SolidKind}
use Rattle.word_values.specs.declared.solid_form.SolidForm.{SolidForm}
use Rattle.tree_forms.specs.Trees.{Tree}
use Rattle.put_form.specs.Combs as combs
use Rattle.put_form.specs.Combs.{tree_pair}
use Rattle.put_form.specs.Keeps.{key_text}
use Rattle.put_form.specs.Pairs.{Pair, pairs_of}
use Rattle.put_form.specs.Puts.{kind_named}
use Rattle.put_form.specs.Solids as solids
use Rattle.put_form.specs.declared.kind.Kind.{Kind}
use Rattle.put_form.specs.declared.kind.Kind.TheVariants as kinds
use Rattle.command_set.specs.declared.command.Command.{Command}
use Rattle.command_set.specs.declared.command.Command.TheVariants.{Bad}
use Rattle.command_set.specs.declared.refusal.Refusal.{Refusal}
use Rattle.command_set.specs.declared.refusal.Refusal.TheVariants.{Syntax, Name, Number, View, Shape}
use Rattle.lattice_core.specs.declared.view.ViewFault.{ViewFault}
use Rattle.lattice_core.specs.declared.view.ViewFault.TheVariants.{World}
use Rattle.slant_ray.specs.Rays.{is_from_world, slant_fault}
use Rattle.mged_words.specs.Commands.{direction_of, matrix_step, matrix_words, slant_by, slant_numbers, view_numbers, view_of}

-- words with their numbers, which are counted from one on by steps
abbrev pub numbered : ℕ → ℕ → List (List ℕ) → List (ℕ × List ℕ)
numbered word step [] = []
numbered word step (atom ∷ rest) = (word, atom) ∷ numbered (word + step) step rest

-- words that were read as numbers, and whether each is one in its range
abbrev pub ranged : ℕ → ℕ → List (Option ℤ) → List (ℕ × Bool)
ranged word step [] = []
ranged word step (number ∷ rest) = (word, is_some number) ∷ ranged (word + step) step rest

-- What is looked at in a line that has the form of a command.
pub record Wanted : Type 0 where
  -- the words that are to be names, with their numbers
  pub names : List (ℕ × List ℕ)
  -- the words that are or hold numbers or the value of an attribute, and whether these are in their ranges
  pub numbers : List (ℕ × Bool)
  -- why its ray or its view is refused
  pub view : Option ViewFault
  -- why its solid is refused
  pub shape : Option ShapeFault

abbrev pub names_alone : List (ℕ × List ℕ) → Wanted
names_alone names = record { names = names; numbers = []; view = None; shape = None }

abbrev pub nothing : Wanted
nothing = names_alone []

-- the first word, the third, and so on
abbrev pub every_second : List (List ℕ) → List (List ℕ)
every_second [] = []
every_second (a ∷ []) = a ∷ []
every_second (a ∷ b ∷ rest) = a ∷ every_second rest

-- a word of this number, where it is an atom
abbrev pub name_at : ℕ → Option (List ℕ) → List (ℕ × List ℕ)
name_at word None = []
name_at word (Some atom) = (word, atom) ∷ []

abbrev pub shape_fault : Result Solid ShapeFault → Option ShapeFault
shape_fault (Ok solid) = None
shape_fault (Err fault) = Some fault

abbrev pub made_wanted : List ℕ → SolidKind → List (Option ℤ) → Wanted
made_wanted name kind numbers = record { names = numbered 2 1 (name ∷ []); numbers = ranged 4 1 numbers; view = None; shape = shape_fault (solid_made kind numbers) }

abbrev pub solid_wanted : List ℕ → Option SolidKind → List (List ℕ) → Wanted
solid_wanted name None atoms = nothing
solid_wanted name (Some kind) atoms = made_wanted name kind (numbers_as (lists.Solid kind) atoms)

-- `in NAME KIND` and numbers
abbrev pub in_wanted : List (List ℕ) → Wanted
in_wanted (name ∷ kind ∷ atoms) = solid_wanted name (kind_of kind) atoms
in_wanted _ = nothing

-- a ray starts in the world
abbrev pub origin_fault : V3 → Option ViewFault
origin_fault origin = if is_from_world origin then None else Some World

abbrev pub shot_wanted : List (Option ℤ) → List (List ℕ) → Wanted
shot_wanted numbers names = record { names = numbered 6 1 names; numbers = ranged 2 1 numbers; view = origin_fault (vector_at numbers 0); shape = None }

-- `nirt X Y Z DIR NAME ..`
abbrev pub nirt_wanted : List (List ℕ) → Wanted
nirt_wanted (x ∷ y ∷ z ∷ dir ∷ names) = shot_wanted (numbers_as lists.Point (x ∷ y ∷ z ∷ [])) names
nirt_wanted _ = nothing

abbrev pub slant_wanted : List (Option ℤ) → List (List ℕ) → Wanted
slant_wanted numbers names = record { names = numbered 8 1 names; numbers = ranged 2 1 numbers; view = slant_fault (slant_by numbers); shape = None }

-- `nirtd X Y Z DX DY DZ NAME ..`
abbrev pub nirtd_wanted : List (List ℕ) → Wanted
nirtd_wanted (x ∷ y ∷ z ∷ dx ∷ dy ∷ dz ∷ names) = slant_wanted (slant_numbers (x ∷ y ∷ z ∷ []) (dx ∷ dy ∷ dz ∷ [])) names
nirtd_wanted _ = nothing

-- the names of a line and the numbers of its view, of which the first has this word
abbrev pub view_wanted : ℕ → List (ℕ × List ℕ) → Option Dir → List (Option ℤ) → Wanted
view_wanted word names None numbers = nothing
view_wanted word names (Some dir) numbers = record { names = names; numbers = ranged word 1 numbers; view = view_fault (view_of dir numbers); shape = None }

-- `rt FILE DIR X Y Z CELL W H NAME ..`, and the same of `rtedge`
abbrev pub rt_wanted : List (List ℕ) → Wanted
rt_wanted (file ∷ dir ∷ x ∷ y ∷ z ∷ cell ∷ w ∷ h ∷ names) =
    view_wanted 4 ((2, file) ∷ numbered 10 1 names) (direction_of dir) (view_numbers (x ∷ y ∷ z ∷ []) (cell ∷ w ∷ h ∷ []))
rt_wanted _ = nothing

-- `rtcheck DIR X Y Z CELL W H NAME ..`, and the same of `rtarea`
abbrev pub rtcheck_wanted : List (List ℕ) → Wanted
rtcheck_wanted (dir ∷ x ∷ y ∷ z ∷ cell ∷ w ∷ h ∷ names) = view_wanted 3 (numbered 9 1 names) (direction_of dir) (view_numbers (x ∷ y ∷ z ∷ []) (cell ∷ w ∷ h ∷ []))
rtcheck_wanted _ = nothing

-- behind the word of a command whose words are all atoms: those above, `r NAME OP MEMBER ..`, or names alone
abbrev pub wanted_behind : List ℕ → List (List ℕ) → Wanted
wanted_behind word atoms =
    if bytes_eq word (codes "in") then in_wanted atoms
    else (if bytes_eq word (codes "nirt") then nirt_wanted atoms
    else (if bytes_eq word (codes "nirtd") then nirtd_wanted atoms
    else (if bytes_eq word (codes "rt") then rt_wanted atoms
    else (if bytes_eq word (codes "rtcheck") then rtcheck_wanted atoms
    else (if bytes_eq word (codes "rtarea") then rtcheck_wanted atoms
    else (if bytes_eq word (codes "rtedge") then rt_wanted atoms
    else (if bytes_eq word (codes "r") then names_alone (numbered 2 2 (every_second atoms)) else names_alone (numbered 2 1 atoms))))))))

abbrev pub wanted_of_atoms : List ℕ → Option (List (List ℕ)) → Wanted
wanted_of_atoms word None = nothing
wanted_of_atoms word (Some atoms) = wanted_behind word atoms

-- The numbers of a matrix, and then whether it is that of a placement that is not too far: this is asked of its first word.
abbrev pub matrix_numbers : ℕ → Option (List (List ℕ)) → List (ℕ × Bool)
matrix_numbers step None = []
matrix_numbers step (Some atoms) = ranged 4 step (numbers_as lists.Matrix atoms) ++ (4, is_some (placement_read (numbers_as lists.Matrix atoms))) ∷ []

abbrev pub with_numbers : List (ℕ × List ℕ) → List (ℕ × Bool) → Wanted
with_numbers names numbers = record { names = names; numbers = numbers; view = None; shape = None }

-- `place COMB MEMBER` and a matrix
abbrev pub place_wanted : List ℕ → List Token → List Word → Wanted
place_wanted line tokens (comb ∷ member ∷ words) =
    with_numbers (name_at 2 (atom_of line tokens comb) ++ name_at 3 (atom_of line tokens member)) (matrix_numbers (matrix_step words) (matrix_words line tokens words))
place_wanted line tokens _ = nothing

abbrev pub setting_at : ℕ → Option (List ℕ) → List ℕ → List (ℕ × Bool)
setting_at word None value = []
setting_at word (Some key) value = (word, is_setting key value) ∷ []

-- `cattr NAME KEY VALUE ..`
abbrev pub cattr_wanted : List ℕ → List Token → List Word → Wanted
cattr_wanted line tokens (name ∷ key ∷ value ∷ rest) = with_numbers (name_at 2 (atom_of line tokens name)) (setting_at 4 (atom_of line tokens key) (value_of line tokens value rest))
cattr_wanted line tokens _ = nothing

-- a key stands before its value
abbrev pub key_name : Pair → ℕ × List ℕ
key_name p = (p.place - 1, key_text p.key)

abbrev pub key_names : Option (List Pair) → List (ℕ × List ℕ)
key_names None = []
key_names (Some pairs) = map key_name pairs

-- `attr set NAME KEY VALUE ..`
abbrev pub attr_wanted : List ℕ → List Token → List Word → Wanted
attr_wanted line tokens (set ∷ name ∷ rest) = names_alone (name_at 3 (atom_of line tokens name) ++ key_names (pairs_of line tokens 4 rest))
attr_wanted line tokens _ = nothing

abbrev pub spelled_leaves : Option (Option (Tree Given)) → List Given
spelled_leaves None = []
spelled_leaves (Some tree) = given_leaves tree

-- the names of a tree, which all stand in one word
abbrev pub leaf_names : ℕ → List Given → List (ℕ × List ℕ)
leaf_names word leaves = map (λ (g : Given). (word, g.name)) leaves

abbrev pub tree_names : List ℕ → List Token → Option Pair → List (ℕ × List ℕ)
tree_names line tokens None = []
tree_names line tokens (Some p) = leaf_names p.place (spelled_leaves (tree_spelled (words_of_tokens line (slice_range tokens ((p.value).first + 1) (p.value).last))))

-- each value of a key, and whether it is good
abbrev pub value_numbers : (Pair → Bool) → List Pair → List (ℕ × Bool)
value_numbers good pairs = map (λ (p : Pair). (p.place, good p)) pairs

abbrev pub given_shape : SolidForm → Option (List (Option ℤ)) → Option ShapeFault
given_shape form None = None
given_shape form (Some numbers) = shape_fault (solid_made (made_as form) (take (number_count (made_as form)) numbers))

-- the keys and values of an object; only a combination has a tree, and only a solid has a shape
abbrev pub object_wanted : List ℕ → List Token → List (ℕ × List ℕ) → Option Kind → Option (List Pair) → Wanted
object_wanted line tokens name (Some (kinds.Solid form)) (Some pairs) =
    record { names = name; numbers = value_numbers (solids.is_good line tokens form pairs) pairs; view = None; shape = given_shape form (solids.numbers_of line tokens form pairs) }
object_wanted line tokens name (Some kinds.Comb) (Some pairs) =
    with_numbers (name ++ tree_names line tokens (tree_pair pairs)) (value_numbers (λ (p : Pair). combs.has_value line tokens p.key p.value) pairs)
object_wanted line tokens name kind pairs = nothing

-- `put NAME TYPE KEY VALUE ..`
abbrev pub put_wanted : List ℕ → List Token → List Word → Wanted
put_wanted line tokens (name ∷ kind ∷ rest) = object_wanted line tokens (name_at 2 (atom_of line tokens name)) (kind_named (atom_of line tokens kind)) (pairs_of line tokens 4 rest)
put_wanted line tokens _ = nothing

-- a title has no names and no numbers
abbrev pub wanted_after : List ℕ → List Token → List Word → List ℕ → Wanted
wanted_after line tokens words name =
    if bytes_eq name (codes "place") then place_wanted line tokens words
    else (if bytes_eq name (codes "cattr") then cattr_wanted line tokens words
    else (if bytes_eq name (codes "put") then put_wanted line tokens words
    else (if bytes_eq name (codes "attr") then attr_wanted line tokens words
    else (if bytes_eq name (codes "title") then nothing
    else wanted_of_atoms name (atoms_in line tokens words)))))

abbrev pub wanted_worded : List ℕ → List Token → List Word → Option (List ℕ) → Wanted
wanted_worded line tokens words None = nothing
wanted_worded line tokens words (Some name) = wanted_after line tokens words name

abbrev pub wanted_of_words : List ℕ → List Token → List Word → Wanted
wanted_of_words line tokens [] = nothing
wanted_of_words line tokens (word ∷ words) = wanted_worded line tokens words (atom_of line tokens word)

abbrev pub wanted_read : List ℕ → Result (List Token) WordFault → Wanted
wanted_read line (Err fault) = nothing
wanted_read line (Ok tokens) = wanted_of_words line tokens (top_words tokens)

-- what is looked at in a line
abbrev pub wanted_of_line : List ℕ → Wanted
wanted_of_line line = wanted_read line (words_of line)

-- the words of a line that are to be names, with their numbers
abbrev pub names_of_line : List ℕ → List (ℕ × List ℕ)
names_of_line line = (wanted_of_line line).names

-- the words of a line that are or hold numbers or the value of an attribute, and whether these are in their ranges
abbrev pub numbers_of_line : List ℕ → List (ℕ × Bool)
numbers_of_line line = (wanted_of_line line).numbers

-- the number of the first word that is no name
abbrev pub first_unnamed : List (ℕ × List ℕ) → Option ℕ
first_unnamed [] = None
first_unnamed ((word, atom) ∷ rest) = if is_ok (read_name atom) then first_unnamed rest else Some word

-- the number of the first word that is not in its range
abbrev pub first_out : List (ℕ × Bool) → Option ℕ
first_out [] = None
first_out ((word, good) ∷ rest) = if good then first_out rest else Some word

abbrev pub or_else : Option Refusal → Option Refusal → Option Refusal
or_else None later = later
or_else (Some refusal) later = Some refusal

-- the first refusal of a list that is one
abbrev pub first_of : List (Option Refusal) → Option Refusal
first_of [] = None
first_of (refusal ∷ rest) = or_else refusal (first_of rest)

-- the first name that is none, else the first number out of its range, else the ray or the view, else the solid
abbrev pub first_refusal : Wanted → Option Refusal
first_refusal w =
    first_of (option_map Name (first_unnamed w.names) ∷ option_map Number (first_out w.numbers) ∷ option_map View w.view ∷ option_map Shape w.shape ∷ [])

-- the refusal that a command is told as it stands
abbrev pub told : Command → Option Refusal
told (Bad refusal) = Some refusal
told command = None

-- a line without the form of a command, or one that is told of the first of what is looked at in it that is refused, and is
-- accepted exactly where all is fine
abbrev pub TellsFirst : Command → Wanted → Type 0
TellsFirst command w = (command ≡ Bad Syntax) ⊎ (told command ≡ first_refusal w)

-- the word that a command is refused for as no name
abbrev pub told_name : Command → Option ℕ
told_name (Bad (Name word)) = Some word
told_name command = None

-- a line without the form of a command, or one that is told of the first of these words that is no name, and of none exactly
-- where all are names
abbrev pub TellsNames : Command → List (ℕ × List ℕ) → Type 0
TellsNames command names = (command ≡ Bad Syntax) ⊎ (told_name command ≡ first_unnamed names)

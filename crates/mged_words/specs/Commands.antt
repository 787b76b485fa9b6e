-- Which command a line is, or the refusal that it is answered as it stands. All of a line's form is looked at first, then
-- its names, its numbers, the ray or the view, and the solid.
use Rattle.std.specs.Prelude.{ℕ, ℤ, pos, negsuc, Bool, false, ◌==◌, ◌+◌, ◌++◌, List, [], ◌∷◌, Option, Some, None, Result, Ok, Err, is_ok, is_none, unwrap_or, map, length, codes, bytes_eq, nat_le, if◌then◌else◌}
use Rattle.std.specs.Option.{option_map}
use Rattle.std.specs.Int.RustNames.{unsigned_abs}
use Rattle.lattice_core.specs.declared.ray.Dir.{Dir}
use Rattle.lattice_core.specs.declared.ray.Dir.TheVariants.{PlusX, MinusX, PlusY, MinusY, PlusZ, MinusZ}
use Rattle.lattice_core.specs.declared.ray.Ray.{Ray}
use Rattle.lattice_core.specs.declared.vector.V3.{V3}
use Rattle.lattice_core.specs.declared.view.View as views
use Rattle.lattice_core.specs.Views.{view_fault}
use Rattle.lattice_core.specs.declared.placement.Placement.{Placement}
use Rattle.slant_ray.specs.declared.ray.TheConstants.{STEP}
use Rattle.slant_ray.specs.declared.ray.SlantRay.{SlantRay}
use Rattle.slant_ray.specs.Rays.{is_from_world, slant_fault}
use Rattle.name_core.specs.NameText.{read_name}
use Rattle.tcl_words.specs.Reading.{words_of}
use Rattle.tcl_words.specs.TopWords.{top_words, atom_of}
use Rattle.tcl_words.specs.declared.fault.WordFault.{WordFault}
use Rattle.tcl_words.specs.declared.token.Token.{Token}
use Rattle.tcl_words.specs.declared.token.Word.{Word}
use Rattle.tree_forms.specs.declared.Op.{Op}
use Rattle.tree_forms.specs.declared.Op.TheVariants.{U, N, Minus, X}
use Rattle.comb_tree.specs.declared.node.ListEntry.{ListEntry}
use Rattle.comb_tree.specs.Changes.{names_of}
use Rattle.region_attr.specs.Keys.{key_of}
use Rattle.region_attr.specs.Attrs.{is_setting}
use Rattle.plane_geom.specs.declared.fault.ShapeFault.{ShapeFault}
use Rattle.solid_set.specs.declared.solid.Solid.{Solid}
use Rattle.object_set.specs.declared.object.Body.TheVariants as bodies
use Rattle.object_set.specs.Objects.{Parts}
use Rattle.command_set.specs.declared.command.Command.{Command}
use Rattle.command_set.specs.declared.command.Command.TheVariants.{Bad, Edit, Query, Shoot}
use Rattle.command_set.specs.declared.command.Edit.TheVariants.{Make, Region, Group, Remove, Kill, RenameAll, Place, Title, Keep, Set}
use Rattle.command_set.specs.declared.command.Query.TheVariants.{List as Lines, Names, Tree, Save, Shot, Slant}
use Rattle.command_set.specs.declared.command.Shoot.TheVariants.{Picture, Check, Area, Edge}
use Rattle.command_set.specs.declared.refusal.Refusal.{Refusal}
use Rattle.command_set.specs.declared.refusal.Refusal.TheVariants.{Syntax, Name, Number, View, Shape}
use Rattle.lattice_core.specs.declared.view.ViewFault.TheVariants.{World}
use Rattle.word_values.specs.declared.solid.SolidKind.{SolidKind}
use Rattle.word_values.specs.Atoms.{atoms_in, words_in, value_of}
use Rattle.word_values.specs.Kinds.{number_as, numbers_as, plain_kind, point_kind}
use Rattle.word_values.specs.declared.atoms.NumberList.TheVariants as lists
use Rattle.word_values.specs.Solids.{kind_of, number_count, solid_made, vector_at, nth_number}
use Rattle.word_values.specs.Matrices.{placement_read, identity}
use Rattle.object_set.specs.declared.kept.KeptAttr.{KeptAttr}
use Rattle.put_form.specs.Keeps.{is_text, kept_of}
use Rattle.put_form.specs.Pairs.{pairs_of}
use Rattle.put_form.specs.Puts.{Put as PutRead, put_of}
use Rattle.put_form.specs.declared.fault.PutFault.{PutFault}
use Rattle.put_form.specs.declared.fault.PutFault.TheVariants as put
use Rattle.mged_words.specs.declared.views.FileShoot.{FileShoot}
use Rattle.mged_words.specs.declared.views.FileShoot.TheVariants.{OfPixels, OfEdges}
use Rattle.mged_words.specs.declared.views.LineShoot.{LineShoot}
use Rattle.mged_words.specs.declared.views.LineShoot.TheVariants.{OfOverlaps, OfAreas}

-- the first refusal that holds, else the command
abbrev pub unless_refused : List (Option Refusal) → Command → Command
unless_refused [] command = command
unless_refused (Some refusal ∷ rest) command = Bad refusal
unless_refused (None ∷ rest) command = unless_refused rest command

-- the word of this number is no name
abbrev pub name_fault : ℕ → List ℕ → Option Refusal
name_fault word atom = if is_ok (read_name atom) then None else Some (Name word)

-- the first of the words that is no name, where they are counted from one number on, by steps
abbrev pub names_fault : ℕ → ℕ → List (List ℕ) → Option Refusal
names_fault word step [] = None
names_fault word step (atom ∷ rest) = if is_ok (read_name atom) then names_fault (word + step) step rest else Some (Name word)

-- the first of the words that is no number in its range, where they are counted from one number on, by steps
abbrev pub numbers_fault : ℕ → ℕ → List (Option ℤ) → Option Refusal
numbers_fault word step [] = None
numbers_fault word step (None ∷ rest) = Some (Number word)
numbers_fault word step (Some n ∷ rest) = numbers_fault (word + step) step rest

-- a solid as a new object
abbrev pub solid_object : Solid → Parts
solid_object solid = record { body = bodies.Solid solid; kept = [] }

abbrev pub make_command : List ℕ → Result Solid ShapeFault → Command
make_command name (Ok solid) = Edit (Make name (solid_object solid))
make_command name (Err fault) = Bad (Shape fault)

-- the numbers of a solid, after its name was read
abbrev pub numbers_command : List ℕ → SolidKind → List (Option ℤ) → Command
numbers_command name kind numbers = unless_refused (numbers_fault 4 1 numbers ∷ []) (make_command name (solid_made kind numbers))

-- `in NAME KIND` and the numbers of that kind
abbrev pub solid_command : List ℕ → SolidKind → List (Option ℤ) → Command
solid_command name kind numbers =
    unless_refused (name_fault 2 name ∷ numbers_fault 4 1 numbers ∷ []) (make_command name (solid_made kind numbers))

abbrev pub kind_command : List ℕ → Option SolidKind → List (List ℕ) → Command
kind_command name None atoms = Bad Syntax
kind_command name (Some kind) atoms = if length atoms == number_count kind then solid_command name kind (numbers_as (lists.Solid kind) atoms) else Bad Syntax

abbrev pub in_command : List (List ℕ) → Command
in_command [] = Bad Syntax
in_command (name ∷ []) = Bad Syntax
in_command (name ∷ kind ∷ atoms) = kind_command name (kind_of kind) atoms

abbrev pub direction_of : List ℕ → Option Dir
direction_of word =
    if bytes_eq word (codes "+x") then Some PlusX
    else (if bytes_eq word (codes "-x") then Some MinusX
    else (if bytes_eq word (codes "+y") then Some PlusY
    else (if bytes_eq word (codes "-y") then Some MinusY
    else (if bytes_eq word (codes "+z") then Some PlusZ
    else (if bytes_eq word (codes "-z") then Some MinusZ else None)))))

-- a ray starts in the world
abbrev pub world_fault : V3 → Option Refusal
world_fault origin = if is_from_world origin then None else Some (View World)

-- the ray from an origin in a direction
abbrev pub ray_of : V3 → Dir → Ray
ray_of origin dir = record { origin = origin; dir = dir }

abbrev pub shot_from : V3 → Dir → List (List ℕ) → Command
shot_from origin dir names = unless_refused (world_fault origin ∷ []) (Query (Shot (ray_of origin dir) names))

-- `nirt X Y Z DIR NAME ..`
abbrev pub shot_command : List (Option ℤ) → Option Dir → List (List ℕ) → Command
shot_command numbers None names = Bad Syntax
shot_command numbers (Some dir) names =
    unless_refused (names_fault 6 1 names ∷ numbers_fault 2 1 numbers ∷ world_fault (vector_at numbers 0) ∷ []) (Query (Shot (ray_of (vector_at numbers 0) dir) names))

abbrev pub nirt_command : List (List ℕ) → Command
nirt_command (x ∷ y ∷ z ∷ dir ∷ name ∷ rest) = shot_command (numbers_as lists.Point (x ∷ y ∷ z ∷ [])) (direction_of dir) (name ∷ rest)
nirt_command _ = Bad Syntax

abbrev pub within_step : Option ℤ → Option ℤ
within_step None = None
within_step (Some n) = if nat_le (unsigned_abs n) (unsigned_abs STEP) then Some n else None

-- a component of a lattice direction: a whole number, of at most STEP in size
abbrev pub step_number : List ℕ → Option ℤ
step_number atom = within_step (number_as plain_kind atom)

-- `X Y Z` of an origin, and then `DX DY DZ`
abbrev pub slant_numbers : List (List ℕ) → List (List ℕ) → List (Option ℤ)
slant_numbers origin steps = numbers_as lists.Point origin ++ map step_number steps

-- the ray of such numbers
abbrev pub slant_by : List (Option ℤ) → SlantRay
slant_by numbers = record { origin = vector_at numbers 0; x = nth_number numbers 3; y = nth_number numbers 4; z = nth_number numbers 5 }

-- the first fault of a ray in a lattice direction
unfoldable pub slant_refusal : SlantRay → Option Refusal
slant_refusal ray = option_map View (slant_fault ray)

-- the numbers of such a ray, and names
abbrev pub slant_command : List (Option ℤ) → List (List ℕ) → Command
slant_command numbers names =
    unless_refused (names_fault 8 1 names ∷ numbers_fault 2 1 numbers ∷ slant_refusal (slant_by numbers) ∷ []) (Query (Slant (slant_by numbers) names))

-- `nirtd X Y Z DX DY DZ NAME ..`
abbrev pub nirtd_command : List (List ℕ) → Command
nirtd_command (x ∷ y ∷ z ∷ dx ∷ dy ∷ dz ∷ name ∷ rest) = slant_command (slant_numbers (x ∷ y ∷ z ∷ []) (dx ∷ dy ∷ dz ∷ [])) (name ∷ rest)
nirtd_command _ = Bad Syntax

abbrev pub from_zero : Option ℤ → Option ℤ
from_zero None = None
from_zero (Some (pos n)) = Some (pos n)
from_zero (Some (negsuc n)) = None

-- the cell of a view: a length, of at least 0
abbrev pub cell_number : List ℕ → Option ℤ
cell_number atom = from_zero (number_as point_kind atom)

-- how many columns or rows a view has: a whole number, of at least 0
abbrev pub side_number : List ℕ → Option ℤ
side_number atom = from_zero (number_as plain_kind atom)

-- `CELL W H`
abbrev pub size_numbers : List (List ℕ) → List (Option ℤ)
size_numbers [] = []
size_numbers (cell ∷ sides) = cell_number cell ∷ map side_number sides

-- the numbers of a view: `X Y Z` of its corner, and then `CELL W H`
abbrev pub view_numbers : List (List ℕ) → List (List ℕ) → List (Option ℤ)
view_numbers corner sizes = numbers_as lists.Point corner ++ size_numbers sizes

-- the view in a direction by its numbers
abbrev pub view_of : Dir → List (Option ℤ) → views.View
view_of dir numbers = record {
  corner = vector_at numbers 0;
  dir = dir;
  cell = nth_number numbers 3;
  w = unsigned_abs (nth_number numbers 4);
  h = unsigned_abs (nth_number numbers 5);
}

-- the first fault of a view
unfoldable pub view_refusal : views.View → Option Refusal
view_refusal view = option_map View (view_fault view)

-- what a line with a file and a view asks for: the picture, or that of the edges
abbrev pub file_shoot : FileShoot → List ℕ → views.View → List (List ℕ) → Command
file_shoot OfPixels file view names = Shoot (Picture file view names)
file_shoot OfEdges file view names = Shoot (Edge file view names)

-- the word of the command, a file and `DIR`, the numbers of a view, and names
abbrev pub file_command : FileShoot → List ℕ → Option Dir → List (Option ℤ) → List (List ℕ) → Command
file_command what file None numbers names = Bad Syntax
file_command what file (Some dir) numbers names =
    unless_refused (name_fault 2 file ∷ names_fault 10 1 names ∷ numbers_fault 4 1 numbers ∷ view_refusal (view_of dir numbers) ∷ []) (file_shoot what file (view_of dir numbers) names)

-- behind the word: `FILE DIR X Y Z CELL W H NAME ..`
abbrev pub filed_command : FileShoot → List (List ℕ) → Command
filed_command what (file ∷ dir ∷ x ∷ y ∷ z ∷ cell ∷ w ∷ h ∷ name ∷ rest) =
    file_command what file (direction_of dir) (view_numbers (x ∷ y ∷ z ∷ []) (cell ∷ w ∷ h ∷ [])) (name ∷ rest)
filed_command what _ = Bad Syntax

-- `rt FILE DIR X Y Z CELL W H NAME ..`
abbrev pub rt_command : List (List ℕ) → Command
rt_command atoms = filed_command OfPixels atoms

-- `rtedge FILE DIR X Y Z CELL W H NAME ..`
abbrev pub rtedge_command : List (List ℕ) → Command
rtedge_command atoms = filed_command OfEdges atoms

-- what a line with a view and no file asks for: the overlaps, or the areas
abbrev pub line_shoot : LineShoot → views.View → List (List ℕ) → Command
line_shoot OfOverlaps view names = Shoot (Check view names)
line_shoot OfAreas view names = Shoot (Area view names)

-- the word of the command and `DIR`, the numbers of a view, and names
abbrev pub view_command : LineShoot → Option Dir → List (Option ℤ) → List (List ℕ) → Command
view_command what None numbers names = Bad Syntax
view_command what (Some dir) numbers names =
    unless_refused (names_fault 9 1 names ∷ numbers_fault 3 1 numbers ∷ view_refusal (view_of dir numbers) ∷ []) (line_shoot what (view_of dir numbers) names)

-- behind the word: `DIR X Y Z CELL W H NAME ..`
abbrev pub viewed_command : LineShoot → List (List ℕ) → Command
viewed_command what (dir ∷ x ∷ y ∷ z ∷ cell ∷ w ∷ h ∷ name ∷ rest) = view_command what (direction_of dir) (view_numbers (x ∷ y ∷ z ∷ []) (cell ∷ w ∷ h ∷ [])) (name ∷ rest)
viewed_command what _ = Bad Syntax

-- `rtcheck DIR X Y Z CELL W H NAME ..`
abbrev pub rtcheck_command : List (List ℕ) → Command
rtcheck_command atoms = viewed_command OfOverlaps atoms

-- `rtarea DIR X Y Z CELL W H NAME ..`
abbrev pub rtarea_command : List (List ℕ) → Command
rtarea_command atoms = viewed_command OfAreas atoms

abbrev pub operator_of : List ℕ → Option Op
operator_of word =
    if bytes_eq word (codes "u") then Some U
    else (if bytes_eq word (codes "+") then Some N
    else (if bytes_eq word (codes "-") then Some Minus
    else (if bytes_eq word (codes "^") then Some X else None)))

-- a new member as an entry of a list, placed where it was made
abbrev pub entry_of : Op → List ℕ → ListEntry
entry_of op name = record { op = op; name = name; placement = identity }

abbrev pub entry_before : Option Op → List ℕ → Option (List ListEntry) → Option (List ListEntry)
entry_before None name rest = None
entry_before (Some op) name rest = option_map (λ list. entry_of op name ∷ list) rest

-- operators and members by turns; none where one is no operator, or an operator stands last
abbrev pub entries_of : List (List ℕ) → Option (List ListEntry)
entries_of [] = Some []
entries_of (op ∷ []) = None
entries_of (op ∷ name ∷ rest) = entry_before (operator_of op) name (entries_of rest)

-- the first member of a list that is no name, where the first one is this word
abbrev pub members_fault : ℕ → Option (List ListEntry) → Option Refusal
members_fault word None = None
members_fault word (Some list) = names_fault word 2 (names_of list)

-- `r NAME OP MEMBER ..`
abbrev pub region_command : List ℕ → Option (List ListEntry) → Command
region_command name None = Bad Syntax
region_command name (Some []) = Bad Syntax
region_command name (Some (e ∷ es)) = unless_refused (name_fault 2 name ∷ members_fault 4 (Some (e ∷ es)) ∷ []) (Edit (Region name (e ∷ es)))

abbrev pub r_command : List (List ℕ) → Command
r_command [] = Bad Syntax
r_command (name ∷ rest) = region_command name (entries_of rest)

-- `g NAME MEMBER ..`
abbrev pub g_command : List (List ℕ) → Command
g_command [] = Bad Syntax
g_command (name ∷ []) = Bad Syntax
g_command (name ∷ member ∷ rest) = unless_refused (names_fault 2 1 (name ∷ member ∷ rest) ∷ []) (Edit (Group name (map (entry_of U) (member ∷ rest))))

-- `rm COMB MEMBER ..`
abbrev pub rm_command : List (List ℕ) → Command
rm_command [] = Bad Syntax
rm_command (comb ∷ []) = Bad Syntax
rm_command (comb ∷ member ∷ rest) = unless_refused (names_fault 2 1 (comb ∷ member ∷ rest) ∷ []) (Edit (Remove comb (member ∷ rest)))

-- `kill NAME ..`
abbrev pub kill_command : List (List ℕ) → Command
kill_command [] = Bad Syntax
kill_command (name ∷ rest) = unless_refused (names_fault 2 1 (name ∷ rest) ∷ []) (Edit (Kill (name ∷ rest)))

-- `mvall OLD NEW`
abbrev pub mvall_command : List (List ℕ) → Command
mvall_command (old ∷ new ∷ []) = unless_refused (names_fault 2 1 (old ∷ new ∷ []) ∷ []) (Edit (RenameAll old new))
mvall_command _ = Bad Syntax

-- `save FILE`
abbrev pub save_command : List (List ℕ) → Command
save_command (file ∷ []) = unless_refused (name_fault 2 file ∷ []) (Query (Save file))
save_command _ = Bad Syntax

-- `ls`
abbrev pub ls_command : List (List ℕ) → Command
ls_command [] = Query Names
ls_command _ = Bad Syntax

-- numbers that are no placement, or one with a shift too far
abbrev pub placement_fault : ℕ → Option Placement → Option Refusal
placement_fault word None = Some (Number word)
placement_fault word (Some placement) = None

-- the sixteen numbers of a matrix, where the first is word 4, and the others are counted by steps
abbrev pub matrix_command : List ℕ → List ℕ → ℕ → List (Option ℤ) → Command
matrix_command comb member step numbers =
    unless_refused (names_fault 2 1 (comb ∷ member ∷ []) ∷ numbers_fault 4 step numbers ∷ placement_fault 4 (placement_read numbers) ∷ [])
    (Edit (Place comb member (unwrap_or (placement_read numbers) identity)))

abbrev pub sixteen_command : List ℕ → List ℕ → ℕ → Option (List (List ℕ)) → Command
sixteen_command comb member step None = Bad Syntax
sixteen_command comb member step (Some atoms) = if length atoms == 16 then matrix_command comb member step (numbers_as lists.Matrix atoms) else Bad Syntax

-- the words of a matrix: those in a single group, or the words themselves
abbrev pub matrix_words : List ℕ → List Token → List Word → Option (List (List ℕ))
matrix_words line tokens (w ∷ []) = words_in line tokens w
matrix_words line tokens words = atoms_in line tokens words

-- a group is one word, and so all its numbers have this one
abbrev pub matrix_step : List Word → ℕ
matrix_step words = if length words == 1 then 0 else 1

abbrev pub place_with : List ℕ → List Token → List Word → Option (List ℕ) → Option (List ℕ) → Command
place_with line tokens words None member = Bad Syntax
place_with line tokens words (Some comb) None = Bad Syntax
place_with line tokens words (Some comb) (Some member) = sixteen_command comb member (matrix_step words) (matrix_words line tokens words)

-- `place COMB MEMBER` and 16 numbers, or one group of them
abbrev pub place_command : List ℕ → List Token → List Word → Command
place_command line tokens (comb ∷ member ∷ words) = place_with line tokens words (atom_of line tokens comb) (atom_of line tokens member)
place_command line tokens _ = Bad Syntax

-- the words from this one on are no value of the attribute
abbrev pub setting_fault : ℕ → List ℕ → List ℕ → Option Refusal
setting_fault word key value = if is_setting key value then None else Some (Number word)

abbrev pub set_command : List ℕ → List ℕ → List ℕ → Command
set_command name key value =
    if is_none (key_of key) then Bad Syntax
    else unless_refused (name_fault 2 name ∷ setting_fault 4 key value ∷ []) (Edit (Set name (record { key = key; value = value })))

abbrev pub set_with : Option (List ℕ) → Option (List ℕ) → List ℕ → Command
set_with None key value = Bad Syntax
set_with (Some name) None value = Bad Syntax
set_with (Some name) (Some key) value = set_command name key value

-- `cattr NAME KEY VALUE ..`
abbrev pub cattr_command : List ℕ → List Token → List Word → Command
cattr_command line tokens (name ∷ key ∷ value ∷ rest) = set_with (atom_of line tokens name) (atom_of line tokens key) (value_of line tokens value rest)
cattr_command line tokens _ = Bad Syntax

-- why the words of an object are refused: a word that is no name or no number is named
abbrev pub refusal_of_put : PutFault → Refusal
refusal_of_put put.NoType = Syntax
refusal_of_put put.Attr = Syntax
refusal_of_put put.Tree = Syntax
refusal_of_put (put.Name word) = Name word
refusal_of_put (put.Number word) = Number word
refusal_of_put (put.Shape fault) = Shape fault
refusal_of_put PutFault.Memory = Syntax

abbrev pub put_made : PutRead → Command
put_made (Ok made) = Edit (Make made.0 made.1)
put_made (Err fault) = Bad (refusal_of_put fault)

-- `put NAME TYPE KEY VALUE ..`, with the word `put`; a group where the name is wanted is no such form
abbrev pub put_command : List ℕ → List Token → List Word → Command
put_command line tokens (word ∷ name ∷ rest) = if is_none (atom_of line tokens name) then Bad Syntax else put_made (put_of line tokens (word ∷ name ∷ rest))
put_command line tokens _ = Bad Syntax

-- `title TEXT ..`
abbrev pub title_command : List ℕ → List Token → List Word → Command
title_command line tokens [] = Bad Syntax
title_command line tokens (value ∷ rest) = if is_text (value_of line tokens value rest) then Edit (Title (value_of line tokens value rest)) else Bad Syntax

abbrev pub keep_fault : Result (List KeptAttr) PutFault → Option Refusal
keep_fault (Ok pairs) = None
keep_fault (Err fault) = Some (refusal_of_put fault)

abbrev pub pairs_or_none : Result (List KeptAttr) PutFault → List KeptAttr
pairs_or_none (Ok pairs) = pairs
pairs_or_none (Err fault) = []

-- the form of keys and values comes before the object's name, and that before the names of the keys
abbrev pub kept_command : List ℕ → Result (List KeptAttr) PutFault → Command
kept_command name (Err put.Attr) = Bad Syntax
kept_command name pairs = unless_refused (name_fault 3 name ∷ keep_fault pairs ∷ []) (Edit (Keep name (pairs_or_none pairs)))

abbrev pub keep_command : Option (List ℕ) → Result (List KeptAttr) PutFault → Command
keep_command None pairs = Bad Syntax
keep_command (Some name) pairs = kept_command name pairs

abbrev pub is_set : Option (List ℕ) → Bool
is_set None = false
is_set (Some word) = bytes_eq word (codes "set")

-- `attr set NAME KEY VALUE ..`
abbrev pub attr_command : List ℕ → List Token → List Word → Command
attr_command line tokens (set ∷ name ∷ rest) =
    if is_set (atom_of line tokens set) then keep_command (atom_of line tokens name) (kept_of line tokens (pairs_of line tokens 4 rest)) else Bad Syntax
attr_command line tokens _ = Bad Syntax

-- `l NAME ..`
abbrev pub l_command : List (List ℕ) → Command
l_command [] = Bad Syntax
l_command (name ∷ rest) = unless_refused (names_fault 2 1 (name ∷ rest) ∷ []) (Query (Lines (name ∷ rest)))

-- `tree NAME ..`
abbrev pub tree_command : List (List ℕ) → Command
tree_command [] = Bad Syntax
tree_command (name ∷ rest) = unless_refused (names_fault 2 1 (name ∷ rest) ∷ []) (Query (Tree (name ∷ rest)))

abbrev pub with_atoms : (List (List ℕ) → Command) → Option (List (List ℕ)) → Command
with_atoms f None = Bad Syntax
with_atoms f (Some atoms) = f atoms

-- the commands of which each word is an atom
abbrev pub atom_command : List ℕ → List (List ℕ) → Command
atom_command word atoms =
    if bytes_eq word (codes "in") then in_command atoms
    else (if bytes_eq word (codes "nirt") then nirt_command atoms
    else (if bytes_eq word (codes "nirtd") then nirtd_command atoms
    else (if bytes_eq word (codes "rt") then rt_command atoms
    else (if bytes_eq word (codes "rtcheck") then rtcheck_command atoms
    else (if bytes_eq word (codes "rtarea") then rtarea_command atoms
    else (if bytes_eq word (codes "rtedge") then rtedge_command atoms
    else (if bytes_eq word (codes "r") then r_command atoms
    else (if bytes_eq word (codes "g") then g_command atoms
    else (if bytes_eq word (codes "rm") then rm_command atoms
    else (if bytes_eq word (codes "kill") then kill_command atoms
    else (if bytes_eq word (codes "mvall") then mvall_command atoms
    else (if bytes_eq word (codes "ls") then ls_command atoms
    else (if bytes_eq word (codes "l") then l_command atoms
    else (if bytes_eq word (codes "tree") then tree_command atoms
    else (if bytes_eq word (codes "save") then save_command atoms else Bad Syntax)))))))))))))))

-- a command by its own word and the words that follow it
abbrev pub named_command : List ℕ → List Token → Word → List Word → List ℕ → Command
named_command line tokens word words name =
    if bytes_eq name (codes "place") then place_command line tokens words
    else (if bytes_eq name (codes "cattr") then cattr_command line tokens words
    else (if bytes_eq name (codes "put") then put_command line tokens (word ∷ words)
    else (if bytes_eq name (codes "attr") then attr_command line tokens words
    else (if bytes_eq name (codes "title") then title_command line tokens words
    else with_atoms (atom_command name) (atoms_in line tokens words)))))

abbrev pub worded_command : List ℕ → List Token → Word → List Word → Option (List ℕ) → Command
worded_command line tokens word words None = Bad Syntax
worded_command line tokens word words (Some name) = named_command line tokens word words name

abbrev pub command_of_words : List ℕ → List Token → List Word → Command
command_of_words line tokens [] = Bad Syntax
command_of_words line tokens (word ∷ words) = worded_command line tokens word words (atom_of line tokens word)

abbrev pub command_read : List ℕ → Result (List Token) WordFault → Command
command_read line (Err fault) = Bad Syntax
command_read line (Ok tokens) = command_of_words line tokens (top_words tokens)

-- the command of a line
abbrev pub command_of : List ℕ → Command
command_of line = command_read line (words_of line)

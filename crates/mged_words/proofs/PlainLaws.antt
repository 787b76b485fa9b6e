-- The command of a line has names and refusals that stand on one line.
use Rattle.std.proofs.Common.{zero, suc, get_or, is_none, unwrap_or, ◌≡◌, ◌<◌, ◌+◌, ◌++◌, ◌==◌, ℕ, ℤ, Bool, true, false, cond, List, [], ◌∷◌, All, Option, Some, None, Result, Ok, Err, is_ok, length, map, codes, decimal, bytes_eq, refl, arith}
use Rattle.std.specs.List.{AllByRecursion}
use Rattle.std.proofs.lemmas.List.Elements.{All-append}
use Rattle.lattice_core.specs.declared.ray.Dir.{Dir}
use Rattle.lattice_core.specs.declared.vector.V3.{V3}
use Rattle.lattice_core.specs.declared.limit.TheConstants.{WORLD}
use Rattle.lattice_core.specs.Limits.{IsWithin}
use Rattle.name_core.specs.NameText.{read_name}
use Rattle.name_core.proofs.NameLaws.{accepted}
use Rattle.transcript.specs.Merge.{Entry, entry}
use Rattle.transcript.specs.Lines.{Lacks}
use Rattle.transcript.proofs.LineLaws.{lacks_append}
use Rattle.transcript.proofs.TranscriptLaws.{computed}
use Rattle.word_values.specs.Atoms.{atoms_in, value_of}
use Rattle.word_values.specs.Kinds.{number_as, numbers_as, plain_kind}
use Rattle.word_values.specs.declared.atoms.NumberList.TheVariants as lists
use Rattle.mged_words.specs.Commands.{unless_refused, name_fault, names_fault, members_fault, numbers_fault, placement_fault, setting_fault, make_command, solid_command, kind_command, in_command, direction_of, world_fault, ray_of, shot_command, nirt_command, slant_numbers, slant_by, slant_refusal, slant_command, nirtd_command, view_numbers, view_of, view_refusal, file_shoot, file_command, filed_command, line_shoot, view_command, viewed_command, entry_of, entries_of, region_command, r_command, g_command, rm_command, kill_command, mvall_command, save_command, ls_command, sixteen_command, matrix_command, matrix_step, matrix_words, place_with, place_command, set_command, set_with, cattr_command, with_atoms, atom_command, named_command, worded_command, refusal_of_put, put_made, put_command, title_command, keep_fault, pairs_or_none, kept_command, keep_command, is_set, attr_command, l_command, tree_command, command_of_words, command_read, command_of}
use Rattle.word_values.specs.Matrices.{placement_read, identity}
use Rattle.mged_words.specs.Readable.{ArePlain, ArePlainPairs, IsPlain, IsPlainRefusal, IsPlainView, IsReadable}
use Rattle.plane_geom.specs.declared.fault.ShapeFault.{ShapeFault}
use Rattle.plane_geom.specs.declared.fault.ShapeFault.TheVariants.{Flat, NotPlanar, NotConvex, Radius, ZeroNormal, Axis}
use Rattle.solid_set.specs.declared.solid.Solid.{Solid}
use Rattle.word_values.specs.declared.solid.SolidKind.{SolidKind}
use Rattle.word_values.specs.Solids.{kind_of, number_count, solid_made, vector_at}
use Rattle.command_set.specs.Refusals.{shape_text}
use Rattle.lattice_core.specs.declared.view.View as views
use Rattle.lattice_core.specs.declared.view.ViewFault.{ViewFault}
use Rattle.lattice_core.specs.declared.view.ViewFault.TheVariants.{Pixels, Side, Cell, Direction, World}
use Rattle.lattice_core.specs.Views.{view_fault}
use Rattle.std.specs.Option.{option_map}
use Rattle.slant_ray.specs.declared.ray.SlantRay.{SlantRay}
use Rattle.slant_ray.specs.declared.ray.TheConstants.{STEP}
use Rattle.slant_ray.specs.Rays.{is_from_world, slant_fault, direction_of as slant_direction}
use Rattle.mged_words.specs.declared.views.FileShoot.{FileShoot}
use Rattle.mged_words.specs.declared.views.FileShoot.TheVariants.{OfPixels, OfEdges}
use Rattle.mged_words.specs.declared.views.LineShoot.{LineShoot}
use Rattle.mged_words.specs.declared.views.LineShoot.TheVariants.{OfOverlaps, OfAreas}
use Rattle.mged_words.proofs.SlantLines.{slant_whole, step_small, world_seen}
use Rattle.mged_words.proofs.ViewLines.{seen_whole}
use Rattle.command_set.specs.declared.command.Command.{Command}
use Rattle.command_set.specs.declared.command.Command.TheVariants.{Bad, Edit, Query}
use Rattle.command_set.specs.declared.command.Edit.TheVariants.{Region, Group, Remove, Kill, RenameAll, Place, Title, Keep, Set}
use Rattle.tcl_words.specs.declared.token.Token.{Token}
use Rattle.tcl_words.specs.declared.token.Word.{Word}
use Rattle.tcl_words.specs.declared.fault.WordFault.{WordFault}
use Rattle.tcl_words.specs.Reading.{words_of}
use Rattle.tcl_words.specs.TopWords.{top_words, atom_of}
use Rattle.tree_forms.specs.declared.Op.TheVariants.{U}
use Rattle.comb_tree.specs.declared.node.ListEntry.{ListEntry}
use Rattle.comb_tree.specs.Changes.{names_of}
use Rattle.region_attr.specs.Keys.{key_of}
use Rattle.region_attr.specs.Attrs.{is_setting}
use Rattle.lattice_core.specs.declared.placement.Placement.{Placement}
use Rattle.command_set.specs.declared.command.Query.TheVariants.{List as Lines, Tree, Save, Shot, Slant}
use Rattle.object_set.specs.declared.kept.KeptAttr.{KeptAttr}
use Rattle.put_form.specs.Keeps.{is_text, kept_of}
use Rattle.put_form.specs.Pairs.{pairs_of}
use Rattle.put_form.specs.Puts.{Put as PutRead, put_of}
use Rattle.put_form.specs.declared.fault.PutFault.{PutFault}
use Rattle.put_form.specs.declared.fault.PutFault.TheVariants as put
use Rattle.put_form.proofs.OneLine.{name_lacks, number_lacks}
use Rattle.mged_words.proofs.PutLaws.{IsNamedPut, IsPlainKept, put_named, kept_plain as read_kept_plain}
use Rattle.command_set.specs.declared.refusal.Refusal.{Refusal}
use Rattle.command_set.specs.declared.refusal.Refusal.TheVariants.{Syntax, Name, Number, View, Shape}

-- refusals
plain_syntax : IsPlainRefusal Syntax
plain_syntax = record { one_line = computed 10 (codes "syntax") refl; other = refl }

plain_name : (word : ℕ) → IsPlainRefusal (Name word)
plain_name word = record { one_line = lacks_append 10 (codes "name ") (decimal word) (computed 10 (codes "name ") refl) (number_lacks word); other = refl }

plain_number : (word : ℕ) → IsPlainRefusal (Number word)
plain_number word = record { one_line = lacks_append 10 (codes "number ") (decimal word) (computed 10 (codes "number ") refl) (number_lacks word); other = refl }

plain_view : (fault : ViewFault) → IsPlainRefusal (View fault)
plain_view Pixels = record { one_line = computed 10 (codes "view pixels") refl; other = refl }
plain_view Side = record { one_line = computed 10 (codes "view side") refl; other = refl }
plain_view Cell = record { one_line = computed 10 (codes "view cell") refl; other = refl }
plain_view Direction = record { one_line = computed 10 (codes "view direction") refl; other = refl }
plain_view World = record { one_line = computed 10 (codes "view world") refl; other = refl }

shape_one_line : (fault : ShapeFault) → Lacks 10 (shape_text fault)
shape_one_line Flat = computed 10 (codes "flat") refl
shape_one_line (NotPlanar face) = lacks_append 10 (codes "planar ") (decimal face) (computed 10 (codes "planar ") refl) (number_lacks face)
shape_one_line (NotConvex face) = lacks_append 10 (codes "convex ") (decimal face) (computed 10 (codes "convex ") refl) (number_lacks face)
shape_one_line Radius = computed 10 (codes "radius") refl
shape_one_line ZeroNormal = computed 10 (codes "normal") refl
shape_one_line Axis = computed 10 (codes "axis") refl

plain_shape : (fault : ShapeFault) → IsPlainRefusal (Shape fault)
plain_shape fault = record { one_line = lacks_append 10 (codes "shape ") (shape_text fault) (computed 10 (codes "shape ") refl) (shape_one_line fault); other = refl }

abbrev MayBePlain : Option Refusal → Type 0
MayBePlain None = Unit {0}
MayBePlain (Some refusal) = IsPlainRefusal refusal

-- the first refusal, or a command that is plain where none holds
unless_plain : (faults : List (Option Refusal)) (command : Command) → AllByRecursion MayBePlain faults → (AllByRecursion (λ f. f ≡ None) faults → IsPlain command) → IsPlain (unless_refused faults command)
unless_plain [] command h k = k tt
unless_plain (Some refusal ∷ rest) command h k = h.0
unless_plain (None ∷ rest) command h k = unless_plain rest command h.1 (λ all. k (refl, all))

may_if : (t : Bool) (refusal : Refusal) → IsPlainRefusal refusal → MayBePlain (cond t None (Some refusal))
may_if true refusal h = tt
may_if false refusal h = h

may_unless : (t : Bool) (refusal : Refusal) → IsPlainRefusal refusal → MayBePlain (cond t (Some refusal) None)
may_unless true refusal h = h
may_unless false refusal h = tt

may_number : (word step : ℕ) (numbers : List (Option ℤ)) → MayBePlain (numbers_fault word step numbers)
may_number word step [] = tt
may_number word step (None ∷ rest) = plain_number word
may_number word step (Some n ∷ rest) = may_number (word + step) step rest

may_pick : (t : Bool) (x y : Option Refusal) → MayBePlain x → MayBePlain y → MayBePlain (cond t x y)
may_pick true x y h k = h
may_pick false x y h k = k

may_names : (word step : ℕ) (atoms : List (List ℕ)) → MayBePlain (names_fault word step atoms)
may_names word step [] = tt
may_names word step (atom ∷ rest) = may_pick (is_ok (read_name atom)) (names_fault (word + step) step rest) (Some (Name word)) (may_names (word + step) step rest) (plain_name word)

named : (t : Bool) (refusal : Refusal) → cond t None (Some refusal) ≡ None → t ≡ true
named true refusal h = refl
named false refusal h = absurd cc

name_read : (word : ℕ) (atom : List ℕ) → name_fault word atom ≡ None → Lacks 10 atom
name_read word atom h = name_lacks atom ((accepted atom).0 (named (is_ok (read_name atom)) (Name word) h))

make_plain : (name : List ℕ) (made : Result Solid ShapeFault) → Lacks 10 name → IsPlain (make_command name made)
make_plain name (Ok solid) h = (h, record { members = tt; kept = tt })
make_plain name (Err fault) h = plain_shape fault

solid_plain : (name : List ℕ) (kind : SolidKind) (numbers : List (Option ℤ)) → IsPlain (solid_command name kind numbers)
solid_plain name kind numbers =
    unless_plain (name_fault 2 name ∷ numbers_fault 4 1 numbers ∷ []) (make_command name (solid_made kind numbers))
    (may_if (is_ok (read_name name)) (Name 2) (plain_name 2), (may_number 4 1 numbers, tt))
    (λ all. make_plain name (solid_made kind numbers) (name_read 2 name all.0))

world_read : (origin : V3) → world_fault origin ≡ None → IsWithin WORLD origin
world_read origin h = world_seen origin (named (is_from_world origin) (View World) h)

either_plain : (t : Bool) (x y : Command) → IsPlain x → IsPlain y → IsPlain (cond t x y)
either_plain true x y h k = h
either_plain false x y h k = k

kind_plain : (name : List ℕ) (kind : Option SolidKind) (atoms : List (List ℕ)) → IsPlain (kind_command name kind atoms)
kind_plain name None atoms = plain_syntax
kind_plain name (Some kind) atoms =
    either_plain (length atoms == number_count kind) (solid_command name kind (numbers_as (lists.Solid kind) atoms)) (Bad Syntax) (solid_plain name kind (numbers_as (lists.Solid kind) atoms)) plain_syntax

in_plain : (atoms : List (List ℕ)) → IsPlain (in_command atoms)
in_plain [] = plain_syntax
in_plain (a ∷ []) = plain_syntax
in_plain (name ∷ kind ∷ atoms) = kind_plain name (kind_of kind) atoms

-- names that were read
both_fine : (t : Bool) (x : Option Refusal) (refusal : Refusal) → cond t x (Some refusal) ≡ None → (t ≡ true) × (x ≡ None)
both_fine true x refusal h = (refl, h)
both_fine false x refusal h = absurd cc

names_plain : (word step : ℕ) (atoms : List (List ℕ)) → names_fault word step atoms ≡ None → ArePlain atoms
names_plain word step [] h = tt
names_plain word step (atom ∷ rest) h =
    let fine = both_fine (is_ok (read_name atom)) (names_fault (word + step) step rest) (Name word) h in
    (name_lacks atom ((accepted atom).0 fine.0), names_plain (word + step) step rest fine.1)

shot_plain : (numbers : List (Option ℤ)) (dir : Option Dir) (names : List (List ℕ)) → IsPlain (shot_command numbers dir names)
shot_plain numbers None names = plain_syntax
shot_plain numbers (Some dir) names =
    unless_plain (names_fault 6 1 names ∷ numbers_fault 2 1 numbers ∷ world_fault (vector_at numbers 0) ∷ []) (Query (Shot (ray_of (vector_at numbers 0) dir) names))
    (may_names 6 1 names, (may_number 2 1 numbers, (may_if (is_from_world (vector_at numbers 0)) (View World) (plain_view World), tt)))
    (λ all. record { one_line = names_plain 6 1 names all.0; in_world = world_read (vector_at numbers 0) all.1.1.0 })

nirt_plain : (atoms : List (List ℕ)) → IsPlain (nirt_command atoms)
nirt_plain [] = plain_syntax
nirt_plain (a ∷ []) = plain_syntax
nirt_plain (a ∷ b ∷ []) = plain_syntax
nirt_plain (a ∷ b ∷ c ∷ []) = plain_syntax
nirt_plain (a ∷ b ∷ c ∷ d ∷ []) = plain_syntax
nirt_plain (x ∷ y ∷ z ∷ dir ∷ name ∷ rest) = shot_plain (numbers_as lists.Point (x ∷ y ∷ z ∷ [])) (direction_of dir) (name ∷ rest)

may_fault : (found : Option ViewFault) → MayBePlain (option_map View found)
may_fault None = tt
may_fault (Some fault) = plain_view fault

may_view : (view : views.View) → MayBePlain (view_refusal view)
unfolding view_refusal
may_view view = may_fault (view_fault view)

may_slant : (ray : SlantRay) → MayBePlain (slant_refusal ray)
unfolding slant_refusal
may_slant ray = may_fault (slant_fault ray)

slant_plain : (x y z dx dy dz : List ℕ) (names : List (List ℕ)) → IsPlain (slant_command (slant_numbers (x ∷ y ∷ z ∷ []) (dx ∷ dy ∷ dz ∷ [])) names)
slant_plain x y z dx dy dz names =
    let numbers : List (Option ℤ) = slant_numbers (x ∷ y ∷ z ∷ []) (dx ∷ dy ∷ dz ∷ []) in
    let small : IsWithin STEP (slant_direction (slant_by numbers)) = record { x = step_small (number_as plain_kind dx); y = step_small (number_as plain_kind dy); z = step_small (number_as plain_kind dz) } in
    unless_plain (names_fault 8 1 names ∷ numbers_fault 2 1 numbers ∷ slant_refusal (slant_by numbers) ∷ []) (Query (Slant (slant_by numbers) names))
    (may_names 8 1 names, (may_number 2 1 numbers, (may_slant (slant_by numbers), tt)))
    (λ all. record { one_line = names_plain 8 1 names all.0; checked = slant_whole (slant_by numbers) small all.1.1.0 })

nirtd_plain : (atoms : List (List ℕ)) → IsPlain (nirtd_command atoms)
nirtd_plain [] = plain_syntax
nirtd_plain (a ∷ []) = plain_syntax
nirtd_plain (a ∷ b ∷ []) = plain_syntax
nirtd_plain (a ∷ b ∷ c ∷ []) = plain_syntax
nirtd_plain (a ∷ b ∷ c ∷ d ∷ []) = plain_syntax
nirtd_plain (a ∷ b ∷ c ∷ d ∷ e ∷ []) = plain_syntax
nirtd_plain (a ∷ b ∷ c ∷ d ∷ e ∷ f ∷ []) = plain_syntax
nirtd_plain (x ∷ y ∷ z ∷ dx ∷ dy ∷ dz ∷ name ∷ rest) = slant_plain x y z dx dy dz (name ∷ rest)

file_shoot_plain : (what : FileShoot) (file : List ℕ) (view : views.View) (names : List (List ℕ)) → Lacks 10 file → IsPlainView view names → IsPlain (file_shoot what file view names)
file_shoot_plain OfPixels file view names h k = (h, k)
file_shoot_plain OfEdges file view names h k = (h, k)

file_plain : (what : FileShoot) (file : List ℕ) (dir : Option Dir) (numbers : List (Option ℤ)) (names : List (List ℕ)) → IsPlain (file_command what file dir numbers names)
file_plain what file None numbers names = plain_syntax
file_plain what file (Some dir) numbers names =
    let view : views.View = view_of dir numbers in
    unless_plain (name_fault 2 file ∷ names_fault 10 1 names ∷ numbers_fault 4 1 numbers ∷ view_refusal view ∷ []) (file_shoot what file view names)
    (may_if (is_ok (read_name file)) (Name 2) (plain_name 2), (may_names 10 1 names, (may_number 4 1 numbers, (may_view view, tt))))
    (λ all. file_shoot_plain what file view names (name_read 2 file all.0) (record { one_line = names_plain 10 1 names all.1.0; checked = seen_whole view all.1.1.1.0 }))

filed_plain : (what : FileShoot) (atoms : List (List ℕ)) → IsPlain (filed_command what atoms)
filed_plain what [] = plain_syntax
filed_plain what (a ∷ []) = plain_syntax
filed_plain what (a ∷ b ∷ []) = plain_syntax
filed_plain what (a ∷ b ∷ c ∷ []) = plain_syntax
filed_plain what (a ∷ b ∷ c ∷ d ∷ []) = plain_syntax
filed_plain what (a ∷ b ∷ c ∷ d ∷ e ∷ []) = plain_syntax
filed_plain what (a ∷ b ∷ c ∷ d ∷ e ∷ f ∷ []) = plain_syntax
filed_plain what (a ∷ b ∷ c ∷ d ∷ e ∷ f ∷ g ∷ []) = plain_syntax
filed_plain what (a ∷ b ∷ c ∷ d ∷ e ∷ f ∷ g ∷ h ∷ []) = plain_syntax
filed_plain what (file ∷ dir ∷ x ∷ y ∷ z ∷ cell ∷ w ∷ h ∷ name ∷ rest) = file_plain what file (direction_of dir) (view_numbers (x ∷ y ∷ z ∷ []) (cell ∷ w ∷ h ∷ [])) (name ∷ rest)

line_shoot_plain : (what : LineShoot) (view : views.View) (names : List (List ℕ)) → IsPlainView view names → IsPlain (line_shoot what view names)
line_shoot_plain OfOverlaps view names h = h
line_shoot_plain OfAreas view names h = h

view_plain : (what : LineShoot) (dir : Option Dir) (numbers : List (Option ℤ)) (names : List (List ℕ)) → IsPlain (view_command what dir numbers names)
view_plain what None numbers names = plain_syntax
view_plain what (Some dir) numbers names =
    let view : views.View = view_of dir numbers in
    unless_plain (names_fault 9 1 names ∷ numbers_fault 3 1 numbers ∷ view_refusal view ∷ []) (line_shoot what view names)
    (may_names 9 1 names, (may_number 3 1 numbers, (may_view view, tt)))
    (λ all. line_shoot_plain what view names (record { one_line = names_plain 9 1 names all.0; checked = seen_whole view all.1.1.0 }))

viewed_plain : (what : LineShoot) (atoms : List (List ℕ)) → IsPlain (viewed_command what atoms)
viewed_plain what [] = plain_syntax
viewed_plain what (a ∷ []) = plain_syntax
viewed_plain what (a ∷ b ∷ []) = plain_syntax
viewed_plain what (a ∷ b ∷ c ∷ []) = plain_syntax
viewed_plain what (a ∷ b ∷ c ∷ d ∷ []) = plain_syntax
viewed_plain what (a ∷ b ∷ c ∷ d ∷ e ∷ []) = plain_syntax
viewed_plain what (a ∷ b ∷ c ∷ d ∷ e ∷ f ∷ []) = plain_syntax
viewed_plain what (a ∷ b ∷ c ∷ d ∷ e ∷ f ∷ g ∷ []) = plain_syntax
viewed_plain what (dir ∷ x ∷ y ∷ z ∷ cell ∷ w ∷ h ∷ name ∷ rest) = view_plain what (direction_of dir) (view_numbers (x ∷ y ∷ z ∷ []) (cell ∷ w ∷ h ∷ [])) (name ∷ rest)

members_plain : (members : List (List ℕ)) → ArePlain members → ArePlain (names_of (map (entry_of U) members))
members_plain [] h = tt
members_plain (m ∷ ms) h = (h.0, members_plain ms h.1)

region_plain : (name : List ℕ) (entries : Option (List ListEntry)) → IsPlain (region_command name entries)
region_plain name None = plain_syntax
region_plain name (Some []) = plain_syntax
region_plain name (Some (e ∷ es)) =
    unless_plain (name_fault 2 name ∷ members_fault 4 (Some (e ∷ es)) ∷ []) (Edit (Region name (e ∷ es)))
    (may_if (is_ok (read_name name)) (Name 2) (plain_name 2), (may_names 4 2 (names_of (e ∷ es)), tt))
    (λ all. (name_read 2 name all.0, names_plain 4 2 (names_of (e ∷ es)) all.1.0))

r_plain : (atoms : List (List ℕ)) → IsPlain (r_command atoms)
r_plain [] = plain_syntax
r_plain (name ∷ rest) = region_plain name (entries_of rest)

g_plain : (atoms : List (List ℕ)) → IsPlain (g_command atoms)
g_plain [] = plain_syntax
g_plain (a ∷ []) = plain_syntax
g_plain (name ∷ member ∷ rest) =
    unless_plain (names_fault 2 1 (name ∷ member ∷ rest) ∷ []) (Edit (Group name (map (entry_of U) (member ∷ rest)))) (may_names 2 1 (name ∷ member ∷ rest), tt)
    (λ all. let fine = names_plain 2 1 (name ∷ member ∷ rest) all.0 in (fine.0, members_plain (member ∷ rest) fine.1))

rm_plain : (atoms : List (List ℕ)) → IsPlain (rm_command atoms)
rm_plain [] = plain_syntax
rm_plain (a ∷ []) = plain_syntax
rm_plain (comb ∷ member ∷ rest) =
    unless_plain (names_fault 2 1 (comb ∷ member ∷ rest) ∷ []) (Edit (Remove comb (member ∷ rest))) (may_names 2 1 (comb ∷ member ∷ rest), tt)
    (λ all. let fine = names_plain 2 1 (comb ∷ member ∷ rest) all.0 in (fine.0, fine.1))

kill_plain : (atoms : List (List ℕ)) → IsPlain (kill_command atoms)
kill_plain [] = plain_syntax
kill_plain (name ∷ rest) = unless_plain (names_fault 2 1 (name ∷ rest) ∷ []) (Edit (Kill (name ∷ rest))) (may_names 2 1 (name ∷ rest), tt) (λ all. names_plain 2 1 (name ∷ rest) all.0)

mvall_plain : (atoms : List (List ℕ)) → IsPlain (mvall_command atoms)
mvall_plain [] = plain_syntax
mvall_plain (a ∷ []) = plain_syntax
mvall_plain (old ∷ new ∷ []) =
    unless_plain (names_fault 2 1 (old ∷ new ∷ []) ∷ []) (Edit (RenameAll old new)) (may_names 2 1 (old ∷ new ∷ []), tt)
    (λ all. let fine = names_plain 2 1 (old ∷ new ∷ []) all.0 in (fine.0, fine.1.0))
mvall_plain (a ∷ b ∷ c ∷ rest) = plain_syntax

save_plain : (atoms : List (List ℕ)) → IsPlain (save_command atoms)
save_plain [] = plain_syntax
save_plain (file ∷ []) = unless_plain (name_fault 2 file ∷ []) (Query (Save file)) (may_if (is_ok (read_name file)) (Name 2) (plain_name 2), tt) (λ all. name_read 2 file all.0)
save_plain (a ∷ b ∷ rest) = plain_syntax

ls_plain : (atoms : List (List ℕ)) → IsPlain (ls_command atoms)
ls_plain [] = tt
ls_plain (a ∷ rest) = plain_syntax

may_placement : (word : ℕ) (placement : Option Placement) → MayBePlain (placement_fault word placement)
may_placement word None = plain_number word
may_placement word (Some placement) = tt

matrix_plain : (comb member : List ℕ) (step : ℕ) (numbers : List (Option ℤ)) → IsPlain (matrix_command comb member step numbers)
matrix_plain comb member step numbers =
    let faults : List (Option Refusal) = names_fault 2 1 (comb ∷ member ∷ []) ∷ numbers_fault 4 step numbers ∷ placement_fault 4 (placement_read numbers) ∷ [] in
    unless_plain faults (Edit (Place comb member (unwrap_or (placement_read numbers) identity)))
    (may_names 2 1 (comb ∷ member ∷ []), (may_number 4 step numbers, (may_placement 4 (placement_read numbers), tt)))
    (λ all. let fine = names_plain 2 1 (comb ∷ member ∷ []) all.0 in (fine.0, fine.1.0))

sixteen_plain : (comb member : List ℕ) (step : ℕ) (atoms : Option (List (List ℕ))) → IsPlain (sixteen_command comb member step atoms)
sixteen_plain comb member step None = plain_syntax
sixteen_plain comb member step (Some atoms) =
    either_plain (length atoms == 16) (matrix_command comb member step (numbers_as lists.Matrix atoms)) (Bad Syntax) (matrix_plain comb member step (numbers_as lists.Matrix atoms)) plain_syntax

with_plain : (line : List ℕ) (tokens : List Token) (words : List Word) (comb member : Option (List ℕ)) → IsPlain (place_with line tokens words comb member)
with_plain line tokens words None member = plain_syntax
with_plain line tokens words (Some comb) None = plain_syntax
with_plain line tokens words (Some comb) (Some member) = sixteen_plain comb member (matrix_step words) (matrix_words line tokens words)

place_plain : (line : List ℕ) (tokens : List Token) (words : List Word) → IsPlain (place_command line tokens words)
place_plain line tokens [] = plain_syntax
place_plain line tokens (a ∷ []) = plain_syntax
place_plain line tokens (comb ∷ member ∷ words) = with_plain line tokens words (atom_of line tokens comb) (atom_of line tokens member)

setting_plain : (name key value : List ℕ) → IsPlain (set_command name key value)
setting_plain name key value =
    either_plain (is_none (key_of key)) (Bad Syntax) (unless_refused (name_fault 2 name ∷ setting_fault 4 key value ∷ []) (Edit (Set name (record { key = key; value = value })))) plain_syntax
    (unless_plain (name_fault 2 name ∷ setting_fault 4 key value ∷ []) (Edit (Set name (record { key = key; value = value })))
    (may_if (is_ok (read_name name)) (Name 2) (plain_name 2), (may_if (is_setting key value) (Number 4) (plain_number 4), tt)) (λ all. name_read 2 name all.0))

set_plain : (name key : Option (List ℕ)) (value : List ℕ) → IsPlain (set_with name key value)
set_plain None key value = plain_syntax
set_plain (Some name) None value = plain_syntax
set_plain (Some name) (Some key) value = setting_plain name key value

cattr_plain : (line : List ℕ) (tokens : List Token) (words : List Word) → IsPlain (cattr_command line tokens words)
cattr_plain line tokens [] = plain_syntax
cattr_plain line tokens (a ∷ []) = plain_syntax
cattr_plain line tokens (a ∷ b ∷ []) = plain_syntax
cattr_plain line tokens (name ∷ key ∷ value ∷ rest) = set_plain (atom_of line tokens name) (atom_of line tokens key) (value_of line tokens value rest)

-- one object as words
refusal_plain : (fault : PutFault) → IsPlainRefusal (refusal_of_put fault)
refusal_plain put.NoType = plain_syntax
refusal_plain put.Attr = plain_syntax
refusal_plain put.Tree = plain_syntax
refusal_plain (put.Name word) = plain_name word
refusal_plain (put.Number word) = plain_number word
refusal_plain (put.Shape fault) = plain_shape fault
refusal_plain PutFault.Memory = plain_syntax

made_plain : (made : PutRead) → IsNamedPut made → IsPlain (put_made made)
made_plain (Ok made) h = h
made_plain (Err fault) h = refusal_plain fault

put_plain : (line : List ℕ) (tokens : List Token) (words : List Word) → IsPlain (put_command line tokens words)
put_plain line tokens [] = plain_syntax
put_plain line tokens (word ∷ []) = plain_syntax
put_plain line tokens (word ∷ name ∷ rest) =
    either_plain (is_none (atom_of line tokens name)) (Bad Syntax) (put_made (put_of line tokens (word ∷ name ∷ rest))) plain_syntax
    (made_plain (put_of line tokens (word ∷ name ∷ rest)) (put_named line tokens (word ∷ name ∷ rest)))

title_plain : (line : List ℕ) (tokens : List Token) (words : List Word) → IsPlain (title_command line tokens words)
title_plain line tokens [] = plain_syntax
title_plain line tokens (value ∷ rest) = either_plain (is_text (value_of line tokens value rest)) (Edit (Title (value_of line tokens value rest))) (Bad Syntax) tt plain_syntax

-- attributes to be kept
may_keep : (pairs : Result (List KeptAttr) PutFault) → MayBePlain (keep_fault pairs)
may_keep (Ok pairs) = tt
may_keep (Err fault) = refusal_plain fault

kept_pairs : (pairs : Result (List KeptAttr) PutFault) → IsPlainKept pairs → ArePlainPairs (pairs_or_none pairs)
kept_pairs (Ok pairs) h = h
kept_pairs (Err fault) h = tt

pairs_plain : (name : List ℕ) (pairs : Result (List KeptAttr) PutFault) → IsPlainKept pairs → IsPlain (unless_refused (name_fault 3 name ∷ keep_fault pairs ∷ []) (Edit (Keep name (pairs_or_none pairs))))
pairs_plain name pairs h =
    unless_plain (name_fault 3 name ∷ keep_fault pairs ∷ []) (Edit (Keep name (pairs_or_none pairs))) (may_if (is_ok (read_name name)) (Name 3) (plain_name 3), (may_keep pairs, tt))
    (λ all. (name_read 3 name all.0, kept_pairs pairs h))

kept_plain : (name : List ℕ) (pairs : Result (List KeptAttr) PutFault) → IsPlainKept pairs → IsPlain (kept_command name pairs)
kept_plain name (Ok pairs) h = pairs_plain name (Ok pairs) h
kept_plain name (Err put.NoType) h = pairs_plain name (Err put.NoType) h
kept_plain name (Err put.Attr) h = plain_syntax
kept_plain name (Err put.Tree) h = pairs_plain name (Err put.Tree) h
kept_plain name (Err (put.Name word)) h = pairs_plain name (Err (put.Name word)) h
kept_plain name (Err (put.Number word)) h = pairs_plain name (Err (put.Number word)) h
kept_plain name (Err (put.Shape fault)) h = pairs_plain name (Err (put.Shape fault)) h
kept_plain name (Err PutFault.Memory) h = pairs_plain name (Err PutFault.Memory) h

keep_plain : (name : Option (List ℕ)) (pairs : Result (List KeptAttr) PutFault) → IsPlainKept pairs → IsPlain (keep_command name pairs)
keep_plain None pairs h = plain_syntax
keep_plain (Some name) pairs h = kept_plain name pairs h

attr_plain : (line : List ℕ) (tokens : List Token) (words : List Word) → IsPlain (attr_command line tokens words)
attr_plain line tokens [] = plain_syntax
attr_plain line tokens (a ∷ []) = plain_syntax
attr_plain line tokens (set ∷ name ∷ rest) =
    let pairs : Result (List KeptAttr) PutFault = kept_of line tokens (pairs_of line tokens 4 rest) in
    either_plain (is_set (atom_of line tokens set)) (keep_command (atom_of line tokens name) pairs) (Bad Syntax) (keep_plain (atom_of line tokens name) pairs (read_kept_plain line tokens (pairs_of line tokens 4 rest))) plain_syntax

-- listings
l_plain : (atoms : List (List ℕ)) → IsPlain (l_command atoms)
l_plain [] = plain_syntax
l_plain (name ∷ rest) = unless_plain (names_fault 2 1 (name ∷ rest) ∷ []) (Query (Lines (name ∷ rest))) (may_names 2 1 (name ∷ rest), tt) (λ all. names_plain 2 1 (name ∷ rest) all.0)

tree_plain : (atoms : List (List ℕ)) → IsPlain (tree_command atoms)
tree_plain [] = plain_syntax
tree_plain (name ∷ rest) = unless_plain (names_fault 2 1 (name ∷ rest) ∷ []) (Query (Tree (name ∷ rest))) (may_names 2 1 (name ∷ rest), tt) (λ all. names_plain 2 1 (name ∷ rest) all.0)

atom_plain : (word : List ℕ) (atoms : List (List ℕ)) → IsPlain (atom_command word atoms)
atom_plain word atoms =
    either_plain (bytes_eq word (codes "in")) (in_command atoms) _ (in_plain atoms)
    (either_plain (bytes_eq word (codes "nirt")) (nirt_command atoms) _ (nirt_plain atoms)
    (either_plain (bytes_eq word (codes "nirtd")) (nirtd_command atoms) _ (nirtd_plain atoms)
    (either_plain (bytes_eq word (codes "rt")) (filed_command OfPixels atoms) _ (filed_plain OfPixels atoms)
    (either_plain (bytes_eq word (codes "rtcheck")) (viewed_command OfOverlaps atoms) _ (viewed_plain OfOverlaps atoms)
    (either_plain (bytes_eq word (codes "rtarea")) (viewed_command OfAreas atoms) _ (viewed_plain OfAreas atoms)
    (either_plain (bytes_eq word (codes "rtedge")) (filed_command OfEdges atoms) _ (filed_plain OfEdges atoms)
    (either_plain (bytes_eq word (codes "r")) (r_command atoms) _ (r_plain atoms)
    (either_plain (bytes_eq word (codes "g")) (g_command atoms) _ (g_plain atoms)
    (either_plain (bytes_eq word (codes "rm")) (rm_command atoms) _ (rm_plain atoms)
    (either_plain (bytes_eq word (codes "kill")) (kill_command atoms) _ (kill_plain atoms)
    (either_plain (bytes_eq word (codes "mvall")) (mvall_command atoms) _ (mvall_plain atoms)
    (either_plain (bytes_eq word (codes "ls")) (ls_command atoms) _ (ls_plain atoms)
    (either_plain (bytes_eq word (codes "l")) (l_command atoms) _ (l_plain atoms)
    (either_plain (bytes_eq word (codes "tree")) (tree_command atoms) _ (tree_plain atoms)
    (either_plain (bytes_eq word (codes "save")) (save_command atoms) (Bad Syntax) (save_plain atoms) plain_syntax)))))))))))))))

atoms_plain : (word : List ℕ) (atoms : Option (List (List ℕ))) → IsPlain (with_atoms (atom_command word) atoms)
atoms_plain word None = plain_syntax
atoms_plain word (Some atoms) = atom_plain word atoms

named_plain : (line : List ℕ) (tokens : List Token) (word : Word) (words : List Word) (name : List ℕ) → IsPlain (named_command line tokens word words name)
named_plain line tokens word words name =
    either_plain (bytes_eq name (codes "place")) (place_command line tokens words) _ (place_plain line tokens words)
    (either_plain (bytes_eq name (codes "cattr")) (cattr_command line tokens words) _ (cattr_plain line tokens words)
    (either_plain (bytes_eq name (codes "put")) (put_command line tokens (word ∷ words)) _ (put_plain line tokens (word ∷ words))
    (either_plain (bytes_eq name (codes "attr")) (attr_command line tokens words) _ (attr_plain line tokens words)
    (either_plain (bytes_eq name (codes "title")) (title_command line tokens words) (with_atoms (atom_command name) (atoms_in line tokens words)) (title_plain line tokens words) (atoms_plain name (atoms_in line tokens words))))))

worded_plain : (line : List ℕ) (tokens : List Token) (word : Word) (words : List Word) (name : Option (List ℕ)) → IsPlain (worded_command line tokens word words name)
worded_plain line tokens word words None = plain_syntax
worded_plain line tokens word words (Some name) = named_plain line tokens word words name

all_plain : (line : List ℕ) (tokens : List Token) (words : List Word) → IsPlain (command_of_words line tokens words)
all_plain line tokens [] = plain_syntax
all_plain line tokens (word ∷ words) = worded_plain line tokens word words (atom_of line tokens word)

read_plain : (line : List ℕ) (read : Result (List Token) WordFault) → IsPlain (command_read line read)
read_plain line (Err fault) = plain_syntax
read_plain line (Ok tokens) = all_plain line tokens (top_words tokens)

pub line_plain : (line : List ℕ) → IsPlain (command_of line)
line_plain line = read_plain line (words_of line)

one_entry : (x : Entry Command) → IsReadable x → (i : ℕ) (d : Entry Command) → i < 1 → IsReadable (get_or (x ∷ []) i d)
one_entry x k zero d lt = k
one_entry x k (suc i) d lt = absurd (omega (arith, lt))

all_end : (xs : List (Entry Command)) (x : Entry Command) → All IsReadable xs → IsReadable x → All IsReadable (xs ++ x ∷ [])
all_end xs x h k = All-append IsReadable xs (x ∷ []) h (one_entry x k)

-- with the command of one line more
pub line_end : (script : List (Entry Command)) (session : ℕ) (rest : List ℕ) → All IsReadable script → All IsReadable (script ++ entry session (command_of rest) ∷ [])
line_end script session rest h = all_end script (entry session (command_of rest)) h (line_plain rest)

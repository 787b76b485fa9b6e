-- A line is told of the first of what is looked at in it that is refused: a name, a number, its ray, its solid.
use Rattle.std.proofs.Common.{◌≡◌, inl, inr, ◌+◌, ◌-◌, ◌++◌, ◌==◌, ◌&&◌, ◌∙◌, ℕ, ℤ, Bool, true, false, not, cond, find, nat_lt, List, [], ◌∷◌, Option, Some, None, is_none, is_some, Result, Ok, Err, is_ok, length, map, take, codes, bytes_eq, ap, refl, sym}
use Rattle.std.specs.List.{list_all, slice_range}
use Rattle.std.specs.Prelude.{unwrap_or}
use Rattle.std.specs.Option.{option_map}
use Rattle.lattice_core.specs.declared.vector.V3.{V3}
use Rattle.lattice_core.specs.declared.view.View as views
use Rattle.lattice_core.specs.declared.view.ViewFault.{ViewFault}
use Rattle.lattice_core.specs.Views.{view_fault}
use Rattle.lattice_core.specs.declared.ray.Dir.{Dir}
use Rattle.lattice_core.specs.declared.placement.Placement.{Placement}
use Rattle.name_core.specs.NameText.{read_name}
use Rattle.tcl_words.specs.Reading.{words_of}
use Rattle.tcl_words.specs.TopWords.{top_words, atom_of}
use Rattle.tcl_words.specs.declared.fault.WordFault.{WordFault}
use Rattle.tcl_words.specs.declared.token.Token.{Token}
use Rattle.tcl_words.specs.declared.token.Word.{Word}
use Rattle.tree_forms.specs.Trees.{Tree}
use Rattle.tree_forms.specs.declared.Op.{Op}
use Rattle.tree_forms.specs.declared.Op.TheVariants.{U}
use Rattle.comb_tree.specs.Changes.{names_of}
use Rattle.comb_tree.specs.Nodes.{Comb}
use Rattle.comb_tree.specs.declared.node.ListEntry.{ListEntry}
use Rattle.region_attr.specs.Attrs.{is_setting}
use Rattle.region_attr.specs.Keys.{key_of}
use Rattle.plane_geom.specs.declared.fault.ShapeFault.{ShapeFault}
use Rattle.solid_set.specs.declared.solid.Solid.{Solid}
use Rattle.object_set.specs.declared.kept.KeptAttr.{KeptAttr}
use Rattle.object_set.specs.declared.object.Body.TheVariants as bodies
use Rattle.word_values.specs.Atoms.{atoms_in, value_of}
use Rattle.word_values.specs.Kinds.{numbers_as}
use Rattle.word_values.specs.declared.atoms.NumberList.TheVariants as lists
use Rattle.word_values.specs.Groups.{words_of_tokens}
use Rattle.word_values.specs.Matrices.{placement_read, identity}
use Rattle.word_values.specs.Solids.{kind_of, number_count, solid_made, vector_at}
use Rattle.word_values.specs.SolidForms.{made_as}
use Rattle.word_values.specs.Trees.{Given, given_leaves, has_name, has_placement, members_in, most_leaves, tree_if, tree_of, tree_in as tree_spelled}
use Rattle.word_values.specs.declared.solid.SolidKind.{SolidKind}
use Rattle.word_values.specs.declared.solid_form.SolidForm.{SolidForm}
use Rattle.word_values.specs.declared.tree.TreeFault.{TreeFault}
use Rattle.word_values.specs.declared.tree.TreeFault.TheVariants as tree
use Rattle.put_form.specs.Combs as combs
use Rattle.put_form.specs.Keeps.{is_text, kept_attr, has_form, is_named, unnamed_at, kept_or, kept_of}
use Rattle.put_form.specs.Pairs.{Pair, pairs_of}
use Rattle.put_form.specs.Puts as puts
use Rattle.put_form.specs.Puts.{Put, unless_fault, when, solid_put, solid_with, kind_named, kind_put, is_put, place_of}
use Rattle.put_form.specs.Solids as solids
use Rattle.put_form.specs.declared.fault.PutFault.{PutFault}
use Rattle.put_form.specs.declared.fault.PutFault.TheVariants as put
use Rattle.put_form.specs.declared.kind.Kind.{Kind}
use Rattle.put_form.specs.declared.kind.Kind.TheVariants as kinds
use Rattle.command_set.specs.declared.command.Command.{Command}
use Rattle.command_set.specs.declared.command.Command.TheVariants.{Bad, Edit, Query, Shoot}
use Rattle.command_set.specs.declared.command.Edit.TheVariants.{Region, Group, Remove, Kill, RenameAll, Place, Title, Keep, Set}
use Rattle.command_set.specs.declared.command.Query.TheVariants.{List as Lines, Tree as Listing, Save, Shot, Slant}
use Rattle.command_set.specs.declared.refusal.Refusal.{Refusal}
use Rattle.command_set.specs.declared.refusal.Refusal.TheVariants.{Syntax, Name, Number, View, Shape}
use Rattle.lattice_core.specs.declared.view.ViewFault.TheVariants.{World}
use Rattle.slant_ray.specs.declared.ray.SlantRay.{SlantRay}
use Rattle.slant_ray.specs.Rays.{is_from_world, slant_fault}
use Rattle.mged_words.specs.declared.views.FileShoot.{FileShoot}
use Rattle.mged_words.specs.declared.views.FileShoot.TheVariants.{OfPixels, OfEdges}
use Rattle.mged_words.specs.declared.views.LineShoot.{LineShoot}
use Rattle.mged_words.specs.declared.views.LineShoot.TheVariants.{OfOverlaps, OfAreas}
use Rattle.mged_words.specs.Commands.{unless_refused, name_fault, names_fault, numbers_fault, placement_fault, setting_fault, make_command, solid_command, kind_command, in_command, direction_of, world_fault, ray_of, shot_command, nirt_command, slant_numbers, slant_by, slant_refusal, slant_command, nirtd_command, view_numbers, view_of, view_refusal, file_shoot, file_command, filed_command, line_shoot, view_command, viewed_command, operator_of, entry_of, entry_before, entries_of, region_command, r_command, g_command, rm_command, kill_command, mvall_command, save_command, ls_command, sixteen_command, matrix_command, matrix_step, matrix_words, place_with, place_command, set_with, cattr_command, with_atoms, atom_command, named_command, worded_command, refusal_of_put, put_made, put_command, title_command, kept_command, keep_command, is_set, attr_command, l_command, tree_command, command_of_words, command_read, command_of}
use Rattle.mged_words.specs.Order.{numbered, ranged, Wanted, names_alone, nothing, every_second, name_at, shape_fault, made_wanted, solid_wanted, in_wanted, shot_wanted, nirt_wanted, slant_wanted, nirtd_wanted, view_wanted, rt_wanted, rtcheck_wanted, wanted_behind, wanted_of_atoms, matrix_numbers, with_numbers, place_wanted, setting_at, cattr_wanted, key_name, key_names, attr_wanted, spelled_leaves, leaf_names, tree_names, value_numbers, given_shape, object_wanted, put_wanted, wanted_after, wanted_worded, wanted_of_words, wanted_read, wanted_of_line, names_of_line, first_unnamed, first_out, or_else, first_of, first_refusal, told, TellsFirst, told_name, TellsNames}

-- ---- lists of refusals

or_both : {a b x y : Option Refusal} → a ≡ b → x ≡ y → or_else a x ≡ or_else b y
or_both {a} {b} {x} {y} h k = ap (λ (o : Option Refusal). or_else o x) h ∙ ap (or_else b) k

-- what a command is told is the first of its list, or what is told after it
told_list : (faults : List (Option Refusal)) (command : Command) → told (unless_refused faults command) ≡ first_of (faults ++ told command ∷ [])
told_list [] (Bad refusal) = refl
told_list [] (Edit edit) = refl
told_list [] (Query query) = refl
told_list [] (Shoot shoot) = refl
told_list (None ∷ rest) command = told_list rest command
told_list (Some refusal ∷ rest) command = refl

-- a word that is no name
name_first : (t : Bool) (word : ℕ) (bad : Option ℕ) → or_else (cond t None (Some (Name word))) (option_map Name bad) ≡ option_map Name (cond t bad (Some word))
name_first true word bad = refl
name_first false word bad = refl

name_step : (t : Bool) (word : ℕ) (fault : Option Refusal) (bad : Option ℕ) → fault ≡ option_map Name bad → cond t fault (Some (Name word)) ≡ option_map Name (cond t bad (Some word))
name_step true word fault bad h = h
name_step false word fault bad h = refl

names_are : (word step : ℕ) (atoms : List (List ℕ)) → names_fault word step atoms ≡ option_map Name (first_unnamed (numbered word step atoms))
names_are word step [] = refl
names_are word step (atom ∷ rest) = name_step (is_ok (read_name atom)) word (names_fault (word + step) step rest) (first_unnamed (numbered (word + step) step rest)) (names_are (word + step) step rest)

-- one name
name_is : (word : ℕ) (atom : List ℕ) → name_fault word atom ≡ option_map Name (first_unnamed ((word, atom) ∷ []))
name_is word atom = name_step (is_ok (read_name atom)) word None None refl

-- numbers, and then what else is asked of their words
numbers_then : (word step : ℕ) (numbers : List (Option ℤ)) (more : List (ℕ × Bool)) (rest : Option Refusal)
    → or_else (numbers_fault word step numbers) (or_else (option_map Number (first_out more)) rest) ≡ or_else (option_map Number (first_out (ranged word step numbers ++ more))) rest
numbers_then word step [] more rest = refl
numbers_then word step (None ∷ numbers) more rest = refl
numbers_then word step (Some n ∷ numbers) more rest = numbers_then (word + step) step numbers more rest

numbers_are : (word step : ℕ) (numbers : List (Option ℤ)) → numbers_fault word step numbers ≡ option_map Number (first_out (ranged word step numbers))
numbers_are word step [] = refl
numbers_are word step (None ∷ numbers) = refl
numbers_are word step (Some n ∷ numbers) = numbers_are (word + step) step numbers

-- ---- forms that a line has or has not

if_told : (t : Bool) (command : Command) (w : Wanted) → TellsFirst command w → TellsFirst (cond t command (Bad Syntax)) w
if_told true command w h = h
if_told false command w h = inl refl

unless_told : (t : Bool) (command : Command) (w : Wanted) → TellsFirst command w → TellsFirst (cond t (Bad Syntax) command) w
unless_told true command w h = inl refl
unless_told false command w h = h

-- a word that has this meaning or another
both_told : (t : Bool) (x y : Command) (v w : Wanted) → TellsFirst x v → TellsFirst y w → TellsFirst (cond t x y) (cond t v w)
both_told true x y v w h k = h
both_told false x y v w h k = k

either_told : (t : Bool) (x y : Command) (w : Wanted) → TellsFirst x w → TellsFirst y w → TellsFirst (cond t x y) w
either_told true x y w h k = h
either_told false x y w h k = k

-- ---- commands that are names alone

named_told : (word step : ℕ) (atoms : List (List ℕ)) (command : Command) → told command ≡ None → TellsFirst (unless_refused (names_fault word step atoms ∷ []) command) (names_alone (numbered word step atoms))
named_told word step atoms command h = inr (told_list (names_fault word step atoms ∷ []) command ∙ or_both (names_are word step atoms) (ap (λ (o : Option Refusal). or_else o None) h))

g_told : (atoms : List (List ℕ)) → TellsFirst (g_command atoms) (names_alone (numbered 2 1 atoms))
g_told [] = inl refl
g_told (a ∷ []) = inl refl
g_told (name ∷ member ∷ rest) = named_told 2 1 (name ∷ member ∷ rest) (Edit (Group name (map (entry_of U) (member ∷ rest)))) refl

rm_told : (atoms : List (List ℕ)) → TellsFirst (rm_command atoms) (names_alone (numbered 2 1 atoms))
rm_told [] = inl refl
rm_told (a ∷ []) = inl refl
rm_told (comb ∷ member ∷ rest) = named_told 2 1 (comb ∷ member ∷ rest) (Edit (Remove comb (member ∷ rest))) refl

kill_told : (atoms : List (List ℕ)) → TellsFirst (kill_command atoms) (names_alone (numbered 2 1 atoms))
kill_told [] = inl refl
kill_told (name ∷ rest) = named_told 2 1 (name ∷ rest) (Edit (Kill (name ∷ rest))) refl

mvall_told : (atoms : List (List ℕ)) → TellsFirst (mvall_command atoms) (names_alone (numbered 2 1 atoms))
mvall_told [] = inl refl
mvall_told (a ∷ []) = inl refl
mvall_told (old ∷ new ∷ []) = named_told 2 1 (old ∷ new ∷ []) (Edit (RenameAll old new)) refl
mvall_told (a ∷ b ∷ c ∷ rest) = inl refl

save_told : (atoms : List (List ℕ)) → TellsFirst (save_command atoms) (names_alone (numbered 2 1 atoms))
save_told [] = inl refl
save_told (file ∷ []) = named_told 2 1 (file ∷ []) (Query (Save file)) refl
save_told (a ∷ b ∷ rest) = inl refl

ls_told : (atoms : List (List ℕ)) → TellsFirst (ls_command atoms) (names_alone (numbered 2 1 atoms))
ls_told [] = inr refl
ls_told (a ∷ rest) = inl refl

l_told : (atoms : List (List ℕ)) → TellsFirst (l_command atoms) (names_alone (numbered 2 1 atoms))
l_told [] = inl refl
l_told (name ∷ rest) = named_told 2 1 (name ∷ rest) (Query (Lines (name ∷ rest))) refl

tree_told : (atoms : List (List ℕ)) → TellsFirst (tree_command atoms) (names_alone (numbered 2 1 atoms))
tree_told [] = inl refl
tree_told (name ∷ rest) = named_told 2 1 (name ∷ rest) (Query (Listing (name ∷ rest))) refl

-- the names of a list are its second words
entry_step : (name member : List ℕ) (op : Option Op) (rest : List (List ℕ)) (others : Option (List ListEntry)) (es : List ListEntry)
    → ((more : List ListEntry) → others ≡ Some more → every_second (member ∷ rest) ≡ member ∷ names_of more) → entry_before op member others ≡ Some es
    → name ∷ every_second (member ∷ rest) ≡ name ∷ names_of es
entry_step name member None rest others es h k = absurd cc
entry_step name member (Some op) rest None es h k = absurd cc
entry_step name member (Some op) rest (Some more) es h k = ap (λ (ns : List (List ℕ)). name ∷ ns) (h more refl) ∙ ap (λ (o : Option (List ListEntry)). name ∷ names_of (unwrap_or o [])) k

list_names : (name : List ℕ) (rest : List (List ℕ)) (es : List ListEntry) → entries_of rest ≡ Some es → every_second (name ∷ rest) ≡ name ∷ names_of es
list_names name [] [] h = refl
list_names name [] (e ∷ es) h = absurd cc
list_names name (op ∷ []) es h = absurd cc
list_names name (op ∷ member ∷ rest) es h = entry_step name member (operator_of op) rest (entries_of rest) es (λ more e. list_names member rest more e) h

region_told : (name : List ℕ) (rest : List (List ℕ)) (entries : Option (List ListEntry)) → entries_of rest ≡ entries → TellsFirst (region_command name entries) (names_alone (numbered 2 2 (every_second (name ∷ rest))))
region_told name rest None h = inl refl
region_told name rest (Some []) h = inl refl
region_told name rest (Some (e ∷ es)) h =
    let members : List (List ℕ) = names_of (e ∷ es) in
    let bad : Option ℕ = first_unnamed (numbered 4 2 members) in
    inr (told_list (name_fault 2 name ∷ names_fault 4 2 members ∷ []) (Edit (Region name (e ∷ es)))
    ∙ ap (λ (o : Option Refusal). or_else (name_fault 2 name) (or_else o None)) (names_are 4 2 members)
    ∙ region_names (is_ok (read_name name)) bad
    ∙ sym (ap (λ (ns : List (List ℕ)). or_else (option_map Name (first_unnamed (numbered 2 2 ns))) None) (list_names name rest (e ∷ es) h)))
  where
    region_names : (t : Bool) (b : Option ℕ) → or_else (cond t None (Some (Name 2))) (or_else (option_map Name b) None) ≡ or_else (option_map Name (cond t b (Some 2))) None
    region_names true b = refl
    region_names false b = refl

r_told : (atoms : List (List ℕ)) → TellsFirst (r_command atoms) (names_alone (numbered 2 2 (every_second atoms)))
r_told [] = inl refl
r_told (name ∷ rest) = region_told name rest (entries_of rest) refl

-- ---- solids and rays

made_told : (name : List ℕ) (made : Result Solid ShapeFault) → told (make_command name made) ≡ option_map Shape (shape_fault made)
made_told name (Ok solid) = refl
made_told name (Err fault) = refl

kind_told : (name : List ℕ) (kind : Option SolidKind) (atoms : List (List ℕ)) → TellsFirst (kind_command name kind atoms) (solid_wanted name kind atoms)
kind_told name None atoms = inl refl
kind_told name (Some kind) atoms =
    let numbers : List (Option ℤ) = numbers_as (lists.Solid kind) atoms in
    if_told (length atoms == number_count kind) (solid_command name kind numbers) (made_wanted name kind numbers)
    (inr (told_list (name_fault 2 name ∷ numbers_fault 4 1 numbers ∷ []) (make_command name (solid_made kind numbers))
    ∙ or_both (name_is 2 name) (or_both (numbers_are 4 1 numbers) (ap (λ (o : Option Refusal). or_else o None) (made_told name (solid_made kind numbers))))))

in_told : (atoms : List (List ℕ)) → TellsFirst (in_command atoms) (in_wanted atoms)
in_told [] = inl refl
in_told (a ∷ []) = inl refl
in_told (name ∷ kind ∷ atoms) = kind_told name (kind_of kind) atoms

world_told : (t : Bool) → or_else (cond t None (Some (View World))) None ≡ or_else (option_map View (cond t None (Some World))) None
world_told true = refl
world_told false = refl

shot_told : (numbers : List (Option ℤ)) (dir : Option Dir) (names : List (List ℕ)) → TellsFirst (shot_command numbers dir names) (shot_wanted numbers names)
shot_told numbers None names = inl refl
shot_told numbers (Some dir) names =
    let origin : V3 = vector_at numbers 0 in
    inr (told_list (names_fault 6 1 names ∷ numbers_fault 2 1 numbers ∷ world_fault origin ∷ []) (Query (Shot (ray_of origin dir) names))
    ∙ or_both (names_are 6 1 names) (or_both (numbers_are 2 1 numbers) (world_told (is_from_world origin))))

nirt_told : (atoms : List (List ℕ)) → TellsFirst (nirt_command atoms) (nirt_wanted atoms)
nirt_told [] = inl refl
nirt_told (a ∷ []) = inl refl
nirt_told (a ∷ b ∷ []) = inl refl
nirt_told (a ∷ b ∷ c ∷ []) = inl refl
nirt_told (a ∷ b ∷ c ∷ d ∷ []) = inl refl
nirt_told (x ∷ y ∷ z ∷ dir ∷ name ∷ rest) = shot_told (numbers_as lists.Point (x ∷ y ∷ z ∷ [])) (direction_of dir) (name ∷ rest)

ray_told : (ray : SlantRay) → slant_refusal ray ≡ option_map View (slant_fault ray)
unfolding slant_refusal
ray_told ray = refl

slant_told : (numbers : List (Option ℤ)) (names : List (List ℕ)) → TellsFirst (slant_command numbers names) (slant_wanted numbers names)
slant_told numbers names =
    inr (told_list (names_fault 8 1 names ∷ numbers_fault 2 1 numbers ∷ slant_refusal (slant_by numbers) ∷ []) (Query (Slant (slant_by numbers) names))
    ∙ or_both (names_are 8 1 names) (or_both (numbers_are 2 1 numbers) (ap (λ (o : Option Refusal). or_else o None) (ray_told (slant_by numbers)))))

nirtd_told : (atoms : List (List ℕ)) → TellsFirst (nirtd_command atoms) (nirtd_wanted atoms)
nirtd_told [] = inl refl
nirtd_told (a ∷ []) = inl refl
nirtd_told (a ∷ b ∷ []) = inl refl
nirtd_told (a ∷ b ∷ c ∷ []) = inl refl
nirtd_told (a ∷ b ∷ c ∷ d ∷ []) = inl refl
nirtd_told (a ∷ b ∷ c ∷ d ∷ e ∷ []) = inl refl
nirtd_told (a ∷ b ∷ c ∷ d ∷ e ∷ f ∷ []) = inl refl
nirtd_told (x ∷ y ∷ z ∷ dx ∷ dy ∷ dz ∷ name ∷ rest) = slant_told (slant_numbers (x ∷ y ∷ z ∷ []) (dx ∷ dy ∷ dz ∷ [])) (name ∷ rest)

-- a file's name, and the other names
file_then : (t : Bool) (word : ℕ) (bad : Option ℕ) (rest : Option Refusal) → or_else (cond t None (Some (Name word))) (or_else (option_map Name bad) rest) ≡ or_else (option_map Name (cond t bad (Some word))) rest
file_then true word bad rest = refl
file_then false word bad rest = refl

view_told : (view : views.View) → view_refusal view ≡ option_map View (view_fault view)
unfolding view_refusal
view_told view = refl

file_quiet : (what : FileShoot) (file : List ℕ) (view : views.View) (names : List (List ℕ)) → told (file_shoot what file view names) ≡ None
file_quiet OfPixels file view names = refl
file_quiet OfEdges file view names = refl

line_quiet : (what : LineShoot) (view : views.View) (names : List (List ℕ)) → told (line_shoot what view names) ≡ None
line_quiet OfOverlaps view names = refl
line_quiet OfAreas view names = refl

file_told : (what : FileShoot) (file : List ℕ) (dir : Option Dir) (numbers : List (Option ℤ)) (names : List (List ℕ)) → TellsFirst (file_command what file dir numbers names) (view_wanted 4 ((2, file) ∷ numbered 10 1 names) dir numbers)
file_told what file None numbers names = inl refl
file_told what file (Some dir) numbers names =
    let view : views.View = view_of dir numbers in
    let last : Option Refusal = or_else (option_map Number (first_out (ranged 4 1 numbers))) (or_else (option_map View (view_fault view)) None) in
    inr (told_list (name_fault 2 file ∷ names_fault 10 1 names ∷ numbers_fault 4 1 numbers ∷ view_refusal view ∷ []) (file_shoot what file view names)
    ∙ ap (or_else (name_fault 2 file)) (or_both (names_are 10 1 names) (or_both (numbers_are 4 1 numbers) (or_both (view_told view) (ap (λ (o : Option Refusal). or_else o None) (file_quiet what file view names)))))
    ∙ file_then (is_ok (read_name file)) 2 (first_unnamed (numbered 10 1 names)) last)

filed_told : (what : FileShoot) (atoms : List (List ℕ)) → TellsFirst (filed_command what atoms) (rt_wanted atoms)
filed_told what [] = inl refl
filed_told what (a ∷ []) = inl refl
filed_told what (a ∷ b ∷ []) = inl refl
filed_told what (a ∷ b ∷ c ∷ []) = inl refl
filed_told what (a ∷ b ∷ c ∷ d ∷ []) = inl refl
filed_told what (a ∷ b ∷ c ∷ d ∷ e ∷ []) = inl refl
filed_told what (a ∷ b ∷ c ∷ d ∷ e ∷ f ∷ []) = inl refl
filed_told what (a ∷ b ∷ c ∷ d ∷ e ∷ f ∷ g ∷ []) = inl refl
filed_told what (a ∷ b ∷ c ∷ d ∷ e ∷ f ∷ g ∷ h ∷ []) = inl refl
filed_told what (file ∷ dir ∷ x ∷ y ∷ z ∷ cell ∷ w ∷ h ∷ name ∷ rest) = file_told what file (direction_of dir) (view_numbers (x ∷ y ∷ z ∷ []) (cell ∷ w ∷ h ∷ [])) (name ∷ rest)

view_line_told : (what : LineShoot) (dir : Option Dir) (numbers : List (Option ℤ)) (names : List (List ℕ)) → TellsFirst (view_command what dir numbers names) (view_wanted 3 (numbered 9 1 names) dir numbers)
view_line_told what None numbers names = inl refl
view_line_told what (Some dir) numbers names =
    let view : views.View = view_of dir numbers in
    inr (told_list (names_fault 9 1 names ∷ numbers_fault 3 1 numbers ∷ view_refusal view ∷ []) (line_shoot what view names)
    ∙ or_both (names_are 9 1 names) (or_both (numbers_are 3 1 numbers) (or_both (view_told view) (ap (λ (o : Option Refusal). or_else o None) (line_quiet what view names)))))

viewed_told : (what : LineShoot) (atoms : List (List ℕ)) → TellsFirst (viewed_command what atoms) (rtcheck_wanted atoms)
viewed_told what [] = inl refl
viewed_told what (a ∷ []) = inl refl
viewed_told what (a ∷ b ∷ []) = inl refl
viewed_told what (a ∷ b ∷ c ∷ []) = inl refl
viewed_told what (a ∷ b ∷ c ∷ d ∷ []) = inl refl
viewed_told what (a ∷ b ∷ c ∷ d ∷ e ∷ []) = inl refl
viewed_told what (a ∷ b ∷ c ∷ d ∷ e ∷ f ∷ []) = inl refl
viewed_told what (a ∷ b ∷ c ∷ d ∷ e ∷ f ∷ g ∷ []) = inl refl
viewed_told what (dir ∷ x ∷ y ∷ z ∷ cell ∷ w ∷ h ∷ name ∷ rest) = view_line_told what (direction_of dir) (view_numbers (x ∷ y ∷ z ∷ []) (cell ∷ w ∷ h ∷ [])) (name ∷ rest)

atom_told : (word : List ℕ) (atoms : List (List ℕ)) → TellsFirst (atom_command word atoms) (wanted_behind word atoms)
atom_told word atoms =
    let names : Wanted = names_alone (numbered 2 1 atoms) in
    both_told (bytes_eq word (codes "in")) (in_command atoms) _ (in_wanted atoms) _ (in_told atoms)
    (both_told (bytes_eq word (codes "nirt")) (nirt_command atoms) _ (nirt_wanted atoms) _ (nirt_told atoms)
    (both_told (bytes_eq word (codes "nirtd")) (nirtd_command atoms) _ (nirtd_wanted atoms) _ (nirtd_told atoms)
    (both_told (bytes_eq word (codes "rt")) (filed_command OfPixels atoms) _ (rt_wanted atoms) _ (filed_told OfPixels atoms)
    (both_told (bytes_eq word (codes "rtcheck")) (viewed_command OfOverlaps atoms) _ (rtcheck_wanted atoms) _ (viewed_told OfOverlaps atoms)
    (both_told (bytes_eq word (codes "rtarea")) (viewed_command OfAreas atoms) _ (rtcheck_wanted atoms) _ (viewed_told OfAreas atoms)
    (both_told (bytes_eq word (codes "rtedge")) (filed_command OfEdges atoms) _ (rt_wanted atoms) _ (filed_told OfEdges atoms)
    (both_told (bytes_eq word (codes "r")) (r_command atoms) _ (names_alone (numbered 2 2 (every_second atoms))) names (r_told atoms)
    (either_told (bytes_eq word (codes "g")) (g_command atoms) _ names (g_told atoms)
    (either_told (bytes_eq word (codes "rm")) (rm_command atoms) _ names (rm_told atoms)
    (either_told (bytes_eq word (codes "kill")) (kill_command atoms) _ names (kill_told atoms)
    (either_told (bytes_eq word (codes "mvall")) (mvall_command atoms) _ names (mvall_told atoms)
    (either_told (bytes_eq word (codes "ls")) (ls_command atoms) _ names (ls_told atoms)
    (either_told (bytes_eq word (codes "l")) (l_command atoms) _ names (l_told atoms)
    (either_told (bytes_eq word (codes "tree")) (tree_command atoms) _ names (tree_told atoms)
    (if_told (bytes_eq word (codes "save")) (save_command atoms) names (save_told atoms))))))))))))))))

atoms_told : (word : List ℕ) (atoms : Option (List (List ℕ))) → TellsFirst (with_atoms (atom_command word) atoms) (wanted_of_atoms word atoms)
atoms_told word None = inl refl
atoms_told word (Some atoms) = atom_told word atoms

-- ---- a placement

placement_told : (placement : Option Placement) → or_else (placement_fault 4 placement) None ≡ or_else (option_map Number (first_out ((4, is_some placement) ∷ []))) None
placement_told None = refl
placement_told (Some placement) = refl

matrix_told : (comb member : List ℕ) (step : ℕ) (numbers : List (Option ℤ))
    → TellsFirst (matrix_command comb member step numbers) (with_numbers (numbered 2 1 (comb ∷ member ∷ [])) (ranged 4 step numbers ++ (4, is_some (placement_read numbers)) ∷ []))
matrix_told comb member step numbers =
    let placed : Option Placement = placement_read numbers in
    inr (told_list (names_fault 2 1 (comb ∷ member ∷ []) ∷ numbers_fault 4 step numbers ∷ placement_fault 4 placed ∷ []) (Edit (Place comb member (unwrap_or placed identity)))
    ∙ or_both (names_are 2 1 (comb ∷ member ∷ [])) (ap (or_else (numbers_fault 4 step numbers)) (placement_told placed) ∙ numbers_then 4 step numbers ((4, is_some placed) ∷ []) None))

sixteen_told : (comb member : List ℕ) (step : ℕ) (atoms : Option (List (List ℕ))) → TellsFirst (sixteen_command comb member step atoms) (with_numbers (numbered 2 1 (comb ∷ member ∷ [])) (matrix_numbers step atoms))
sixteen_told comb member step None = inl refl
sixteen_told comb member step (Some atoms) =
    if_told (length atoms == 16) (matrix_command comb member step (numbers_as lists.Matrix atoms)) (with_numbers (numbered 2 1 (comb ∷ member ∷ [])) (matrix_numbers step (Some atoms))) (matrix_told comb member step (numbers_as lists.Matrix atoms))

place_with_told : (line : List ℕ) (tokens : List Token) (words : List Word) (comb member : Option (List ℕ))
    → TellsFirst (place_with line tokens words comb member) (with_numbers (name_at 2 comb ++ name_at 3 member) (matrix_numbers (matrix_step words) (matrix_words line tokens words)))
place_with_told line tokens words None member = inl refl
place_with_told line tokens words (Some comb) None = inl refl
place_with_told line tokens words (Some comb) (Some member) = sixteen_told comb member (matrix_step words) (matrix_words line tokens words)

place_told : (line : List ℕ) (tokens : List Token) (words : List Word) → TellsFirst (place_command line tokens words) (place_wanted line tokens words)
place_told line tokens [] = inl refl
place_told line tokens (a ∷ []) = inl refl
place_told line tokens (comb ∷ member ∷ words) = place_with_told line tokens words (atom_of line tokens comb) (atom_of line tokens member)

-- ---- an attribute

value_told : (t : Bool) (word : ℕ) → or_else (cond t None (Some (Number word))) None ≡ or_else (option_map Number (first_out ((word, t) ∷ []))) None
value_told true word = refl
value_told false word = refl

set_told : (name key : Option (List ℕ)) (value : List ℕ) → TellsFirst (set_with name key value) (with_numbers (name_at 2 name) (setting_at 4 key value))
set_told None key value = inl refl
set_told (Some name) None value = inl refl
set_told (Some name) (Some key) value =
    let setting : Command = Edit (Set name (record { key = key; value = value })) in
    let faults : List (Option Refusal) = name_fault 2 name ∷ setting_fault 4 key value ∷ [] in
    unless_told (is_none (key_of key)) (unless_refused faults setting) (with_numbers (name_at 2 (Some name)) (setting_at 4 (Some key) value))
    (inr (told_list faults setting ∙ or_both (name_is 2 name) (value_told (is_setting key value) 4)))

cattr_told : (line : List ℕ) (tokens : List Token) (words : List Word) → TellsFirst (cattr_command line tokens words) (cattr_wanted line tokens words)
cattr_told line tokens [] = inl refl
cattr_told line tokens (a ∷ []) = inl refl
cattr_told line tokens (a ∷ b ∷ []) = inl refl
cattr_told line tokens (name ∷ key ∷ value ∷ rest) = set_told (atom_of line tokens name) (atom_of line tokens key) (value_of line tokens value rest)

title_told : (line : List ℕ) (tokens : List Token) (words : List Word) → TellsFirst (title_command line tokens words) nothing
title_told line tokens [] = inl refl
title_told line tokens (value ∷ rest) = if_told (is_text (value_of line tokens value rest)) (Edit (Title (value_of line tokens value rest))) nothing (inr refl)

-- ---- attributes to be kept

abbrev key_place : Option Pair → Option ℕ
key_place None = None
key_place (Some p) = Some (p.place - 1)

key_step : (t : Bool) (p : Pair) (bad : Option ℕ) (rest : Option Pair) → bad ≡ key_place rest → cond t bad (Some (p.place - 1)) ≡ key_place (cond (not t) (Some p) rest)
key_step true p bad rest h = h
key_step false p bad rest h = refl

keys_are : (pairs : List Pair) → first_unnamed (map key_name pairs) ≡ key_place (find (λ (p : Pair). not (is_named p)) pairs)
keys_are [] = refl
keys_are (p ∷ pairs) = key_step (is_named p) p (first_unnamed (map key_name pairs)) (find (λ (q : Pair). not (is_named q)) pairs) (keys_are pairs)

found_told : (t : Bool) (name : List ℕ) (kept : List KeptAttr) (unnamed : Option Pair) → is_ok (read_name name) ≡ t
    → told (kept_command name (kept_or (unnamed_at unnamed) kept)) ≡ or_else (option_map Name (cond t (key_place unnamed) (Some 3))) None
found_told true name kept None h = ap (λ (u : Bool). told (unless_refused (cond u None (Some (Name 3)) ∷ None ∷ []) (Edit (Keep name kept)))) h
found_told false name kept None h = ap (λ (u : Bool). told (unless_refused (cond u None (Some (Name 3)) ∷ None ∷ []) (Edit (Keep name kept)))) h
found_told true name kept (Some p) h = ap (λ (u : Bool). told (unless_refused (cond u None (Some (Name 3)) ∷ Some (Name (p.place - 1)) ∷ []) (Edit (Keep name [])))) h
found_told false name kept (Some p) h = ap (λ (u : Bool). told (unless_refused (cond u None (Some (Name 3)) ∷ Some (Name (p.place - 1)) ∷ []) (Edit (Keep name [])))) h

form_told : (t : Bool) (name : List ℕ) (kept : Result (List KeptAttr) PutFault) (w : Wanted) → TellsFirst (kept_command name kept) w → TellsFirst (kept_command name (cond t kept (Err put.Attr))) w
form_told true name kept w h = h
form_told false name kept w h = inl refl

pairs_told : (line : List ℕ) (tokens : List Token) (name : List ℕ) (pairs : Option (List Pair)) → TellsFirst (kept_command name (kept_of line tokens pairs)) (names_alone ((3, name) ∷ key_names pairs))
pairs_told line tokens name None = inl refl
pairs_told line tokens name (Some pairs) =
    let unnamed : Option Pair = find (λ (p : Pair). not (is_named p)) pairs in
    let kept : List KeptAttr = map (kept_attr line tokens) pairs in
    form_told (not (length pairs == 0) && list_all (has_form line tokens) pairs) name (kept_or (unnamed_at unnamed) kept) (names_alone ((3, name) ∷ map key_name pairs))
    (inr (found_told (is_ok (read_name name)) name kept unnamed refl ∙ ap (λ (o : Option ℕ). or_else (option_map Name (cond (is_ok (read_name name)) o (Some 3))) None) (sym (keys_are pairs))))

keep_told : (line : List ℕ) (tokens : List Token) (name : Option (List ℕ)) (pairs : Option (List Pair)) → TellsFirst (keep_command name (kept_of line tokens pairs)) (names_alone (name_at 3 name ++ key_names pairs))
keep_told line tokens None pairs = inl refl
keep_told line tokens (Some name) pairs = pairs_told line tokens name pairs

attr_told : (line : List ℕ) (tokens : List Token) (words : List Word) → TellsFirst (attr_command line tokens words) (attr_wanted line tokens words)
attr_told line tokens [] = inl refl
attr_told line tokens (a ∷ []) = inl refl
attr_told line tokens (set ∷ name ∷ rest) =
    if_told (is_set (atom_of line tokens set)) (keep_command (atom_of line tokens name) (kept_of line tokens (pairs_of line tokens 4 rest))) (attr_wanted line tokens (set ∷ name ∷ rest))
    (keep_told line tokens (atom_of line tokens name) (pairs_of line tokens 4 rest))

-- ---- one object as words

-- a tree that was read is told of its first name that is none
abbrev TellsLeaves : Result Comb TreeFault → ℕ → List (ℕ × List ℕ) → Type 0
TellsLeaves (Err tree.Form) word names = Unit {0}
TellsLeaves (Err tree.Name) word names = first_unnamed names ≡ Some word
TellsLeaves (Err tree.Number) word names = first_unnamed names ≡ None
TellsLeaves (Err TreeFault.Memory) word names = ⊥
TellsLeaves (Ok comb) word names = first_unnamed names ≡ None

leaf_step : (t named : Bool) (word : ℕ) (bad : Option ℕ) → bad ≡ cond named None (Some word) → cond t bad (Some word) ≡ cond (t && named) None (Some word)
leaf_step true named word bad h = h
leaf_step false named word bad h = refl

leaves_are : (word : ℕ) (leaves : List Given) → first_unnamed (leaf_names word leaves) ≡ cond (list_all has_name leaves) None (Some word)
leaves_are word [] = refl
leaves_are word (g ∷ leaves) = leaf_step (has_name g) (list_all has_name leaves) word (first_unnamed (leaf_names word leaves)) (leaves_are word leaves)

leaves_by : (many named placed : Bool) (comb : Comb) (word : ℕ) (names : List (ℕ × List ℕ)) → first_unnamed names ≡ cond named None (Some word)
    → TellsLeaves (cond many (Err tree.Form) (cond (not named) (Err tree.Name) (cond (not placed) (Err tree.Number) (Ok comb)))) word names
leaves_by true named placed comb word names h = tt
leaves_by false false placed comb word names h = h
leaves_by false true false comb word names h = h
leaves_by false true true comb word names h = h

words_told : (word : ℕ) (spelled : Option (Option (Tree Given))) → TellsLeaves (tree_if spelled) word (leaf_names word (spelled_leaves spelled))
words_told word None = tt
words_told word (Some t) =
    leaves_by (nat_lt most_leaves (length (given_leaves t))) (list_all has_name (given_leaves t)) (list_all has_placement (given_leaves t)) (members_in t) word (leaf_names word (given_leaves t)) (leaves_are word (given_leaves t))

group_told : (t : Bool) (found : Result Comb TreeFault) (word : ℕ) (names : List (ℕ × List ℕ)) → TellsLeaves found word names → TellsLeaves (cond t (Err tree.Form) found) word names
group_told true found word names h = tt
group_told false found word names h = h

given_told : (line : List ℕ) (tokens : List Token) (pair : Option Pair) → TellsLeaves (combs.tree_given line tokens pair) (place_of pair) (tree_names line tokens pair)
given_told line tokens None = refl
given_told line tokens (Some p) =
    let inner = words_of_tokens line (slice_range tokens ((p.value).first + 1) (p.value).last) in
    group_told ((p.value).first == (p.value).last) (tree_of inner) p.place (leaf_names p.place (spelled_leaves (tree_spelled inner))) (words_told p.place (tree_spelled inner))

abbrev put_refusal : Option PutFault → Option Refusal
put_refusal fault = option_map refusal_of_put fault

put_list : (faults : List (Option PutFault)) (made : Put) → told (put_made (unless_fault faults made)) ≡ first_of (map put_refusal faults ++ told (put_made made) ∷ [])
put_list [] (Ok made) = refl
put_list [] (Err fault) = refl
put_list (None ∷ rest) made = put_list rest made
put_list (Some fault ∷ rest) made = refl

put_name : (t : Bool) → put_refusal (when (not t) (put.Name 2)) ≡ option_map Name (cond t None (Some 2))
put_name true = refl
put_name false = refl

value_step : (t : Bool) (p : Pair) (rest : Option Pair) (out : Option ℕ) → put_refusal (puts.number_fault rest) ≡ option_map Number out
    → put_refusal (puts.number_fault (cond (not t) (Some p) rest)) ≡ option_map Number (cond t out (Some p.place))
value_step true p rest out h = h
value_step false p rest out h = refl

values_are : (good : Pair → Bool) (pairs : List Pair) → put_refusal (puts.number_fault (find (λ (p : Pair). not (good p)) pairs)) ≡ option_map Number (first_out (value_numbers good pairs))
values_are good [] = refl
values_are good (p ∷ pairs) = value_step (good p) p (find (λ (q : Pair). not (good q)) pairs) (first_out (value_numbers good pairs)) (values_are good pairs)

solid_shape : (name : List ℕ) (made : Result Solid ShapeFault) → told (put_made (solid_put (Some name) made)) ≡ option_map Shape (shape_fault made)
solid_shape name (Ok solid) = refl
solid_shape name (Err fault) = refl

solid_told : (line : List ℕ) (tokens : List Token) (form : SolidForm) (name : List ℕ) (pairs : List Pair) (numbers : Option (List (Option ℤ)))
    → TellsFirst (put_made (solid_with line tokens form (Some name) pairs numbers))
    (record { names = (2, name) ∷ []; numbers = value_numbers (solids.is_good line tokens form pairs) pairs; view = None; shape = given_shape form numbers })
solid_told line tokens form name pairs None = inl refl
solid_told line tokens form name pairs (Some numbers) =
    let made : Result Solid ShapeFault = solid_made (made_as form) (take (number_count (made_as form)) numbers) in
    let bad : Option Pair = solids.bad_pair line tokens form pairs in
    inr (put_list (puts.name_fault (Some name) ∷ puts.number_fault bad ∷ []) (solid_put (Some name) made)
    ∙ or_both (put_name (is_ok (read_name name))) (or_both (values_are (solids.is_good line tokens form pairs) pairs) (ap (λ (o : Option Refusal). or_else o None) (solid_shape name made))))

keys_told : (t : Bool) (more : List (Option PutFault)) (made : Put) (w : Wanted) → TellsFirst (put_made (unless_fault more made)) w → TellsFirst (put_made (unless_fault (when (not t) put.Attr ∷ more) made)) w
keys_told true more made w h = h
keys_told false more made w h = inl refl

-- the object's name, those of its members, and then its numbers
comb_step : (t : Bool) (members : Option PutFault) (names : Option ℕ) (rest : Option Refusal) → put_refusal members ≡ option_map Name names
    → or_else (put_refusal (when (not t) (put.Name 2))) (or_else (put_refusal members) rest) ≡ or_else (option_map Name (cond t names (Some 2))) rest
comb_step true members names rest h = ap (λ (o : Option Refusal). or_else o rest) h
comb_step false members names rest h = refl

members_by : (name : List ℕ) (members : Option PutFault) (bad : Option Pair) (made : Put) (names : List (ℕ × List ℕ)) (numbers : List (ℕ × Bool)) → told (put_made made) ≡ None
    → put_refusal members ≡ option_map Name (first_unnamed names) → put_refusal (puts.number_fault bad) ≡ option_map Number (first_out numbers)
    → told (put_made (unless_fault (puts.name_fault (Some name) ∷ members ∷ puts.number_fault bad ∷ []) made)) ≡ first_refusal (with_numbers ((2, name) ∷ names) numbers)
members_by name members bad made names numbers h k n =
    put_list (puts.name_fault (Some name) ∷ members ∷ puts.number_fault bad ∷ []) made
    ∙ comb_step (is_ok (read_name name)) members (first_unnamed names) (or_else (put_refusal (puts.number_fault bad)) (or_else (told (put_made made)) None)) k
    ∙ ap (or_else (option_map Name (first_unnamed ((2, name) ∷ names)))) (or_both n (ap (λ (o : Option Refusal). or_else o None) h))

members_told : (name : List ℕ) (found : Result Comb TreeFault) (word : ℕ) (bad : Option Pair) (made : Put) (names : List (ℕ × List ℕ)) (numbers : List (ℕ × Bool)) → told (put_made made) ≡ None → TellsLeaves found word names
    → put_refusal (puts.number_fault bad) ≡ option_map Number (first_out numbers)
    → TellsFirst (put_made (unless_fault (puts.tree_fault found ∷ puts.name_fault (Some name) ∷ puts.member_fault found word ∷ puts.number_fault bad ∷ []) made)) (with_numbers ((2, name) ∷ names) numbers)
members_told name (Err tree.Form) word bad made names numbers h k n = inl refl
members_told name (Err TreeFault.Memory) word bad made names numbers h k n = absurd k
members_told name (Err tree.Name) word bad made names numbers h k n = inr (members_by name (Some (put.Name word)) bad made names numbers h (ap (option_map Name) (sym k)) n)
members_told name (Err tree.Number) word bad made names numbers h k n = inr (members_by name None bad made names numbers h (ap (option_map Name) (sym k)) n)
members_told name (Ok comb) word bad made names numbers h k n = inr (members_by name None bad made names numbers h (ap (option_map Name) (sym k)) n)

kind_put_told : (line : List ℕ) (tokens : List Token) (name : List ℕ) (kind : Option Kind) (pairs : Option (List Pair)) → TellsFirst (put_made (kind_put line tokens (Some name) kind pairs)) (object_wanted line tokens ((2, name) ∷ []) kind pairs)
kind_put_told line tokens name None pairs = inl refl
kind_put_told line tokens name (Some kind) None = inl refl
kind_put_told line tokens name (Some (kinds.Solid form)) (Some pairs) = solid_told line tokens form name pairs (solids.numbers_of line tokens form pairs)
kind_put_told line tokens name (Some kinds.Comb) (Some pairs) =
    let found : Result Comb TreeFault = combs.tree_in line tokens pairs in
    let word : ℕ = place_of (combs.tree_pair pairs) in
    let bad : Option Pair = combs.bad_pair line tokens pairs in
    let made : Put = Ok (name, record { body = bodies.Comb (combs.attr_of line tokens pairs) (puts.tree_or_none found); kept = [] }) in
    let names : List (ℕ × List ℕ) = tree_names line tokens (combs.tree_pair pairs) in
    let good : Pair → Bool = λ p. combs.has_value line tokens p.key p.value in
    keys_told (combs.has_keys pairs) (puts.tree_fault found ∷ puts.name_fault (Some name) ∷ puts.member_fault found word ∷ puts.number_fault bad ∷ []) made (with_numbers ((2, name) ∷ names) (value_numbers good pairs))
    (members_told name found word bad made names (value_numbers good pairs) refl (given_told line tokens (combs.tree_pair pairs)) (values_are good pairs))

is_put_told : (t : Bool) (made : Put) (w : Wanted) → TellsFirst (put_made made) w → TellsFirst (put_made (cond t made (Err put.NoType))) w
is_put_told true made w h = h
is_put_told false made w h = inl refl

named_put_told : (line : List ℕ) (tokens : List Token) (word : Option (List ℕ)) (name : Option (List ℕ)) (kind : Option Kind) (pairs : Option (List Pair))
    → TellsFirst (cond (is_none name) (Bad Syntax) (put_made (cond (is_put word) (kind_put line tokens name kind pairs) (Err put.NoType)))) (object_wanted line tokens (name_at 2 name) kind pairs)
named_put_told line tokens word None kind pairs = inl refl
named_put_told line tokens word (Some name) kind pairs =
    is_put_told (is_put word) (kind_put line tokens (Some name) kind pairs) (object_wanted line tokens ((2, name) ∷ []) kind pairs) (kind_put_told line tokens name kind pairs)

put_told : (line : List ℕ) (tokens : List Token) (word : Word) (words : List Word) → TellsFirst (put_command line tokens (word ∷ words)) (put_wanted line tokens words)
put_told line tokens word [] = inl refl
put_told line tokens word (name ∷ []) = unless_told (is_none (atom_of line tokens name)) (Bad Syntax) nothing (inl refl)
put_told line tokens word (name ∷ kind ∷ rest) = named_put_told line tokens (atom_of line tokens word) (atom_of line tokens name) (kind_named (atom_of line tokens kind)) (pairs_of line tokens 4 rest)

-- ---- a line

after_told : (line : List ℕ) (tokens : List Token) (word : Word) (words : List Word) (name : List ℕ) → TellsFirst (named_command line tokens word words name) (wanted_after line tokens words name)
after_told line tokens word words name =
    both_told (bytes_eq name (codes "place")) (place_command line tokens words) _ (place_wanted line tokens words) _ (place_told line tokens words)
    (both_told (bytes_eq name (codes "cattr")) (cattr_command line tokens words) _ (cattr_wanted line tokens words) _ (cattr_told line tokens words)
    (both_told (bytes_eq name (codes "put")) (put_command line tokens (word ∷ words)) _ (put_wanted line tokens words) _ (put_told line tokens word words)
    (both_told (bytes_eq name (codes "attr")) (attr_command line tokens words) _ (attr_wanted line tokens words) _ (attr_told line tokens words)
    (both_told (bytes_eq name (codes "title")) (title_command line tokens words) (with_atoms (atom_command name) (atoms_in line tokens words)) nothing (wanted_of_atoms name (atoms_in line tokens words)) (title_told line tokens words) (atoms_told name (atoms_in line tokens words))))))

worded_told : (line : List ℕ) (tokens : List Token) (word : Word) (words : List Word) (name : Option (List ℕ)) → TellsFirst (worded_command line tokens word words name) (wanted_worded line tokens words name)
worded_told line tokens word words None = inl refl
worded_told line tokens word words (Some name) = after_told line tokens word words name

all_told : (line : List ℕ) (tokens : List Token) (words : List Word) → TellsFirst (command_of_words line tokens words) (wanted_of_words line tokens words)
all_told line tokens [] = inl refl
all_told line tokens (word ∷ words) = worded_told line tokens word words (atom_of line tokens word)

read_told : (line : List ℕ) (read : Result (List Token) WordFault) → TellsFirst (command_read line read) (wanted_read line read)
read_told line (Err fault) = inl refl
read_told line (Ok tokens) = all_told line tokens (top_words tokens)

pub line_told : (line : List ℕ) → TellsFirst (command_of line) (wanted_of_line line)
line_told line = read_told line (words_of line)

-- ---- names come first

abbrev name_in : Option Refusal → Option ℕ
name_in None = None
name_in (Some refusal) = told_name (Bad refusal)

same_name : (command : Command) → told_name command ≡ name_in (told command)
same_name (Bad refusal) = refl
same_name (Edit edit) = refl
same_name (Query query) = refl
same_name (Shoot shoot) = refl

first_name : (bad number : Option ℕ) (view : Option ViewFault) (shape : Option ShapeFault)
    → name_in (first_of (option_map Name bad ∷ option_map Number number ∷ option_map View view ∷ option_map Shape shape ∷ [])) ≡ bad
first_name (Some word) number view shape = refl
first_name None (Some word) view shape = refl
first_name None None (Some fault) shape = refl
first_name None None None (Some fault) = refl
first_name None None None None = refl

names_told : (command : Command) (w : Wanted) → TellsFirst command w → TellsNames command w.names
names_told command w (inl form) = inl form
names_told command w (inr first) = inr (same_name command ∙ ap name_in first ∙ first_name (first_unnamed w.names) (first_out w.numbers) w.view w.shape)

pub names_first : (line : List ℕ) → TellsNames (command_of line) (names_of_line line)
names_first line = names_told (command_of line) (wanted_of_line line) (line_told line)

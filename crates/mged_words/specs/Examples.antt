-- Small scripts and lines, and what the definitions make of them.
use Rattle.std.specs.Prelude.{◌≡◌, refl, ℕ, ℤ, pos, negsuc, ◌-ℤ◌, [], ◌∷◌, true, false, Some, Ok, Err, codes}
use Rattle.lattice_core.specs.declared.limit.TheConstants.{COORD, VIEW_NUMBER, WORLD}
use Rattle.lattice_core.specs.declared.ray.Dir.{Dir}
use Rattle.lattice_core.specs.declared.ray.Dir.TheVariants.{MinusX, PlusX, PlusY, MinusZ}
use Rattle.lattice_core.specs.declared.view.View as views
use Rattle.plane_geom.specs.declared.fault.ShapeFault.TheVariants.{Axis, Flat, NotPlanar, NotConvex, Radius, ZeroNormal}
use Rattle.tree_forms.specs.declared.Op.TheVariants.{U, Minus, X}
use Rattle.solid_set.specs.declared.solid.Solid.TheVariants as solids
use Rattle.transcript.specs.Merge.{entry}
use Rattle.command_set.specs.declared.command.Command.TheVariants.{Bad, Edit, Query, Shoot}
use Rattle.command_set.specs.declared.command.Edit.TheVariants.{Make, Region, Group, Remove, Kill, RenameAll, Place, Title, Keep, Set}
use Rattle.command_set.specs.declared.command.Query.TheVariants.{List as Lines, Names, Save, Shot, Slant}
use Rattle.command_set.specs.declared.command.Shoot.TheVariants.{Picture, Check, Area, Edge}
use Rattle.command_set.specs.declared.refusal.Refusal.TheVariants.{Syntax, Name, Number, View, Shape}
use Rattle.lattice_core.specs.declared.view.ViewFault.TheVariants.{Pixels, Side, Cell, Direction, World}
use Rattle.mged_words.specs.declared.script.ScriptFlaw.TheVariants as flaws
use Rattle.mged_words.specs.Commands.{command_of, entry_of, ray_of, slant_refusal, solid_object, view_refusal}
use Rattle.word_values.specs.Matrices.{identity}
use Rattle.mged_words.specs.OneLine.{line_of, member_words}
use Rattle.mged_words.specs.Order.{first_refusal, names_of_line, numbers_of_line, wanted_of_line}
use Rattle.mged_words.specs.Scripts.{script_of, line_numbers}
use Rattle.solid_set.specs.Rpps.{vector}

pub no_such_command : command_of (codes "frob") ≡ Bad Syntax
no_such_command = refl

pub too_few_words : command_of (codes "in s") ≡ Bad Syntax
too_few_words = refl

-- the whole line is looked at for its form before its names
pub a_bad_name : command_of (codes "in s/1 sph 0 0 0 5") ≡ Bad (Name 2)
a_bad_name = refl

pub names_before_numbers : command_of (codes "in s/1 sph x 0 0 5") ≡ Bad (Name 2)
names_before_numbers = refl

pub too_large : command_of (codes "in t sph 16385 0 0 1") ≡ Bad (Number 4)
too_large = refl

pub a_tenth_too_large : command_of (codes "in t sph 16384.1 0 0 1") ≡ Bad (Number 4)
a_tenth_too_large = refl

-- a length has one digit behind its point, and zeros
pub finer_than_a_tenth : command_of (codes "in t sph 0.25 0 0 1") ≡ Bad (Number 4)
finer_than_a_tenth = refl

-- a normal is no length: its numbers are whole
pub normal_not_whole : command_of (codes "in h half 1.5 0 0 5") ≡ Bad (Number 4)
normal_not_whole = refl

pub no_axis : command_of (codes "in d rcc 0 0 0 1 0 1 5") ≡ Bad (Shape Axis)
no_axis = refl

pub axis_before_radius : command_of (codes "in d rcc 0 0 0 1 0 1 0") ≡ Bad (Shape Axis)
axis_before_radius = refl

pub no_radius_of_a_cylinder : command_of (codes "in d rcc 0 0 0 0 0 20 0") ≡ Bad (Shape Radius)
no_radius_of_a_cylinder = refl

pub six_numbers_of_a_cylinder : command_of (codes "in d rcc 0 0 0 0 0 20") ≡ Bad Syntax
six_numbers_of_a_cylinder = refl

pub numbers_before_axes : command_of (codes "in d rcc 0 0 0 1 0 16384.1 0") ≡ Bad (Number 9)
numbers_before_axes = refl

pub numbers_before_shapes : command_of (codes "in t sph 0 0 x 0") ≡ Bad (Number 6)
numbers_before_shapes = refl

pub no_radius : command_of (codes "in t sph 0 0 0 0") ≡ Bad (Shape Radius)
no_radius = refl

pub no_normal : command_of (codes "in h half 0 0 0 5") ≡ Bad (Shape ZeroNormal)
no_normal = refl

pub outside_the_world : command_of (codes "nirt 524289 0 0 +x s") ≡ Bad (View World)
outside_the_world = refl

pub a_tenth_outside : command_of (codes "nirt 524288.1 0 0 +x s") ≡ Bad (View World)
a_tenth_outside = refl

-- a group of one atom counts as that atom, and numbers have signs and zeros after the point; lengths count tenths
pub a_sphere : command_of (codes "in  {s} sph 0 0 0 +5.0") ≡ Edit (Make (codes "s") (solid_object (solids.Sphere (record { centre = vector (pos 0) (pos 0) (pos 0); radius = pos 50 }))))
a_sphere = refl

pub a_small_sphere : command_of (codes "in s sph 0 -0.10 16384 0.5") ≡ Edit (Make (codes "s") (solid_object (solids.Sphere (record { centre = vector (pos 0) (negsuc 0) COORD; radius = pos 5 }))))
a_small_sphere = refl

-- three whole numbers, and a length
pub a_half_space : command_of (codes "in h half 1 0 -2 0.5") ≡ Edit (Make (codes "h") (solid_object (solids.Half (record { normal = vector (pos 1) (pos 0) (negsuc 1); distance = pos 5 }))))
a_half_space = refl

-- by the centre of the base, the height and the radius
pub a_cylinder : command_of (codes "in c rcc 0 0 0 0 0 20 5")
    ≡ Edit (Make (codes "c") (solid_object (solids.Rcc (record { base = vector (pos 0) (pos 0) (pos 0); height = vector (pos 0) (pos 0) (pos 200); radius = pos 50 }))))
a_cylinder = refl

pub a_shot : command_of (codes "nirt 1 2 3 -x s") ≡ Query (Shot (ray_of (vector (pos 10) (pos 20) (pos 30)) MinusX) (codes "s" ∷ []))
a_shot = refl

pub a_shot_between : command_of (codes "nirt 0.1 -524288 0.90 +y s") ≡ Query (Shot (ray_of (vector (pos 1) (pos 0 -ℤ WORLD) (pos 9)) PlusY) (codes "s" ∷ []))
a_shot_between = refl

-- a shot at several names, in the order of the line; one may be given twice
pub a_shot_at_three : command_of (codes "nirt 1 2 3 -x s {t} s") ≡ Query (Shot (ray_of (vector (pos 10) (pos 20) (pos 30)) MinusX) (codes "s" ∷ codes "t" ∷ codes "s" ∷ []))
a_shot_at_three = refl

-- a ray in a lattice direction; a component may have zeros behind its point
pub a_slanted_shot : command_of (codes "nirtd -3 0 0.5 1 -4 2.0 s t") ≡ Query (Slant (record { origin = vector (negsuc 29) (pos 0) (pos 5); x = pos 1; y = negsuc 3; z = pos 2 }) (codes "s" ∷ codes "t" ∷ []))
unfolding slant_refusal
a_slanted_shot = refl

pub a_common_divisor : command_of (codes "nirtd 0 0 0 2 2 0 s") ≡ Bad (View Direction)
unfolding slant_refusal
a_common_divisor = refl

pub no_direction : command_of (codes "nirtd 0 0 0 0 0 0 s") ≡ Bad (View Direction)
unfolding slant_refusal
no_direction = refl

pub direction_before_world : command_of (codes "nirtd 524289 0 0 2 2 0 s") ≡ Bad (View Direction)
unfolding slant_refusal
direction_before_world = refl

pub slanted_from_outside : command_of (codes "nirtd 524289 0 0 1 2 0 s") ≡ Bad (View World)
unfolding slant_refusal
slanted_from_outside = refl

pub a_long_step : command_of (codes "nirtd 0 0 0 5 0 0 s") ≡ Bad (Number 5)
a_long_step = refl

pub a_long_step_back : command_of (codes "nirtd 0 0 0 1 1 -5 s") ≡ Bad (Number 7)
a_long_step_back = refl

pub a_step_between : command_of (codes "nirtd 0 0 0 0 0.5 1 s") ≡ Bad (Number 6)
a_step_between = refl

pub names_before_steps : command_of (codes "nirtd 0 0 0 5 0 0 s a/b") ≡ Bad (Name 9)
names_before_steps = refl

pub slanted_at_nothing : command_of (codes "nirtd 0 0 0 1 0 0") ≡ Bad Syntax
slanted_at_nothing = refl

pub a_shot_at_nothing : command_of (codes "nirt 1 2 3 -x") ≡ Bad Syntax
a_shot_at_nothing = refl

-- a region
pub a_region : command_of (codes "r a.r u s1 u s2 - s3") ≡ Edit (Region (codes "a.r") (entry_of U (codes "s1") ∷ entry_of U (codes "s2") ∷ entry_of Minus (codes "s3") ∷ []))
a_region = refl

pub a_region_of_exclusive_unions : command_of (codes "r a.r ^ s1 ^ s2") ≡ Edit (Region (codes "a.r") (entry_of X (codes "s1") ∷ entry_of X (codes "s2") ∷ []))
a_region_of_exclusive_unions = refl

pub operator_without_member : command_of (codes "r s u") ≡ Bad Syntax
operator_without_member = refl

pub no_list : command_of (codes "r s") ≡ Bad Syntax
no_list = refl

pub unknown_operator : command_of (codes "r s x a") ≡ Bad Syntax
unknown_operator = refl

-- members have every second word from the fourth on
pub third_member : command_of (codes "r a u b u c/") ≡ Bad (Name 6)
third_member = refl

pub a_group : command_of (codes "g a b c") ≡ Edit (Group (codes "a") (entry_of U (codes "b") ∷ entry_of U (codes "c") ∷ []))
a_group = refl

pub group_of_nothing : command_of (codes "g a") ≡ Bad Syntax
group_of_nothing = refl

pub first_member : command_of (codes "g a b/c d") ≡ Bad (Name 3)
first_member = refl

pub a_removal : command_of (codes "rm a b c") ≡ Edit (Remove (codes "a") (codes "b" ∷ codes "c" ∷ []))
a_removal = refl

pub removal_of_nothing : command_of (codes "rm a") ≡ Bad Syntax
removal_of_nothing = refl

pub killed : command_of (codes "kill a b") ≡ Edit (Kill (codes "a" ∷ codes "b" ∷ []))
killed = refl

pub nothing_killed : command_of (codes "kill") ≡ Bad Syntax
nothing_killed = refl

pub renamed : command_of (codes "mvall a b") ≡ Edit (RenameAll (codes "a") (codes "b"))
renamed = refl

pub no_new_name : command_of (codes "mvall a") ≡ Bad Syntax
no_new_name = refl

pub all_names : command_of (codes "ls") ≡ Query Names
all_names = refl

pub names_of_some : command_of (codes "ls x") ≡ Bad Syntax
names_of_some = refl

-- blanks around the value are a part of it
pub value_with_blanks : command_of (codes "cattr c region { yes }") ≡ Bad (Number 4)
value_with_blanks = refl

pub value_in_a_group : command_of (codes "cattr c region {yes}") ≡ Edit (Set (codes "c") (record { key = codes "region"; value = codes "yes" }))
value_in_a_group = refl

pub value_of_words : command_of (codes "cattr c rgb 1 2 3") ≡ Edit (Set (codes "c") (record { key = codes "rgb"; value = codes "1 2 3" }))
value_of_words = refl

pub unknown_key : command_of (codes "cattr c colour 1") ≡ Bad Syntax
unknown_key = refl

pub name_before_value : command_of (codes "cattr c/ id x") ≡ Bad (Name 2)
name_before_value = refl

pub placed_by_words : command_of (codes "place c m 1 0 0 0 0 1 0 0 0 0 1 0 0 0 0 1") ≡ Edit (Place (codes "c") (codes "m") identity)
placed_by_words = refl

pub placed_by_a_group : command_of (codes "place c m {1 0 0 0 0 1 0 0 0 0 1 0 0 0 0 1}") ≡ Edit (Place (codes "c") (codes "m") identity)
placed_by_a_group = refl

-- the fourth, the eighth and the twelfth number are lengths, and all others are whole
pub shifted_by_tenths : command_of (codes "place c m 1 0 0 0.5 0 1 0 -16384 0 0 1 2.0 0 0 0 1") ≡ Edit (Place (codes "c") (codes "m") (record identity { shift = vector (pos 5) (pos 0 -ℤ COORD) (pos 20) }))
shifted_by_tenths = refl

pub turned_by_tenths : command_of (codes "place c m 1 0 0.5 0 0 1 0 0 0 0 1 0 0 0 0 1") ≡ Bad (Number 6)
turned_by_tenths = refl

pub last_row_in_tenths : command_of (codes "place c m 1 0 0 0 0 1 0 0 0 0 1 0 0 0 0 0.1") ≡ Bad (Number 19)
last_row_in_tenths = refl

-- a number among the words has its own word, and one in a group the group's
pub last_number : command_of (codes "place c m 1 0 0 0 0 1 0 0 0 0 1 0 0 0 0 x") ≡ Bad (Number 19)
last_number = refl

pub last_number_in_a_group : command_of (codes "place c m {1 0 0 0 0 1 0 0 0 0 1 0 0 0 0 x}") ≡ Bad (Number 4)
last_number_in_a_group = refl

pub fifteen_numbers : command_of (codes "place c m 1 0 0 0 0 1 0 0 0 0 1 0 0 0 0") ≡ Bad Syntax
fifteen_numbers = refl

pub a_scaling : command_of (codes "place c m 2 0 0 0 0 1 0 0 0 0 1 0 0 0 0 1") ≡ Bad (Number 4)
a_scaling = refl

pub shifted_too_far : command_of (codes "place c m 1 0 0 0 0 1 0 16385 0 0 1 0 0 0 0 1") ≡ Bad (Number 4)
shifted_too_far = refl

pub shifted_a_tenth_too_far : command_of (codes "place c m 1 0 0 0 0 1 0 16384.1 0 0 1 0 0 0 0 1") ≡ Bad (Number 4)
shifted_a_tenth_too_far = refl

-- a carriage return and a tab are blanks
pub carriage_return_at_the_end : command_of (codes "kill a\r") ≡ Edit (Kill (codes "a" ∷ []))
carriage_return_at_the_end = refl

pub blanks_of_each_kind : command_of (codes "\tkill\ra \t b") ≡ Edit (Kill (codes "a" ∷ codes "b" ∷ []))
blanks_of_each_kind = refl

-- a group of one atom counts as that atom, and a group of a group does not
pub blanks_in_groups : command_of (codes "{ kill } { a }") ≡ Edit (Kill (codes "a" ∷ []))
blanks_in_groups = refl

pub group_in_a_group : command_of (codes "kill {{a}}") ≡ Bad Syntax
group_in_a_group = refl

pub group_of_two : command_of (codes "kill {a b}") ≡ Bad Syntax
group_of_two = refl

pub group_of_none : command_of (codes "kill {}") ≡ Bad Syntax
group_of_none = refl

-- a word that is no atom is looked for in the whole line first
pub group_before_a_name : command_of (codes "kill a/ {b c}") ≡ Bad Syntax
group_before_a_name = refl

-- words that can't be read
pub bad_byte : command_of (codes "kill a;") ≡ Bad Syntax
bad_byte = refl

pub open_group : command_of (codes "kill {a") ≡ Bad Syntax
open_group = refl

pub no_word : command_of (codes "") ≡ Bad Syntax
no_word = refl

-- the three parts of a colour stand between blanks, also at its ends
pub colour_with_blanks : command_of (codes "cattr c rgb { 1 2 3 }") ≡ Edit (Set (codes "c") (record { key = codes "rgb"; value = codes " 1 2 3 " }))
colour_with_blanks = refl

-- more than one group is a text with its braces
pub value_of_two_groups : command_of (codes "cattr c id {5} {6}") ≡ Bad (Number 4)
value_of_two_groups = refl

pub value_in_two_groups : command_of (codes "cattr c id {{5}}") ≡ Bad (Number 4)
value_in_two_groups = refl

pub no_value : command_of (codes "cattr c id") ≡ Bad Syntax
no_value = refl

-- a group is named by its word, whichever of its numbers is at fault
pub a_scaling_in_a_group : command_of (codes "place c m {2 0 0 0 0 1 0 0 0 0 1 0 0 0 0 1}") ≡ Bad (Number 4)
a_scaling_in_a_group = refl

pub last_row_of_a_group : command_of (codes "place c m {1 0 0 0 0 1 0 0 0 0 1 0 0 0 0 2}") ≡ Bad (Number 4)
last_row_of_a_group = refl

pub matrix_in_two_groups : command_of (codes "place c m {{1 0 0 0 0 1 0 0 0 0 1 0 0 0 0 1}}") ≡ Bad Syntax
matrix_in_two_groups = refl

pub seventeen_numbers : command_of (codes "place c m 1 0 0 0 0 1 0 0 0 0 1 0 0 0 0 1 1") ≡ Bad Syntax
seventeen_numbers = refl

-- the first number that is out of its range
pub first_number_of_a_matrix : command_of (codes "place c m 1 0 0 1000000000 0 1 0 0 0 0 1 0 0 0 0 x") ≡ Bad (Number 7)
first_number_of_a_matrix = refl

-- each name has the number of its word
pub name_of_a_region : command_of (codes "r a/ u b") ≡ Bad (Name 2)
name_of_a_region = refl

pub first_member_of_a_region : command_of (codes "r a u b/ + c/") ≡ Bad (Name 4)
first_member_of_a_region = refl

pub name_of_a_group : command_of (codes "g a/ b/") ≡ Bad (Name 2)
name_of_a_group = refl

pub second_member_of_a_group : command_of (codes "g a b c/") ≡ Bad (Name 4)
second_member_of_a_group = refl

pub removed_from : command_of (codes "rm a/ b") ≡ Bad (Name 2)
removed_from = refl

pub removed_member : command_of (codes "rm a b/ c") ≡ Bad (Name 3)
removed_member = refl

pub second_killed : command_of (codes "kill a b/") ≡ Bad (Name 3)
second_killed = refl

pub old_name : command_of (codes "mvall a/ b/") ≡ Bad (Name 2)
old_name = refl

pub new_name : command_of (codes "mvall a b/") ≡ Bad (Name 3)
new_name = refl

pub placed_in : command_of (codes "place c/ m/ x 0 0 0 0 1 0 0 0 0 1 0 0 0 0 1") ≡ Bad (Name 2)
placed_in = refl

pub placed_member : command_of (codes "place c m/ x 0 0 0 0 1 0 0 0 0 1 0 0 0 0 1") ≡ Bad (Name 3)
placed_member = refl

-- the names of a shot stand behind its numbers, and are looked at first
pub shot_at : command_of (codes "nirt x 0 0 +x s/") ≡ Bad (Name 6)
shot_at = refl

pub second_shot_at : command_of (codes "nirt x 0 0 +x s t/") ≡ Bad (Name 7)
second_shot_at = refl

pub first_of_two_bad_names : command_of (codes "nirt 0 0 0 +x s t/ u v/") ≡ Bad (Name 7)
first_of_two_bad_names = refl

pub number_of_a_shot_at_two : command_of (codes "nirt 0 x 0 +x s t") ≡ Bad (Number 3)
number_of_a_shot_at_two = refl

-- each number has the number of its word
pub first_of_an_origin : command_of (codes "nirt 1000000000 0 x +x s") ≡ Bad (Number 2)
first_of_an_origin = refl

pub second_of_an_origin : command_of (codes "nirt 524289 - 0 +x s") ≡ Bad (Number 3)
second_of_an_origin = refl

pub third_of_an_origin : command_of (codes "nirt 524289 0 0.05 +x s") ≡ Bad (Number 4)
third_of_an_origin = refl

-- zeros after a point, or none, change nothing
pub numbers_with_points : command_of (codes "nirt 524289 5. +0.00 +x s") ≡ Bad (View World)
numbers_with_points = refl

pub radius_too_large : command_of (codes "in s sph 0 0 0 16385") ≡ Bad (Number 7)
radius_too_large = refl

pub last_of_a_box : command_of (codes "in b rpp 0 1 0 1 0 1e3") ≡ Bad (Number 9)
last_of_a_box = refl

pub last_of_a_solid : command_of (codes "in a arb8 0 0 0 10 0 0 10 10 0 0 10 0 0 0 10 10 0 10 10 10 10 0 10 -16385") ≡ Bad (Number 27)
last_of_a_solid = refl

pub value_too_large : command_of (codes "cattr c los 101") ≡ Bad (Number 4)
value_too_large = refl

-- the faults of a solid of eight vertices, by the face
pub flat_solid : command_of (codes "in a arb8 0 0 0 10 0 0 10 10 0 0 10 0 0 0 0 10 0 0 10 10 0 0 10 0") ≡ Bad (Shape Flat)
flat_solid = refl

pub flat_box : command_of (codes "in b rpp 5 5 0 10 0 10") ≡ Bad (Shape Flat)
flat_box = refl

pub bent_face : command_of (codes "in a arb8 0 0 0 10 0 0 10 10 1 0 10 0 0 0 10 10 0 10 10 10 10 0 10 10") ≡ Bad (Shape (NotPlanar 1))
bent_face = refl

pub hollow_face : command_of (codes "in a arb8 0 0 0 10 0 0 3 3 0 0 10 0 0 0 10 10 0 10 3 3 10 0 10 10") ≡ Bad (Shape (NotConvex 4))
hollow_face = refl

-- a view by its corner, its direction, its cell, its columns and its rows
abbrev view : ℤ → ℤ → ℤ → Dir → ℤ → ℕ → ℕ → views.View
view x y z dir cell w h = record { corner = vector x y z; dir = dir; cell = cell; w = w; h = h }

-- a picture, and the report of overlaps in the same view
pub a_picture : command_of (codes "rt cup.ppm -z -1105 1104 1500 10 222 200 all {s}") ≡ Shoot (Picture (codes "cup.ppm") (view (negsuc 11049) (pos 11040) (pos 15000) MinusZ (pos 100) 222 200) (codes "all" ∷ codes "s" ∷ []))
unfolding view_refusal
a_picture = refl

pub a_check : command_of (codes "rtcheck -z -1105 1104 1500 10 222 200 all s") ≡ Shoot (Check (view (negsuc 11049) (pos 11040) (pos 15000) MinusZ (pos 100) 222 200) (codes "all" ∷ codes "s" ∷ []))
unfolding view_refusal
a_check = refl

-- the areas of regions, and the picture of the edges between them, in the same view
pub an_area : command_of (codes "rtarea -z -1105 1104 1500 10 222 200 all s") ≡ Shoot (Area (view (negsuc 11049) (pos 11040) (pos 15000) MinusZ (pos 100) 222 200) (codes "all" ∷ codes "s" ∷ []))
unfolding view_refusal
an_area = refl

pub an_edge_picture : command_of (codes "rtedge cup.ppm -z -1105 1104 1500 10 222 200 all {s}") ≡ Shoot (Edge (codes "cup.ppm") (view (negsuc 11049) (pos 11040) (pos 15000) MinusZ (pos 100) 222 200) (codes "all" ∷ codes "s" ∷ []))
unfolding view_refusal
an_edge_picture = refl

pub area_without_a_cell : command_of (codes "rtarea -z 0 15 100 0 32 16 a") ≡ Bad (View Cell)
unfolding view_refusal
area_without_a_cell = refl

pub edges_without_a_file : command_of (codes "rtedge +x 0 0 0 1 1 1 s") ≡ Bad Syntax
edges_without_a_file = refl

pub file_of_edges : command_of (codes "rtedge f/ +x a 0 0 1 1 1 s/") ≡ Bad (Name 2)
file_of_edges = refl

-- each has at least one name
pub picture_of_nothing : command_of (codes "rt f +x 0 0 0 1 1 1") ≡ Bad Syntax
picture_of_nothing = refl

pub check_of_nothing : command_of (codes "rtcheck +x 0 0 0 1 1 1") ≡ Bad Syntax
check_of_nothing = refl

pub no_such_direction : command_of (codes "rt f/ x a b c d e f s/") ≡ Bad Syntax
no_such_direction = refl

pub file_for_a_check : command_of (codes "rtcheck f +x 0 0 0 1 1 1 s") ≡ Bad Syntax
file_for_a_check = refl

-- the file is the first name, and the others stand behind the numbers; all names come before all numbers
pub file_of_a_picture : command_of (codes "rt f/ +x a 0 0 1 1 1 s/") ≡ Bad (Name 2)
file_of_a_picture = refl

pub second_of_a_picture : command_of (codes "rt f +x a 0 0 1 1 1 s t/") ≡ Bad (Name 11)
second_of_a_picture = refl

pub second_of_a_check : command_of (codes "rtcheck +x a 0 0 1 1 1 s t/") ≡ Bad (Name 10)
second_of_a_check = refl

-- a corner may be less than 0, and a cell, columns and rows may not
pub corner_too_far : command_of (codes "rt f +x -999999999 0 -1000000000 x 1 1 s") ≡ Bad (Number 6)
corner_too_far = refl

pub cell_below_zero : command_of (codes "rt f +x 0 0 0 -1 -1 -1 s") ≡ Bad (Number 7)
cell_below_zero = refl

pub columns_below_zero : command_of (codes "rtcheck +x 0 0 0 0 -1 -1 s") ≡ Bad (Number 7)
columns_below_zero = refl

pub too_many_rows : command_of (codes "rtcheck +x 0 0 0 0 0 1000000000 s") ≡ Bad (Number 8)
too_many_rows = refl

-- a cell is a length, and columns and rows are whole numbers
pub finest_cell : command_of (codes "rtcheck +x 0 0 0.1 0.1 1 1 s") ≡ Shoot (Check (view (pos 0) (pos 0) (pos 1) PlusX (pos 1) 1 1) (codes "s" ∷ []))
unfolding view_refusal
finest_cell = refl

pub columns_in_tenths : command_of (codes "rt f +x 0 0 0 0.1 32.5 1 s") ≡ Bad (Number 8)
columns_in_tenths = refl

-- the view is looked at last: its pixels, its sides, its cell, and then where its rays start
pub no_columns : command_of (codes "rt f +x 524289 0 0 0 -0 2049 s") ≡ Bad (View Pixels)
unfolding view_refusal
no_columns = refl

pub long_side : command_of (codes "rtcheck +x 524289 0 0 0 1 2049 s") ≡ Bad (View Side)
unfolding view_refusal
long_side = refl

pub no_cell : command_of (codes "rt f +x 524289 0 0 0 1 2048 s") ≡ Bad (View Cell)
unfolding view_refusal
no_cell = refl

pub corner_outside : command_of (codes "rtcheck +x 524289 0 0 1 1 1 s") ≡ Bad (View World)
unfolding view_refusal
corner_outside = refl

-- the last column starts a tenth of a millimetre too far out: columns follow one another along x from left to right, when
-- seen along y
pub last_column_outside : command_of (codes "rt f +y 524288 0 0 0.1 2 1 s") ≡ Bad (View World)
unfolding view_refusal
last_column_outside = refl

-- there is no second column that a long cell could move out of the world
pub one_pixel_of_any_cell : command_of (codes "rt f +y 524288 0 0 999999999.9 1 1 s") ≡ Shoot (Picture (codes "f") (view WORLD (pos 0) (pos 0) PlusY VIEW_NUMBER 1 1) (codes "s" ∷ []))
unfolding view_refusal
one_pixel_of_any_cell = refl

-- the most columns and rows, over nearly the whole world
pub whole_world : command_of (codes "rtcheck +x 0 524288 524288 512 2048 2048 s") ≡ Shoot (Check (view (pos 0) WORLD WORLD PlusX (pos 5120) 2048 2048) (codes "s" ∷ []))
unfolding view_refusal
whole_world = refl

pub no_commands : script_of [] ≡ Ok []
no_commands = refl

-- comments and blank lines are no commands, and the last line needs no line feed
pub two_commands : script_of (codes "# two\n\nfrob\n  \nin s") ≡ Ok (entry 1 (Bad Syntax) ∷ entry 1 (Bad Syntax) ∷ [])
two_commands = refl

-- a line of session 2, and one of session 1
pub two_sessions : script_of (codes "@2 ls\nls\n@8\n@3 # nothing\n") ≡ Ok (entry 2 (Query Names) ∷ entry 1 (Query Names) ∷ [])
two_sessions = refl

pub their_lines : line_numbers (codes "#\n@2 ls\n\nls\n@8\n@3 # nothing\n") ≡ 2 ∷ 4 ∷ []
their_lines = refl

-- the first faulty line counts, whatever the lines before it are
pub ninth_session : script_of (codes "frob\n#\n@9 frob\n@0 frob\n") ≡ Err (flaws.Session 3)
ninth_session = refl

pub tab_behind_a_session : script_of (codes "@2\tls") ≡ Err (flaws.Session 1)
tab_behind_a_session = refl

pub two_digits : script_of (codes "@11 ls") ≡ Err (flaws.Session 1)
two_digits = refl

pub return_behind_a_session : script_of (codes "@1\r\n") ≡ Err (flaws.Session 1)
return_behind_a_session = refl

-- each line feed ends a line, and what follows the last one is a line where it is not empty
pub last_line : script_of (codes "ls\nls") ≡ Ok (entry 1 (Query Names) ∷ entry 1 (Query Names) ∷ [])
last_line = refl

pub nothing_after_the_last_line : script_of (codes "ls\nls\n") ≡ Ok (entry 1 (Query Names) ∷ entry 1 (Query Names) ∷ [])
nothing_after_the_last_line = refl

-- a comment begins with its pound sign, also behind blanks, and only there
pub comment_behind_blanks : script_of (codes " \t#ls\nls #\n\r\n") ≡ Ok (entry 1 (Bad Syntax) ∷ [])
comment_behind_blanks = refl

-- a blank before an at sign makes it a part of a command
pub at_sign_behind_a_blank : script_of (codes " @2 ls") ≡ Ok (entry 1 (Bad Syntax) ∷ [])
at_sign_behind_a_blank = refl

-- one object as a line
pub a_put : command_of (codes "put s sph r 5 V {0 0 0}") ≡ Edit (Make (codes "s") (solid_object (solids.Sphere (record { centre = vector (pos 0) (pos 0) (pos 0); radius = pos 50 }))))
a_put = refl

pub put_of_a_cylinder : command_of (codes "put c rcc r 5 H {0 0 -20} V {0 0 0.5}")
    ≡ Edit (Make (codes "c") (solid_object (solids.Rcc (record { base = vector (pos 0) (pos 0) (pos 5); height = vector (pos 0) (pos 0) (negsuc 199); radius = pos 50 }))))
put_of_a_cylinder = refl

-- a group where the object's name is wanted, which a text of a model has as a name that is none
pub put_of_a_group : command_of (codes "put {a b} sph r 5 V {0 0 0}") ≡ Bad Syntax
put_of_a_group = refl

pub put_of_no_name : command_of (codes "put a/b sph r x V {0 0 0}") ≡ Bad (Name 2)
put_of_no_name = refl

pub put_of_no_number : command_of (codes "put a sph r x V {0 0 0}") ≡ Bad (Number 5)
put_of_no_number = refl

pub put_without_radius : command_of (codes "put a sph r 0 V {0 0 0}") ≡ Bad (Shape Radius)
put_without_radius = refl

pub put_of_half_a_tree : command_of (codes "put a comb tree {u {l b}}") ≡ Bad Syntax
put_of_half_a_tree = refl

pub put_of_no_keys : command_of (codes "put a comb") ≡ Bad Syntax
put_of_no_keys = refl

-- the text of a title keeps the blanks inside it, and those of its braces
pub a_title : command_of (codes "title  Coffee  cup \r") ≡ Edit (Title (codes "Coffee  cup"))
a_title = refl

pub a_braced_title : command_of (codes "title { Coffee {cup}}") ≡ Edit (Title (codes " Coffee {cup}"))
a_braced_title = refl

pub an_empty_title : command_of (codes "title {}") ≡ Edit (Title [])
an_empty_title = refl

pub no_title : command_of (codes "title") ≡ Bad Syntax
no_title = refl

pub some_kept : command_of (codes "attr set c maker { hand } k v") ≡ Edit (Keep (codes "c") (record { name = codes "maker"; value = codes " hand " } ∷ record { name = codes "k"; value = codes "v" } ∷ []))
some_kept = refl

pub kept_without_value : command_of (codes "attr set c/ maker") ≡ Bad Syntax
kept_without_value = refl

pub kept_of_no_name : command_of (codes "attr set c/ k/ v") ≡ Bad (Name 3)
kept_of_no_name = refl

pub key_that_is_no_name : command_of (codes "attr set c k v k/ v") ≡ Bad (Name 6)
key_that_is_no_name = refl

pub no_such_attr : command_of (codes "attr get c k") ≡ Bad Syntax
no_such_attr = refl

pub written_lines : command_of (codes "l a {b}") ≡ Query (Lines (codes "a" ∷ codes "b" ∷ []))
written_lines = refl

pub trees : command_of (codes "tree a b/c") ≡ Bad (Name 3)
trees = refl

pub tree_of_nothing : command_of (codes "tree") ≡ Bad Syntax
tree_of_nothing = refl

-- a whole model as a file, whose name is one word
pub a_save : command_of (codes "save {a.asc}") ≡ Query (Save (codes "a.asc"))
a_save = refl

pub save_of_two : command_of (codes "save a.asc # x") ≡ Bad Syntax
save_of_two = refl

pub save_in_a_folder : command_of (codes "save a/b") ≡ Bad (Name 2)
save_in_a_folder = refl

-- the words that are to be names, whether they are or not
pub names_of_a_region : names_of_line (codes "r a u b/ - c") ≡ (2, codes "a") ∷ (4, codes "b/") ∷ (6, codes "c") ∷ []
names_of_a_region = refl

pub names_of_a_shot : names_of_line (codes "nirt x 0 0 +x s {t}") ≡ (6, codes "s") ∷ (7, codes "t") ∷ []
names_of_a_shot = refl

pub names_of_a_slanted_shot : names_of_line (codes "nirtd x 0 0 1 1 9 s {t}") ≡ (8, codes "s") ∷ (9, codes "t") ∷ []
names_of_a_slanted_shot = refl

pub names_of_a_picture : names_of_line (codes "rt f/ +x 0 0 0 1 1 1 s {t}") ≡ (2, codes "f/") ∷ (10, codes "s") ∷ (11, codes "t") ∷ []
names_of_a_picture = refl

pub names_of_a_check : names_of_line (codes "rtcheck +x 0 0 0 1 1 1 s") ≡ (9, codes "s") ∷ []
names_of_a_check = refl

pub names_of_an_area : names_of_line (codes "rtarea +x 0 0 0 1 1 1 s") ≡ (9, codes "s") ∷ []
names_of_an_area = refl

pub names_of_an_edge_picture : names_of_line (codes "rtedge f/ +x 0 0 0 1 1 1 s") ≡ (2, codes "f/") ∷ (10, codes "s") ∷ []
names_of_an_edge_picture = refl

-- those of a tree all have the number of its word
pub names_of_a_combination : names_of_line (codes "put c comb id x tree {u {l a} {l b/}}") ≡ (2, codes "c") ∷ (7, codes "a") ∷ (7, codes "b/") ∷ []
names_of_a_combination = refl

pub names_of_kept_attributes : names_of_line (codes "attr set c/ k v") ≡ (3, codes "c/") ∷ (4, codes "k") ∷ []
names_of_kept_attributes = refl

-- the words that are to be numbers, and whether each is one in its range
pub numbers_of_a_shot : numbers_of_line (codes "nirt 0 x 524289 +x s/") ≡ (2, true) ∷ (3, false) ∷ (4, true) ∷ []
numbers_of_a_shot = refl

pub numbers_of_a_picture : numbers_of_line (codes "rt f +x -5 x 0 -1 1 1 s") ≡ (4, true) ∷ (5, false) ∷ (6, true) ∷ (7, false) ∷ (8, true) ∷ (9, true) ∷ []
numbers_of_a_picture = refl

-- each value of a combination has the number of its word; one that is no value is told by it
pub values_of_a_combination : numbers_of_line (codes "put c comb id x los 5 region {yes}") ≡ (5, false) ∷ (7, true) ∷ (9, true) ∷ []
values_of_a_combination = refl

-- the ray is looked at last, and only there
pub ray_of_a_shot : first_refusal (wanted_of_line (codes "nirt 0 0 524289 +x s")) ≡ Some (View World)
ray_of_a_shot = refl

pub view_of_a_picture : first_refusal (wanted_of_line (codes "rt f +x 0 0 0 0 1 1 s")) ≡ Some (View Cell)
view_of_a_picture = refl

-- the line of a command
pub a_line : line_of (codes "kill") (codes "a" ∷ codes "b" ∷ []) ≡ codes "kill a b"
a_line = refl

pub line_of_a_region : line_of (codes "r") (codes "a" ∷ member_words ((U, codes "b") ∷ (Minus, codes "c") ∷ [])) ≡ codes "r a u b - c"
line_of_a_region = refl

pub line_of_an_exclusive_union : line_of (codes "r") (codes "a" ∷ member_words ((U, codes "b") ∷ (X, codes "c") ∷ [])) ≡ codes "r a u b ^ c"
line_of_an_exclusive_union = refl

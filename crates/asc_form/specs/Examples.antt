-- Small texts, and what the definitions make of them, each proved by computing.
use Rattle.std.specs.Prelude.{◌≡◌, refl, pos, [], ◌∷◌, Ok, Err, codes}
use Rattle.std.specs.Fmt.{digits}
use Rattle.solid_set.specs.Rpps.{vector}
use Rattle.solid_set.specs.declared.solid.Solid.TheVariants as solids
use Rattle.object_set.specs.declared.object.Body.TheVariants as bodies
use Rattle.object_set.specs.Objects.{Parts}
use Rattle.directory.specs.Listing.{Listing}
use Rattle.asc_form.specs.Commands.{piece, pieces_of}
use Rattle.asc_form.specs.Reading.{directory_of, empty}
use Rattle.asc_form.specs.Written.{written}
use Rattle.asc_form.specs.declared.fault.AscFault.TheVariants.{At}
use Rattle.asc_form.specs.declared.fault.AscKind.TheVariants as kinds

two_commands : pieces_of (codes "a\nb") ≡ piece 1 (codes "a") ∷ piece 2 (codes "b") ∷ []
two_commands = refl

last_line_feed : pieces_of (codes "a\n") ≡ piece 1 (codes "a") ∷ piece 2 [] ∷ []
last_line_feed = refl

-- a line feed in braces parts nothing, and counts as a line
in_braces : pieces_of (codes "a {\n{}\n}\nb") ≡ piece 1 (codes "a {\n{}\n}") ∷ piece 4 (codes "b") ∷ []
in_braces = refl

-- braces of a pound line count for nothing
pound_line : pieces_of (codes " # {\nb") ≡ piece 1 (codes " # {") ∷ piece 2 (codes "b") ∷ []
pound_line = refl

-- within a command `#` is a byte like any other
pound_within : pieces_of (codes "a {\n# }\nb") ≡ piece 1 (codes "a {\n# }") ∷ piece 3 (codes "b") ∷ []
pound_within = refl

abbrev sphere : Parts
sphere = record { body = bodies.Solid (solids.Sphere (record { centre = vector (pos 0) (pos 0) (pos 0); radius = pos 5 })); kept = [] }

abbrev small : Listing
small = record { title = codes "a  b"; objects = (codes "s", sphere) ∷ [] }

a_model : directory_of (codes "# made by hand\ntitle {a  b}\n\nunits mm\nput s sph r 0.5\tV {0 0\n0}\r\n") ≡ Ok small
a_model = refl

its_text : written small ≡ codes "title {a  b}\nunits mm\nput s sph V {0 0 0} r 0.5\n"
unfolding digits
its_text = refl

-- a title may stand without braces; its blanks are kept
a_title : directory_of (codes "title  a  b \r\n") ≡ Ok (record { title = codes "a  b"; objects = [] })
a_title = refl

nothing : directory_of [] ≡ Ok empty
nothing = refl

kept_twice : directory_of (codes "put s sph V {0 0 0} r 0.5\nattr set s k {a } l b\nattr set {s} l c m {}\n")
    ≡ Ok (record { title = []; objects = (codes "s", record sphere { kept = record { name = codes "k"; value = codes "a " } ∷ record { name = codes "l"; value = codes "c" } ∷ record { name = codes "m"; value = [] } ∷ [] }) ∷ [] })
kept_twice = refl

-- the line on which the faulty command begins
an_open_group : directory_of (codes "title a\n\nput a comb tree {u {l b} {l\n") ≡ Err (At 3 kinds.Words)
an_open_group = refl

another_command : directory_of (codes "in s sph 0 0 0 5") ≡ Err (At 1 kinds.NoType)
another_command = refl

another_unit : directory_of (codes "units in") ≡ Err (At 1 kinds.NoType)
another_unit = refl

two_units : directory_of (codes "units mm mm") ≡ Err (At 1 kinds.NoType)
two_units = refl

title_alone : directory_of (codes "title") ≡ Err (At 1 kinds.NoType)
title_alone = refl

attr_set_alone : directory_of (codes "attr set") ≡ Err (At 1 kinds.NoType)
attr_set_alone = refl

no_such_object : directory_of (codes "attr set s k v") ≡ Err (At 1 kinds.Attr)
no_such_object = refl

-- a name that is none is told after the form of keys and values
no_name : directory_of (codes "attr set s/1 k v") ≡ Err (At 1 kinds.Name)
no_name = refl

form_before_name : directory_of (codes "attr set s/1 k") ≡ Err (At 1 kinds.Attr)
form_before_name = refl

nothing_named_before_keys : directory_of (codes "attr set s k/1 v") ≡ Err (At 1 kinds.Attr)
nothing_named_before_keys = refl

a_key_that_is_no_name : directory_of (codes "put s sph V {0 0 0} r 5\nattr set s k/1 v") ≡ Err (At 2 kinds.Name)
a_key_that_is_no_name = refl

there_already : directory_of (codes "put s sph V {0 0 0} r 5\nput s sph V {0 0 0} r 6") ≡ Err (At 2 kinds.Exists)
there_already = refl

its_own_member : directory_of (codes "put a comb tree {l b}\nput b comb tree {l a}\n") ≡ Err (At 2 kinds.Cycle)
its_own_member = refl

shapes_before_names_there : directory_of (codes "put s sph V {0 0 0} r 5\nput s sph V {0 0 0} r 0") ≡ Err (At 2 kinds.Shape)
shapes_before_names_there = refl

return_in_a_title : directory_of (codes "title a\rb") ≡ Err (At 1 kinds.Attr)
return_in_a_title = refl

two_groups_as_a_title : directory_of (codes "title {a}  {b}") ≡ Ok (record { title = codes "{a}  {b}"; objects = [] })
two_groups_as_a_title = refl

return_in_a_kept_value : directory_of (codes "put s sph V {0 0 0} r 5\nattr set s k {a\r}") ≡ Err (At 2 kinds.Attr)
return_in_a_kept_value = refl

another_attr : directory_of (codes "attr get s k v") ≡ Err (At 1 kinds.NoType)
another_attr = refl

a_group_for_a_name : directory_of (codes "attr set {a b} k v") ≡ Err (At 1 kinds.Name)
a_group_for_a_name = refl

grouped_unit : directory_of (codes "{units} {mm}") ≡ Ok empty
grouped_unit = refl

-- a brace too much is told on the line on which its command begins, whatever follows
closed_too_much : directory_of (codes "units mm\n}{\nunits in") ≡ Err (At 2 kinds.Words)
closed_too_much = refl

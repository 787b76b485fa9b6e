-- Small commands, and what the definitions make of them, each proved by computing.
use Rattle.std.specs.Prelude.{◌≡◌, refl, ℕ, pos, negsuc, List, [], ◌∷◌, None, Some, Result, Ok, Err, codes, map, true}
use Rattle.tree_forms.specs.declared.Op.TheVariants.{Minus, X}
use Rattle.tree_forms.specs.Trees.{Leaf, Join}
use Rattle.tcl_words.specs.Tokens.{tokens_of}
use Rattle.tcl_words.specs.TopWords.{top_words}
use Rattle.region_attr.specs.Attrs.{group_attr}
use Rattle.plane_geom.specs.declared.fault.ShapeFault.TheVariants.{Axis, Flat, Radius, ZeroNormal}
use Rattle.solid_set.specs.Rpps.{vector}
use Rattle.solid_set.specs.declared.solid.Solid.TheVariants as solids
use Rattle.object_set.specs.declared.object.Body.TheVariants as bodies
use Rattle.word_values.specs.Matrices.{identity}
use Rattle.std.specs.Fmt.{digits}
use Rattle.object_set.specs.declared.kept.KeptAttr.{KeptAttr}
use Rattle.put_form.specs.Keeps.{kept_of}
use Rattle.put_form.specs.Pairs.{pairs_of}
use Rattle.put_form.specs.Puts.{Put, put_of}
use Rattle.put_form.specs.Written.{length_text, object_lines}
use Rattle.put_form.specs.declared.fault.PutFault.{PutFault}
use Rattle.put_form.specs.declared.fault.PutFault.TheVariants.{NoType, Attr, Tree, Name, Number, Shape}

abbrev lines : Put → List (List ℕ)
lines (Ok put) = object_lines put.0 put.1
lines (Err fault) = []

abbrev put : List ℕ → Put
put text = put_of text (tokens_of text) (top_words (tokens_of text))

abbrev sphere : Put
sphere = Ok (codes "s", record { body = bodies.Solid (solids.Sphere (record { centre = vector (pos 10) (negsuc 19) (pos 30); radius = pos 50 })); kept = [] })

a_sphere : put (codes "put s sph V {1 -2 3} r 5") ≡ sphere
a_sphere = refl

keys_in_any_order : put (codes "put s sph r 5.0 V { 1 -2 {3} }") ≡ sphere
keys_in_any_order = refl

-- an ellipsoid whose axes are as long as one another is a sphere
an_ellipsoid : put (codes "put s ell A {5 0 0} B {0 5.0 0} C {0 0 5} V {1 -2 3}") ≡ sphere
an_ellipsoid = refl

another_length : put (codes "put s ell V {1 -2 3} A {5 0 0} B {0 6 0} C {0 0 7}") ≡ Err (Number 9)
another_length = refl

not_along_x : put (codes "put s ell V {1 -2 3} A {5 0 1} B {0 6 0} C {0 0 7}") ≡ Err (Number 7)
not_along_x = refl

-- where the first number of A is none in its range, the others need only be 0 beside their axis
no_length : put (codes "put s ell B {0 6 0} V {1 -2 3} A {x 0 0} C {0 0 7}") ≡ Err (Number 9)
no_length = refl

abbrev cylinder : Put
cylinder = Ok (codes "c", record { body = bodies.Solid (solids.Rcc (record { base = vector (pos 0) (pos 0) (pos 5); height = vector (pos 0) (pos 0) (negsuc 199); radius = pos 50 })); kept = [] })

a_cylinder : put (codes "put c rcc V {0 0 0.5} H {0 0 -20} r 5") ≡ cylinder
a_cylinder = refl

a_cylinder_s_keys_in_any_order : put (codes "put c rcc r 5 H {0 0 -20} V {0 0 0.5}") ≡ cylinder
a_cylinder_s_keys_in_any_order = refl

no_height : put (codes "put c rcc V {0 0 0.5} r 5") ≡ Err Attr
no_height = refl

a_height_twice : put (codes "put c rcc V {0 0 0.5} H {0 0 -20} H {0 0 -20}") ≡ Err Attr
a_height_twice = refl

two_numbers_of_a_height : put (codes "put c rcc V {0 0 0.5} H {0 0} r 5") ≡ Err Attr
two_numbers_of_a_height = refl

no_axis : put (codes "put c rcc r 0 V {0 0 0} H {1 0 1}") ≡ Err (Shape Axis)
no_axis = refl

no_radius_of_a_cylinder : put (codes "put c rcc r 0 V {0 0 0} H {0 -1 0}") ≡ Err (Shape Radius)
no_radius_of_a_cylinder = refl

a_height_out_of_range : put (codes "put c rcc r 0 V {0 0 0} H {1 0 16384.1}") ≡ Err (Number 9)
a_height_out_of_range = refl

a_key_twice : put (codes "put s sph V {1 2 3} V {1 2 3}") ≡ Err Attr
a_key_twice = refl

a_key_missing : put (codes "put s sph V {1 2 3}") ≡ Err Attr
a_key_missing = refl

another_key : put (codes "put s sph V {1 2 3} r 5 d 5") ≡ Err Attr
another_key = refl

no_value : put (codes "put s sph V {1 2 3} r") ≡ Err Attr
no_value = refl

two_numbers : put (codes "put s sph V {1 2} r 5") ≡ Err Attr
two_numbers = refl

an_atom_for_a_group : put (codes "put s sph V 1 r 5") ≡ Err Attr
an_atom_for_a_group = refl

no_type : put (codes "put s tor V {1 2 3} r 5") ≡ Err NoType
no_type = refl

too_few_words : put (codes "put s") ≡ Err NoType
too_few_words = refl

keys_before_names : put (codes "put s/1 sph V {1 2 3}") ≡ Err Attr
keys_before_names = refl

names_before_numbers : put (codes "put s/1 sph V {1 2 x} r 5") ≡ Err (Name 2)
names_before_numbers = refl

a_group_for_a_name : put (codes "put {a b} sph V {1 2 3} r 5") ≡ Err (Name 2)
a_group_for_a_name = refl

the_first_bad_word : put (codes "put s sph r x V {1 2 y}") ≡ Err (Number 5)
the_first_bad_word = refl

a_normal_of_whole_numbers : put (codes "put h half N {0 0 1.5} d 5") ≡ Err (Number 5)
a_normal_of_whole_numbers = refl

a_long_normal : put (codes "put h half d 0.5 N {0 16385 0}") ≡ Err (Number 7)
a_long_normal = refl

two_decimals : put (codes "put s sph V {1 2 3} r 0.25") ≡ Err (Number 7)
two_decimals = refl

numbers_before_shapes : put (codes "put s sph r 0 V {1 2 16384.1}") ≡ Err (Number 7)
numbers_before_shapes = refl

no_radius : put (codes "put s sph r 0 V {1 2 3}") ≡ Err (Shape Radius)
no_radius = refl

no_normal : put (codes "put h half d 5 N {0 0 0}") ≡ Err (Shape ZeroNormal)
no_normal = refl

flat : put (codes "put a arb8 V1 {0 0 0} V2 {1 0 0} V3 {1 1 0} V4 {0 1 0} V5 {0 0 0} V6 {1 0 0} V7 {1 1 0} V8 {0 1 0}") ≡ Err (Shape Flat)
flat = refl

a_combination : put (codes "put c comb tree {- {l a} {l b}} region { yes } rgb { 1 2 3 } id 7")
    ≡ Ok (
      codes "c",
      record {
        body = bodies.Comb (record group_attr { region = true; rgb = Some (record { r = 1; g = 2; b = 3 }); id = 7 })
            (Some (Join Minus (Leaf (record { name = codes "a"; placement = identity })) (Leaf (record { name = codes "b"; placement = identity }))));
        kept = [];
      },
    )
a_combination = refl

an_exclusive_union : put (codes "put c comb tree {^ {l a} {l b}}")
    ≡ Ok (
      codes "c",
      record {
        body = bodies.Comb group_attr (Some (Join X (Leaf (record { name = codes "a"; placement = identity })) (Leaf (record { name = codes "b"; placement = identity }))));
        kept = [];
      },
    )
an_exclusive_union = refl

an_empty_tree : put (codes "put c comb tree {}") ≡ Ok (codes "c", record { body = bodies.Comb group_attr None; kept = [] })
an_empty_tree = refl

no_keys : put (codes "put c comb") ≡ Err Attr
no_keys = refl

keys_before_trees : put (codes "put c comb tree {l} id 7 id 8") ≡ Err Attr
keys_before_trees = refl

trees_before_names : put (codes "put c/d comb tree {l} id x") ≡ Err Tree
trees_before_names = refl

a_tree_as_an_atom : put (codes "put c comb tree x") ≡ Err Tree
a_tree_as_an_atom = refl

a_member_s_name : put (codes "put c comb id x tree {l a/b}") ≡ Err (Name 7)
a_member_s_name = refl

numbers_in_the_order_of_the_words : put (codes "put c comb tree {l b {2 0 0 0 0 1 0 0 0 0 1 0 0 0 0 1}} id x") ≡ Err (Number 5)
numbers_in_the_order_of_the_words = refl

a_group_as_a_value : put (codes "put c comb id {1 2}") ≡ Err (Number 5)
a_group_as_a_value = refl

written_sphere : lines sphere ≡ codes "put s sph V {1 -2 3} r 5" ∷ []
unfolding digits
written_sphere = refl

written_cylinder : lines cylinder ≡ codes "put c rcc V {0 0 0.5} H {0 0 -20} r 5" ∷ []
unfolding digits
written_cylinder = refl

lengths_in_millimetres : map length_text (negsuc 4 ∷ pos 0 ∷ pos 30 ∷ pos 163839 ∷ []) ≡ codes "-0.5" ∷ codes "0" ∷ codes "3" ∷ codes "16383.9" ∷ []
unfolding digits
lengths_in_millimetres = refl

written_tenths : lines (put (codes "put s sph V {0.50 -0.0 -16384} r 0.1")) ≡ codes "put s sph V {0.5 0 -16384} r 0.1" ∷ []
unfolding digits
written_tenths = refl

written_half : lines (put (codes "put h half d -7.5 N {0 0 20.0}")) ≡ codes "put h half N {0 0 20} d -7.5" ∷ []
unfolding digits
written_half = refl

-- keys are written in their order, and a placement only where it moves something
written_combination : lines (put (codes "put c comb tree {+ {l a} {l b {0 0 -1 145.5 0 1 0 50 1 0 0 -0.5 0 0 0 1}}} rgb 1/2/3 id 7"))
    ≡ codes "put c comb region no id 7 air 0 los 0 mater 0 rgb {1 2 3} inherit no tree {n {l a} {l b {0 0 -1 145.5 0 1 0 50 1 0 0 -0.5 0 0 0 1}}}" ∷ []
unfolding digits
written_combination = refl

written_empty : lines (put (codes "put c comb inherit 1")) ≡ codes "put c comb region no id 0 air 0 los 0 mater 0 inherit yes" ∷ []
unfolding digits
written_empty = refl

abbrev kept : List ℕ → Result (List KeptAttr) PutFault
kept text = kept_of text (tokens_of text) (pairs_of text (tokens_of text) 4 (top_words (tokens_of text)))

two_kept : kept (codes "maker { hand } {k} {a {b}  c}") ≡ Ok (record { name = codes "maker"; value = codes " hand " } ∷ record { name = codes "k"; value = codes "a {b}  c" } ∷ [])
two_kept = refl

nothing_kept : kept (codes "") ≡ Err Attr
nothing_kept = refl

key_alone : kept (codes "a b c") ≡ Err Attr
key_alone = refl

group_as_a_key : kept (codes "{a b} c") ≡ Err Attr
group_as_a_key = refl

key_that_is_no_name : kept (codes "a b c/d e") ≡ Err (Name 6)
key_that_is_no_name = refl

with_kept : object_lines (codes "c") (record { body = bodies.Comb group_attr None; kept = record { name = codes "maker"; value = codes " hand " } ∷ record { name = codes "k"; value = [] } ∷ [] })
    ≡ codes "put c comb region no id 0 air 0 los 0 mater 0 inherit no" ∷ codes "attr set c maker { hand } k {}" ∷ []
unfolding digits
with_kept = refl

-- the parts of a colour are words: each may be a group of one atom, and so may the three with slashes
colour_of_groups : lines (put (codes "put c comb rgb {{1} 2 {3}}")) ≡ codes "put c comb region no id 0 air 0 los 0 mater 0 rgb {1 2 3} inherit no" ∷ []
unfolding digits
colour_of_groups = refl

colour_by_slashes : lines (put (codes "{put} {c} {comb} {rgb} { 1/2/3 }")) ≡ codes "put c comb region no id 0 air 0 los 0 mater 0 rgb {1 2 3} inherit no" ∷ []
unfolding digits
colour_by_slashes = refl

no_colour : put (codes "put c comb rgb {}") ≡ Err (Number 5)
no_colour = refl

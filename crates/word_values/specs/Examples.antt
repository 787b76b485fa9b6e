-- Numbers of each kind and small texts of trees, and what the definitions make of them, each proved by computing.
use Rattle.std.specs.Prelude.{◌≡◌, refl, ℕ, pos, negsuc, List, [], ◌∷◌, None, Some, Result, Ok, Err, false, codes}
use Rattle.lattice_core.specs.declared.limit.TheConstants.{COORD, HALF_NORMAL}
use Rattle.lattice_core.specs.Vectors.{vector}
use Rattle.plane_geom.specs.declared.fault.ShapeFault.TheVariants.{Axis, Radius}
use Rattle.solid_set.specs.declared.solid.Solid.TheVariants as made
use Rattle.tree_forms.specs.declared.Op.TheVariants.{U, N, Minus, X}
use Rattle.tree_forms.specs.Trees.{Tree, Leaf, Join}
use Rattle.comb_tree.specs.Nodes.{Comb, Member}
use Rattle.tcl_words.specs.Tokens.{tokens_of}
use Rattle.word_values.specs.Groups.{Words, End, Atom, Group, words_of_tokens}
use Rattle.word_values.specs.Kinds.{number_as, numbers_as, coordinate_kind, normal_kind}
use Rattle.word_values.specs.Matrices.{identity}
use Rattle.word_values.specs.Solids.{has_one_component, kind_of, rcc_made}
use Rattle.word_values.specs.SolidForms.{form_of, key_at, vector_key}
use Rattle.word_values.specs.Trees.{tree_of}
use Rattle.word_values.specs.declared.atoms.NumberList.TheVariants as lists
use Rattle.word_values.specs.declared.solid.SolidKind.TheVariants as solids
use Rattle.word_values.specs.declared.solid_form.SolidForm.TheVariants as forms
use Rattle.word_values.specs.declared.tree.TreeFault.{TreeFault}
use Rattle.word_values.specs.declared.tree.TreeFault.TheVariants.{Form, Name, Number}

abbrev words : List ℕ → Words
words text = words_of_tokens text (tokens_of text)

abbrev tree : List ℕ → Result Comb TreeFault
tree text = tree_of (words text)

abbrev member : List ℕ → Tree Member
member name = Leaf (record { name = name; placement = identity })

longest_coordinate : number_as coordinate_kind (codes "16384.0") ≡ Some COORD
longest_coordinate = refl

coordinate_over_by_a_tenth : number_as coordinate_kind (codes "-16384.1") ≡ None
coordinate_over_by_a_tenth = refl

largest_of_a_normal : number_as normal_kind (codes "16384") ≡ Some HALF_NORMAL
largest_of_a_normal = refl

normal_over_by_one : number_as normal_kind (codes "16385") ≡ None
normal_over_by_one = refl

-- the normal of a half-space is whole numbers, its distance a length
half_numbers : numbers_as (lists.Solid solids.Half) (codes "1" ∷ codes "0" ∷ codes "0.5" ∷ codes "0.5" ∷ []) ≡ Some (pos 1) ∷ Some (pos 0) ∷ None ∷ Some (pos 5) ∷ []
half_numbers = refl

a_cylinder_s_word : kind_of (codes "rcc") ≡ Some solids.Rcc
a_cylinder_s_word = refl

-- an ellipsoid is no kind that is made, but a form
no_ellipsoid_is_made : kind_of (codes "ell") ≡ None
no_ellipsoid_is_made = refl

an_ellipsoid_s_form : form_of (codes "ell") ≡ Some forms.Ellipsoid
an_ellipsoid_s_form = refl

-- all seven numbers are lengths
rcc_numbers : numbers_as (lists.Solid solids.Rcc) (codes "0" ∷ codes "0.5" ∷ codes "0" ∷ codes "0" ∷ codes "0" ∷ codes "-20" ∷ codes "0.5" ∷ [])
    ≡ Some (pos 0) ∷ Some (pos 5) ∷ Some (pos 0) ∷ Some (pos 0) ∷ Some (pos 0) ∷ Some (negsuc 199) ∷ Some (pos 5) ∷ []
rcc_numbers = refl

second_key_of_a_cylinder : key_at forms.Rcc 1 ≡ vector_key (codes "H")
second_key_of_a_cylinder = refl

a_cylinder : rcc_made (vector (pos 0) (pos 5) (pos 0)) (vector (pos 0) (pos 0) (negsuc 199)) (pos 1)
    ≡ Ok (made.Rcc (record { base = vector (pos 0) (pos 5) (pos 0); height = vector (pos 0) (pos 0) (negsuc 199); radius = pos 1 }))
a_cylinder = refl

two_components : has_one_component (vector (pos 1) (pos 0) (negsuc 0)) ≡ false
two_components = refl

-- the axis is looked at before the radius
no_component : rcc_made (vector (pos 0) (pos 0) (pos 0)) (vector (pos 0) (pos 0) (pos 0)) (pos 0) ≡ Err Axis
no_component = refl

no_radius : rcc_made (vector (pos 0) (pos 0) (pos 0)) (vector (pos 0) (negsuc 9) (pos 0)) (pos 0) ≡ Err Radius
no_radius = refl

groups_in_groups : words (codes "a {b {c} } d") ≡ Atom (codes "a") (Group (Atom (codes "b") (Group (Atom (codes "c") End) End)) (Atom (codes "d") End))
groups_in_groups = refl

no_words : words (codes "  ") ≡ End
no_words = refl

empty_tree : tree (codes "") ≡ Ok None
empty_tree = refl

one_leaf : tree (codes "l a") ≡ Ok (Some (member (codes "a")))
one_leaf = refl

-- a union of a leaf, and the difference of two
a_difference : tree (codes "u {l s1} {- {l s2} {l s3}}") ≡ Ok (Some (Join U (member (codes "s1")) (Join Minus (member (codes "s2")) (member (codes "s3")))))
a_difference = refl

both_intersections : tree (codes "n {l a} {+ {l b} {l c}}") ≡ Ok (Some (Join N (member (codes "a")) (Join N (member (codes "b")) (member (codes "c")))))
both_intersections = refl

-- an exclusive union of a leaf and of one
two_exclusive_unions : tree (codes "^ {l a} {^ {l b} {l c}}") ≡ Ok (Some (Join X (member (codes "a")) (Join X (member (codes "b")) (member (codes "c")))))
two_exclusive_unions = refl

an_exclusive_union_of_one : tree (codes "^ {l a}") ≡ Err Form
an_exclusive_union_of_one = refl

an_exclusive_union_of_none : tree (codes "^") ≡ Err Form
an_exclusive_union_of_none = refl

-- a group of one atom counts as that atom
grouped_atoms : tree (codes "{u} {{l} {a}} {l {b}}") ≡ Ok (Some (Join U (member (codes "a")) (member (codes "b"))))
grouped_atoms = refl

a_matrix : tree (codes "l b {1 0 0 0 0 1 0 0 0 0 1 0 0 0 0 {1.0}}") ≡ Ok (Some (member (codes "b")))
a_matrix = refl

-- two groups after `l`: the first is a name
a_grouped_name : tree (codes "l {b} {1 0 0 0 0 1 0 0 0 0 1 0 0 0 0 1}") ≡ Ok (Some (member (codes "b")))
a_grouped_name = refl

-- the shift of a matrix is lengths
a_shift : tree (codes "l b {1 0 0 0.5 0 1 0 30 0 0 1 16384 0 0 0 1}") ≡ Ok (Some (Leaf (record { name = codes "b"; placement = record identity { shift = record { x = pos 5; y = pos 300; z = COORD } } })))
a_shift = refl

no_tenths_in_a_turn : tree (codes "l b {1 0 0 0 0 1 0 0 0 0 1 0 0 0 0.5 1}") ≡ Err Number
no_tenths_in_a_turn = refl

fifteen_numbers : tree (codes "l b {1 0 0 0 0 1 0 0 0 0 1 0 0 0 0}") ≡ Err Form
fifteen_numbers = refl

no_number : tree (codes "l b {1 0 0 0 0 1 0 0 0 0 1 0 0 0 0 x}") ≡ Err Number
no_number = refl

no_placement : tree (codes "l b {2 0 0 0 0 1 0 0 0 0 1 0 0 0 0 1}") ≡ Err Number
no_placement = refl

too_far : tree (codes "l b {1 0 0 16384.1 0 1 0 0 0 0 1 0 0 0 0 1}") ≡ Err Number
too_far = refl

names_before_numbers : tree (codes "u {l b {2 0 0 0 0 1 0 0 0 0 1 0 0 0 0 1}} {l a/b}") ≡ Err Name
names_before_numbers = refl

form_before_names : tree (codes "u {l a/b} {l}") ≡ Err Form
form_before_names = refl

a_group_for_a_name : tree (codes "l {a b}") ≡ Err Form
a_group_for_a_name = refl

no_second_side : tree (codes "u {l a}") ≡ Err Form
no_second_side = refl

empty_side : tree (codes "u {l a} {}") ≡ Err Form
empty_side = refl

a_list_is_no_tree : tree (codes "u {l a} {l b} {l c}") ≡ Err Form
a_list_is_no_tree = refl

sides_without_groups : tree (codes "u l a l b") ≡ Err Form
sides_without_groups = refl

a_group_is_no_node : tree (codes "{l a}") ≡ Err Form
a_group_is_no_node = refl

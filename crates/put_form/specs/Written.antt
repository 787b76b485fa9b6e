-- The one written text of an object: its `put` line, and its `attr set` line where it keeps attributes. Words are parted by
-- one blank, with none after `{` and before `}`.
use Rattle.std.specs.Prelude.{ℕ, suc, ℤ, pos, negsuc, Bool, true, false, ◌&&◌, ◌==◌, ◌+◌, ◌/◌, ◌%◌, List, [], ◌∷◌, ◌++◌, flat_map, Option, None, Some, codes, decimal, if◌then◌else◌}
use Rattle.std.specs.Fmt.{signed_decimal}
use Rattle.std.specs.Int.RustNames.{unsigned_abs}
use Rattle.std.specs.Ordering.{int_eq}
use Rattle.lattice_core.specs.declared.limit.TheConstants.{MILLIMETRE}
use Rattle.lattice_core.specs.declared.vector.V3.{V3}
use Rattle.lattice_core.specs.declared.placement.Placement.{Placement}
use Rattle.lattice_core.specs.Placements.{matrix_of}
use Rattle.word_values.specs.Kinds.{coordinate_kind, normal_kind, kind_at}
use Rattle.word_values.specs.declared.atoms.NumberKind.{NumberKind}
use Rattle.word_values.specs.declared.atoms.NumberKind.TheVariants.{Whole, Length}
use Rattle.word_values.specs.declared.atoms.NumberList.{NumberList}
use Rattle.word_values.specs.declared.atoms.NumberList.TheVariants as lists
use Rattle.tree_forms.specs.declared.Op.{Op}
use Rattle.tree_forms.specs.declared.Op.TheVariants.{U, N, Minus, X}
use Rattle.tree_forms.specs.Trees.{Tree, Leaf, Join}
use Rattle.comb_tree.specs.Nodes.{Comb, Member}
use Rattle.region_attr.specs.declared.attr.Attr.{Attr}
use Rattle.region_attr.specs.declared.attr.Rgb.{Rgb}
use Rattle.solid_set.specs.declared.solid.Solid.{Solid}
use Rattle.solid_set.specs.declared.solid.Solid.TheVariants as solids
use Rattle.name_core.specs.declared.name.Name.{Name}
use Rattle.object_set.specs.Objects.{Parts}
use Rattle.object_set.specs.declared.kept.KeptAttr.{KeptAttr}
use Rattle.object_set.specs.declared.object.Body.{Body}
use Rattle.object_set.specs.declared.object.Body.TheVariants as bodies

-- how many tenths a millimetre has
abbrev pub tenths : ℕ
tenths = unsigned_abs MILLIMETRE

-- the tenths that are left over: a point and one digit, and nothing where there are none
abbrev pub tenth_text : ℕ → List ℕ
tenth_text tenth = if tenth == 0 then [] else codes "." ++ decimal tenth

-- so many tenths of a millimetre, in millimetres
abbrev pub size_text : ℕ → List ℕ
size_text size = decimal (size / tenths) ++ tenth_text (size % tenths)

-- a length in millimetres: a whole number, or one with a point and one digit
abbrev pub length_text : ℤ → List ℕ
length_text (pos n) = size_text n
length_text (negsuc n) = codes "-" ++ size_text (suc n)

-- a number as it is read: a whole number as it is, and a length in millimetres
abbrev pub number_text : NumberKind → ℤ → List ℕ
number_text (Whole most) n = signed_decimal n
number_text (Length most) n = length_text n

-- words parted by blanks
abbrev pub words_text : List (List ℕ) → List ℕ
words_text [] = []
words_text (w ∷ []) = w
words_text (w ∷ rest) = w ++ 32 ∷ words_text rest

-- the numbers of a list from a place on, each as a word
abbrev pub number_words : NumberList → ℕ → List ℤ → List (List ℕ)
number_words list place [] = []
number_words list place (n ∷ rest) = number_text (kind_at list place) n ∷ number_words list (place + 1) rest

-- {x y z}
abbrev pub vector_text : NumberKind → V3 → List ℕ
vector_text kind v = codes "{" ++ (words_text (number_text kind v.x ∷ number_text kind v.y ∷ number_text kind v.z ∷ []) ++ codes "}")

-- V1 {x y z} V2 {x y z} .., each after a blank
abbrev pub vertices_text : ℕ → List V3 → List ℕ
vertices_text number [] = []
vertices_text number (v ∷ rest) = codes " V" ++ (decimal number ++ (codes " " ++ (vector_text coordinate_kind v ++ vertices_text (number + 1) rest)))

-- a normal has whole numbers, and all other numbers of solids are lengths
abbrev pub solid_text : Solid → List ℕ
solid_text (solids.Sphere s) = codes "sph V " ++ (vector_text coordinate_kind s.centre ++ (codes " r " ++ length_text s.radius))
solid_text (solids.Half h) = codes "half N " ++ (vector_text normal_kind h.normal ++ (codes " d " ++ length_text h.distance))
solid_text (solids.Arb8 a) = codes "arb8" ++ vertices_text 1 a.vertices
solid_text (solids.Rcc c) =
    codes "rcc V " ++ (vector_text coordinate_kind c.base ++ (codes " H " ++ (vector_text coordinate_kind c.height ++ (codes " r " ++ length_text c.radius))))

abbrev pub truth_text : Bool → List ℕ
truth_text true = codes "yes"
truth_text false = codes "no"

abbrev pub colour_text : Option Rgb → List ℕ
colour_text None = []
colour_text (Some c) = codes " rgb {" ++ (decimal c.r ++ (codes " " ++ (decimal c.g ++ (codes " " ++ (decimal c.b ++ codes "}")))))

abbrev pub attr_text : Attr → List ℕ
attr_text attr =
    codes "region " ++ (truth_text attr.region ++ (codes " id " ++ (decimal attr.id ++ (codes " air " ++ (decimal attr.air
    ++ (codes " los " ++ (decimal attr.los ++ (codes " mater " ++ (decimal attr.mater ++ (colour_text attr.rgb ++ (codes " inherit " ++ truth_text attr.inherit)))))))))))

abbrev pub is_zero : V3 → Bool
is_zero v = int_eq v.x (pos 0) && int_eq v.y (pos 0) && int_eq v.z (pos 0)

-- The sixteen numbers row by row, of which the components of the shift are lengths. A placement that moves nothing is not
-- written.
abbrev pub matrix_text : Placement → List ℕ
matrix_text p = if p.turn.number == 0 && is_zero p.shift then [] else codes " {" ++ (words_text (number_words lists.Matrix 0 (matrix_of p)) ++ codes "}")

abbrev pub operator_text : Op → List ℕ
operator_text U = codes "u"
operator_text N = codes "n"
operator_text Minus = codes "-"
operator_text X = codes "^"

abbrev pub node_text : Tree Member → List ℕ
node_text (Leaf m) = codes "l " ++ (m.name ++ matrix_text m.placement)
node_text (Join op l r) = operator_text op ++ (codes " {" ++ (node_text l ++ (codes "} {" ++ (node_text r ++ codes "}"))))

-- an empty tree is not written
abbrev pub tree_text : Comb → List ℕ
tree_text None = []
tree_text (Some t) = codes " tree {" ++ (node_text t ++ codes "}")

abbrev pub body_text : Body → List ℕ
body_text (bodies.Solid solid) = solid_text solid
body_text (bodies.Comb attr tree) = codes "comb " ++ (attr_text attr ++ tree_text tree)

-- the line that puts an object
abbrev pub put_line : Name → Body → List ℕ
put_line name body = codes "put " ++ (name ++ (codes " " ++ body_text body))

-- a key and its value as a group, after a blank
abbrev pub kept_text : KeptAttr → List ℕ
kept_text k = codes " " ++ (k.name ++ (codes " {" ++ (k.value ++ codes "}")))

-- the line that keeps an object's attributes
abbrev pub kept_line : Name → List KeptAttr → List ℕ
kept_line name kept = codes "attr set " ++ (name ++ flat_map kept_text kept)

abbrev pub kept_lines : Name → List KeptAttr → List (List ℕ)
kept_lines name [] = []
kept_lines name (k ∷ ks) = kept_line name (k ∷ ks) ∷ []

-- the lines of an object
abbrev pub object_lines : Name → Parts → List (List ℕ)
object_lines name object = put_line name object.body ∷ kept_lines name object.kept

-- What is written of an object has no line feed.
use Rattle.std.proofs.Common.{◌≢◌, ◌+◌, ◌/◌, ◌%◌, ◌++◌, ℕ, ℤ, pos, negsuc, zero, suc, cond, Bool, true, false, ◌&&◌, ◌==◌, List, [], ◌∷◌, Some, None, Option, All, codes, decimal, flat_map, refl, sym, subst, arith, true≢false, ◌≡◌, if◌then◌else◌}
use Rattle.std.specs.Fmt.{digits, digits_onto, digit_glyph, signed_decimal}
use Rattle.std.specs.Bool.{nat_lt}
use Rattle.std.specs.List.{AllByRecursion}
use Rattle.std.proofs.lemmas.List.Elements.{All-head, All-tail}
use Rattle.name_core.specs.declared.name.Name.{Name}
use Rattle.name_core.specs.NameText.{IsName, is_first_byte, is_next_byte}
use Rattle.lattice_core.specs.declared.vector.V3.{V3}
use Rattle.lattice_core.specs.declared.placement.Placement.{Placement}
use Rattle.lattice_core.specs.Placements.{matrix_of}
use Rattle.tree_forms.specs.declared.Op.{Op}
use Rattle.tree_forms.specs.declared.Op.TheVariants.{U, N, Minus, X}
use Rattle.tree_forms.specs.Trees.{Tree, Leaf, Join, leaves, postfix}
use Rattle.comb_tree.specs.Nodes.{Comb, Member, leaf, apply, comb_nodes, members}
use Rattle.region_attr.specs.declared.attr.Attr.{Attr}
use Rattle.region_attr.specs.declared.attr.Rgb.{Rgb}
use Rattle.solid_set.specs.declared.solid.Solid.{Solid}
use Rattle.solid_set.specs.declared.solid.Solid.TheVariants as solids
use Rattle.object_set.specs.Named.{HasName, HaveNames, HasKey, IsNamedEntry}
use Rattle.object_set.specs.Objects.{Parts, IsKept, member_names}
use Rattle.object_set.specs.TextValues.{IsTextValue}
use Rattle.object_set.specs.declared.kept.KeptAttr.{KeptAttr}
use Rattle.object_set.specs.declared.object.Body.{Body}
use Rattle.object_set.specs.declared.object.Body.TheVariants as bodies
use Rattle.object_set.proofs.Each.{by_each, of_first, of_rest}
use Rattle.transcript.specs.Lines.{Lacks}
use Rattle.transcript.proofs.LineLaws.{lacks_append}
use Rattle.transcript.proofs.TranscriptLaws.{computed}
use Rattle.put_form.proofs.MemberLaws.{AreNamed, first_named, rest_named, both_named}
use Rattle.word_values.specs.Kinds.{coordinate_kind, normal_kind, kind_at}
use Rattle.word_values.specs.declared.atoms.NumberKind.{NumberKind}
use Rattle.word_values.specs.declared.atoms.NumberKind.TheVariants.{Whole, Length}
use Rattle.word_values.specs.declared.atoms.NumberList.{NumberList}
use Rattle.word_values.specs.declared.atoms.NumberList.TheVariants as lists
use Rattle.put_form.specs.WritingSteps.{keyed_text}
use Rattle.put_form.specs.Written.{tenths, tenth_text, size_text, length_text, number_text, words_text, number_words, vector_text, vertices_text, solid_text, truth_text, colour_text, attr_text, is_zero, matrix_text, operator_text, node_text, tree_text, body_text, put_line, kept_text, kept_line, kept_lines, object_lines}

-- a name has none
rest_lacks : (bytes : List ℕ) → All (λ b. is_next_byte b ≡ true) bytes → Lacks 10 bytes
rest_lacks [] h = tt
rest_lacks (b ∷ bs) h = (λ e. true≢false (sym (subst (λ x. is_next_byte x ≡ true) e (All-head (λ x. is_next_byte x ≡ true) b bs h))), rest_lacks bs (All-tail (λ x. is_next_byte x ≡ true) b bs h))

pub name_lacks : (bytes : List ℕ) → IsName bytes → Lacks 10 bytes
name_lacks [] h = absurd (omega (arith, h.some))
name_lacks (b ∷ bs) h = (λ e. true≢false (sym (subst (λ x. is_first_byte x ≡ true) e h.first)), rest_lacks bs h.rest)

chosen_lacks : (b : Bool) (xs ys : List ℕ) → Lacks 10 xs → Lacks 10 ys → Lacks 10 (cond b xs ys)
chosen_lacks true xs ys h k = h
chosen_lacks false xs ys h k = k

-- a number in decimal has digits alone
glyph_other : (b : Bool) (d : ℕ) → cond b (48 + d) (87 + d) ≢ 10
glyph_other true d e = omega (arith, e)
glyph_other false d e = omega (arith, e)

onto_lacks : (k n : ℕ) (acc : List ℕ) → Lacks 10 acc → Lacks 10 (digits_onto k 10 false n acc)
onto_lacks zero n acc h = h
onto_lacks (suc k) n acc h =
    let more : Lacks 10 (digit_glyph false (n % 10) ∷ acc) = (glyph_other (nat_lt (n % 10) 10) (n % 10), h) in
    chosen_lacks (n / 10 == 0) _ _ more (onto_lacks k (n / 10) _ more)

pub number_lacks : (n : ℕ) → Lacks 10 (decimal n)
unfolding digits
number_lacks n = onto_lacks 64 n [] tt

pub signed_lacks : (z : ℤ) → Lacks 10 (signed_decimal z)
signed_lacks (pos n) = number_lacks n
signed_lacks (negsuc n) = (λ e. omega (arith, e), number_lacks (suc n))

-- a text that is known, and one behind it
begun : (known rest : List ℕ) → Lacks 10 known → Lacks 10 rest → Lacks 10 (known ++ rest)
begun known rest h k = lacks_append 10 known rest h k

-- a length has digits, a point and a sign alone
tenth_lacks : (tenth : ℕ) → Lacks 10 (tenth_text tenth)
tenth_lacks tenth = chosen_lacks (tenth == 0) [] (codes "." ++ decimal tenth) tt (begun (codes ".") (decimal tenth) (computed 10 (codes ".") refl) (number_lacks tenth))

size_lacks : (size : ℕ) → Lacks 10 (size_text size)
size_lacks size = begun (decimal (size / tenths)) (tenth_text (size % tenths)) (number_lacks (size / tenths)) (tenth_lacks (size % tenths))

length_lacks : (z : ℤ) → Lacks 10 (length_text z)
length_lacks (pos n) = size_lacks n
length_lacks (negsuc n) = begun (codes "-") (size_text (suc n)) (computed 10 (codes "-") refl) (size_lacks (suc n))

of_kind_lacks : (kind : NumberKind) (z : ℤ) → Lacks 10 (number_text kind z)
of_kind_lacks (Whole most) z = signed_lacks z
of_kind_lacks (Length most) z = length_lacks z

words_lack : (ws : List (List ℕ)) → AllByRecursion (Lacks 10) ws → Lacks 10 (words_text ws)
words_lack [] h = tt
words_lack (w ∷ []) h = h.0
words_lack (w ∷ v ∷ rest) h = begun w _ h.0 (λ e. omega (arith, e), words_lack (v ∷ rest) h.1)

all_lack : (list : NumberList) (place : ℕ) (ns : List ℤ) → AllByRecursion (Lacks 10) (number_words list place ns)
all_lack list place [] = tt
all_lack list place (n ∷ ns) = (of_kind_lacks (kind_at list place) n, all_lack list (place + 1) ns)

vector_lacks : (kind : NumberKind) (v : V3) → Lacks 10 (vector_text kind v)
vector_lacks kind v =
    let ws : List (List ℕ) = number_text kind v.x ∷ number_text kind v.y ∷ number_text kind v.z ∷ [] in
    begun (codes "{") _ (computed 10 (codes "{") refl) (begun (words_text ws) _ (words_lack ws (of_kind_lacks kind v.x, (of_kind_lacks kind v.y, (of_kind_lacks kind v.z, tt)))) (computed 10 (codes "}") refl))

vertices_lack : (number : ℕ) (vs : List V3) → Lacks 10 (vertices_text number vs)
vertices_lack number [] = tt
vertices_lack number (v ∷ rest) =
    begun (codes " V") _ (computed 10 (codes " V") refl)
    (begun (decimal number) _ (number_lacks number) (begun (codes " ") (vector_text coordinate_kind v ++ vertices_text (number + 1) rest) (computed 10 (codes " ") refl) (begun (vector_text coordinate_kind v) (vertices_text (number + 1) rest) (vector_lacks coordinate_kind v) (vertices_lack (number + 1) rest))))

keyed_lacks : (before : List ℕ) (kind : NumberKind) (v : V3) (between : List ℕ) (n : ℤ) → Lacks 10 before → Lacks 10 between → Lacks 10 (keyed_text before kind v between n)
keyed_lacks before kind v between n h k =
    begun before (vector_text kind v ++ (between ++ length_text n)) h (begun (vector_text kind v) (between ++ length_text n) (vector_lacks kind v) (begun between (length_text n) k (length_lacks n)))

solid_lacks : (solid : Solid) → Lacks 10 (solid_text solid)
solid_lacks (solids.Sphere s) = keyed_lacks (codes "sph V ") coordinate_kind s.centre (codes " r ") s.radius (computed 10 (codes "sph V ") refl) (computed 10 (codes " r ") refl)
solid_lacks (solids.Half h) = keyed_lacks (codes "half N ") normal_kind h.normal (codes " d ") h.distance (computed 10 (codes "half N ") refl) (computed 10 (codes " d ") refl)
solid_lacks (solids.Arb8 a) = begun (codes "arb8") _ (computed 10 (codes "arb8") refl) (vertices_lack 1 a.vertices)
solid_lacks (solids.Rcc c) =
    let height : List ℕ = keyed_text (codes " H ") coordinate_kind c.height (codes " r ") c.radius in
    begun (codes "rcc V ") (vector_text coordinate_kind c.base ++ height) (computed 10 (codes "rcc V ") refl)
    (begun (vector_text coordinate_kind c.base) height (vector_lacks coordinate_kind c.base)
    (keyed_lacks (codes " H ") coordinate_kind c.height (codes " r ") c.radius (computed 10 (codes " H ") refl) (computed 10 (codes " r ") refl)))

truth_lacks : (b : Bool) → Lacks 10 (truth_text b)
truth_lacks true = computed 10 (codes "yes") refl
truth_lacks false = computed 10 (codes "no") refl

colour_lacks : (colour : Option Rgb) → Lacks 10 (colour_text colour)
colour_lacks None = tt
colour_lacks (Some c) =
    begun (codes " rgb {") _ (computed 10 (codes " rgb {") refl)
    (begun (decimal c.r) _ (number_lacks c.r) (begun (codes " ") _ (computed 10 (codes " ") refl)
    (begun (decimal c.g) _ (number_lacks c.g) (begun (codes " ") _ (computed 10 (codes " ") refl)
    (begun (decimal c.b) _ (number_lacks c.b) (computed 10 (codes "}") refl))))))

attr_lacks : (attr : Attr) → Lacks 10 (attr_text attr)
attr_lacks attr =
    begun (codes "region ") _ (computed 10 (codes "region ") refl) (begun (truth_text attr.region) _ (truth_lacks attr.region)
    (begun (codes " id ") _ (computed 10 (codes " id ") refl) (begun (decimal attr.id) _ (number_lacks attr.id)
    (begun (codes " air ") _ (computed 10 (codes " air ") refl) (begun (decimal attr.air) _ (number_lacks attr.air)
    (begun (codes " los ") _ (computed 10 (codes " los ") refl) (begun (decimal attr.los) _ (number_lacks attr.los)
    (begun (codes " mater ") _ (computed 10 (codes " mater ") refl) (begun (decimal attr.mater) _ (number_lacks attr.mater)
    (begun (colour_text attr.rgb) _ (colour_lacks attr.rgb)
    (begun (codes " inherit ") _ (computed 10 (codes " inherit ") refl) (truth_lacks attr.inherit))))))))))))

either_lacks : (b : Bool) (numbers : List ℤ) → Lacks 10 (if b then [] else codes " {" ++ (words_text (number_words lists.Matrix 0 numbers) ++ codes "}"))
either_lacks true numbers = tt
either_lacks false numbers =
    let ws : List (List ℕ) = number_words lists.Matrix 0 numbers in
    begun (codes " {") _ (computed 10 (codes " {") refl) (begun (words_text ws) _ (words_lack ws (all_lack lists.Matrix 0 numbers)) (computed 10 (codes "}") refl))

matrix_lacks : (p : Placement) → Lacks 10 (matrix_text p)
matrix_lacks p = either_lacks (p.turn.number == 0 && is_zero p.shift) (matrix_of p)

operator_lacks : (op : Op) → Lacks 10 (operator_text op)
operator_lacks U = computed 10 (codes "u") refl
operator_lacks N = computed 10 (codes "n") refl
operator_lacks Minus = computed 10 (codes "-") refl
operator_lacks X = computed 10 (codes "^") refl

-- a tree whose members' names have none
node_lacks : (t : Tree Member) → AreNamed (leaves t) → Lacks 10 (node_text t)
node_lacks (Leaf m) h = begun (codes "l ") _ (computed 10 (codes "l ") refl) (begun m.name _ h.0 (matrix_lacks m.placement))
node_lacks (Join op l r) h =
    begun (operator_text op) _ (operator_lacks op) (begun (codes " {") _ (computed 10 (codes " {") refl)
    (begun (node_text l) _ (node_lacks l (first_named (leaves l) (leaves r) h)) (begun (codes "} {") _ (computed 10 (codes "} {") refl)
    (begun (node_text r) _ (node_lacks r (rest_named (leaves l) (leaves r) h)) (computed 10 (codes "}") refl)))))

tree_lacks : (t : Comb) → AreNamed (members t) → Lacks 10 (tree_text t)
tree_lacks None h = tt
tree_lacks (Some t) h = begun (codes " tree {") _ (computed 10 (codes " tree {") refl) (begun (node_text t) _ (node_lacks t h) (computed 10 (codes "}") refl))

-- the names of the members of a body have none
abbrev pub AreMembersPlain : Body → Type 0
AreMembersPlain body = AllByRecursion (Lacks 10) (member_names body)

-- the names and the values of attributes have none
abbrev pub AreAttrsPlain : List KeptAttr → Type 0
AreAttrsPlain kept = AllByRecursion (λ (k : KeptAttr). Lacks 10 k.name × Lacks 10 k.value) kept

body_lacks : (body : Body) → AreMembersPlain body → Lacks 10 (body_text body)
body_lacks (bodies.Solid solid) h = solid_lacks solid
body_lacks (bodies.Comb attr tree) h = begun (codes "comb ") (attr_text attr ++ tree_text tree) (computed 10 (codes "comb ") refl) (begun (attr_text attr) _ (attr_lacks attr) (tree_lacks tree h))

plain_put : (name : Name) (body : Body) → Lacks 10 name → AreMembersPlain body → Lacks 10 (put_line name body)
plain_put name body h k =
    begun (codes "put ") _ (computed 10 (codes "put ") refl) (begun name _ h (begun (codes " ") _ (computed 10 (codes " ") refl) (body_lacks body k)))

attributes_lack : (kept : List KeptAttr) → AreAttrsPlain kept → Lacks 10 (flat_map kept_text kept)
attributes_lack [] h = tt
attributes_lack (k ∷ ks) h =
    begun (kept_text k) _
    (begun (codes " ") _ (computed 10 (codes " ") refl) (begun k.name _ h.0.0 (begun (codes " {") _ (computed 10 (codes " {") refl) (begun k.value _ h.0.1 (computed 10 (codes "}") refl)))))
    (attributes_lack ks h.1)

plain_kept : (name : Name) (kept : List KeptAttr) → Lacks 10 name → AreAttrsPlain kept → Lacks 10 (kept_line name kept)
plain_kept name kept h k = begun (codes "attr set ") _ (computed 10 (codes "attr set ") refl) (begun name _ h (attributes_lack kept k))

plain_kept_lines : (name : Name) (kept : List KeptAttr) → Lacks 10 name → AreAttrsPlain kept → AllByRecursion (Lacks 10) (kept_lines name kept)
plain_kept_lines name [] h k = tt
plain_kept_lines name (a ∷ rest) h k = (plain_kept name (a ∷ rest) h k, tt)

-- no line of such an object has one
pub plain_lines : (name : Name) (object : Parts) → Lacks 10 name → AreMembersPlain object.body → AreAttrsPlain object.kept → AllByRecursion (Lacks 10) (object_lines name object)
plain_lines name object h members kept = (plain_put name object.body h members, plain_kept_lines name object.kept h kept)

-- names are such names, and values that can be kept are such values
leaves_named : (t : Tree Member) → AllByRecursion HasName (postfix leaf apply t) → AreNamed (leaves t)
leaves_named (Leaf m) h = (name_lacks m.name h.0, tt)
leaves_named (Join op l r) h =
    both_named (leaves l) (leaves r)
    (leaves_named l (of_first HasName (postfix leaf apply l) (postfix leaf apply r ++ apply op ∷ []) h))
    (leaves_named r (of_first HasName (postfix leaf apply r) (apply op ∷ []) (of_rest HasName (postfix leaf apply l) (postfix leaf apply r ++ apply op ∷ []) h)))

tree_named : (tree : Comb) → All HasName (comb_nodes tree) → AreNamed (members tree)
tree_named None h = tt
tree_named (Some t) h = leaves_named t (by_each HasName (postfix leaf apply t) h)

pub members_plain : (body : Body) → HaveNames body → AreMembersPlain body
members_plain (bodies.Solid solid) h = tt
members_plain (bodies.Comb attr tree) h = tree_named tree h

each_plain : (kept : List KeptAttr) → AllByRecursion HasKey kept → AllByRecursion (λ (k : KeptAttr). IsTextValue k.value) kept → AreAttrsPlain kept
each_plain [] keys texts = tt
each_plain (k ∷ ks) keys texts = ((name_lacks k.name keys.0, by_each (λ b. b ≢ 10) k.value texts.0.one_line), each_plain ks keys.1 texts.1)

pub attrs_plain : (kept : List KeptAttr) → All HasKey kept → IsKept kept → AreAttrsPlain kept
attrs_plain kept keys lawful = each_plain kept (by_each HasKey kept keys) (by_each (λ (k : KeptAttr). IsTextValue k.value) kept lawful.texts)

pub put_lacks : (name : Name) (body : Body) → IsName name → HaveNames body → Lacks 10 (put_line name body)
put_lacks name body h k = plain_put name body (name_lacks name h) (members_plain body k)

pub kept_lacks : (name : Name) (kept : List KeptAttr) → IsName name → All HasKey kept → IsKept kept → Lacks 10 (kept_line name kept)
kept_lacks name kept h keys lawful = plain_kept name kept (name_lacks name h) (attrs_plain kept keys lawful)

pub object_lines_lack : (name : Name) (object : Parts) → IsNamedEntry (name, object) → AllByRecursion (Lacks 10) (object_lines name object)
object_lines_lack name object h = plain_lines name object (name_lacks name h.name) (members_plain object.body h.members) (attrs_plain object.kept h.keys h.kept)

-- The text of a demo is short.
use Rattle.std.proofs.Common.{◌≡◌, ◌<◌, ◌≤◌, ◌+◌, ◌*◌, ◌/◌, ◌%◌, ◌^◌, ◌++◌, ◌&&◌, ◌==◌, ℕ, ℤ, pos, negsuc, zero, suc, Bool, true, false, cond, List, [], ◌∷◌, refl, ap, arith, lit<, length, length-append, decimal, codes, if◌then◌else◌}
use Rattle.std.specs.Fmt.{digits, signed_decimal}
use Rattle.std.proofs.lemmas.Fmt.{length-decimal-le, length_signed_le}
use Rattle.std.proofs.lemmas.Int.{ints}
use Rattle.lattice_core.specs.declared.placement.Placement.{Placement}
use Rattle.lattice_core.specs.declared.vector.V3.{V3}
use Rattle.lattice_core.specs.Limits.{IsAtMost}
use Rattle.lattice_core.specs.Placements.{matrix_of}
use Rattle.lattice_core.specs.Turns.{column_of, is_negated, entry_of}
use Rattle.word_values.specs.Matrices.{identity}
use Rattle.transcript.specs.Lines.{ended}
use Rattle.region_attr.specs.Attrs.{group_attr}
use Rattle.region_attr.specs.declared.attr.Rgb.{Rgb}
use Rattle.word_values.specs.Kinds.{coordinate_kind}
use Rattle.word_values.specs.declared.atoms.NumberList.TheVariants as lists
use Rattle.put_form.specs.Written.{length_text, number_words, size_text, tenth_text, tenths, vector_text, words_text, is_zero, matrix_text, node_text, attr_text, body_text, put_line}
use Rattle.directory.specs.Walks.{Entries}
use Rattle.asc_form.specs.Written.{written}
use Rattle.scene_make.specs.Draws.{after}
use Rattle.scene_make.specs.Demo as demo
use Rattle.scene_make.specs.Demo.{all, all_name, attr_of, centre_of, coordinate, cut, cut_name, demo_script, drawn_colour, drawn_radius, drawn_turn, leaf_at, millimetres, pair_of, pairs, region_name, region_of, region_tree, sphere_name, sphere_of, title_of, union_to}
use Rattle.scene_make.specs.Steps.{entries_text}
use Rattle.scene_make.proofs.TextLaws.{both, after_title}

small_number : (n : ℕ) → n < 10000 → length (decimal n) ≤ 4
small_number n small = length-decimal-le 4 n (lit< tt) (omega (arith, small)) (omega (arith, small))

either_short : (b : Bool) (xs : List ℕ) (most : ℕ) → length xs ≤ most → length (if b then [] else xs) ≤ most
either_short true xs most le = omega arith
either_short false xs most le = le

tenth_short : (tenth : ℕ) → tenth < 10 → length (tenth_text tenth) ≤ 2
tenth_short tenth small =
    let digit : length (decimal tenth) ≤ 1 = length-decimal-le 1 tenth (lit< tt) (omega (arith, small)) (omega (arith, small)) in
    either_short (tenth == 0) (codes "." ++ decimal tenth) 2 (simp length-append (omega (arith, digit)))

-- up to 900 millimetres
size_short : (size : ℕ) → size ≤ 900 * tenths → length (size_text size) ≤ 5
size_short size small =
    let whole : length (decimal (size / tenths)) ≤ 3 = length-decimal-le 3 (size / tenths) (lit< tt) (omega (arith, small)) (omega (arith, small)) in
    simp length-append (omega (arith, whole, tenth_short (size % tenths) (omega arith)))

length_short : (z : ℤ) → IsAtMost (millimetres (pos 900)) z → length (length_text z) ≤ 6
length_short (pos n) h = omega (arith, size_short n (omega (arith, ints, h.1)))
length_short (negsuc n) h = omega (arith, size_short (suc n) (omega (arith, ints, h.0)))

-- a coordinate of a place
coordinate_short : (digit : ℕ) → digit < 10 → length (length_text (coordinate digit)) ≤ 6
coordinate_short digit small = length_short (coordinate digit) (omega (arith, ints, small), omega (arith, ints, small))

vector_short : (v : V3) → length (length_text v.x) ≤ 6 → length (length_text v.y) ≤ 6 → length (length_text v.z) ≤ 6 → length (vector_text coordinate_kind v) ≤ 22
vector_short v x y z = simp length-append (omega (arith, x, y, z))

sign_short : (is negative : Bool) → length (signed_decimal (cond is (cond negative (negsuc 0) (pos 1)) (pos 0))) ≤ 5
sign_short true true = length_signed_le 4 (negsuc 0) (lit< tt) (lit< tt)
sign_short true false = length_signed_le 4 (pos 1) (lit< tt) (lit< tt)
sign_short false negative = length_signed_le 4 (pos 0) (lit< tt) (lit< tt)

numbers_short : (a b c d e f g h i j k l m n o p : ℤ) → length (signed_decimal a) ≤ 5 → length (signed_decimal b) ≤ 5 → length (signed_decimal c) ≤ 5 → length (length_text d) ≤ 6
    → length (signed_decimal e) ≤ 5 → length (signed_decimal f) ≤ 5 → length (signed_decimal g) ≤ 5 → length (length_text h) ≤ 6
    → length (signed_decimal i) ≤ 5 → length (signed_decimal j) ≤ 5 → length (signed_decimal k) ≤ 5 → length (length_text l) ≤ 6
    → length (signed_decimal m) ≤ 5 → length (signed_decimal n) ≤ 5 → length (signed_decimal o) ≤ 5 → length (signed_decimal p) ≤ 5
    → length (words_text (number_words lists.Matrix 0 (a ∷ b ∷ c ∷ d ∷ e ∷ f ∷ g ∷ h ∷ i ∷ j ∷ k ∷ l ∷ m ∷ n ∷ o ∷ p ∷ []))) ≤ 98
numbers_short a b c d e f g h i j k l m n o p a' b' c' d' e' f' g' h' i' j' k' l' m' n' o' p' =
    simp length-append (omega (arith, a', b', c', d', e', f', g', h', i', j', k', l', m', n', o', p'))

entry_short : (turn row column : ℕ) → length (signed_decimal (entry_of turn row column)) ≤ 5
entry_short turn row column = sign_short (column_of turn row == column) (is_negated turn row)

around : (text : List ℕ) → length (codes " {" ++ (text ++ codes "}")) ≡ length text + 3
around text = simp length-append (omega arith)

matrix_short : (p : Placement) → length (length_text p.shift.x) ≤ 6 → length (length_text p.shift.y) ≤ 6 → length (length_text p.shift.z) ≤ 6 → length (matrix_text p) ≤ 101
matrix_short p x y z =
    let t : ℕ = p.turn.number in
    let none : length (signed_decimal (pos 0)) ≤ 5 = sign_short false false in
    let one : length (signed_decimal (pos 1)) ≤ 5 = sign_short true false in
    let numbers : length (words_text (number_words lists.Matrix 0 (matrix_of p))) ≤ 98 =
    numbers_short (entry_of t 1 1) (entry_of t 1 2) (entry_of t 1 3) p.shift.x (entry_of t 2 1) (entry_of t 2 2) (entry_of t 2 3) p.shift.y (entry_of t 3 1) (entry_of t 3 2) (entry_of t 3 3) p.shift.z (pos 0) (pos 0) (pos 0) (pos 1)
    (entry_short t 1 1) (entry_short t 1 2) (entry_short t 1 3) x (entry_short t 2 1) (entry_short t 2 2) (entry_short t 2 3) y (entry_short t 3 1) (entry_short t 3 2) (entry_short t 3 3) z none none none one in
    either_short (t == 0 && is_zero p.shift) (codes " {" ++ (words_text (number_words lists.Matrix 0 (matrix_of p)) ++ codes "}")) 101 (omega (arith, numbers, around (words_text (number_words lists.Matrix 0 (matrix_of p)))))

put_length : (name body : List ℕ) → length (codes "put " ++ (name ++ (codes " " ++ body))) ≡ length name + length body + 5
put_length name body = simp length-append (omega arith)

sphere_length : (name centre radius : List ℕ) → length (codes "put " ++ (name ++ (codes " " ++ (codes "sph V " ++ (centre ++ (codes " r " ++ radius)))))) ≡ length name + length centre + length radius + 14
sphere_length name centre radius = simp length-append (omega arith)

comb_length : (attr node : List ℕ) → length (codes "comb " ++ (attr ++ (codes " tree {" ++ (node ++ codes "}")))) ≡ length attr + length node + 13
comb_length attr node = simp length-append (omega arith)

less_length : (left right : List ℕ) → length (codes "-" ++ (codes " {" ++ (left ++ (codes "} {" ++ (right ++ codes "}"))))) ≡ length left + length right + 7
less_length left right = simp length-append (omega arith)

union_length : (left right : List ℕ) → length (codes "u" ++ (codes " {" ++ (left ++ (codes "} {" ++ (right ++ codes "}"))))) ≡ length left + length right + 7
union_length left right = simp length-append (omega arith)

leaf_length : (name matrix : List ℕ) → length (codes "l " ++ (name ++ matrix)) ≡ length name + length matrix + 2
leaf_length name matrix = simp length-append (omega arith)

one_line : (line : List ℕ) → length (ended line ++ []) ≡ length line + 1
one_line line = simp length-append (omega arith)

two_lines : (first second : List ℕ) → length (ended first ++ (ended second ++ [])) ≡ length first + length second + 2
two_lines first second = simp length-append (omega arith)

attr_short : (id : ℕ) (c : Rgb) → id < 10000 → c.r < 10000 → c.g < 10000 → c.b < 10000 → length (attr_text (attr_of id c)) ≤ 100
attr_short id c i r g b = simp length-append (omega (arith, small_number id i, small_number 0 (lit< tt), small_number 100 (lit< tt), small_number 1 (lit< tt), small_number c.r r, small_number c.g g, small_number c.b b))

name_short : (letter i : ℕ) → i < 1000 → length (letter ∷ decimal i) ≤ 5
name_short letter i small = omega (arith, small_number i (omega (arith, small)))

-- the centre's coordinates
shift_short : (i : ℕ) → i < 1000 → (length (length_text (centre_of i).x) ≤ 6) × (length (length_text (centre_of i).y) ≤ 6) × (length (length_text (centre_of i).z) ≤ 6)
shift_short i small = (coordinate_short (i / 100) (omega (arith, small)), coordinate_short (i / 10 % 10) (omega arith), coordinate_short (i % 10) (omega arith))

radius_short : (x : ℕ) → length (length_text (drawn_radius x)) ≤ 6
radius_short x = length_short (drawn_radius x) (omega (arith, ints), omega (arith, ints))

sphere_short : (x i : ℕ) → i < 1000 → length (put_line (sphere_name i) (sphere_of i (drawn_radius x)).body) ≤ 64
sphere_short x i small =
    let shift = shift_short i small in
    let centre : length (vector_text coordinate_kind (centre_of i)) ≤ 22 = vector_short (centre_of i) shift.0 shift.1 shift.2 in
    omega (arith, sphere_length (sphere_name i) (vector_text coordinate_kind (centre_of i)) (length_text (drawn_radius x)), name_short 115 i small, centre, radius_short x)

tree_short : (x i : ℕ) → i < 1000 → length (node_text (region_tree i (drawn_turn x))) ≤ 123
tree_short x i small =
    let by : Placement = record { turn = drawn_turn x; shift = centre_of i } in
    let shift = shift_short i small in
    let left : length (node_text (leaf_at (sphere_name i) identity)) ≡ length (sphere_name i) + 0 + 2 = leaf_length (sphere_name i) [] in
    let right : length (node_text (leaf_at cut_name by)) ≡ 3 + length (matrix_text by) + 2 = leaf_length cut_name (matrix_text by) in
    let whole : length (node_text (region_tree i (drawn_turn x))) ≡ length (node_text (leaf_at (sphere_name i) identity)) + length (node_text (leaf_at cut_name by)) + 7 =
    less_length (node_text (leaf_at (sphere_name i) identity)) (node_text (leaf_at cut_name by)) in
    omega (arith, whole, left, right, name_short 115 i small, matrix_short by shift.0 shift.1 shift.2)

region_short : (x i : ℕ) → i < 1000 → length (put_line (region_name i) (region_of i (drawn_turn x) (drawn_colour x)).body) ≤ 273
region_short x i small =
    let attr = attr_text (attr_of (1000 + i) (drawn_colour x)) in
    let node = node_text (region_tree i (drawn_turn x)) in
    let body = (region_of i (drawn_turn x) (drawn_colour x)).body in
    let whole : length (put_line (region_name i) body) ≡ length (region_name i) + length (body_text body) + 5 = put_length (region_name i) (body_text body) in
    let of_body : length (body_text body) ≡ length attr + length node + 13 = comb_length attr node in
    let attr_le : length attr ≤ 100 = attr_short (1000 + i) (drawn_colour x) (omega (arith, small)) (omega arith) (omega arith) (omega arith) in
    let node_le : length node ≤ 123 = tree_short x i small in
    omega (arith, whole, of_body, name_short 114 i small, attr_le, node_le)

pair_short : (x i : ℕ) → i < 1000 → length (entries_text (pair_of x i)) ≤ 400
pair_short x i small =
    let sphere = put_line (sphere_name i) (sphere_of i (drawn_radius x)).body in
    let region = put_line (region_name i) (region_of i (drawn_turn x) (drawn_colour x)).body in
    let whole : length (entries_text (pair_of x i)) ≡ length sphere + length region + 2 = two_lines sphere region in
    let sphere_le : length sphere ≤ 64 = sphere_short x i small in
    let region_le : length region ≤ 273 = region_short x i small in
    omega (arith, whole, sphere_le, region_le)

pairs_short : (n i : ℕ) → i ≤ 1000 → length (entries_text (pairs n i)) ≤ 400 * i
unfolding pairs
pairs_short n zero le = omega arith
pairs_short n (suc i) le =
    omega (
      arith,
      ap (length {A = ℕ}) (both (pairs n i) (pair_of (after n (5 * i)) i)),
      length-append (entries_text (pairs n i)) (entries_text (pair_of (after n (5 * i)) i)),
      pairs_short n i (omega (arith, le)),
      pair_short (after n (5 * i)) i (omega (arith, le)),
    )

region_leaf : (i : ℕ) → i < 1000 → length (node_text (leaf_at (region_name i) identity)) ≤ 8
region_leaf i small =
    let whole : length (node_text (leaf_at (region_name i) identity)) ≡ length (region_name i) + 0 + 2 = leaf_length (region_name i) [] in
    omega (arith, whole, name_short 114 i small)

union_short : (i : ℕ) → i < 1000 → length (node_text (union_to i)) ≤ 20 * i + 10
unfolding union_to
union_short zero small = omega (arith, region_leaf 0 (lit< tt))
union_short (suc i) small =
    let last = node_text (leaf_at (region_name (suc i)) identity) in
    let whole : length (node_text (union_to (suc i))) ≡ length (node_text (union_to i)) + length last + 7 = union_length (node_text (union_to i)) last in
    omega (arith, whole, region_leaf (suc i) small, union_short i (omega (arith, small)))

cut_size : length (entries_text ((cut_name, cut) ∷ [])) ≡ 113
unfolding digits
cut_size = refl

group_size : length (attr_text group_attr) ≡ 45
unfolding digits
group_size = refl

all_short : length (entries_text ((all_name, all) ∷ [])) ≤ 20200
all_short =
    let attr = attr_text group_attr in
    let node = node_text (union_to 999) in
    let line = put_line all_name all.body in
    let whole : length (entries_text ((all_name, all) ∷ [])) ≡ length line + 1 = one_line line in
    let of_line : length line ≡ 3 + length (body_text all.body) + 5 = put_length all_name (body_text all.body) in
    let of_body : length (body_text all.body) ≡ length attr + length node + 13 = comb_length attr node in
    let node_le : length node ≤ 20 * 999 + 10 = union_short 999 (lit< tt) in
    omega (arith, whole, of_line, of_body, group_size, node_le)

title_short : (n : ℕ) → n < 2 ^ 31 → length (written (record { title = title_of n; objects = [] })) ≤ 40
title_short n small =
    let digits : length (decimal n) ≤ 10 = length-decimal-le 10 n (lit< tt) (omega (arith, small)) (omega (arith, small)) in
    simp length-append (omega (arith, digits))

pub demo_short : (n : ℕ) → n < 2 ^ 31 → length (written (demo.demo n)) < 2 ^ 24
demo_short n small =
    let objects : Entries = (cut_name, cut) ∷ (pairs n 1000 ++ (all_name, all) ∷ []) in
    omega (
      arith,
      ap (length {A = ℕ}) (after_title (title_of n) objects),
      length-append (written (record { title = title_of n; objects = [] })) (entries_text objects),
      ap (length {A = ℕ}) (both ((cut_name, cut) ∷ []) (pairs n 1000 ++ (all_name, all) ∷ [])),
      length-append (entries_text ((cut_name, cut) ∷ [])) (entries_text (pairs n 1000 ++ (all_name, all) ∷ [])),
      ap (length {A = ℕ}) (both (pairs n 1000) ((all_name, all) ∷ [])),
      length-append (entries_text (pairs n 1000)) (entries_text ((all_name, all) ∷ [])),
      title_short n small,
      cut_size,
      pairs_short n 1000 (omega arith),
      all_short,
    )

pub script_short : length demo_script ≡ 187
script_short = refl

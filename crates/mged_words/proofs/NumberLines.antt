-- A line of names and numbers that are parted by single blanks is read as its command.
use Rattle.std.proofs.Common.{◌≡◌, ◌<◌, ◌≤◌, ◌+◌, ◌++◌, ◌==◌, ◌&&◌, ◌||◌, ◌∙◌, ℕ, ℤ, pos, negsuc, ◌≤ℤ◌, suc, Bool, true, false, cond, inl, inr, List, [], ◌∷◌, length, drop, map, get_or, codes, Option, Some, None, is_none, is_ok, unwrap_or, Ok, IsTrue, arith, refl, ap, sym, subst, length-append, eqb-true}
use Rattle.std.specs.List.{AllByRecursion, list_all, cons_option, range_with_len, slice_range}
use Rattle.std.specs.Prelude.{filter_map}
use Rattle.std.specs.Option.{option_map}
use Rattle.std.specs.Char.{is_ascii_digit}
use Rattle.std.proofs.lemmas.Bool.{and_parts, cond-true, cond-false, eq-eqb, ne_eqb}
use Rattle.std.proofs.lemmas.Bool.Decides.{nat_tests}
use Rattle.std.proofs.lemmas.Int.{ints}
use Rattle.std.proofs.lemmas.List.{length-map}
use Rattle.lattice_core.specs.Limits.{IsWithin}
use Rattle.lattice_core.specs.declared.limit.TheConstants.{WORLD}
use Rattle.lattice_core.specs.declared.placement.Placement.{Placement}
use Rattle.lattice_core.specs.declared.ray.Dir.{Dir}
use Rattle.lattice_core.specs.declared.ray.Dir.TheVariants.{PlusX, MinusX, PlusY, MinusY, PlusZ, MinusZ}
use Rattle.lattice_core.specs.declared.vector.V3.{V3}
use Rattle.lattice_core.specs.declared.view.View as views
use Rattle.lattice_core.specs.Views.{IsChecked}
use Rattle.slant_ray.specs.declared.ray.TheConstants.{STEP}
use Rattle.slant_ray.specs.declared.ray.SlantRay.{SlantRay}
use Rattle.slant_ray.specs.Rays.{is_from_world, IsChecked as IsCheckedSlant, direction_of as slant_direction}
use Rattle.mged_words.proofs.SlantLines.{fine_slant, from_world, step_kept}
use Rattle.mged_words.proofs.ViewLines.{fine_view}
use Rattle.name_core.specs.NameText.{IsName, read_name}
use Rattle.name_core.proofs.NameLaws.{accepted}
use Rattle.tcl_words.specs.Bytes.{is_atom}
use Rattle.tcl_words.specs.Faults.{is_bad_at}
use Rattle.tcl_words.specs.Numbers.{AreDigits, is_tail, is_zero, number_of, tenths_of}
use Rattle.tcl_words.specs.NumberForm.{Sign, NoSign, Plus, Minus, sign_text, IsNumber, IsTenth, IsLength}
use Rattle.tcl_words.specs.Pieces.{pieces}
use Rattle.tcl_words.specs.TopWords.{atom_of, top_words, word_at}
use Rattle.tcl_words.specs.declared.token.Token.{Token}
use Rattle.tcl_words.specs.declared.token.Word.{Word}
use Rattle.tcl_words.proofs.Forms.{read_form}
use Rattle.tcl_words.proofs.Lengths.{some_length}
use Rattle.tcl_words.proofs.Written.{AtomBytes}
use Rattle.region_attr.specs.Attrs.{is_setting, known_takes}
use Rattle.region_attr.specs.Keys.{key_of}
use Rattle.region_attr.specs.declared.key.Key.{Key}
use Rattle.solid_set.specs.declared.solid.Solid.{Solid}
use Rattle.word_values.specs.Atoms.{all_atoms, all_numbers}
use Rattle.word_values.specs.Kinds.{kind_at, number_as, numbers_as, numbers_from, plain_kind, point_kind}
use Rattle.word_values.specs.declared.atoms.NumberKind.{NumberKind}
use Rattle.word_values.specs.declared.atoms.NumberKind.TheVariants.{Whole, Length}
use Rattle.word_values.specs.declared.atoms.NumberList.{NumberList}
use Rattle.word_values.specs.declared.atoms.NumberList.TheVariants as lists
use Rattle.word_values.proofs.KindLaws.{kept_back, numbers_length}
use Rattle.word_values.proofs.SolidLaws.{kind_again, kind_good}
use Rattle.word_values.specs.Matrices.{placement_in, placement_of_all, placement_read, identity}
use Rattle.word_values.specs.Solids.{kind_word, number_count, solid_made}
use Rattle.word_values.specs.declared.solid.SolidKind.{SolidKind}
use Rattle.command_set.specs.declared.command.Command.{Command}
use Rattle.command_set.specs.declared.command.Command.TheVariants.{Bad, Edit, Query, Shoot}
use Rattle.command_set.specs.declared.command.Shoot.TheVariants.{Picture, Check, Area, Edge}
use Rattle.command_set.specs.declared.command.Edit.TheVariants.{Make, Place, Set}
use Rattle.command_set.specs.declared.command.Query.TheVariants.{Shot, Slant}
use Rattle.command_set.specs.declared.refusal.Refusal.{Refusal}
use Rattle.command_set.specs.declared.refusal.Refusal.TheVariants.{Syntax, Number, View}
use Rattle.lattice_core.specs.declared.view.ViewFault.TheVariants.{World}
use Rattle.mged_words.specs.Commands.{unless_refused, name_fault, names_fault, numbers_fault, solid_object, make_command, solid_command, kind_command, direction_of, world_fault, ray_of, shot_command, within_step, step_number, slant_numbers, slant_refusal, slant_command, from_zero, side_number, size_numbers, view_numbers, view_refusal, file_shoot, file_command, filed_command, line_shoot, view_command, viewed_command, placement_fault, matrix_command, sixteen_command, matrix_words, matrix_step, place_with, setting_fault, set_command, set_with, worded_command, command_of_words, command_read, command_of}
use Rattle.mged_words.specs.OneLine.{AreNames, AreNumbers, AreSlantNumbers, AreViewNumbers, IsAtom, IsAtomByte, line_of, direction_word}
use Rattle.mged_words.specs.declared.views.FileShoot.{FileShoot}
use Rattle.mged_words.specs.declared.views.FileShoot.TheVariants.{OfPixels, OfEdges}
use Rattle.mged_words.specs.declared.views.LineShoot.{LineShoot}
use Rattle.mged_words.specs.declared.views.LineShoot.TheVariants.{OfOverlaps, OfAreas}
use Rattle.mged_words.proofs.SettingLaws.{no_key}
use Rattle.mged_words.proofs.OneLineLaws.{IsAtomWord, HasAtoms, atoms, atoms_from, line_is, line_read, line_command, name_good, names_good, all_there, fine_names, one_word, word_here, text_here, rest_here, unless_both}

-- ---- numbers are atoms

digit_atom : (b : ℕ) → is_ascii_digit b ≡ true → is_atom b ≡ true
digit_atom b is = grind (arith, nat_tests)

digit_good : (b : ℕ) → is_ascii_digit b ≡ true → is_bad_at b 0 ≡ false
digit_good b is = grind (arith, nat_tests)

tenth_good : (tenth : ℕ) → tenth ≤ 9 → is_ascii_digit (48 + tenth) ≡ true
tenth_good tenth small = grind (arith, nat_tests)

digits_good : (ds : List ℕ) → AreDigits ds → AtomBytes 0 ds
digits_good [] are = tt
digits_good (d ∷ ds) are =
    let here : is_ascii_digit d ≡ true = are 0 (omega arith) in
    (digit_atom d here, digit_good d here, digits_good ds (λ k below. are (suc k) (omega (arith, below))))

zeros_good : (zs : List ℕ) → list_all is_zero zs ≡ true → AtomBytes 0 zs
zeros_good [] all = tt
zeros_good (z ∷ zs) all =
    let both = and_parts (z == 48) (list_all is_zero zs) all in
    let same : 48 ≡ z = sym (eqb-true z 48 both.0) in
    (subst (λ b. is_atom b ≡ true) same refl, subst (λ b. is_bad_at b 0 ≡ false) same refl, zeros_good zs both.1)

or_right : (a b : Bool) → (a || b) ≡ true → a ≡ false → b ≡ true
or_right true b h k = absurd cc
or_right false b h k = h

tail_good : (tail : List ℕ) → is_tail tail ≡ true → AtomBytes 0 tail
tail_good [] is = tt
tail_good (b ∷ bs) is =
    let both = and_parts (b == 46) (list_all is_zero bs) (or_right (suc (length bs) == 0) ((b == 46) && list_all is_zero bs) is (ne_eqb (suc (length bs)) 0 (λ e. omega (arith, e)))) in
    let same : 46 ≡ b = sym (eqb-true b 46 both.0) in
    (subst (λ x. is_atom x ≡ true) same refl, subst (λ x. is_bad_at x 0 ≡ false) same refl, zeros_good bs both.1)

sign_good : (sign : Sign) → AtomBytes 0 (sign_text sign)
sign_good NoSign = tt
sign_good Plus = (refl, refl, tt)
sign_good Minus = (refl, refl, tt)

bytes_append : (xs ys : List ℕ) → AtomBytes 0 xs → AtomBytes 0 ys → AtomBytes 0 (xs ++ ys)
bytes_append [] ys h k = k
bytes_append (x ∷ xs) ys h k = (h.0, h.1, bytes_append xs ys h.2 k)

-- what stands behind the digits of a length
tenths_good : (tail : List ℕ) (tenth : ℕ) → IsTenth tail tenth → AtomBytes 0 tail
tenths_good tail tenth (inl whole) = tail_good tail whole.0
tenths_good tail tenth (inr form) =
    let digit : is_ascii_digit (48 + tenth) ≡ true = tenth_good tenth form.one_digit in
    subst (AtomBytes 0) (sym form.spelled) (refl, refl, (digit_atom (48 + tenth) digit, digit_good (48 + tenth) digit, zeros_good form.zeros form.are_zeros))

-- a sign, digits, and what stands behind them
spelled_word : (atom : List ℕ) (sign : Sign) (digits tail : List ℕ) → atom ≡ sign_text sign ++ (digits ++ tail) → 0 < length digits → AreDigits digits → AtomBytes 0 tail → IsAtomWord atom
spelled_word atom sign digits tail spelled some are good =
    let rest : List ℕ = digits ++ tail in
    let long : 0 < length (sign_text sign ++ rest) = omega (arith, length-append (sign_text sign) rest, length-append digits tail, some) in
    let bytes : AtomBytes 0 (sign_text sign ++ rest) = bytes_append (sign_text sign) rest (sign_good sign) (bytes_append digits tail (digits_good digits are) good) in
    subst IsAtomWord (sym spelled) (long, bytes)

number_word : (atom : List ℕ) (n : ℤ) → number_of atom ≡ Some n → IsAtomWord atom
number_word atom n is = let form : IsNumber atom n = read_form atom n is in spelled_word atom form.sign form.digits form.tail form.spelled form.some form.are_digits (tail_good form.tail form.zeros)

length_word : (atom : List ℕ) (n : ℤ) → tenths_of atom ≡ Some n → IsAtomWord atom
length_word atom n is = let form : IsLength atom n = some_length atom (Some n) (sym is) in spelled_word atom form.sign form.digits form.tail form.spelled form.some form.are_digits (tenths_good form.tail form.tenth form.after)

kind_word_good : (kind : NumberKind) (atom : List ℕ) (n : ℤ) → number_as kind atom ≡ Some n → IsAtomWord atom
kind_word_good (Whole most) atom n h = number_word atom n (kept_back most (number_of atom) n h).0
kind_word_good (Length most) atom n h = length_word atom n (kept_back most (tenths_of atom) n h).0

first_read : (o p : Option ℤ) (os ps : List (Option ℤ)) → o ∷ os ≡ p ∷ ps → o ≡ p
first_read o p os ps h = ap (λ (xs : List (Option ℤ)). get_or xs 0 None) h

rest_read : (o p : Option ℤ) (os ps : List (Option ℤ)) → o ∷ os ≡ p ∷ ps → os ≡ ps
rest_read o p os ps h = ap (λ (xs : List (Option ℤ)). drop 1 xs) h

numbers_words : (list : NumberList) (place : ℕ) (words : List (List ℕ)) (numbers : List ℤ) → numbers_from list place words ≡ map (λ (n : ℤ). Some n) numbers → AllByRecursion IsAtomWord words
numbers_words list place [] numbers h = tt
numbers_words list place (w ∷ ws) [] h = absurd cc
numbers_words list place (w ∷ ws) (n ∷ ns) h =
    let some : List ℤ → List (Option ℤ) = map (λ (m : ℤ). Some m) in
    let one : Option ℤ = number_as (kind_at list place) w in
    let rest : List (Option ℤ) = numbers_from list (place + 1) ws in
    (kind_word_good (kind_at list place) w n (first_read one (Some n) rest (some ns) h), numbers_words list (place + 1) ws ns (rest_read one (Some n) rest (some ns) h))

-- ---- numbers that are numbers are not refused

all_fine : (word step : ℕ) (numbers : List ℤ) → numbers_fault word step (map (λ (n : ℤ). Some n) numbers) ≡ None
all_fine word step [] = refl
all_fine word step (n ∷ ns) = all_fine (word + step) step ns

unless_three : (one two three : Option Refusal) (command : Command) → one ≡ None → two ≡ None → three ≡ None → unless_refused (one ∷ two ∷ three ∷ []) command ≡ command
unless_three one two three command h k l = ap (λ (o : Option Refusal). unless_refused (o ∷ two ∷ three ∷ []) command) h ∙ unless_both two three command k l

-- ---- a solid

pub in_line : (name : List ℕ) (kind : SolidKind) (words : List (List ℕ)) (numbers : List ℤ) (solid : Solid) → IsName name → length words ≡ number_count kind → AreNumbers (lists.Solid kind) words numbers
    → solid_made kind (map (λ (n : ℤ). Some n) numbers) ≡ Ok solid → command_of (line_of (codes "in") (name ∷ kind_word kind ∷ words)) ≡ Edit (Make name (solid_object solid))
in_line name kind words numbers solid is len are made =
    let read : List (Option ℤ) = map (λ (n : ℤ). Some n) numbers in
    let named : AreNames (name ∷ []) = (is, tt) in
    line_command (codes "in") (name ∷ kind_word kind ∷ words) (λ line tokens w rest. refl) (omega arith, (refl, refl, (refl, refl, tt))) (name_good name is, (kind_good kind, numbers_words (lists.Solid kind) 0 words numbers are))
    ∙ ap (λ (o : Option SolidKind). kind_command name o words) (kind_again kind)
    ∙ cond-true (length words == number_count kind) (solid_command name kind (numbers_as (lists.Solid kind) words)) (Bad Syntax) (eq-eqb _ _ len)
    ∙ ap (solid_command name kind) are
    ∙ unless_both (name_fault 2 name) (numbers_fault 4 1 read) (make_command name (solid_made kind read)) (fine_names 2 1 (name ∷ []) named) (all_fine 4 1 numbers)
    ∙ ap (make_command name) made

-- ---- a ray

direction_again : (dir : Dir) → direction_of (direction_word dir) ≡ Some dir
direction_again PlusX = refl
direction_again MinusX = refl
direction_again PlusY = refl
direction_again MinusY = refl
direction_again PlusZ = refl
direction_again MinusZ = refl

direction_good : (dir : Dir) → IsAtomWord (direction_word dir)
direction_good PlusX = (omega arith, (refl, refl, (refl, refl, tt)))
direction_good MinusX = (omega arith, (refl, refl, (refl, refl, tt)))
direction_good PlusY = (omega arith, (refl, refl, (refl, refl, tt)))
direction_good MinusY = (omega arith, (refl, refl, (refl, refl, tt)))
direction_good PlusZ = (omega arith, (refl, refl, (refl, refl, tt)))
direction_good MinusZ = (omega arith, (refl, refl, (refl, refl, tt)))

pub nirt_line : (x y z : List ℕ) (origin : V3) (dir : Dir) (first : List ℕ) (rest : List (List ℕ)) → AreNumbers lists.Point (x ∷ y ∷ z ∷ []) (origin.x ∷ origin.y ∷ origin.z ∷ []) → IsWithin WORLD origin
    → AreNames (first ∷ rest) → command_of (line_of (codes "nirt") (x ∷ y ∷ z ∷ direction_word dir ∷ first ∷ rest)) ≡ Query (Shot (ray_of origin dir) (first ∷ rest))
nirt_line x y z origin dir first rest are within named =
    let numbers : List ℤ = origin.x ∷ origin.y ∷ origin.z ∷ [] in
    let read : List (Option ℤ) = map (λ (n : ℤ). Some n) numbers in
    let good = numbers_words lists.Point 0 (x ∷ y ∷ z ∷ []) numbers are in
    line_command (codes "nirt") (x ∷ y ∷ z ∷ direction_word dir ∷ first ∷ rest) (λ line tokens w others. refl) (omega arith, (refl, refl, (refl, refl, (refl, refl, (refl, refl, tt)))))
    (good.0, (good.1.0, (good.1.1.0, (direction_good dir, names_good (first ∷ rest) named))))
    ∙ ap (λ (o : Option Dir). shot_command (numbers_as lists.Point (x ∷ y ∷ z ∷ [])) o (first ∷ rest)) (direction_again dir)
    ∙ ap (λ (ns : List (Option ℤ)). shot_command ns (Some dir) (first ∷ rest)) are
    ∙ unless_three (names_fault 6 1 (first ∷ rest)) (numbers_fault 2 1 read) (world_fault origin) (Query (Shot (ray_of origin dir) (first ∷ rest)))
    (fine_names 6 1 (first ∷ rest) named) (all_fine 2 1 numbers) (cond-true (is_from_world origin) None (Some (View World)) (from_world origin within))

-- ---- a ray in a lattice direction

abbrev slant_six : SlantRay → List ℤ
slant_six ray = ray.origin.x ∷ ray.origin.y ∷ ray.origin.z ∷ ray.x ∷ ray.y ∷ ray.z ∷ []

abbrev origin_of : SlantRay → List (Option ℤ)
origin_of ray = Some ray.origin.x ∷ Some ray.origin.y ∷ Some ray.origin.z ∷ []

slant_words : (x y z dx dy dz : List ℕ) (ray : SlantRay) → AreSlantNumbers x y z dx dy dz ray → IsWithin STEP (slant_direction ray) → slant_numbers (x ∷ y ∷ z ∷ []) (dx ∷ dy ∷ dz ∷ []) ≡ map (λ (n : ℤ). Some n) (slant_six ray)
slant_words x y z dx dy dz ray are size =
    ap (λ (xs : List (Option ℤ)). xs ++ map step_number (dx ∷ dy ∷ dz ∷ [])) are.read_origin
    ∙ ap (λ (o : Option ℤ). origin_of ray ++ within_step o ∷ step_number dy ∷ step_number dz ∷ []) are.read_x
    ∙ ap (λ (o : Option ℤ). origin_of ray ++ o ∷ step_number dy ∷ step_number dz ∷ []) (step_kept ray.x size.x)
    ∙ ap (λ (o : Option ℤ). origin_of ray ++ Some ray.x ∷ within_step o ∷ step_number dz ∷ []) are.read_y
    ∙ ap (λ (o : Option ℤ). origin_of ray ++ Some ray.x ∷ o ∷ step_number dz ∷ []) (step_kept ray.y size.y)
    ∙ ap (λ (o : Option ℤ). origin_of ray ++ Some ray.x ∷ Some ray.y ∷ within_step o ∷ []) are.read_z
    ∙ ap (λ (o : Option ℤ). origin_of ray ++ Some ray.x ∷ Some ray.y ∷ o ∷ []) (step_kept ray.z size.z)

pub nirtd_line : (x y z dx dy dz : List ℕ) (ray : SlantRay) (first : List ℕ) (rest : List (List ℕ)) → AreSlantNumbers x y z dx dy dz ray → IsCheckedSlant ray → AreNames (first ∷ rest)
    → command_of (line_of (codes "nirtd") (x ∷ y ∷ z ∷ dx ∷ dy ∷ dz ∷ first ∷ rest)) ≡ Query (Slant ray (first ∷ rest))
nirtd_line x y z dx dy dz ray first rest are checked named =
    let six : List ℤ = slant_six ray in
    let read : List (Option ℤ) = map (λ (n : ℤ). Some n) six in
    let good = numbers_words lists.Point 0 (x ∷ y ∷ z ∷ []) (ray.origin.x ∷ ray.origin.y ∷ ray.origin.z ∷ []) are.read_origin in
    line_command (codes "nirtd") (x ∷ y ∷ z ∷ dx ∷ dy ∷ dz ∷ first ∷ rest) (λ line tokens w others. refl) (omega arith, (refl, refl, (refl, refl, (refl, refl, (refl, refl, (refl, refl, tt))))))
    (good.0, (good.1.0, (good.1.1.0, (kind_word_good plain_kind dx ray.x are.read_x, (kind_word_good plain_kind dy ray.y are.read_y, (kind_word_good plain_kind dz ray.z are.read_z, names_good (first ∷ rest) named))))))
    ∙ ap (λ (ns : List (Option ℤ)). slant_command ns (first ∷ rest)) (slant_words x y z dx dy dz ray are checked.size)
    ∙ unless_three (names_fault 8 1 (first ∷ rest)) (numbers_fault 2 1 read) (slant_refusal ray) (Query (Slant ray (first ∷ rest))) (fine_names 8 1 (first ∷ rest) named) (all_fine 2 1 six) (fine_slant ray checked)

-- ---- a view

unless_four : (one two three four : Option Refusal) (command : Command) → one ≡ None → two ≡ None → three ≡ None → four ≡ None → unless_refused (one ∷ two ∷ three ∷ four ∷ []) command ≡ command
unless_four one two three four command h k l m = ap (λ (o : Option Refusal). unless_refused (o ∷ two ∷ three ∷ four ∷ []) command) h ∙ unless_three two three four command k l m

cell_kept : (cell : ℤ) → pos 1 ≤ℤ cell → from_zero (Some cell) ≡ Some cell
cell_kept (pos n) h = refl
cell_kept (negsuc n) h = absurd (omega (arith, ints, h))

abbrev six_of : views.View → List ℤ
six_of view = view.corner.x ∷ view.corner.y ∷ view.corner.z ∷ view.cell ∷ pos view.w ∷ pos view.h ∷ []

abbrev corner_of : views.View → List (Option ℤ)
corner_of view = Some view.corner.x ∷ Some view.corner.y ∷ Some view.corner.z ∷ []

view_words : (x y z cell w h : List ℕ) (view : views.View) → AreViewNumbers x y z cell w h view → pos 1 ≤ℤ view.cell → view_numbers (x ∷ y ∷ z ∷ []) (cell ∷ w ∷ h ∷ []) ≡ map (λ (n : ℤ). Some n) (six_of view)
view_words x y z cell w h view are some =
    ap (λ (xs : List (Option ℤ)). xs ++ size_numbers (cell ∷ w ∷ h ∷ [])) are.read_corner
    ∙ ap (λ (o : Option ℤ). corner_of view ++ from_zero o ∷ side_number w ∷ side_number h ∷ []) are.read_cell
    ∙ ap (λ (o : Option ℤ). corner_of view ++ o ∷ side_number w ∷ side_number h ∷ []) (cell_kept view.cell some)
    ∙ ap (λ (o : Option ℤ). corner_of view ++ Some view.cell ∷ from_zero o ∷ side_number h ∷ []) are.read_columns
    ∙ ap (λ (o : Option ℤ). corner_of view ++ Some view.cell ∷ Some (pos view.w) ∷ from_zero o ∷ []) are.read_rows

view_atoms : (x y z cell w h : List ℕ) (view : views.View) → AreViewNumbers x y z cell w h view → AllByRecursion IsAtomWord (x ∷ y ∷ z ∷ cell ∷ w ∷ h ∷ [])
view_atoms x y z cell w h view are =
    let corner = numbers_words lists.Point 0 (x ∷ y ∷ z ∷ []) (view.corner.x ∷ view.corner.y ∷ view.corner.z ∷ []) are.read_corner in
    (corner.0, (corner.1.0, (corner.1.1.0, (kind_word_good point_kind cell view.cell are.read_cell, (kind_word_good plain_kind w (pos view.w) are.read_columns, (kind_word_good plain_kind h (pos view.h) are.read_rows, tt))))))

-- the words behind that of the command
abbrev filed_words : (file x y z cell w h : List ℕ) → views.View → List (List ℕ) → List (List ℕ)
filed_words file x y z cell w h view names = file ∷ direction_word view.dir ∷ x ∷ y ∷ z ∷ cell ∷ w ∷ h ∷ names

abbrev viewed_words : (x y z cell w h : List ℕ) → views.View → List (List ℕ) → List (List ℕ)
viewed_words x y z cell w h view names = direction_word view.dir ∷ x ∷ y ∷ z ∷ cell ∷ w ∷ h ∷ names

viewed_atoms : (x y z cell w h : List ℕ) (view : views.View) (names : List (List ℕ)) → AreViewNumbers x y z cell w h view → AreNames names → AllByRecursion IsAtomWord (viewed_words x y z cell w h view names)
viewed_atoms x y z cell w h view names are named =
    let good = view_atoms x y z cell w h view are in
    (direction_good view.dir, (good.0, (good.1.0, (good.1.1.0, (good.1.1.1.0, (good.1.1.1.1.0, (good.1.1.1.1.1.0, names_good names named)))))))

file_line : (what : FileShoot) (file x y z cell w h : List ℕ) (view : views.View) (first : List ℕ) (rest : List (List ℕ)) → IsName file → AreViewNumbers x y z cell w h view → IsChecked view → AreNames (first ∷ rest)
    → filed_command what (filed_words file x y z cell w h view (first ∷ rest)) ≡ file_shoot what file view (first ∷ rest)
file_line what file x y z cell w h view first rest is are checked named =
    let six : List ℤ = six_of view in
    let read : List (Option ℤ) = map (λ (n : ℤ). Some n) six in
    let one : AreNames (file ∷ []) = (is, tt) in
    ap (λ (o : Option Dir). file_command what file o (view_numbers (x ∷ y ∷ z ∷ []) (cell ∷ w ∷ h ∷ [])) (first ∷ rest)) (direction_again view.dir)
    ∙ ap (λ (ns : List (Option ℤ)). file_command what file (Some view.dir) ns (first ∷ rest)) (view_words x y z cell w h view are checked.cell)
    ∙ unless_four (name_fault 2 file) (names_fault 10 1 (first ∷ rest)) (numbers_fault 4 1 read) (view_refusal view) (file_shoot what file view (first ∷ rest))
    (fine_names 2 1 (file ∷ []) one) (fine_names 10 1 (first ∷ rest) named) (all_fine 4 1 six) (fine_view view checked)

view_line : (what : LineShoot) (x y z cell w h : List ℕ) (view : views.View) (first : List ℕ) (rest : List (List ℕ)) → AreViewNumbers x y z cell w h view → IsChecked view → AreNames (first ∷ rest)
    → viewed_command what (viewed_words x y z cell w h view (first ∷ rest)) ≡ line_shoot what view (first ∷ rest)
view_line what x y z cell w h view first rest are checked named =
    let six : List ℤ = six_of view in
    let read : List (Option ℤ) = map (λ (n : ℤ). Some n) six in
    ap (λ (o : Option Dir). view_command what o (view_numbers (x ∷ y ∷ z ∷ []) (cell ∷ w ∷ h ∷ [])) (first ∷ rest)) (direction_again view.dir)
    ∙ ap (λ (ns : List (Option ℤ)). view_command what (Some view.dir) ns (first ∷ rest)) (view_words x y z cell w h view are checked.cell)
    ∙ unless_three (names_fault 9 1 (first ∷ rest)) (numbers_fault 3 1 read) (view_refusal view) (line_shoot what view (first ∷ rest))
    (fine_names 9 1 (first ∷ rest) named) (all_fine 3 1 six) (fine_view view checked)

pub rt_line : (file x y z cell w h : List ℕ) (view : views.View) (first : List ℕ) (rest : List (List ℕ)) → IsName file → AreViewNumbers x y z cell w h view → IsChecked view → AreNames (first ∷ rest)
    → command_of (line_of (codes "rt") (file ∷ direction_word view.dir ∷ x ∷ y ∷ z ∷ cell ∷ w ∷ h ∷ first ∷ rest)) ≡ Shoot (Picture file view (first ∷ rest))
rt_line file x y z cell w h view first rest is are checked named =
    line_command (codes "rt") (filed_words file x y z cell w h view (first ∷ rest)) (λ line tokens w others. refl) (omega arith, (refl, refl, (refl, refl, tt)))
    (name_good file is, viewed_atoms x y z cell w h view (first ∷ rest) are named)
    ∙ file_line OfPixels file x y z cell w h view first rest is are checked named

pub rtedge_line : (file x y z cell w h : List ℕ) (view : views.View) (first : List ℕ) (rest : List (List ℕ)) → IsName file → AreViewNumbers x y z cell w h view → IsChecked view → AreNames (first ∷ rest)
    → command_of (line_of (codes "rtedge") (file ∷ direction_word view.dir ∷ x ∷ y ∷ z ∷ cell ∷ w ∷ h ∷ first ∷ rest)) ≡ Shoot (Edge file view (first ∷ rest))
rtedge_line file x y z cell w h view first rest is are checked named =
    line_command (codes "rtedge") (filed_words file x y z cell w h view (first ∷ rest)) (λ line tokens w others. refl)
    (omega arith, (refl, refl, (refl, refl, (refl, refl, (refl, refl, (refl, refl, (refl, refl, tt)))))))
    (name_good file is, viewed_atoms x y z cell w h view (first ∷ rest) are named)
    ∙ file_line OfEdges file x y z cell w h view first rest is are checked named

pub rtcheck_line : (x y z cell w h : List ℕ) (view : views.View) (first : List ℕ) (rest : List (List ℕ)) → AreViewNumbers x y z cell w h view → IsChecked view → AreNames (first ∷ rest)
    → command_of (line_of (codes "rtcheck") (direction_word view.dir ∷ x ∷ y ∷ z ∷ cell ∷ w ∷ h ∷ first ∷ rest)) ≡ Shoot (Check view (first ∷ rest))
rtcheck_line x y z cell w h view first rest are checked named =
    line_command (codes "rtcheck") (viewed_words x y z cell w h view (first ∷ rest)) (λ line tokens w others. refl)
    (omega arith, (refl, refl, (refl, refl, (refl, refl, (refl, refl, (refl, refl, (refl, refl, (refl, refl, tt)))))))) (viewed_atoms x y z cell w h view (first ∷ rest) are named)
    ∙ view_line OfOverlaps x y z cell w h view first rest are checked named

pub rtarea_line : (x y z cell w h : List ℕ) (view : views.View) (first : List ℕ) (rest : List (List ℕ)) → AreViewNumbers x y z cell w h view → IsChecked view → AreNames (first ∷ rest)
    → command_of (line_of (codes "rtarea") (direction_word view.dir ∷ x ∷ y ∷ z ∷ cell ∷ w ∷ h ∷ first ∷ rest)) ≡ Shoot (Area view (first ∷ rest))
rtarea_line x y z cell w h view first rest are checked named =
    line_command (codes "rtarea") (viewed_words x y z cell w h view (first ∷ rest)) (λ line tokens w others. refl)
    (omega arith, (refl, refl, (refl, refl, (refl, refl, (refl, refl, (refl, refl, (refl, refl, tt))))))) (viewed_atoms x y z cell w h view (first ∷ rest) are named)
    ∙ view_line OfAreas x y z cell w h view first rest are checked named

-- ---- lines with words of other kinds

-- what a line's words are, whatever its tokens
words_line : (word : List ℕ) (others : List (List ℕ)) (command : Command) → IsAtomWord word → AllByRecursion IsAtomWord others
    → ((tokens : List Token) → pieces (line_of word others) tokens ≡ atoms (word ∷ others) → command_of_words (line_of word others) tokens (top_words tokens) ≡ command) → command_of (line_of word others) ≡ command
words_line word others command first good by =
    let line : List ℕ = line_of word others in
    let had : HasAtoms line (word ∷ others) = line_read line (word ∷ others) (line_is word others) (first, good) in
    ap (command_read line) had.read ∙ by had.tokens had.are

first_atom : (line : List ℕ) (tokens : List Token) (w : Word) (ws : List Word) (a : List ℕ) (others : List (List ℕ)) → map (atom_of line tokens) (w ∷ ws) ≡ map (λ (x : List ℕ). Some x) (a ∷ others) → atom_of line tokens w ≡ Some a
first_atom line tokens w ws a others are = ap (λ (os : List (Option (List ℕ))). get_or os 0 None) are

rest_atoms : (line : List ℕ) (tokens : List Token) (w : Word) (ws : List Word) (a : List ℕ) (others : List (List ℕ)) → map (atom_of line tokens) (w ∷ ws) ≡ map (λ (x : List ℕ). Some x) (a ∷ others)
    → map (atom_of line tokens) ws ≡ map (λ (x : List ℕ). Some x) others
rest_atoms line tokens w ws a others are = ap (λ (os : List (Option (List ℕ))). drop 1 os) are

-- ---- a placement

all_back : (os : List (Option ℤ)) (ns : List ℤ) → all_numbers os ≡ Some ns → os ≡ map (λ (n : ℤ). Some n) ns
all_back [] ns h = let same : [] ≡ ns = cc in ap (map (λ (n : ℤ). Some n)) same
all_back (None ∷ rest) ns h = absurd cc
all_back (Some n ∷ rest) ns h = by (all_numbers rest) h (λ ms e. all_back rest ms e)
  where
    by : (o : Option (List ℤ)) → option_map (λ numbers. n ∷ numbers) o ≡ Some ns → ((ms : List ℤ) → o ≡ Some ms → rest ≡ map (λ (m : ℤ). Some m) ms) → Some n ∷ rest ≡ map (λ (m : ℤ). Some m) ns
    by None e f = absurd cc
    by (Some ms) e f = let same : n ∷ ms ≡ ns = cc in ap (λ (xs : List (Option ℤ)). Some n ∷ xs) (f ms refl) ∙ ap (map (λ (m : ℤ). Some m)) same

sixteen_of : (ns : List ℤ) (p : Placement) (t : Bool) → (length ns == 16) ≡ t → cond t (placement_in ns) None ≡ Some p → length ns ≡ 16
sixteen_of ns p true e h = eqb-true (length ns) 16 e
sixteen_of ns p false e h = absurd cc

whole_of : (o : Option (List ℤ)) (p : Placement) → placement_of_all o ≡ Some p → (ns : List ℤ) × (o ≡ Some ns) × (length ns ≡ 16)
whole_of None p h = absurd cc
whole_of (Some ns) p h = (ns, refl, sixteen_of ns p (length ns == 16) refl h)

words_matrix : (line : List ℕ) (tokens : List Token) (ws : List Word) (words : List (List ℕ)) → map (atom_of line tokens) ws ≡ map (λ (x : List ℕ). Some x) words → length ws ≡ 16
    → (matrix_words line tokens ws ≡ Some words) × (matrix_step ws ≡ 1)
words_matrix line tokens [] words are len = absurd (omega (arith, len))
words_matrix line tokens (w ∷ []) words are len = absurd (omega (arith, len))
words_matrix line tokens (w ∷ v ∷ more) words are len =
    (ap all_atoms are ∙ all_there words, cond-false (length (w ∷ v ∷ more) == 1) 0 1 (ne_eqb (length (w ∷ v ∷ more)) 1 (λ e. omega (arith, e))))

placed_words : (line : List ℕ) (tokens : List Token) (ws : List Word) (comb member : List ℕ) (words : List (List ℕ)) → map (atom_of line tokens) ws ≡ map (λ (x : List ℕ). Some x) (codes "place" ∷ comb ∷ member ∷ words) → length words ≡ 16
    → command_of_words line tokens ws ≡ matrix_command comb member 1 (numbers_as lists.Matrix words)
placed_words line tokens [] comb member words are len = absurd cc
placed_words line tokens (a ∷ []) comb member words are len = absurd cc
placed_words line tokens (a ∷ b ∷ []) comb member words are len = absurd cc
placed_words line tokens (a ∷ b ∷ c ∷ ws) comb member words are len =
    let two = rest_atoms line tokens a (b ∷ c ∷ ws) (codes "place") (comb ∷ member ∷ words) are in
    let three = rest_atoms line tokens b (c ∷ ws) comb (member ∷ words) two in
    let four = rest_atoms line tokens c ws member words three in
    let count : length ws ≡ 16 = sym (length-map ws (atom_of line tokens)) ∙ ap length four ∙ length-map words (λ (x : List ℕ). Some x) ∙ len in
    let matrix = words_matrix line tokens ws words four count in
    ap (worded_command line tokens a (b ∷ c ∷ ws)) (first_atom line tokens a (b ∷ c ∷ ws) (codes "place") (comb ∷ member ∷ words) are)
    ∙ ap (λ (o : Option (List ℕ)). place_with line tokens ws o (atom_of line tokens c)) (first_atom line tokens b (c ∷ ws) comb (member ∷ words) two)
    ∙ ap (place_with line tokens ws (Some comb)) (first_atom line tokens c ws member words three)
    ∙ ap (λ (s : ℕ). sixteen_command comb member s (matrix_words line tokens ws)) matrix.1
    ∙ ap (sixteen_command comb member 1) matrix.0
    ∙ cond-true (length words == 16) (matrix_command comb member 1 (numbers_as lists.Matrix words)) (Bad Syntax) (eq-eqb _ _ len)

pub place_line : (comb member : List ℕ) (words : List (List ℕ)) (placement : Placement) → IsName comb → IsName member → placement_read (numbers_as lists.Matrix words) ≡ Some placement
    → command_of (line_of (codes "place") (comb ∷ member ∷ words)) ≡ Edit (Place comb member placement)
place_line comb member words placement h k read =
    let whole = whole_of (all_numbers (numbers_as lists.Matrix words)) placement read in
    let numbers : List ℤ = whole.0 in
    let are : numbers_as lists.Matrix words ≡ map (λ (n : ℤ). Some n) numbers = all_back (numbers_as lists.Matrix words) numbers whole.1 in
    let len : length words ≡ 16 = sym (numbers_length lists.Matrix 0 words) ∙ ap length are ∙ length-map numbers (λ (n : ℤ). Some n) ∙ whole.2 in
    let named : AreNames (comb ∷ member ∷ []) = (h, (k, tt)) in
    let line : List ℕ = line_of (codes "place") (comb ∷ member ∷ words) in
    let every : List (List ℕ) = codes "place" ∷ comb ∷ member ∷ words in
    words_line (codes "place") (comb ∷ member ∷ words) (matrix_command comb member 1 (numbers_as lists.Matrix words)) (omega arith, (refl, refl, (refl, refl, (refl, refl, (refl, refl, (refl, refl, tt))))))
    (name_good comb h, (name_good member k, numbers_words lists.Matrix 0 words numbers are))
    (λ tokens pieces_are. placed_words line tokens (top_words tokens) comb member words (atoms_from line tokens tokens every every 0 pieces_are refl pieces_are) len)
    ∙ unless_three (names_fault 2 1 (comb ∷ member ∷ [])) (numbers_fault 4 1 (numbers_as lists.Matrix words)) (placement_fault 4 (placement_read (numbers_as lists.Matrix words))) (Edit (Place comb member (unwrap_or (placement_read (numbers_as lists.Matrix words)) identity)))
    (fine_names 2 1 (comb ∷ member ∷ []) named) (ap (numbers_fault 4 1) are ∙ all_fine 4 1 numbers) (ap (placement_fault 4) read)
    ∙ ap (λ (o : Option Placement). Edit (Place comb member (unwrap_or o identity))) read

-- ---- an attribute

atom_bytes : (bytes : List ℕ) → AllByRecursion IsAtomByte bytes → AtomBytes 0 bytes
atom_bytes [] h = tt
atom_bytes (b ∷ bs) h = (h.0.0, h.0.1, atom_bytes bs h.1)

known_key : (o : Option Key) (value : List ℕ) → known_takes o value ≡ true → is_none o ≡ false
known_key None value h = absurd cc
known_key (Some key) value h = refl

key_good : (key value : List ℕ) (t : Bool) → is_setting key value ≡ true → is_ok (read_name key) ≡ t → IsAtomWord key
key_good key value true h e = name_good key ((accepted key).0 e)
key_good key value false h e = let known : is_none (key_of key) ≡ false = known_key (key_of key) value h in let unknown : is_none (key_of key) ≡ true = no_key key e in absurd cc

words_from : (line : List ℕ) (all ts : List Token) (every : List (List ℕ)) (i : ℕ) → pieces line all ≡ atoms every → filter_map (word_at all) (range_with_len i (length ts)) ≡ map one_word (range_with_len i (length ts))
words_from line all [] every i whole = refl
words_from line all (t ∷ ts) every i whole =
    ap (λ (o : Option Word). cons_option o (filter_map (word_at all) (range_with_len (i + 1) (length ts)))) (word_here line all every i whole)
    ∙ ap (λ (ws : List Word). one_word i ∷ ws) (words_from line all ts every (i + 1) whole)

set_words : (line : List ℕ) (ts : List Token) (name key value : List ℕ) → pieces line ts ≡ atoms (codes "cattr" ∷ name ∷ key ∷ value ∷ []) → command_of_words line ts (top_words ts) ≡ set_command name key value
set_words line [] name key value are = absurd cc
set_words line (a ∷ []) name key value are = absurd cc
set_words line (a ∷ b ∷ []) name key value are = absurd cc
set_words line (a ∷ b ∷ c ∷ []) name key value are = absurd cc
set_words line (a ∷ b ∷ c ∷ d ∷ e ∷ more) name key value are = absurd cc
set_words line (a ∷ b ∷ c ∷ d ∷ []) name key value are =
    let ts : List Token = a ∷ b ∷ c ∷ d ∷ [] in
    let two = rest_here line a (b ∷ c ∷ d ∷ []) (codes "cattr") (name ∷ key ∷ value ∷ []) are in
    let three = rest_here line b (c ∷ d ∷ []) name (key ∷ value ∷ []) two in
    let four = rest_here line c (d ∷ []) key (value ∷ []) three in
    let behind : List Word = one_word 1 ∷ one_word 2 ∷ one_word 3 ∷ [] in
    ap (command_of_words line ts) (words_from line ts ts (codes "cattr" ∷ name ∷ key ∷ value ∷ []) 0 are)
    ∙ ap (λ (x : List ℕ). worded_command line ts (one_word 0) behind (Some x)) (text_here line a (b ∷ c ∷ d ∷ []) (codes "cattr") (name ∷ key ∷ value ∷ []) are)
    ∙ ap (λ (x : List ℕ). set_with (Some x) (Some (slice_range line c.start c.end)) (slice_range line d.start d.end)) (text_here line b (c ∷ d ∷ []) name (key ∷ value ∷ []) two)
    ∙ ap (λ (x : List ℕ). set_with (Some name) (Some x) (slice_range line d.start d.end)) (text_here line c (d ∷ []) key (value ∷ []) three)
    ∙ ap (λ (x : List ℕ). set_with (Some name) (Some key) x) (text_here line d [] value [] four)

pub cattr_line : (name key value : List ℕ) → IsName name → IsTrue (is_setting key value) → IsAtom value → command_of (line_of (codes "cattr") (name ∷ key ∷ value ∷ [])) ≡ Edit (Set name (record { key = key; value = value }))
cattr_line name key value h set atom =
    let named : AreNames (name ∷ []) = (h, tt) in
    let line : List ℕ = line_of (codes "cattr") (name ∷ key ∷ value ∷ []) in
    let setting : Command = Edit (Set name (record { key = key; value = value })) in
    let faults : List (Option Refusal) = name_fault 2 name ∷ setting_fault 4 key value ∷ [] in
    words_line (codes "cattr") (name ∷ key ∷ value ∷ []) (set_command name key value) (omega arith, (refl, refl, (refl, refl, (refl, refl, (refl, refl, (refl, refl, tt))))))
    (name_good name h, (key_good key value (is_ok (read_name key)) set refl, ((atom.some, atom_bytes value atom.bytes), tt)))
    (λ tokens are. set_words line tokens name key value are)
    ∙ cond-false (is_none (key_of key)) (Bad Syntax) (unless_refused faults setting) (known_key (key_of key) value set)
    ∙ unless_both (name_fault 2 name) (setting_fault 4 key value) setting (fine_names 2 1 (name ∷ []) named) (cond-true (is_setting key value) None (Some (Number 4)) set)

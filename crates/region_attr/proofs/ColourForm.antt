-- What is read as a colour has the form of one, and the other way round.
use Rattle.std.proofs.Common.{◌≡◌, ℕ, ℤ, suc, ◌+◌, ◌<◌, inl, inr, List, [], ◌∷◌, ◌++◌, length, take, drop, get_or, cond, Bool, true, false, Option, Some, None, arith, refl, ap, sym, ◌∙◌, append-nil, take-append-drop, length-take, length-drop, get_or-take}
use Rattle.std.specs.Prelude.{filter, ◌&&◌, ◌||◌, ◌==◌}
use Rattle.std.specs.List.{prefix_len, list_any, list_all}
use Rattle.std.specs.Char.{is_ascii_digit}
use Rattle.std.proofs.lemmas.Bool.{eqb-true, ne_eqb, cases_lt}
use Rattle.std.proofs.lemmas.Bool.Decides.{nat_tests}
use Rattle.std.proofs.lemmas.List.Folds.{list_any-append}
use Rattle.std.proofs.lemmas.List.Sums.{prefix_len_passes}
use Rattle.tcl_words.specs.Bytes.{is_blank}
use Rattle.tcl_words.specs.Numbers.{AreDigits, is_tail, is_zero}
use Rattle.tcl_words.specs.NumberForm.{Sign, NoSign, Plus, Minus, sign_text, IsNumber}
use Rattle.region_attr.specs.Colours.{is_slash, onto_first, pieces, words, part, colour, colour_of_parts, colour_of, IsPart, AreBlanks, IsSlashed, IsSpaced, IsColour, len_before, trimmed, first_word, after_word, first_piece, after_piece}
use Rattle.region_attr.specs.declared.attr.Rgb.{Rgb}
use Rattle.region_attr.proofs.ValueForm.{number_read, number_form}
use Rattle.region_attr.proofs.Cuts.{tails, pieces_cut, one_piece, parts_nowhere, has_byte, words_blank, keep_some, blank_after, some_words, front, no_third, slash_more, slash_three}

-- ---- three parts

abbrev rgb : ℕ → ℕ → ℕ → Rgb
rgb r g b = record { r = r; g = g; b = b }

colour_back : (x y z : Option ℕ) (c : Rgb) → colour x y z ≡ Some c → (x ≡ Some c.r) × (y ≡ Some c.g) × (z ≡ Some c.b)
colour_back None y z c e = cc
colour_back (Some r) None z c e = cc
colour_back (Some r) (Some g) None c e = cc
colour_back (Some r) (Some g) (Some b) c e = let same : rgb r g b ≡ c = cc in (ap (λ (k : Rgb). Some k.r) same, ap (λ (k : Rgb). Some k.g) same, ap (λ (k : Rgb). Some k.b) same)

-- three parts and their colour
record AreParts (ps : List (List ℕ)) (c : Rgb) : Type 0 where
  red : List ℕ
  green : List ℕ
  blue : List ℕ
  are : ps ≡ red ∷ (green ∷ (blue ∷ []))
  is_red : part red ≡ Some c.r
  is_green : part green ≡ Some c.g
  is_blue : part blue ≡ Some c.b

parts_back : (ps : List (List ℕ)) (c : Rgb) → colour_of_parts ps ≡ Some c → AreParts ps c
parts_back [] c e = cc
parts_back (r ∷ []) c e = cc
parts_back (r ∷ (g ∷ [])) c e = cc
parts_back (r ∷ (g ∷ (b ∷ []))) c e = let back : (part r ≡ Some c.r) × (part g ≡ Some c.g) × (part b ≡ Some c.b) = colour_back (part r) (part g) (part b) c e in record { red = r; green = g; blue = b; are = refl; is_red = back.0; is_green = back.1; is_blue = back.2 }
parts_back (r ∷ (g ∷ (b ∷ (x ∷ xs)))) c e = cc

three_parts : (r g b : List ℕ) (c : Rgb) → IsPart r c.r → IsPart g c.g → IsPart b c.b → colour_of_parts (r ∷ (g ∷ (b ∷ []))) ≡ Some c
three_parts r g b c is_r is_g is_b =
    ap (λ x. colour x (part g) (part b)) (number_read 255 r c.r is_r)
    ∙ ap (λ x. colour (Some c.r) x (part b)) (number_read 255 g c.g is_g)
    ∙ ap (λ x. colour (Some c.r) (Some c.g) x) (number_read 255 b c.b is_b)

-- ---- a number has no slash and no blank

none_both : (q : ℕ → Bool) (xs ys : List ℕ) → list_any q xs ≡ false → list_any q ys ≡ false → list_any q (xs ++ ys) ≡ false
none_both q xs ys none none' = list_any-append q xs ys ∙ ap (λ b. b || list_any q ys) none ∙ none'

-- a test that no byte of a number passes
record Misses (q : ℕ → Bool) : Type 0 where
  plus : q 43 ≡ false
  minus : q 45 ≡ false
  point : q 46 ≡ false
  digits : (d : ℕ) → is_ascii_digit d ≡ true → q d ≡ false

sign_misses : (q : ℕ → Bool) (s : Sign) → Misses q → list_any q (sign_text s) ≡ false
sign_misses q NoSign m = refl
sign_misses q Plus m = ap (λ b. b || false) m.plus
sign_misses q Minus m = ap (λ b. b || false) m.minus

digits_miss : (q : ℕ → Bool) (ds : List ℕ) → Misses q → AreDigits ds → list_any q ds ≡ false
digits_miss q [] m are = refl
digits_miss q (d ∷ ds) m are = ap (λ b. b || list_any q ds) (m.digits d (are 0 (omega arith))) ∙ digits_miss q ds m (λ k below. are (suc k) (omega arith))

zero_digit : (d : ℕ) → is_zero d ≡ true → is_ascii_digit d ≡ true
zero_digit d is = ap is_ascii_digit (eqb-true d 48 is)

and_first : (a b : Bool) → (a && b) ≡ true → a ≡ true
and_first true b e = refl
and_first false b e = cc

and_second : (a b : Bool) → (a && b) ≡ true → b ≡ true
and_second true b e = e
and_second false b e = cc

zeros_miss : (q : ℕ → Bool) (zs : List ℕ) → Misses q → list_all is_zero zs ≡ true → list_any q zs ≡ false
zeros_miss q [] m all = refl
zeros_miss q (z ∷ zs) m all = ap (λ b. b || list_any q zs) (m.digits z (zero_digit z (and_first (is_zero z) (list_all is_zero zs) all))) ∙ zeros_miss q zs m (and_second (is_zero z) (list_all is_zero zs) all)

or_second : (a b : Bool) → (a || b) ≡ true → a ≡ false → b ≡ true
or_second true b e none = cc
or_second false b e none = e

tail_misses : (q : ℕ → Bool) (tail : List ℕ) → Misses q → is_tail tail ≡ true → list_any q tail ≡ false
tail_misses q [] m is = refl
tail_misses q (b ∷ bs) m is =
    let both : ((b == 46) && list_all is_zero bs) ≡ true = or_second (suc (length bs) == 0) ((b == 46) && list_all is_zero bs) is (ne_eqb (suc (length bs)) 0 (λ e. omega arith)) in
    ap (λ x. x || list_any q bs) (ap q (eqb-true b 46 (and_first (b == 46) (list_all is_zero bs) both)) ∙ m.point) ∙ zeros_miss q bs m (and_second (b == 46) (list_all is_zero bs) both)

number_misses : (q : ℕ → Bool) (text : List ℕ) (n : ℤ) → Misses q → IsNumber text n → list_any q text ≡ false
number_misses q text n m is = ap (list_any q) is.spelled ∙ none_both q (sign_text is.sign) (is.digits ++ is.tail) (sign_misses q is.sign m) (none_both q is.digits is.tail (digits_miss q is.digits m is.are_digits) (tail_misses q is.tail m is.zeros))

digit_no_slash : (d : ℕ) → is_ascii_digit d ≡ true → is_slash d ≡ false
digit_no_slash d is = grind (arith, nat_tests)

digit_no_blank : (d : ℕ) → is_ascii_digit d ≡ true → is_blank d ≡ false
digit_no_blank d is = grind (arith, nat_tests)

slash_misses : Misses is_slash
slash_misses = record { plus = refl; minus = refl; point = refl; digits = λ d is. digit_no_slash d is }

blank_misses : Misses is_blank
blank_misses = record { plus = refl; minus = refl; point = refl; digits = λ d is. digit_no_blank d is }

-- ---- parts between slashes

abbrev join_slash : List (List ℕ) → List ℕ
join_slash [] = []
join_slash (x ∷ []) = x
join_slash (x ∷ (y ∷ ys)) = x ++ (47 ∷ join_slash (y ∷ ys))

join_onto : (b : ℕ) (ps : List (List ℕ)) → join_slash (onto_first b ps) ≡ b ∷ join_slash ps
join_onto b [] = refl
join_onto b (x ∷ []) = refl
join_onto b (x ∷ (y ∷ ys)) = refl

join_empty : (ps : List (List ℕ)) (x : List ℕ) (xs : List (List ℕ)) → ps ≡ x ∷ xs → join_slash ([] ∷ ps) ≡ 47 ∷ join_slash ps
join_empty ps x xs is = ap (λ qs. join_slash ([] ∷ qs)) is ∙ ap (λ qs. 47 ∷ join_slash qs) (sym is)

joined_head : (b : ℕ) (bs : List ℕ) (t : Bool) → is_slash b ≡ t → join_slash (pieces is_slash bs) ≡ bs → join_slash (cond t ([] ∷ pieces is_slash bs) (onto_first b (pieces is_slash bs))) ≡ b ∷ bs
joined_head b bs true is rest = join_empty (pieces is_slash bs) (take (len_before is_slash bs) bs) (tails is_slash (drop (len_before is_slash bs) bs)) (pieces_cut is_slash bs) ∙ ap (λ xs. 47 ∷ xs) rest ∙ ap (λ (m : ℕ). m ∷ bs) (sym (eqb-true b 47 is))
joined_head b bs false is rest = join_onto b (pieces is_slash bs) ∙ ap (λ xs. b ∷ xs) rest

joined : (text : List ℕ) → join_slash (pieces is_slash text) ≡ text
joined [] = refl
joined (b ∷ bs) = joined_head b bs (is_slash b) refl (joined bs)

slashed_form : (text : List ℕ) (c : Rgb) → colour_of_parts (pieces is_slash text) ≡ Some c → IsSlashed text c
slashed_form text c e =
    let p : AreParts (pieces is_slash text) c = parts_back (pieces is_slash text) c e in
    record {
      red = p.red;
      green = p.green;
      blue = p.blue;
      spelled = sym (joined text) ∙ ap join_slash p.are;
      is_red = number_form 255 p.red c.r p.is_red;
      is_green = number_form 255 p.green c.g p.is_green;
      is_blue = number_form 255 p.blue c.b p.is_blue;
    }

or_none : (a b : Bool) → (a || b) ≡ false → (a ≡ false) × (b ≡ false)
or_none true b e = cc
or_none false b e = (refl, e)

piece_then : (p : ℕ → Bool) (xs : List ℕ) (b : ℕ) (rest : List ℕ) → list_any p xs ≡ false → p b ≡ true → pieces p (xs ++ (b ∷ rest)) ≡ xs ∷ pieces p rest
piece_then p [] b rest none parts = ap (λ t. cond t ([] ∷ pieces p rest) (onto_first b (pieces p rest))) parts
piece_then p (x ∷ xs) b rest none parts =
    ap (λ t. cond t ([] ∷ pieces p (xs ++ (b ∷ rest))) (onto_first x (pieces p (xs ++ (b ∷ rest))))) (or_none (p x) (list_any p xs) none).0
    ∙ ap (onto_first x) (piece_then p xs b rest (or_none (p x) (list_any p xs) none).1 parts)

or_true : (b : Bool) → (b || true) ≡ true
or_true true = refl
or_true false = refl

slashed_read : (text : List ℕ) (c : Rgb) → IsSlashed text c → (list_any is_slash text ≡ true) × (colour_of_parts (pieces is_slash text) ≡ Some c)
slashed_read text c is =
    let none_red : list_any is_slash is.red ≡ false = number_misses is_slash is.red _ slash_misses is.is_red.0 in
    let none_green : list_any is_slash is.green ≡ false = number_misses is_slash is.green _ slash_misses is.is_green.0 in
    let none_blue : list_any is_slash is.blue ≡ false = number_misses is_slash is.blue _ slash_misses is.is_blue.0 in (
      ap (list_any is_slash) is.spelled ∙ list_any-append is_slash is.red (47 ∷ (is.green ++ (47 ∷ is.blue))) ∙ or_true (list_any is_slash is.red),
      ap colour_of_parts (ap (pieces is_slash) is.spelled
          ∙ piece_then is_slash is.red 47 (is.green ++ (47 ∷ is.blue)) none_red refl
          ∙ ap (λ ps. is.red ∷ ps) (piece_then is_slash is.green 47 is.blue none_green refl ∙ ap (λ ps. is.green ∷ ps) (one_piece is_slash is.blue (parts_nowhere is_slash is.blue none_blue))))
          ∙ three_parts is.red is.green is.blue c is.is_red is.is_green is.is_blue,
    )

-- ---- parts between blanks

some_part : (text : List ℕ) (n : ℕ) → part text ≡ Some n → 0 < length text
some_part [] n e = cc
some_part (b ∷ bs) n e = omega arith

-- a word that stands first
peel : (text x : List ℕ) (xs : List (List ℕ)) → words text ≡ x ∷ xs → (first_word text ≡ x) × (words (after_word text) ≡ xs)
peel text x xs e = elim (front text (first_word text) (after_word text) refl refl) [
  | inl none ↦ let gone : [] ≡ x ∷ xs = sym none.1 ∙ e in cc
  | inr some ↦ let both : first_word text ∷ words (after_word text) ≡ x ∷ xs = sym some ∙ e in (cc, cc)
]

cut : (text : List ℕ) → text ≡ take (prefix_len is_blank text) text ++ (first_word text ++ after_word text)
cut text = sym (take-append-drop (prefix_len is_blank text) text) ∙ ap (λ (xs : List ℕ). take (prefix_len is_blank text) text ++ xs) (sym (take-append-drop (len_before is_blank (trimmed text)) (trimmed text)))

front_blank : (text : List ℕ) → AreBlanks (take (prefix_len is_blank text) text)
front_blank text k within =
    let below : k < prefix_len is_blank text = omega (arith, length-take (prefix_len is_blank text) text) in
    ap is_blank (get_or-take (prefix_len is_blank text) text k 0 below) ∙ prefix_len_passes is_blank text k 0 below

front_some : (text : List ℕ) → 0 < length text → is_blank (get_or text 0 0) ≡ true → 0 < length (take (prefix_len is_blank text) text)
front_some [] some blank = absurd (omega arith)
front_some (b ∷ bs) some blank = omega (arith, length-take (prefix_len is_blank (b ∷ bs)) (b ∷ bs), ap (λ c. cond c (1 + prefix_len is_blank bs) 0) blank)

-- the blanks between two words
gap_some : (text : List ℕ) → 0 < length (first_word (after_word text)) → 0 < length (take (prefix_len is_blank (after_word text)) (after_word text))
gap_some text some =
    let within : 0 < length (after_word text) = omega (arith, length-take (len_before is_blank (trimmed (after_word text))) (trimmed (after_word text)), length-drop (prefix_len is_blank (after_word text)) (after_word text)) in
    front_some (after_word text) within (blank_after (trimmed text) within)

all_blank : (text : List ℕ) → words text ≡ [] → AreBlanks text
all_blank text none k within = elim (cases_lt 0 (length (trimmed text))) [
  | inl some ↦ let gone : [] ≡ first_word text ∷ words (after_word text) = sym none ∙ some_words text some in cc
  | inr end ↦ prefix_len_passes is_blank text k 0 (omega (arith, length-drop (prefix_len is_blank text) text))
]

spaced_form : (text : List ℕ) (c : Rgb) → colour_of_parts (words text) ≡ Some c → IsSpaced text c
spaced_form text c e =
    let p : AreParts (words text) c = parts_back (words text) c e in
    let one : (first_word text ≡ p.red) × (words (after_word text) ≡ p.green ∷ (p.blue ∷ [])) = peel text p.red (p.green ∷ (p.blue ∷ [])) p.are in
    let two : (first_word (after_word text) ≡ p.green) × (words (after_word (after_word text)) ≡ p.blue ∷ []) = peel (after_word text) p.green (p.blue ∷ []) one.1 in
    let three : (first_word (after_word (after_word text)) ≡ p.blue) × (words (after_word (after_word (after_word text))) ≡ []) = peel (after_word (after_word text)) p.blue [] two.1 in
    let red : part (first_word text) ≡ Some c.r = ap part one.0 ∙ p.is_red in
    let green : part (first_word (after_word text)) ≡ Some c.g = ap part two.0 ∙ p.is_green in
    let blue : part (first_word (after_word (after_word text))) ≡ Some c.b = ap part three.0 ∙ p.is_blue in
    record {
      front = take (prefix_len is_blank text) text;
      red = first_word text;
      first_gap = take (prefix_len is_blank (after_word text)) (after_word text);
      green = first_word (after_word text);
      second_gap = take (prefix_len is_blank (after_word (after_word text))) (after_word (after_word text));
      blue = first_word (after_word (after_word text));
      rest = after_word (after_word (after_word text));
      spelled = cut text
          ∙ ap (λ (xs : List ℕ). take (prefix_len is_blank text) text ++ (first_word text ++ xs)) (cut (after_word text)
          ∙ ap (λ (xs : List ℕ). take (prefix_len is_blank (after_word text)) (after_word text) ++ (first_word (after_word text) ++ xs)) (cut (after_word (after_word text))));
      is_red = number_form 255 (first_word text) c.r red;
      is_green = number_form 255 (first_word (after_word text)) c.g green;
      is_blue = number_form 255 (first_word (after_word (after_word text))) c.b blue;
      front_blank = front_blank text;
      first_blank = front_blank (after_word text);
      second_blank = front_blank (after_word (after_word text));
      rest_blank = all_blank (after_word (after_word (after_word text))) three.1;
      first_some = gap_some text (some_part (first_word (after_word text)) c.g green);
      second_some = gap_some (after_word text) (some_part (first_word (after_word (after_word text))) c.b blue);
    }

-- blanks at the front leave the words as they are
words_front : (blanks rest : List ℕ) → AreBlanks blanks → words (blanks ++ rest) ≡ words rest
words_front [] rest are = refl
words_front (b ∷ bs) rest are = words_blank b (bs ++ rest) (are 0 (omega arith)) ∙ words_front bs rest (λ k below. are (suc k) (omega arith))

blank_slash : (b : ℕ) (t : Bool) → (b == 47) ≡ t → is_blank b ≡ true → (b == 47) ≡ false
blank_slash b true is blank = let no : is_blank b ≡ false = ap is_blank (eqb-true b 47 is) in let gone : true ≡ false = sym blank ∙ no in cc
blank_slash b false is blank = is

blanks_miss : (blanks : List ℕ) → AreBlanks blanks → list_any is_slash blanks ≡ false
blanks_miss [] are = refl
blanks_miss (b ∷ bs) are = ap (λ t. t || list_any is_slash bs) (blank_slash b (b == 47) refl (are 0 (omega arith))) ∙ blanks_miss bs (λ k below. are (suc k) (omega arith))

-- a word before blanks
word_blank : (word : List ℕ) (b : ℕ) (rest : List ℕ) → list_any is_blank word ≡ false → 0 < length word → is_blank b ≡ true → words (word ++ (b ∷ rest)) ≡ word ∷ words (b ∷ rest)
word_blank word b rest none some blank =
    ap (filter has_byte) (piece_then is_blank word b rest none blank)
    ∙ keep_some word (pieces is_blank rest) some
    ∙ ap (λ ps. word ∷ ps) (sym (words_blank b rest blank))

word_gap : (word gap rest : List ℕ) → list_any is_blank word ≡ false → 0 < length word → AreBlanks gap → 0 < length gap → words (word ++ (gap ++ rest)) ≡ word ∷ words rest
word_gap word [] rest none some are gap_some_ = absurd (omega arith)
word_gap word (b ∷ bs) rest none some are gap_some_ = word_blank word b (bs ++ rest) none some (are 0 (omega arith)) ∙ ap (λ ps. word ∷ ps) (words_front (b ∷ bs) rest are)

only_blanks : (blanks : List ℕ) → AreBlanks blanks → words blanks ≡ []
only_blanks blanks are = ap words (sym (append-nil blanks)) ∙ words_front blanks [] are

word_end : (word rest : List ℕ) → list_any is_blank word ≡ false → 0 < length word → AreBlanks rest → words (word ++ rest) ≡ word ∷ []
word_end word [] none some are = ap words (append-nil word) ∙ ap (filter has_byte) (one_piece is_blank word (parts_nowhere is_blank word none)) ∙ keep_some word [] some
word_end word (b ∷ bs) none some are = word_blank word b bs none some (are 0 (omega arith)) ∙ ap (λ ps. word ∷ ps) (only_blanks (b ∷ bs) are)

part_word : (text : List ℕ) (n : ℕ) → IsPart text n → (list_any is_blank text ≡ false) × (list_any is_slash text ≡ false) × (0 < length text)
part_word text n is = (number_misses is_blank text _ blank_misses is.0, number_misses is_slash text _ slash_misses is.0, some_part text n (number_read 255 text n is))

spaced_read : (text : List ℕ) (c : Rgb) → IsSpaced text c → (list_any is_slash text ≡ false) × (colour_of_parts (words text) ≡ Some c)
spaced_read text c is =
    let red : (list_any is_blank is.red ≡ false) × (list_any is_slash is.red ≡ false) × (0 < length is.red) = part_word is.red c.r is.is_red in
    let green : (list_any is_blank is.green ≡ false) × (list_any is_slash is.green ≡ false) × (0 < length is.green) = part_word is.green c.g is.is_green in
    let blue : (list_any is_blank is.blue ≡ false) × (list_any is_slash is.blue ≡ false) × (0 < length is.blue) = part_word is.blue c.b is.is_blue in (
      ap (list_any is_slash) is.spelled
          ∙ none_both is_slash is.front _ (blanks_miss is.front is.front_blank) (none_both is_slash is.red _ red.1 (none_both is_slash is.first_gap _ (blanks_miss is.first_gap is.first_blank) (none_both is_slash is.green _ green.1 (none_both is_slash is.second_gap _ (blanks_miss is.second_gap is.second_blank) (none_both is_slash is.blue is.rest blue.1 (blanks_miss is.rest is.rest_blank)))))),
      ap colour_of_parts (ap words is.spelled
          ∙ words_front is.front _ is.front_blank
          ∙ word_gap is.red is.first_gap _ red.0 red.2 is.first_blank is.first_some
          ∙ ap (λ ps. is.red ∷ ps) (word_gap is.green is.second_gap _ green.0 green.2 is.second_blank is.second_some ∙ ap (λ ps. is.green ∷ ps) (word_end is.blue is.rest blue.0 blue.2 is.rest_blank)))
          ∙ three_parts is.red is.green is.blue c is.is_red is.is_green is.is_blue,
    )

-- ---- colours

pub colour_read : (text : List ℕ) (c : Rgb) → IsColour text c → colour_of text ≡ Some c
colour_read text c is = elim is [
  | inl s ↦ ap (λ b. cond b (colour_of_parts (pieces is_slash text)) (colour_of_parts (words text))) (slashed_read text c s).0 ∙ (slashed_read text c s).1
  | inr s ↦ ap (λ b. cond b (colour_of_parts (pieces is_slash text)) (colour_of_parts (words text))) (spaced_read text c s).0 ∙ (spaced_read text c s).1
]

by_slash : (text : List ℕ) (c : Rgb) (b : Bool) → cond b (colour_of_parts (pieces is_slash text)) (colour_of_parts (words text)) ≡ Some c → IsColour text c
by_slash text c true e = inl (slashed_form text c e)
by_slash text c false e = inr (spaced_form text c e)

pub colour_form : (text : List ℕ) (c : Rgb) → colour_of text ≡ Some c → IsColour text c
colour_form text c e = by_slash text c (list_any is_slash text) e

-- ---- a third part with a slash is none

no_part : (text : List ℕ) (o : Option ℕ) → part text ≡ o → list_any is_slash text ≡ true → part text ≡ None
no_part text None is any = is
no_part text (Some n) is any = let none : list_any is_slash text ≡ false = number_misses is_slash text _ slash_misses (number_form 255 text n is).0 in let gone : true ≡ false = sym any ∙ none in cc

slash_by : (text red rest green last : List ℕ) (b : Bool) → list_any is_slash last ≡ b → red ≡ first_piece text → rest ≡ after_piece text → green ≡ first_piece rest → last ≡ after_piece rest → len_before is_slash text < length text → len_before is_slash rest < length rest → colour_of_parts (pieces is_slash text) ≡ colour (part red) (part green) (part last)
slash_by text red rest green last true any is_red is_rest is_green is_last some more = slash_more text rest last is_rest is_last some more any ∙ sym (ap (λ o. colour (part red) (part green) o) (no_part last (part last) refl any) ∙ no_third (part red) (part green))
slash_by text red rest green last false any is_red is_rest is_green is_last some more = slash_three text red rest green last is_red is_rest is_green is_last some more any

pub slash_parts : (text red rest green last : List ℕ) → red ≡ first_piece text → rest ≡ after_piece text → green ≡ first_piece rest → last ≡ after_piece rest → len_before is_slash text < length text → len_before is_slash rest < length rest → colour_of_parts (pieces is_slash text) ≡ colour (part red) (part green) (part last)
slash_parts text red rest green last is_red is_rest is_green is_last some more = slash_by text red rest green last (list_any is_slash last) refl is_red is_rest is_green is_last some more

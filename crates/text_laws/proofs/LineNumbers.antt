-- Atoms that are written: names and numbers, and what they are read as.
use Rattle.std.proofs.Common.{◌≡◌, ◌∙◌, ◌+◌, ◌-◌, ◌*◌, ◌/◌, ◌%◌, ◌^◌, ◌<◌, ◌≤◌, ◌==◌, ℕ, zero, suc, ℤ, pos, negsuc, ◌-ℤ◌, Bool, true, false, cond, List, [], ◌∷◌, ◌++◌, length, Option, Some, None, refl, ap, sym, arith, codes, decimal, append-nil, length-drop, length-append, inl, inr, eqb-true}
use Rattle.std.specs.Prelude.{fold}
use Rattle.std.specs.Int.{IsInRange}
use Rattle.std.specs.Int.RustNames.{unsigned_abs}
use Rattle.std.specs.List.{AllByRecursion, list_all, prefix_len}
use Rattle.std.specs.Char.{is_ascii_digit}
use Rattle.std.specs.Fmt.{signed_decimal}
use Rattle.std.proofs.lemmas.Bool.{le-leb}
use Rattle.std.proofs.lemmas.Bool.Decides.{nat_tests}
use Rattle.std.proofs.lemmas.Fmt.{digits_decimal, digits_value-decimal, decimal_nonempty, decimal_digit, length-decimal-le}
use Rattle.std.proofs.lemmas.Int.{ints}
use Rattle.std.proofs.lemmas.List.Folds.{list_all-append}
use Rattle.std.proofs.lemmas.Str.Parse.{IsNumeralModel, numerals_by_fold}
use Rattle.lattice_core.specs.declared.limit.TheConstants.{COORD, HALF_NORMAL}
use Rattle.lattice_core.specs.declared.vector.V3.{V3}
use Rattle.lattice_core.specs.Limits.{IsAtMost, IsWithin}
use Rattle.name_core.specs.NameText.{is_next_byte}
use Rattle.tcl_words.specs.Numbers.{value, AreDigits, significant, is_zero, number_of, tenths_of}
use Rattle.tcl_words.specs.NumberForm.{NoSign, Minus, IsNumber, IsLength, IsTenth}
use Rattle.tcl_words.proofs.Forms.{form_read}
use Rattle.tcl_words.proofs.Lengths.{length_read}
use Rattle.word_values.specs.Atoms.{kept_to}
use Rattle.word_values.specs.Kinds.{number_as, most_of, coordinate_kind, normal_kind, point_kind}
use Rattle.word_values.specs.declared.atoms.NumberKind.{NumberKind}
use Rattle.word_values.specs.declared.atoms.NumberKind.TheVariants.{Whole, Length}
use Rattle.put_form.specs.Written.{tenths, tenth_text, size_text, length_text, number_text}
use Rattle.put_form.proofs.ListLaws.{both}
use Rattle.put_form.proofs.NameWords.{is_word}

-- ---- decimal numbers

abbrev Digits : List ℕ → Type 0
Digits ds = AllByRecursion (IsInRange 48 57) ds

own : IsNumeralModel Digits value
own = numerals_by_fold Digits (record { empty = tt; parts = λ c cs h. (h.0, h.1); more = λ c cs h k. (h, k) }) (λ n ds. fold (λ n d. n * 10 + (d - 48)) n ds) (record { empty = λ n. refl; more = λ n c cs k. refl })

is_digit : (d : ℕ) → IsInRange 48 57 d → is_ascii_digit d ≡ true
is_digit d h = grind (arith, nat_tests, h)

digits_are : (ds : List ℕ) → Digits ds → AreDigits ds
digits_are [] h k within = absurd (omega (arith, within))
digits_are (d ∷ ds) h zero within = is_digit d h.0
digits_are (d ∷ ds) h (suc k) within = digits_are ds h.1 k (omega (arith, within))

digit_next : (d : ℕ) → IsInRange 48 57 d → is_next_byte d ≡ true
digit_next d h = grind (arith, nat_tests, h)

digits_next : (ds : List ℕ) → Digits ds → list_all is_next_byte ds ≡ true
digits_next [] h = refl
digits_next (d ∷ ds) h = both (is_next_byte d) (list_all is_next_byte ds) (digit_next d h.0) (digits_next ds h.1)

digits_word : (ds : List ℕ) → Digits ds → 0 < length ds → is_word ds ≡ true
digits_word [] h some = absurd (omega (arith, some))
digits_word (d ∷ ds) h some = digits_next (d ∷ ds) h

-- a letter and a number
pub lettered_word : (letter n : ℕ) → is_next_byte letter ≡ true → n < 2 ^ 64 → is_word (letter ∷ decimal n) ≡ true
lettered_word letter n is fits = both (is_next_byte letter) (list_all is_next_byte (decimal n)) is (digits_next (decimal n) (digits_decimal own n fits))

pub decimal_word : (n : ℕ) → n < 2 ^ 64 → is_word (decimal n) ≡ true
decimal_word n fits = digits_word (decimal n) (digits_decimal own n fits) (decimal_nonempty n fits)

signed_word : (z : ℤ) → unsigned_abs z < 10 ^ 9 → is_word (signed_decimal z) ≡ true
signed_word (pos n) small = decimal_word n (omega (arith, small))
signed_word (negsuc n) small = digits_next (decimal (suc n)) (digits_decimal own (suc n) (omega (arith, small)))

short : (n : ℕ) → n < 10 ^ 9 → length (significant (decimal n)) ≤ 9
short n small = omega (arith, length-drop (prefix_len is_zero (decimal n)) (decimal n), length-decimal-le 9 n (omega arith) small (omega (arith, small)))

less : (n : ℕ) → negsuc n ≡ pos 0 -ℤ pos (suc n)
less n = omega (arith, ints)

number_form : (z : ℤ) → unsigned_abs z < 10 ^ 9 → IsNumber (signed_decimal z) z
number_form (pos n) small = record {
  sign = NoSign;
  digits = decimal n;
  tail = [];
  spelled = sym (append-nil (decimal n));
  some = decimal_nonempty n (omega (arith, small));
  are_digits = digits_are (decimal n) (digits_decimal own n (omega (arith, small)));
  short = short n small;
  zeros = refl;
  worth = ap (λ (m : ℕ). pos m) (sym (digits_value-decimal own n (omega (arith, small))));
}
number_form (negsuc n) small = record {
  sign = Minus;
  digits = decimal (suc n);
  tail = [];
  spelled = ap (λ (ds : List ℕ). 45 ∷ ds) (sym (append-nil (decimal (suc n))));
  some = decimal_nonempty (suc n) (omega (arith, small));
  are_digits = digits_are (decimal (suc n)) (digits_decimal own (suc n) (omega (arith, small)));
  short = short (suc n) (omega (arith, small));
  zeros = refl;
  worth = less n ∙ ap (λ (m : ℕ). pos 0 -ℤ pos m) (sym (digits_value-decimal own (suc n) (omega (arith, small))));
}

pub number_again : (z : ℤ) → unsigned_abs z < 10 ^ 9 → number_of (signed_decimal z) ≡ Some z
number_again z small = form_read (signed_decimal z) z (number_form z small)

-- ---- lengths

tenth_form : (tenth : ℕ) → tenth < 10 → IsTenth (tenth_text tenth) tenth
tenth_form tenth small = by (tenth == 0) refl
  where
    by : (t : Bool) → (tenth == 0) ≡ t → IsTenth (cond t [] (codes "." ++ decimal tenth)) tenth
    by true e = inl (refl, eqb-true tenth 0 e)
    by false e = inr (record { zeros = []; spelled = ap (λ (ds : List ℕ). 46 ∷ ds) (decimal_digit tenth small); one_digit = omega (arith, small); are_zeros = refl })

tenth_next : (tenth : ℕ) → tenth < 10 → list_all is_next_byte (tenth_text tenth) ≡ true
tenth_next tenth small = by (tenth == 0)
  where
    by : (t : Bool) → list_all is_next_byte (cond t [] (codes "." ++ decimal tenth)) ≡ true
    by true = refl
    by false = digits_next (decimal tenth) (digits_decimal own tenth (omega (arith, small)))

whole_small : (n : ℕ) → n < 10 ^ 9 * tenths → n / tenths < 10 ^ 9
whole_small n small = omega (arith, small)

tenth_small : (n : ℕ) → n % tenths < 10
tenth_small n = omega arith

size_worth : (n : ℕ) → n < 10 ^ 9 * tenths → value (decimal (n / tenths)) * 10 + n % tenths ≡ n
size_worth n small = omega (arith, digits_value-decimal own (n / tenths) (omega (arith, whole_small n small)))

size_next : (n : ℕ) → n < 10 ^ 9 * tenths → list_all is_next_byte (size_text n) ≡ true
size_next n small =
    list_all-append is_next_byte (decimal (n / tenths)) (tenth_text (n % tenths))
    ∙ both (list_all is_next_byte (decimal (n / tenths))) (list_all is_next_byte (tenth_text (n % tenths))) (digits_next (decimal (n / tenths)) (digits_decimal own (n / tenths) (omega (arith, whole_small n small)))) (tenth_next (n % tenths) (tenth_small n))

length_form : (z : ℤ) → unsigned_abs z < 10 ^ 9 * tenths → IsLength (length_text z) z
length_form (pos n) small = record {
  sign = NoSign;
  digits = decimal (n / tenths);
  tail = tenth_text (n % tenths);
  tenth = n % tenths;
  spelled = refl;
  some = decimal_nonempty (n / tenths) (omega (arith, whole_small n small));
  are_digits = digits_are (decimal (n / tenths)) (digits_decimal own (n / tenths) (omega (arith, whole_small n small)));
  short = short (n / tenths) (whole_small n small);
  after = tenth_form (n % tenths) (tenth_small n);
  worth = ap (λ (m : ℕ). pos m) (sym (size_worth n small));
}
length_form (negsuc n) small = record {
  sign = Minus;
  digits = decimal (suc n / tenths);
  tail = tenth_text (suc n % tenths);
  tenth = suc n % tenths;
  spelled = refl;
  some = decimal_nonempty (suc n / tenths) (omega (arith, whole_small (suc n) small));
  are_digits = digits_are (decimal (suc n / tenths)) (digits_decimal own (suc n / tenths) (omega (arith, whole_small (suc n) small)));
  short = short (suc n / tenths) (whole_small (suc n) small);
  after = tenth_form (suc n % tenths) (tenth_small (suc n));
  worth = less n ∙ ap (λ (m : ℕ). pos 0 -ℤ pos m) (sym (size_worth (suc n) small));
}

length_again : (z : ℤ) → unsigned_abs z < 10 ^ 9 * tenths → tenths_of (length_text z) ≡ Some z
length_again z small = length_read (length_text z) z (length_form z small)

some_word : (bs : List ℕ) → list_all is_next_byte bs ≡ true → 0 < length bs → is_word bs ≡ true
some_word [] h some = absurd (omega (arith, some))
some_word (b ∷ bs) h some = h

length_word : (z : ℤ) → unsigned_abs z < 10 ^ 9 * tenths → is_word (length_text z) ≡ true
length_word (pos n) small =
    some_word (size_text n) (size_next n small) (omega (arith, length-append (decimal (n / tenths)) (tenth_text (n % tenths)), decimal_nonempty (n / tenths) (omega (arith, whole_small n small))))
length_word (negsuc n) small = size_next (suc n) small

-- ---- numbers by their kinds

-- no number of a kind has more than nine digits before a point
abbrev pub IsShort : NumberKind → Type 0
IsShort (Whole most) = most < 10 ^ 9
IsShort (Length most) = most < 10 ^ 9 * tenths

-- a number that is as large as its kind allows
abbrev pub IsOf : NumberKind → ℤ → Type 0
IsOf kind z = IsShort kind × (unsigned_abs z ≤ most_of kind)

kept : (most : ℕ) (z : ℤ) (o : Option ℤ) → o ≡ Some z → unsigned_abs z ≤ most → kept_to most o ≡ Some z
kept most z o is small = ap (kept_to most) is ∙ ap (λ b. cond b (Some z) None) (le-leb (unsigned_abs z) most small)

pub of_kind_again : (kind : NumberKind) (z : ℤ) → IsOf kind z → number_as kind (number_text kind z) ≡ Some z
of_kind_again (Whole most) z of_ = kept most z (number_of (signed_decimal z)) (number_again z (omega (arith, of_.0, of_.1))) of_.1
of_kind_again (Length most) z of_ = kept most z (tenths_of (length_text z)) (length_again z (omega (arith, of_.0, of_.1))) of_.1

pub of_kind_word : (kind : NumberKind) (z : ℤ) → IsOf kind z → is_word (number_text kind z) ≡ true
of_kind_word (Whole most) z of_ = signed_word z (omega (arith, of_.0, of_.1))
of_kind_word (Length most) z of_ = length_word z (omega (arith, of_.0, of_.1))

within_size : (limit : ℕ) (z : ℤ) → IsAtMost (pos limit) z → unsigned_abs z ≤ limit
within_size limit z h = omega (arith, ints, h.0, h.1)

pub coordinate_of : (z : ℤ) → IsAtMost COORD z → IsOf coordinate_kind z
coordinate_of z h = (omega arith, within_size (unsigned_abs COORD) z h)

normal_of : (z : ℤ) → IsAtMost HALF_NORMAL z → IsOf normal_kind z
normal_of z h = (omega arith, within_size (unsigned_abs HALF_NORMAL) z h)

pub shift_of : (z : ℤ) → IsAtMost COORD z → IsOf point_kind z
shift_of z h = (omega arith, omega (arith, within_size (unsigned_abs COORD) z h))

-- the components of a vector
pub record AreOf (kind : NumberKind) (v : V3) : Type 0 where
  pub x : IsOf kind v.x
  pub y : IsOf kind v.y
  pub z : IsOf kind v.z

pub coordinates_of : (v : V3) → IsWithin COORD v → AreOf coordinate_kind v
coordinates_of v h = record { x = coordinate_of v.x h.x; y = coordinate_of v.y h.y; z = coordinate_of v.z h.z }

pub components_of : (v : V3) → IsWithin HALF_NORMAL v → AreOf normal_kind v
components_of v h = record { x = normal_of v.x h.x; y = normal_of v.y h.y; z = normal_of v.z h.z }

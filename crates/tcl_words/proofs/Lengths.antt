-- A length is what has the form of one.
use Rattle.std.proofs.Common.{◌≡◌, ℕ, ◌+◌, ◌*◌, ◌-◌, ◌<◌, ◌≤◌, List, [], ◌∷◌, ◌++◌, length, take, drop, get_or, inl, inr, subst, cond, Bool, true, false, arith, Option, Some, None, refl, ap, sym, ◌∙◌, take_at, drop_at, take-append-drop, suc}
use Rattle.std.specs.Prelude.{IfSome, IfNone, ◌&&◌, ◌==◌, nat_lt, ℤ}
use Rattle.std.specs.List.{list_all}
use Rattle.std.specs.Char.{is_ascii_digit}
use Rattle.std.proofs.lemmas.Bool.{eqb-true, ne_eqb, le-ltb, lt-ltb}
use Rattle.std.proofs.lemmas.Bool.Decides.{nat_tests}
use Rattle.tcl_words.specs.Numbers.{is_sign, is_zero, begins, unsigned, digit_count, significant, value, is_tail, is_decimal, short_value, signed, with_sign, tenths_after, in_tenths, tenths_magnitude, tenths_of, AreDigits}
use Rattle.tcl_words.specs.NumberForm.{Sign, sign_text, is_minus, IsDecimal, IsTenth, IsLength}
use Rattle.tcl_words.proofs.Digits.{counted_digits}
use Rattle.tcl_words.proofs.Forms.{and_first, and_both, or_second, tail_first, no_digit, count_is, counted_some, unsigned_form, signed_back, short_back, split_sign}

-- ---- what has the form is read

all_four : (a b c d : Bool) → a ≡ true → b ≡ true → c ≡ true → d ≡ true → (a && b && c && d) ≡ true
all_four a b c d is_a is_b is_c is_d = cc

is_digit : (digit : ℕ) → digit ≤ 9 → is_ascii_digit (48 + digit) ≡ true
is_digit digit small = grind (arith, nat_tests)

no_tenth : (digit : ℕ) (zeros : List ℕ) → is_tail (46 ∷ (48 + digit) ∷ zeros) ≡ true → 0 ≡ digit
no_tenth digit zeros is =
    let tail : list_all is_zero ((48 + digit) ∷ zeros) ≡ true = and_both (46 == 46) (list_all is_zero ((48 + digit) ∷ zeros)) (or_second (suc (suc (length zeros)) == 0) ((46 == 46) && list_all is_zero ((48 + digit) ∷ zeros)) is (ne_eqb (suc (suc (length zeros))) 0 (λ e. omega arith))) in
    omega (arith, eqb-true (48 + digit) 48 (and_first (is_zero (48 + digit)) (list_all is_zero zeros) tail))

decimal_by : (digit : ℕ) (zeros : List ℕ) (t : Bool) → digit ≤ 9 → list_all is_zero zeros ≡ true → is_tail (46 ∷ (48 + digit) ∷ zeros) ≡ t → tenths_after (46 ∷ (48 + digit) ∷ zeros) ≡ Some digit
decimal_by digit zeros true small are is = ap (λ b. cond b (Some 0) (cond (is_decimal (46 ∷ (48 + digit) ∷ zeros)) (Some ((48 + digit) - 48)) None)) is ∙ ap (λ (n : ℕ). Some n) (no_tenth digit zeros is)
decimal_by digit zeros false small are is =
    let some : nat_lt 1 (suc (suc (length zeros))) ≡ true = lt-ltb 1 (suc (suc (length zeros))) (omega arith) in
    ap (λ b. cond b (Some 0) (cond (is_decimal (46 ∷ (48 + digit) ∷ zeros)) (Some ((48 + digit) - 48)) None)) is
    ∙ ap (λ b. cond b (Some ((48 + digit) - 48)) None) (all_four (nat_lt 1 (suc (suc (length zeros)))) (46 == 46) (is_ascii_digit (48 + digit)) (list_all is_zero zeros) some refl (is_digit digit small) are)
    ∙ ap (λ (n : ℕ). Some n) (let e : (48 + digit) - 48 ≡ digit = omega arith in e)

after_is : (tail : List ℕ) (tenth : ℕ) → IsTenth tail tenth → tenths_after tail ≡ Some tenth
after_is tail tenth (inl p) = ap (λ b. cond b (Some 0) (cond (is_decimal tail) (Some (get_or tail 1 0 - 48)) None)) p.0 ∙ ap (λ (n : ℕ). Some n) (sym p.1)
after_is tail tenth (inr d) = ap tenths_after d.spelled ∙ decimal_by tenth d.zeros (is_tail (46 ∷ (48 + tenth) ∷ d.zeros)) d.one_digit d.are_zeros refl

after_first : (tail : List ℕ) (tenth : ℕ) → IsTenth tail tenth → 0 < length tail → is_ascii_digit (get_or tail 0 0) ≡ false
after_first tail tenth (inl p) some = tail_first tail p.0 some
after_first tail tenth (inr d) some = ap (λ (t : List ℕ). is_ascii_digit (get_or t 0 0)) d.spelled ∙ no_digit 46 refl

tenths_case : (rest digits tail : List ℕ) (c tenth : ℕ) → digit_count rest ≡ c → drop c rest ≡ tail → take c rest ≡ digits → (c == 0) ≡ false → tenths_after tail ≡ Some tenth → length (significant digits) ≤ 9
    → tenths_magnitude rest ≡ Some (value digits * 10 + tenth)
tenths_case rest digits tail c tenth is_c is_tail_ is_digits some after short =
    ap (λ (n : ℕ). cond (n == 0) None (in_tenths (short_value (take n rest)) (tenths_after (drop n rest)))) is_c
    ∙ ap (λ (t : List ℕ). cond (c == 0) None (in_tenths (short_value (take c rest)) (tenths_after t))) is_tail_
    ∙ ap (λ (d : List ℕ). cond (c == 0) None (in_tenths (short_value d) (tenths_after tail))) is_digits
    ∙ ap (λ b. cond b None (in_tenths (short_value digits) (tenths_after tail))) some
    ∙ ap (in_tenths (short_value digits)) after
    ∙ ap (λ b. in_tenths (cond b None (Some (value digits))) (Some tenth)) (le-ltb 9 (length (significant digits)) short)

tenths_is : (digits tail : List ℕ) (tenth : ℕ) → 0 < length digits → AreDigits digits → length (significant digits) ≤ 9 → IsTenth tail tenth → tenths_magnitude (digits ++ tail) ≡ Some (value digits * 10 + tenth)
tenths_is digits tail tenth some are short after =
    tenths_case (digits ++ tail) digits tail (length digits) tenth (count_is digits tail are (after_first tail tenth after)) (drop_at digits tail (length digits) refl) (take_at digits tail (length digits) refl) (ne_eqb (length digits) 0 (λ e. omega arith)) (after_is tail tenth after) short

-- what has the form is read
pub length_read : (atom : List ℕ) (n : ℤ) → IsLength atom n → tenths_of atom ≡ Some n
length_read atom n is =
    let form : (unsigned (sign_text is.sign ++ (is.digits ++ is.tail)) ≡ is.digits ++ is.tail) × (begins (λ b. b == 45) (sign_text is.sign ++ (is.digits ++ is.tail)) ≡ is_minus is.sign) = unsigned_form is.sign is.digits is.tail is.some is.are_digits in
    ap tenths_of is.spelled
    ∙ ap (λ b. with_sign b (tenths_magnitude (unsigned (sign_text is.sign ++ (is.digits ++ is.tail))))) form.1
    ∙ ap (λ (r : List ℕ). with_sign (is_minus is.sign) (tenths_magnitude r)) form.0
    ∙ ap (with_sign (is_minus is.sign)) (tenths_is is.digits is.tail is.tenth is.some is.are_digits is.short is.after)
    ∙ ap (λ (z : ℤ). Some z) (sym is.worth)

-- ---- what is read has the form

four_back : (a b c d : Bool) → (a && b && c && d) ≡ true → (b ≡ true) × (c ≡ true) × (d ≡ true)
four_back true true true true e = (refl, refl, refl)
four_back true true true false e = cc
four_back true true false d e = cc
four_back true false c d e = cc
four_back false b c d e = cc

digit_least : (b : ℕ) → is_ascii_digit b ≡ true → 48 ≤ b
digit_least b is = grind (arith, nat_tests)

digit_most : (b : ℕ) → is_ascii_digit b ≡ true → b ≤ 57
digit_most b is = grind (arith, nat_tests)

decimal_back : (tail : List ℕ) → is_decimal tail ≡ true → IsDecimal tail (get_or tail 1 0 - 48)
decimal_back [] is = cc
decimal_back (b ∷ []) is = cc
decimal_back (b ∷ c ∷ zeros) is =
    let parts = four_back (nat_lt 1 (suc (suc (length zeros)))) (b == 46) (is_ascii_digit c) (list_all is_zero zeros) is in
    let least : 48 ≤ c = digit_least c parts.1 in
    let most : c ≤ 57 = digit_most c parts.1 in
    let digit : c ≡ 48 + (c - 48) = omega (arith, least) in
    record {
      zeros = zeros;
      spelled = ap (λ (x : ℕ). x ∷ c ∷ zeros) (eqb-true b 46 parts.0) ∙ ap (λ (x : ℕ). 46 ∷ x ∷ zeros) digit;
      one_digit = omega (arith, least, most);
      are_zeros = parts.2;
    }

after_by : (tail : List ℕ) (m : ℕ) (t d : Bool) → is_tail tail ≡ t → is_decimal tail ≡ d → cond t (Some 0) (cond d (Some (get_or tail 1 0 - 48)) None) ≡ Some m → IsTenth tail m
after_by tail m true d is_t is_d e = inl (is_t, cc)
after_by tail m false true is_t is_d e = let same : get_or tail 1 0 - 48 ≡ m = cc in inr (subst (IsDecimal tail) same (decimal_back tail is_d))
after_by tail m false false is_t is_d e = cc

after_back : (tail : List ℕ) (m : ℕ) → tenths_after tail ≡ Some m → IsTenth tail m
after_back tail m e = after_by tail m (is_tail tail) (is_decimal tail) refl refl e

in_back : (whole tenth : Option ℕ) (m : ℕ) → in_tenths whole tenth ≡ Some m → (w : ℕ) × (t : ℕ) × (whole ≡ Some w) × (tenth ≡ Some t) × (m ≡ w * 10 + t)
in_back None tenth m e = cc
in_back (Some w) None m e = cc
in_back (Some w) (Some t) m e = (w, t, refl, refl, cc)

none_or : (a : Bool) (o : Option ℕ) (m : ℕ) → cond a None o ≡ Some m → (a ≡ false) × (o ≡ Some m)
none_or true o m e = cc
none_or false o m e = (refl, e)

read_length : (atom : List ℕ) (n : ℤ) → tenths_of atom ≡ Some n → IsLength atom n
read_length atom n e =
    let rest : List ℕ = unsigned atom in
    let count : ℕ = digit_count rest in
    let one : (m : ℕ) × (tenths_magnitude rest ≡ Some m) × (n ≡ signed (begins (λ b. b == 45) atom) m) = signed_back (begins (λ b. b == 45) atom) (tenths_magnitude rest) n e in
    let two : ((count == 0) ≡ false) × (in_tenths (short_value (take count rest)) (tenths_after (drop count rest)) ≡ Some one.0) = none_or (count == 0) (in_tenths (short_value (take count rest)) (tenths_after (drop count rest))) one.0 one.1 in
    let three : (w : ℕ) × (t : ℕ) × (short_value (take count rest) ≡ Some w) × (tenths_after (drop count rest) ≡ Some t) × (one.0 ≡ w * 10 + t) = in_back (short_value (take count rest)) (tenths_after (drop count rest)) one.0 two.1 in
    let four : (length (significant (take count rest)) ≤ 9) × (three.0 ≡ value (take count rest)) = short_back (take count rest) three.0 (nat_lt 9 (length (significant (take count rest)))) refl three.2 in
    let five : (sign : Sign) × (atom ≡ sign_text sign ++ rest) × (is_minus sign ≡ begins (λ b. b == 45) atom) = split_sign atom (begins is_sign atom) (begins (λ b. b == 45) atom) refl refl in
    record {
      sign = five.0;
      digits = take count rest;
      tail = drop count rest;
      tenth = three.1;
      spelled = five.1 ∙ ap (λ (xs : List ℕ). sign_text five.0 ++ xs) (sym (take-append-drop count rest));
      some = counted_some rest two.0;
      are_digits = counted_digits rest count refl;
      short = four.0;
      after = after_back (drop count rest) three.1 three.3;
      worth = one.2 ∙ ap (λ b. signed b one.0) (sym five.2) ∙ ap (signed (is_minus five.0)) (three.4 ∙ ap (λ (w : ℕ). w * 10 + three.1) four.1);
    }

pub some_length : (atom : List ℕ) (o : Option ℤ) → o ≡ tenths_of atom → IfSome o (λ n. IsLength atom n)
some_length atom None is = tt
some_length atom (Some n) is = read_length atom n (sym is)

pub none_length : (atom : List ℕ) (o : Option ℤ) → o ≡ tenths_of atom → IfNone o ((n : ℤ) → IsLength atom n → ⊥)
none_length atom None is = λ n form. let e : None ≡ Some n = is ∙ length_read atom n form in cc
none_length atom (Some n) is = tt

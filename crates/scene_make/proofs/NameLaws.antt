-- A letter and a number are a name.
use Rattle.std.proofs.Common.{◌≡◌, ◌<◌, ◌≤◌, ◌^◌, ℕ, true, List, [], ◌∷◌, All, length, decimal, arith, lit<}
use Rattle.std.specs.Int.{IsInRange}
use Rattle.std.specs.List.{AllByRecursion, list_all}
use Rattle.std.specs.Str.Parse.{digits_value}
use Rattle.std.proofs.lemmas.Bool.{and_parts}
use Rattle.std.proofs.lemmas.Bool.Decides.{nat_tests}
use Rattle.std.proofs.lemmas.Fmt.{digits_decimal, length-decimal-le}
use Rattle.std.proofs.lemmas.List.Elements.{All-cons, All-nil}
use Rattle.std.proofs.lemmas.Str.Parse.{IsNumeralModel, numerals_by_value}
use Rattle.name_core.specs.NameText.{IsName, is_first_byte, is_next_byte}

pub model : IsNumeralModel (AllByRecursion (IsInRange 48 57)) (digits_value 10)
model = numerals_by_value _ (record { empty = tt; parts = λ c cs h. (h.0, h.1); more = λ c cs h k. (h, k) })

digit_next : (d : ℕ) → IsInRange 48 57 d → is_next_byte d ≡ true
digit_next d h = grind (arith, nat_tests, h)

digits_next : (ds : List ℕ) → AllByRecursion (IsInRange 48 57) ds → All (λ b. is_next_byte b ≡ true) ds
digits_next [] h = All-nil (λ (b : ℕ). is_next_byte b ≡ true)
digits_next (d ∷ ds) h = All-cons (λ (b : ℕ). is_next_byte b ≡ true) d ds (digit_next d h.0) (digits_next ds h.1)

pub lettered : (letter n : ℕ) → is_first_byte letter ≡ true → n < 2 ^ 32 → IsName (letter ∷ decimal n)
lettered letter n is small =
    let digits : length (decimal n) ≤ 10 = length-decimal-le 10 n (lit< tt) (omega (arith, small)) (omega (arith, small)) in
    record { some = omega arith; short = omega (arith, digits); first = is; rest = digits_next (decimal n) (digits_decimal model n (omega (arith, small))) }

each_next : (bs : List ℕ) → list_all is_next_byte bs ≡ true → All (λ b. is_next_byte b ≡ true) bs
each_next [] h = All-nil (λ (b : ℕ). is_next_byte b ≡ true)
each_next (b ∷ bs) h =
    let both = and_parts (is_next_byte b) (list_all is_next_byte bs) h in
    All-cons (λ (b : ℕ). is_next_byte b ≡ true) b bs both.0 (each_next bs both.1)

-- bytes that are known
pub known : (b : ℕ) (bs : List ℕ) → is_first_byte b ≡ true → list_all is_next_byte bs ≡ true → length bs ≤ 63 → IsName (b ∷ bs)
known b bs first rest short = record { some = omega arith; short = omega (arith, short); first = first; rest = each_next bs rest }

-- Which atoms are numbers, whole or in tenths, and what they are worth.
use Rattle.std.specs.Prelude.{◌≡◌, ◌<◌, ℕ, Bool, true, false, not, ◌&&◌, ◌||◌, ◌==◌, nat_lt, ◌+◌, ◌-◌, ◌*◌, List, Option, Some, None, slice_index, length, take, drop, fold, if◌then◌else◌, pos, ℤ, ◌-ℤ◌}
use Rattle.std.specs.List.{prefix_len, list_all}
use Rattle.std.specs.Char.{is_ascii_digit}

abbrev pub is_sign : ℕ → Bool
is_sign b = b == 43 || b == 45

abbrev pub is_zero : ℕ → Bool
is_zero b = b == 48

-- an atom that begins with a byte
abbrev pub begins : (ℕ → Bool) → List ℕ → Bool
begins p atom = nat_lt 0 (length atom) && p (slice_index atom 0)

-- the atom behind its sign
abbrev pub unsigned : List ℕ → List ℕ
unsigned atom = if begins is_sign atom then drop 1 atom else atom

abbrev pub AreDigits : List ℕ → Type 0
AreDigits digits = (k : ℕ) → k < length digits → is_ascii_digit (slice_index digits k) ≡ true

-- how many digits stand at the front
abbrev pub digit_count : List ℕ → ℕ
digit_count rest = prefix_len is_ascii_digit rest

-- the digits from the first on that is no zero
abbrev pub significant : List ℕ → List ℕ
significant digits = drop (prefix_len is_zero digits) digits

abbrev pub value : List ℕ → ℕ
value digits = fold (λ n d. n * 10 + (d - 48)) 0 digits

-- nothing, or a point and any number of zeros
abbrev pub is_tail : List ℕ → Bool
is_tail rest = length rest == 0 || (slice_index rest 0 == 46 && list_all is_zero (drop 1 rest))

-- the value of digits, where at most nine stand after the leading zeros
abbrev pub short_value : List ℕ → Option ℕ
short_value digits = if nat_lt 9 (length (significant digits)) then None else Some (value digits)

-- one or more digits, and a tail
abbrev pub magnitude : List ℕ → Option ℕ
magnitude rest = if digit_count rest == 0 || not (is_tail (drop (digit_count rest) rest)) then None else short_value (take (digit_count rest) rest)

abbrev pub signed : Bool → ℕ → ℤ
signed true n = pos 0 -ℤ pos n
signed false n = pos n

abbrev pub with_sign : Bool → Option ℕ → Option ℤ
with_sign negative None = None
with_sign negative (Some n) = Some (signed negative n)

-- the number that an atom is, if it is one
abbrev pub number_of : List ℕ → Option ℤ
number_of atom = with_sign (begins (λ b. b == 45) atom) (magnitude (unsigned atom))

-- a point, one digit, and any number of zeros
abbrev pub is_decimal : List ℕ → Bool
is_decimal rest = nat_lt 1 (length rest) && slice_index rest 0 == 46 && is_ascii_digit (slice_index rest 1) && list_all is_zero (drop 2 rest)

-- the tenths that stand behind the digits: 0 for nothing or a point and zeros, and else the one digit behind the point
abbrev pub tenths_after : List ℕ → Option ℕ
tenths_after rest = if is_tail rest then Some 0 else (if is_decimal rest then Some (slice_index rest 1 - 48) else None)

abbrev pub in_tenths : Option ℕ → Option ℕ → Option ℕ
in_tenths None tenth = None
in_tenths (Some whole) None = None
in_tenths (Some whole) (Some tenth) = Some (whole * 10 + tenth)

-- one or more digits, and what may stand behind them, in tenths
abbrev pub tenths_magnitude : List ℕ → Option ℕ
tenths_magnitude rest = if digit_count rest == 0 then None else in_tenths (short_value (take (digit_count rest) rest)) (tenths_after (drop (digit_count rest) rest))

-- the length that an atom is, if it is one, in tenths
abbrev pub tenths_of : List ℕ → Option ℤ
tenths_of atom = with_sign (begins (λ b. b == 45) atom) (tenths_magnitude (unsigned atom))

-- The number of a demo, and of workers: one to nine decimal digits, leading zeros among them.
use Rattle.std.specs.Prelude.{◌≡◌, ◌<◌, ◌+◌, ◌-◌, ◌*◌, ◌&&◌, ℕ, Bool, true, nat_lt, nat_le, List, length, Option, Some, None, fold, slice_index, if◌then◌else◌}
use Rattle.std.specs.List.{list_all}
use Rattle.std.specs.Char.{is_ascii_digit}

abbrev pub is_number : List ℕ → Bool
is_number text = nat_lt 0 (length text) && (nat_le (length text) 9 && list_all is_ascii_digit text)

-- every byte is a digit
abbrev pub AreDigits : List ℕ → Type 0
AreDigits digits = (k : ℕ) → k < length digits → is_ascii_digit (slice_index digits k) ≡ true

abbrev pub value : List ℕ → ℕ
value digits = fold (λ n d. n * 10 + (d - 48)) 0 digits

-- the value of one to nine digits
abbrev pub number_of : List ℕ → Option ℕ
number_of text = if is_number text then Some (value text) else None

-- Which bytes are a name, and the first fault of those that are none.
use Rattle.std.specs.Prelude.{◌≡◌, ◌<◌, ◌≤◌, All, ℕ, ◌+◌, Bool, true, not, cond, ◌&&◌, ◌||◌, ◌==◌, nat_le, nat_lt, List, length, slice_index, drop, position, Option, Some, None, Result, Ok, Err}
use Rattle.name_core.specs.declared.name.NameFault.{NameFault}
use Rattle.name_core.specs.declared.name.NameFault.TheVariants.{Empty, Long, BadByte}

abbrev pub is_between : ℕ → ℕ → ℕ → Bool
is_between low high b = nat_le low b && nat_le b high

-- a letter, a digit or _
abbrev pub is_first_byte : ℕ → Bool
is_first_byte b = is_between 48 57 b || is_between 65 90 b || is_between 97 122 b || b == 95

-- the same, or . or -
abbrev pub is_next_byte : ℕ → Bool
is_next_byte b = is_first_byte b || b == 46 || b == 45

-- a place in the rest, counted in the whole
abbrev pub after_first : Option ℕ → Option ℕ
after_first None = None
after_first (Some i) = Some (i + 1)

abbrev pub first_bad : List ℕ → Option ℕ
first_bad bytes = cond (is_first_byte (slice_index bytes 0)) (after_first (position (λ x. not (is_next_byte x)) (drop 1 bytes))) (Some 0)

abbrev pub read_with : Option ℕ → List ℕ → Result (List ℕ) NameFault
read_with None bytes = Ok bytes
read_with (Some place) bytes = Err (BadByte place)

-- the name that bytes are, or the first fault: no byte, over 64 bytes, or the first bad byte
abbrev pub read_name : List ℕ → Result (List ℕ) NameFault
read_name bytes = cond (length bytes == 0) (Err Empty) (cond (nat_lt 64 (length bytes)) (Err Long) (read_with (first_bad bytes) bytes))

-- 1 to 64 bytes, the first a letter, a digit or _, and each other one of these or . or -
pub record IsName (bytes : List ℕ) : Type 0 where
  pub some : 0 < length bytes
  pub short : length bytes ≤ 64
  pub first : is_first_byte (slice_index bytes 0) ≡ true
  pub rest : All (λ b. is_next_byte b ≡ true) (drop 1 bytes)

-- The words of the code: where the first command of a text ends.
use Rattle.std.specs.Prelude.{◌≡◌, ◌<◌, ◌≤◌, ◌-◌, ℕ, true, false, List, Option, None, Some, length, take, find, count_by, slice_index, if◌then◌else◌}
use Rattle.std.specs.List.{range_with_len}
use Rattle.tcl_words.specs.Bytes.{is_blank, is_open, is_close}
use Rattle.asc_form.specs.Commands.{is_pound, first_byte, ends_at}

-- the first byte that is no blank, with one byte more
abbrev pub first_after : Option ℕ → ℕ → Option ℕ
first_after (Some other) byte = Some other
first_after None byte = if is_blank byte then None else Some byte

-- where a command ends that does not end before a place
abbrev pub end_from : List ℕ → ℕ → Option ℕ
end_from text place = find (ends_at text) (range_with_len place (length text - place))

-- a place at which a `#` stands, behind blanks alone
pub record IsPoundFrom (text : List ℕ) (start : ℕ) : Type 0 where
  pub byte : slice_index text start ≡ 35
  pub later : (k : ℕ) → start < k → k < length text → is_pound (first_byte (take k text)) ≡ true

-- a place with no brace before it, in a text that does not begin with `#`
pub record IsFirstFrom (text : List ℕ) (start : ℕ) : Type 0 where
  pub opened : count_by is_open (take start text) ≡ 0
  pub closed : count_by is_close (take start text) ≡ 0
  pub later : (k : ℕ) → start ≤ k → k < length text → is_pound (first_byte (take k text)) ≡ false

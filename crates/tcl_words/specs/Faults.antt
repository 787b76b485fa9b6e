-- Which texts have words: the faults of a text, place by place.
use Rattle.std.specs.Prelude.{ℕ, Bool, ◌&&◌, ◌||◌, ◌==◌, ◌-◌, List, ◌∷◌, ◌++◌, [], Option, Some, None, slice_index, slice_get, length, take, count_by, filter_map, if◌then◌else◌}
use Rattle.std.specs.List.{range_with_len}
use Rattle.tcl_words.specs.Bytes.{is_open, is_close, is_atom, is_bad, is_bad_outside, before}
use Rattle.tcl_words.specs.declared.fault.WordFault.{WordFault}
use Rattle.tcl_words.specs.declared.fault.WordFault.TheVariants.{BadByte, Extra, TooDeep, Unclosed}

-- how many groups are open before a place
abbrev pub depth : List ℕ → ℕ → ℕ
depth text place = count_by is_open (take place text) - count_by is_close (take place text)

-- what is wrong with a byte, after this byte, inside so many groups
abbrev pub is_bad_at : ℕ → ℕ → Bool
is_bad_at byte groups = is_bad byte || (groups == 0 && is_bad_outside byte)

abbrev pub is_extra : ℕ → ℕ → ℕ → Bool
is_extra byte last groups = (is_close byte && groups == 0) || (is_open byte && (is_atom last || is_close last)) || (is_atom byte && is_close last)

-- how many groups may be open at once
abbrev pub most_open : ℕ
most_open = 4100

abbrev pub is_too_deep : ℕ → ℕ → Bool
is_too_deep byte groups = is_open byte && groups == most_open

abbrev pub fault_of : ℕ → ℕ → ℕ → ℕ → Option WordFault
fault_of byte last groups place = if is_bad_at byte groups then Some (BadByte place) else (if is_extra byte last groups then Some (Extra place) else (if is_too_deep byte groups then Some (TooDeep place) else None))

-- the fault at a place
abbrev pub fault_at : List ℕ → ℕ → Option WordFault
fault_at text place = fault_of (slice_index text place) (before text place) (depth text place) place

-- all faults in the order of their places, and at last that a group is open at the end
abbrev pub faults : List ℕ → List WordFault
faults text = filter_map (fault_at text) (range_with_len 0 (length text)) ++ (if depth text (length text) == 0 then [] else Unclosed ∷ [])

-- the first one counts
abbrev pub word_fault : List ℕ → Option WordFault
word_fault text = slice_get (faults text) 0

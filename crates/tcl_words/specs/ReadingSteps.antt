-- The words of the code: a text read token by token.
use Rattle.std.specs.Prelude.{◌≡◌, ◌<◌, ◌≤◌, ◌+◌, ◌&&◌, ℕ, Bool, true, false, not, List, Option, Some, None, length, take, count_by, slice_index, if◌then◌else◌}
use Rattle.tcl_words.specs.Bytes.{is_open, is_close, is_atom, is_bad, is_bad_outside, before}
use Rattle.tcl_words.specs.Faults.{is_bad_at, fault_at, word_fault}
use Rattle.tcl_words.specs.Tokens.{token_at, tokens_of}
use Rattle.tcl_words.specs.Cover.{AllBetween}
use Rattle.tcl_words.specs.declared.token.Token.{Token}
use Rattle.tcl_words.specs.declared.token.Kind.{Kind}
use Rattle.tcl_words.specs.declared.token.Kind.TheVariants.{Open, Close, Atom}
use Rattle.tcl_words.specs.declared.fault.WordFault.{WordFault}
use Rattle.tcl_words.specs.declared.fault.WordFault.TheVariants.{Memory}

-- `.` for a byte that is good in each atom, `i` for one that is good inside of groups alone, `x` for any other
abbrev pub class_of : ℕ → ℕ
class_of byte = if is_atom byte && not (is_bad byte) then (if is_bad_outside byte then 105 else 46) else 120

-- a byte of an atom that is not bad inside so many groups
abbrev pub is_good : ℕ → ℕ → Bool
is_good groups byte = is_atom byte && not (is_bad_at byte groups)

-- no place from one on, before another, has a fault
abbrev pub NoFaults : List ℕ → ℕ → ℕ → Type 0
NoFaults text a b = (k : ℕ) → a ≤ k → k < b → fault_at text k ≡ None

-- the first fault of a text that has none before a place
abbrev pub IsNextFault : List ℕ → ℕ → WordFault → Type 0
IsNextFault text place fault = NoFaults text 0 place → word_fault text ≡ Some fault

-- no atom began before a place and goes on there
abbrev pub Begins : List ℕ → ℕ → Type 0
Begins text place = place < length text → (is_atom (before text place) && is_atom (slice_index text place)) ≡ false

-- what is known at a place: how many groups are open before it, and which byte stands there
pub record IsAt (text : List ℕ) (place groups last : ℕ) : Type 0 where
  pub few : groups ≤ 4100
  pub counted : groups + count_by is_close (take place text) ≡ count_by is_open (take place text)
  pub after : last ≡ before text place
  pub begins : Begins text place

-- where to go on behind a place, at which this token begins, or none
abbrev pub place_after : ℕ → Option Token → ℕ
place_after place None = place + 1
place_after place (Some token) = token.end

-- what a text has at a place, without a fault: a token, or a blank
pub record IsStep (text : List ℕ) (place : ℕ) (found : Option Token) : Type 0 where
  pub is : token_at text place ≡ found
  pub ahead : place < place_after place found
  pub within : place_after place found ≤ length text
  pub fine : NoFaults text place (place_after place found)
  pub run : AllBetween is_atom text (place + 1) (place_after place found)
  pub whole : place + 1 < place_after place found → is_atom (slice_index text place) ≡ true
  pub begins : Begins text (place_after place found)

-- the byte of a brace
abbrev pub IsBrace : Kind → ℕ → Type 0
IsBrace Open byte = is_open byte ≡ true
IsBrace Close byte = is_close byte ≡ true
IsBrace Atom byte = ⊥

-- all tokens of a text without a fault
abbrev pub AreRead : List ℕ → List Token → Type 0
AreRead text found = (word_fault text ≡ None) × (found ≡ tokens_of text)

-- the fault of a text, unless memory ran out
abbrev pub IsFaultOf : WordFault → List ℕ → Type 0
IsFaultOf Memory text = Unit {0}
IsFaultOf fault text = word_fault text ≡ Some fault

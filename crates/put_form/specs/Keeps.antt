-- Attributes to be kept, as words: keys and values, which are texts.
use Rattle.std.specs.Prelude.{◌≡◌, ℕ, Bool, not, ◌&&◌, ◌==◌, ◌-◌, nat_le, List, [], length, map, Option, None, Some, is_some, is_ok, Result, Ok, Err, find, unwrap_or, if◌then◌else◌}
use Rattle.std.specs.List.{list_all}
use Rattle.tcl_words.specs.GroupText.{is_group_text}
use Rattle.tcl_words.specs.TopWords.{atom_of, raw_of}
use Rattle.tcl_words.specs.declared.token.Token.{Token}
use Rattle.tcl_words.specs.declared.token.Word.{Word}
use Rattle.name_core.specs.NameText.{read_name}
use Rattle.object_set.specs.declared.kept.KeptAttr.{KeptAttr}
use Rattle.put_form.specs.Pairs.{Pair}
use Rattle.put_form.specs.declared.fault.PutFault.{PutFault}
use Rattle.put_form.specs.declared.fault.PutFault.TheVariants.{Attr, Name}

-- a title, and the value of a kept attribute: at most 1,024 bytes, no line feed and no carriage return, and one group
-- where it stands between braces
abbrev pub is_text : List ℕ → Bool
is_text text = nat_le (length text) 1024 && list_all (λ b. not (b == 10) && not (b == 13)) text && is_group_text text

-- the raw text of a group, blanks included, or the atom
abbrev pub word_text : List ℕ → List Token → Word → List ℕ
word_text text tokens w = unwrap_or (raw_of text tokens w) (unwrap_or (atom_of text tokens w) [])

abbrev pub key_text : Option (List ℕ) → List ℕ
key_text None = []
key_text (Some key) = key

abbrev pub kept_attr : List ℕ → List Token → Pair → KeptAttr
kept_attr text tokens p = record { name = key_text p.key; value = word_text text tokens p.value }

-- a key that is an atom, and a value that is a text
abbrev pub has_form : List ℕ → List Token → Pair → Bool
has_form text tokens p = is_some p.key && is_text (word_text text tokens p.value)

abbrev pub is_named : Pair → Bool
is_named p = is_ok (read_name (key_text p.key))

-- the word of the first key that is no name
abbrev pub unnamed_at : Option Pair → Option PutFault
unnamed_at None = None
unnamed_at (Some p) = Some (Name (p.place - 1))

abbrev pub kept_or : Option PutFault → List KeptAttr → Result (List KeptAttr) PutFault
kept_or None kept = Ok kept
kept_or (Some fault) kept = Err fault

abbrev pub kept_with : List ℕ → List Token → List Pair → Result (List KeptAttr) PutFault
kept_with text tokens pairs =
    if not (length pairs == 0) && list_all (has_form text tokens) pairs then kept_or (unnamed_at (find (λ (p : Pair). not (is_named p)) pairs)) (map (kept_attr text tokens) pairs)
    else Err Attr

-- at least one key, each with a value, in the order of the words; or the first fault
abbrev pub kept_of : List ℕ → List Token → Option (List Pair) → Result (List KeptAttr) PutFault
kept_of text tokens None = Err Attr
kept_of text tokens (Some pairs) = kept_with text tokens pairs

-- what a call gave is these attributes or that fault, unless memory ran out
abbrev pub IsKeptRead : Result (List KeptAttr) PutFault → Result (List KeptAttr) PutFault → Type 0
IsKeptRead (Err PutFault.Memory) read = Unit {0}
IsKeptRead (Ok kept) read = read ≡ Ok kept
IsKeptRead (Err fault) read = read ≡ Err fault

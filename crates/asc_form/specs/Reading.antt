-- The directory that a text is: each command in turn makes one of the directory before it, or is refused. The first fault
-- that holds is answered, in the order of the lists.
use Rattle.std.specs.Prelude.{◌≡◌, ℕ, Bool, true, false, not, ◌&&◌, List, [], ◌∷◌, Option, None, Some, is_none, is_ok, Result, Ok, Err, codes, bytes_eq, if◌then◌else◌}
use Rattle.std.specs.Option.{option_map}
use Rattle.std.specs.Map.{set_value}
use Rattle.tcl_words.specs.Reading.{words_of}
use Rattle.tcl_words.specs.TopWords.{top_words, atom_of}
use Rattle.tcl_words.specs.declared.fault.WordFault.{WordFault}
use Rattle.tcl_words.specs.declared.token.Token.{Token}
use Rattle.tcl_words.specs.declared.token.Word.{Word}
use Rattle.name_core.specs.NameText.{read_name}
use Rattle.name_core.specs.Same.{same_name}
use Rattle.name_core.specs.declared.name.Name.{Name as NameOf}
use Rattle.word_values.specs.Atoms.{value_of}
use Rattle.object_set.specs.Keeping.{kept_after}
use Rattle.object_set.specs.Objects.{Parts}
use Rattle.object_set.specs.declared.kept.KeptAttr.{KeptAttr}
use Rattle.put_form.specs.Keeps.{is_text, kept_of}
use Rattle.put_form.specs.Pairs.{pairs_of}
use Rattle.put_form.specs.Puts.{Put, put_of}
use Rattle.put_form.specs.declared.fault.PutFault.{PutFault}
use Rattle.put_form.specs.declared.fault.PutFault.TheVariants as put
use Rattle.directory.specs.Edits.{appended, put_fault}
use Rattle.directory.specs.Listing.{Listing}
use Rattle.directory.specs.Walks.{Entries, object_of}
use Rattle.directory.specs.declared.fault.DirFault.{DirFault}
use Rattle.directory.specs.declared.fault.DirFault.TheVariants as dir
use Rattle.asc_form.specs.Commands.{Piece, pieces_of, first_byte, is_pound}
use Rattle.asc_form.specs.declared.fault.AscKind.{AscKind}
use Rattle.asc_form.specs.declared.fault.AscKind.TheVariants.{Words, NoType, Attr, Tree, Name, Number, Shape, Exists, Full, Cycle, Deep}
use Rattle.asc_form.specs.declared.fault.AscFault.{AscFault}
use Rattle.asc_form.specs.declared.fault.AscFault.TheVariants.{At, Memory}

-- what a command makes of a directory, or the kind of its fault
abbrev pub Made : Type 0
Made = Result Listing AscKind

-- the first fault that holds, else the directory
abbrev pub unless_kind : List (Option AscKind) → Listing → Made
unless_kind [] made = Ok made
unless_kind (Some kind ∷ rest) made = Err kind
unless_kind (None ∷ rest) made = unless_kind rest made

abbrev pub when : Bool → AscKind → Option AscKind
when holds kind = if holds then Some kind else None

-- a word that is this atom
abbrev pub is_word : List ℕ → Option (List ℕ) → Bool
is_word word None = false
is_word word (Some atom) = bytes_eq atom word

-- `title TEXT ..`
abbrev pub titled : Listing → List ℕ → Made
titled d text = unless_kind (when (not (is_text text)) Attr ∷ []) (record d { title = text })

abbrev pub title_made : Listing → List ℕ → List Token → List Word → Made
title_made d text tokens [] = Err NoType
title_made d text tokens (value ∷ rest) = titled d (value_of text tokens value rest)

-- `units mm`
abbrev pub units_made : Listing → List ℕ → List Token → List Word → Made
units_made d text tokens (unit ∷ []) = unless_kind (when (not (is_word (codes "mm") (atom_of text tokens unit))) NoType ∷ []) d
units_made d text tokens _ = Err NoType

-- the kind of an object's fault; want of memory is told apart and does not come here
abbrev pub kind_of_put : PutFault → AscKind
kind_of_put put.NoType = NoType
kind_of_put put.Attr = Attr
kind_of_put put.Tree = Tree
kind_of_put (put.Name word) = Name
kind_of_put (put.Number word) = Number
kind_of_put (put.Shape fault) = Shape
kind_of_put PutFault.Memory = Words

-- the kind of a directory's fault; that a name is missing, and want of memory, do not come here
abbrev pub kind_of_dir : DirFault → AscKind
kind_of_dir dir.Exists = Exists
kind_of_dir dir.Missing = Words
kind_of_dir dir.Full = Full
kind_of_dir (dir.Cycle name) = Cycle
kind_of_dir (dir.Deep levels) = Deep
kind_of_dir DirFault.Memory = Words

abbrev pub put_into : Listing → Put → Made
put_into d (Err fault) = Err (kind_of_put fault)
put_into d (Ok made) = unless_kind (option_map kind_of_dir (put_fault d.objects made.0 made.1) ∷ []) (record d { objects = appended d.objects made.0 made.1 })

-- the object of a name keeps these attributes too
abbrev pub kept_in : Entries → NameOf → Parts → List KeptAttr → Entries
kept_in objects name object pairs = set_value (same_name name) objects (record object { kept = kept_after object.kept pairs })

abbrev pub kept_by : Listing → NameOf → List KeptAttr → Option Parts → Listing
kept_by d name pairs None = d
kept_by d name pairs (Some object) = record d { objects = kept_in d.objects name object pairs }

abbrev pub is_name : Option (List ℕ) → Bool
is_name None = false
is_name (Some name) = is_ok (read_name name)

abbrev pub text_or_none : Option (List ℕ) → List ℕ
text_or_none None = []
text_or_none (Some atom) = atom

-- a name that is one, and names no object
abbrev pub names_nothing : Entries → Option (List ℕ) → Bool
names_nothing objects name = is_name name && is_none (object_of objects (text_or_none name))

abbrev pub keep_fault : Result (List KeptAttr) PutFault → Option AscKind
keep_fault (Ok pairs) = None
keep_fault (Err fault) = Some (kind_of_put fault)

abbrev pub form_fault : Result (List KeptAttr) PutFault → Option AscKind
form_fault (Ok pairs) = None
form_fault (Err put.Attr) = Some Attr
form_fault (Err fault) = None

abbrev pub pairs_or_none : Result (List KeptAttr) PutFault → List KeptAttr
pairs_or_none (Ok pairs) = pairs
pairs_or_none (Err fault) = []

-- the form of the keys and values, that the name names an object, that it is a name, that the keys are names
abbrev pub keep_with : Listing → Option (List ℕ) → Result (List KeptAttr) PutFault → Made
keep_with d name pairs =
    unless_kind (form_fault pairs ∷ when (names_nothing d.objects name) Attr ∷ when (not (is_name name)) Name ∷ keep_fault pairs ∷ [])
    (kept_by d (text_or_none name) (pairs_or_none pairs) (object_of d.objects (text_or_none name)))

-- `attr set NAME KEY VALUE ..`
abbrev pub attr_made : Listing → List ℕ → List Token → List Word → Made
attr_made d text tokens (set ∷ name ∷ rest) =
    if is_word (codes "set") (atom_of text tokens set) then keep_with d (atom_of text tokens name) (kept_of text tokens (pairs_of text tokens 4 rest))
    else Err NoType
attr_made d text tokens _ = Err NoType

abbrev pub named_made : Listing → List ℕ → List Token → Word → List Word → Option (List ℕ) → Made
named_made d text tokens word rest None = Err NoType
named_made d text tokens word rest (Some name) =
    if bytes_eq name (codes "put") then put_into d (put_of text tokens (word ∷ rest))
    else (if bytes_eq name (codes "attr") then attr_made d text tokens rest
    else (if bytes_eq name (codes "title") then title_made d text tokens rest
    else (if bytes_eq name (codes "units") then units_made d text tokens rest else Err NoType)))

abbrev pub words_made : Listing → List ℕ → List Token → List Word → Made
words_made d text tokens [] = Ok d
words_made d text tokens (word ∷ rest) = named_made d text tokens word rest (atom_of text tokens word)

abbrev pub read_made : Listing → List ℕ → Result (List Token) WordFault → Made
read_made d text (Err fault) = Err Words
read_made d text (Ok tokens) = words_made d text tokens (top_words tokens)

-- a blank command, and one whose first byte that is no blank is `#`, is passed over
abbrev pub is_passed : Option ℕ → Bool
is_passed None = true
is_passed (Some byte) = is_pound (Some byte)

-- what a command makes of a directory
abbrev pub made_by : Listing → List ℕ → Made
made_by d text = if is_passed (first_byte text) then Ok d else read_made d text (words_of text)

-- what the commands that are left make of it; a fault ends it, with the line of its command
abbrev pub made_from : (Listing → Result Listing AscFault) → ℕ → Made → Result Listing AscFault
made_from others line (Err kind) = Err (At line kind)
made_from others line (Ok d) = others d

abbrev pub made_of : List Piece → Listing → Result Listing AscFault
made_of [] d = Ok d
made_of (p ∷ rest) d = made_from (made_of rest) p.line (made_by d p.text)

abbrev pub empty : Listing
empty = record { title = []; objects = [] }

-- the directory of a text, or the line and the kind of its first fault
abbrev pub directory_of : List ℕ → Result Listing AscFault
directory_of text = made_of (pieces_of text) empty

-- what a call gave is that directory or that fault, unless memory ran out
abbrev pub IsAsc : Result Listing AscFault → List ℕ → Type 0
IsAsc (Err Memory) text = Unit {0}
IsAsc (Ok d) text = directory_of text ≡ Ok d
IsAsc (Err fault) text = directory_of text ≡ Err fault

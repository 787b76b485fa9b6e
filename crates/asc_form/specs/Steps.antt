-- The words of the code: a command step by step.
use Rattle.std.specs.Prelude.{◌≡◌, ◌⊎◌, ℕ, List, Option, None, Some, is_some, is_ok, Result, Ok, Err, if◌then◌else◌}
use Rattle.name_core.specs.NameText.{read_name}
use Rattle.name_core.specs.declared.name.Name.{Name as NameOf}
use Rattle.put_form.specs.declared.fault.PutFault.{PutFault}
use Rattle.directory.specs.declared.fault.DirFault.{DirFault}
use Rattle.directory.specs.Walks.{Entries, object_of}
use Rattle.asc_form.specs.Progress.{Progress, Makes, MakesObject}
use Rattle.asc_form.specs.Reading.{Made, kind_of_put, kind_of_dir}
use Rattle.asc_form.specs.declared.fault.AscKind.{AscKind}
use Rattle.asc_form.specs.declared.fault.AscKind.TheVariants.{Attr, Name}
use Rattle.asc_form.specs.declared.fault.AscFault.{AscFault}
use Rattle.asc_form.specs.declared.fault.AscFault.TheVariants.{At}
use Rattle.asc_form.specs.declared.kinds.CommandFault.{CommandFault}
use Rattle.asc_form.specs.declared.kinds.CommandFault.TheVariants.{Faulty}

-- the name that a word is, of an object that is there
abbrev pub named : Entries → Option (List ℕ) → Result NameOf AscKind
named objects None = Err Name
named objects (Some word) = if is_ok (read_name word) then (if is_some (object_of objects word) then Ok word else Err Attr) else Err Name

abbrev pub of_put : PutFault → CommandFault
of_put PutFault.Memory = CommandFault.Memory
of_put fault = Faulty (kind_of_put fault)

-- this fault, if a word names an object, else why it names none
abbrev pub if_named : Result NameOf AscKind → CommandFault → CommandFault
if_named (Ok name) fault = fault
if_named (Err kind) fault = Faulty kind

-- why attributes with this fault are not kept of that object: a fault of their form comes first
abbrev pub unkept : Result NameOf AscKind → PutFault → CommandFault
unkept found PutFault.Attr = Faulty Attr
unkept found PutFault.Memory = CommandFault.Memory
unkept found fault = if_named found (of_put fault)

abbrev pub of_directory : DirFault → CommandFault
of_directory DirFault.Memory = CommandFault.Memory
of_directory fault = Faulty (kind_of_dir fault)

abbrev pub at_line : ℕ → CommandFault → AscFault
at_line line CommandFault.Memory = AscFault.Memory
at_line line (Faulty kind) = At line kind

-- a command made of a directory what it makes, or has this fault, unless memory ran out. An object is put whether or not it
-- may stand
abbrev pub IsMade : Made → Progress → Result (Unit {0}) CommandFault → Progress → Type 0
IsMade made before (Ok u) after = Makes made before after ⊎ MakesObject made before after
IsMade made before (Err (Faulty kind)) after = (made ≡ Err kind) × (after ≡ before)
IsMade made before (Err CommandFault.Memory) after = Unit {0}

-- the same, where the command begins on this line
abbrev pub at : Progress → ℕ → Progress
at p line = record p { line = line }

abbrev pub IsMadeAt : Made → Progress → ℕ → Result (Unit {0}) AscFault → Progress → Type 0
IsMadeAt made before line (Ok u) after = Makes made (at before line) after ⊎ MakesObject made (at before line) after
IsMadeAt made before line (Err (At place kind)) after = (place ≡ line) × (made ≡ Err kind) × (after ≡ at before line)
IsMadeAt made before line (Err AscFault.Memory) after = Unit {0}

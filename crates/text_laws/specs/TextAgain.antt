-- What is written of a directory reads as the same directory.
use Rattle.std.specs.Prelude.{◌≡◌, Ok}
use Rattle.std.specs.List.{AllByRecursion}
use Rattle.name_core.specs.declared.name.Name.{Name}
use Rattle.object_set.specs.Objects.{Parts}
use Rattle.directory.specs.Listing.{Listing}
use Rattle.directory.specs.Walks.{Entries}
use Rattle.asc_form.specs.Reading.{directory_of}
use Rattle.asc_form.specs.Written.{written}
use Rattle.text_laws.specs.PutAgain.{IsPutAgain}

-- a directory whose objects' `put` lines read as these objects
abbrev pub HaveLinesAgain : Entries → Type 0
HaveLinesAgain objects = AllByRecursion (λ (e : Name × Parts). IsPutAgain e.0 e.1.body) objects

-- the written text of a directory reads as the same directory
abbrev pub IsTextAgain : Listing → Type 0
IsTextAgain d = directory_of (written d) ≡ Ok d

-- directories with one written text are one
abbrev pub AreToldApart : Listing → Listing → Type 0
AreToldApart d e = written d ≡ written e → d ≡ e

-- the `put` line of an entry reads as its object
abbrev pub IsEntryAgain : Name × Parts → Type 0
IsEntryAgain e = IsPutAgain e.0 e.1.body

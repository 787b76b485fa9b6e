-- The words of the code: a text that is being read. Each object that has a new name is put, and whether the objects may
-- stand is judged when the reading ends.
use Rattle.std.specs.Prelude.{◌≡◌, ◌⊎◌, ℕ, List, [], ◌∷◌, ◌++◌, length, slice_index, Some, Result, Ok, Err}
use Rattle.std.specs.Option.{option_map}
use Rattle.name_core.specs.declared.name.Name.{Name}
use Rattle.object_set.specs.Objects.{Parts}
use Rattle.directory.specs.Drafts.{IsFirstRefused}
use Rattle.directory.specs.Edits.{appended, put_fault}
use Rattle.directory.specs.Listing.{Listing}
use Rattle.directory.specs.Walks.{Entries, IsSound}
use Rattle.directory.specs.declared.fault.DirFault.{DirFault}
use Rattle.asc_form.specs.Gathering.{Gathered, IsGathered}
use Rattle.asc_form.specs.Reading.{Made, empty, unless_kind, kind_of_dir, directory_of}
use Rattle.asc_form.specs.declared.fault.AscFault.{AscFault}
use Rattle.asc_form.specs.declared.fault.AscFault.TheVariants.{At, Memory}

-- the title and the objects with all that these are to keep, the objects as they were put, the lines on which their
-- commands begin, and the line of the command in hand
pub record Progress : Type 0 where
  pub made : Listing
  pub bare : Entries
  pub lines : List ℕ
  pub line : ℕ

abbrev pub nothing_read : Progress
nothing_read = record { made = empty; bare = []; lines = []; line = 0 }

-- what a reader keeps
pub record IsReader (objects : Entries) (pairs : Gathered) (lines : List ℕ) : Type 0 where
  pub gathered : IsGathered objects pairs
  pub even : length lines ≡ length objects

-- the same with an object more, which the command in hand puts
abbrev pub with_object : Progress → Name → Parts → Progress
with_object p name object = record {
  made = record p.made { objects = appended p.made.objects name object };
  bare = appended p.bare name object;
  lines = p.lines ++ p.line ∷ [];
  line = p.line;
}

-- an object is put, whether or not it may stand, or has a fault that is told at once
abbrev pub PutsObject : Name → Parts → Progress → Result (Unit {0}) DirFault → Progress → Type 0
PutsObject name object before (Ok u) after = (after ≡ with_object before name object) × (put_fault before.made.objects name object ≡ put_fault before.bare name object)
PutsObject name object before (Err DirFault.Memory) after = Unit {0}
PutsObject name object before (Err fault) after = (put_fault before.made.objects name object ≡ Some fault) × (after ≡ before)

-- a command that puts no object
pub record Makes (made : Made) (before after : Progress) : Type 0 where
  pub is : made ≡ Ok after.made
  pub bare : after.bare ≡ before.bare
  pub lines : after.lines ≡ before.lines

-- a command that puts an object
pub record MakesObject (made : Made) (before after : Progress) : Type 0 where
  pub name : Name
  pub object : Parts
  pub is : made ≡ unless_kind (option_map kind_of_dir (put_fault before.bare name object) ∷ []) after.made
  pub bare : after.bare ≡ appended before.bare name object
  pub lines : after.lines ≡ before.lines ++ before.line ∷ []

-- what is known of the whole of a text, where `others` is what the commands that are left make of a directory: as long as
-- the objects may stand, the whole is what these make of the directory so far, and once an object may not be put, the whole
-- is its fault on the line of its command
pub record HasRead (whole : Result Listing AscFault) (others : Listing → Result Listing AscFault) (p : Progress) : Type 0 where
  pub sound : IsSound p.bare → others p.made ≡ whole
  pub refused : (i : ℕ) (fault : DirFault) → IsFirstRefused p.bare i fault → whole ≡ Err (At (slice_index p.lines i) (kind_of_dir fault))
  pub even : length p.lines ≡ length p.bare

-- what is made at the end of a reading, which came to the end of the text or to a fault
abbrev pub ended : Result (Unit {0}) AscFault → Listing → Result Listing AscFault
ended (Ok u) d = Ok d
ended (Err fault) d = Err fault

-- the commands of a text were read, up to the first with a fault
abbrev pub IsRead : List ℕ → Result (Unit {0}) AscFault → Progress → Type 0
IsRead text (Err Memory) after = Unit {0}
IsRead text read after = HasRead (directory_of text) (ended read) after

-- the first object that may not be put is told, on the line of its command
abbrev pub IsToldAt : Entries → List ℕ → Result Listing AscFault → Type 0
IsToldAt objects lines result = (i : ℕ) × (fault : DirFault) × IsFirstRefused objects i fault × (result ≡ Err (At (slice_index lines i) (kind_of_dir fault)))

-- the objects are a directory, or the first that may not be put is told
abbrev pub IsSettled : Listing → List ℕ → Result Listing AscFault → Type 0
IsSettled draft lines (Err Memory) = Unit {0}
IsSettled draft lines (Ok d) = IsSound draft.objects × (d ≡ draft)
IsSettled draft lines (Err fault) = IsToldAt draft.objects lines (Err fault)

-- what is answered of a reading
abbrev pub IsEnd : Progress → Result (Unit {0}) AscFault → Result Listing AscFault → Type 0
IsEnd p read (Err Memory) = Unit {0}
IsEnd p read result = (IsSound p.bare × (ended read p.made ≡ result)) ⊎ IsToldAt p.bare p.lines result

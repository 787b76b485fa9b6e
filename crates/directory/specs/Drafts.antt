-- A list that is gathered pair by pair and judged when all of it is there.
use Rattle.std.specs.Prelude.{◌≡◌, ℕ, [], ◌∷◌, take, length, nat_le, slice_get, is_some, Option, Some, Result, Ok, Err}
use Rattle.name_core.specs.declared.name.Name.{Name}
use Rattle.object_set.specs.Objects.{Parts}
use Rattle.directory.specs.declared.draft.DraftFault.{DraftFault}
use Rattle.directory.specs.declared.draft.DraftFault.TheVariants.{At, Memory}
use Rattle.directory.specs.declared.fault.DirFault.{DirFault}
use Rattle.directory.specs.declared.fault.DirFault.TheVariants.{Exists, Full}
use Rattle.directory.specs.Edits.{first_of, when, put_fault}
use Rattle.directory.specs.Listing.{Listing}
use Rattle.directory.specs.Walks.{Entries, IsSound, object_of, most_objects}

-- why a pair is not gathered, whatever its object is
abbrev pub gather_fault : Entries → Name → Option DirFault
gather_fault dir a = first_of (when (is_some (object_of dir a)) Exists ∷ when (nat_le most_objects (length dir)) Full ∷ [])

-- the pairs before the place are sound, and the pair there may not be put behind them, for this fault
pub record IsFirstRefused (dir : Entries) (place : ℕ) (fault : DirFault) : Type 0 where
  pub name : Name
  pub object : Parts
  pub there : slice_get dir place ≡ Some (name, object)
  pub before : IsSound (take place dir)
  pub refused : put_fault (take place dir) name object ≡ Some fault

-- why the list may not stand
abbrev pub IsRefused : Entries → DraftFault → Type 0
IsRefused dir (At place fault) = IsFirstRefused dir place fault
IsRefused dir Memory = Unit {0}

-- a draft becomes the directory that it is, where that is sound, and else its first pair that may not be put is told,
-- unless memory runs out
abbrev pub SettlesTo : Listing → Result Listing DraftFault → Type 0
SettlesTo draft (Ok d) = IsSound draft.objects × (d ≡ draft)
SettlesTo draft (Err fault) = IsRefused draft.objects fault

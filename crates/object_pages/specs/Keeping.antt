-- What the type of a list of objects keeps.
use Rattle.std.specs.Prelude.{◌≡◌, ◌≤◌, ℕ, List, length, Option, None, Some, IsSome}
use Rattle.std.specs.List.{IsDistinct}
use Rattle.std.specs.Map.{keys_of}
use Rattle.name_core.specs.declared.name.Name.{Name}
use Rattle.name_core.specs.Same.{same_name}
use Rattle.shared_pages.specs.Pages.{pairs_of, page_of}
use Rattle.shared_pages.specs.Buckets.{Shelves, value_of}
use Rattle.object_pages.specs.Entries.{object_of, most_objects, AreFew}
use Rattle.object_pages.specs.Tallies.{Pages, tally_of, AreReferences}

-- a name stands on the page of this number, or on none
abbrev pub StandsOn : Pages → Name → Option ℕ → Type 0
StandsOn pages a (Some number) = IsSome (object_of (page_of pages number) a)
StandsOn pages a None = object_of (pairs_of pages) a ≡ None

-- the place that is kept for each name is the page on which it stands
abbrev pub ArePlaces : Pages → Shelves ℕ → Type 0
ArePlaces pages places = (a : Name) → StandsOn pages a (value_of places a)

-- the counts that are kept for each name are those of the leaves that name it
abbrev pub AreCounted : Pages → Shelves (List (ℕ × ℕ)) → Type 0
AreCounted pages tallies = (a : Name) → AreReferences pages a (tally_of tallies a)

-- no name stands twice, there are not too many objects, and places and counts are those of the pages
pub record IsListed (pages : Pages) (places : Shelves ℕ) (tallies : Shelves (List (ℕ × ℕ))) : Type 0 where
  pub distinct : IsDistinct same_name (keys_of (pairs_of pages))
  pub small : length (pairs_of pages) ≤ most_objects
  pub few : AreFew (pairs_of pages)
  pub placed : ArePlaces pages places
  pub counted : AreCounted pages tallies

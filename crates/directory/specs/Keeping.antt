-- What the types of a directory, of its contents and of a draft keep.
use Rattle.std.specs.Prelude.{◌≤◌, ℕ, List, length}
use Rattle.object_set.specs.TextValues.{IsTextValue}
use Rattle.shared_pages.specs.Buckets.{Shelves}
use Rattle.object_pages.specs.Entries.{AreFew}
use Rattle.directory.specs.Walks.{Entries, IsSound, most_objects}
use Rattle.directory.specs.Depths.{AreDepths}

-- the list is sound, and the depths beside it are those of the list
pub record IsKept (objects : Entries) (levels : Shelves ℕ) : Type 0 where
  pub sound : IsSound objects
  pub known : AreDepths objects levels

-- what a draft keeps: its title is a text that can be one, no name stands twice, and there are not too many objects
pub record IsGathered (title : List ℕ) (objects : Entries) : Type 0 where
  pub text : IsTextValue title
  pub small : length objects ≤ most_objects
  pub few : AreFew objects

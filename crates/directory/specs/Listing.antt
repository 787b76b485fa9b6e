-- A directory as callers see it.
use Rattle.std.specs.Prelude.{ℕ, List}
use Rattle.directory.specs.Walks.{Entries}

-- a directory as contracts see it: a title, and names with their objects, in order
pub record Listing : Type 0 where
  pub title : List ℕ
  pub objects : Entries

-- What contracts see of the objects in memory.
use Rattle.std.specs.Prelude.{ℕ, List, Option}
use Rattle.outside_core.specs.declared.calls.Calls.{Calls}
use Rattle.outside_core.specs.declared.traits.File.{File}

-- the bytes that are left
pub record SourceView : Type 0 where
  pub rest : List ℕ
  pub calls : Calls

-- the bytes held, how many it may hold, and the most that one write takes
pub record SinkView : Type 0 where
  pub bytes : List ℕ
  pub room : ℕ
  pub step : ℕ
  pub calls : Calls

-- the files in the order in which they were set, and those of them that were put
pub record ShelfView : Type 0 where
  pub files : List File
  pub puts : List File
  pub calls : Calls

-- what a reader has left or a writer holds, where it tells it, and how often it failed
pub record StreamView : Type 0 where
  pub known : Option (List ℕ)
  pub faults : ℕ

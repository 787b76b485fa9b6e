-- What the outside objects tell before and after a call, and what the call did to them. None is content that is not told,
-- of which nothing is said.
use Rattle.std.specs.Prelude.{◌≡◌, ◌++◌, ◌<◌, ℕ, List, Option, Some, IfSome, length, take}
use Rattle.std.specs.Io.KnownBytes.{Keeps}
use Rattle.outside_core.specs.Faults.{Rose}
use Rattle.outside_core.specs.Files.{bytes_in}
use Rattle.outside_core.specs.Told.{Advances, Stays}
use Rattle.outside_core.specs.declared.traits.File.{File}

pub record Outside : Type 0 where
  -- the bytes that the source has left
  pub left : Option (List ℕ)
  -- the bytes that the sink holds
  pub held : Option (List ℕ)
  -- the files of the shelf, and those of them that were put
  pub files : Option (List File)
  pub puts : Option (List File)
  -- how often a read of the source, a write to the sink, and a call on the shelf have failed
  pub reads : ℕ
  pub writes : ℕ
  pub calls : ℕ

abbrev pub outside : Option (List ℕ) → Option (List ℕ) → Option (List File) → Option (List File) → ℕ → ℕ → ℕ → Outside
outside left held files puts reads writes calls = record { left = left; held = held; files = files; puts = puts; reads = reads; writes = writes; calls = calls }

-- no call has failed
pub record IsQuiet (before after : Outside) : Type 0 where
  pub reads : after.reads ≡ before.reads
  pub writes : after.writes ≡ before.writes
  pub calls : after.calls ≡ before.calls

-- no count of faults has risen; one that stands at its last value counts as risen
pub record IsFaultless (before after : Outside) : Type 0 where
  pub reads : ¬ Rose before.reads after.reads
  pub writes : ¬ Rose before.writes after.writes
  pub calls : ¬ Rose before.calls after.calls

-- nothing is written, and no file is put; the source has lost first bytes of what it had left, or none
pub record IsUnwritten (before after : Outside) : Type 0 where
  pub left : Advances before.left after.left
  pub held : Keeps before.held after.held
  pub files : Stays before.files after.files
  pub puts : Stays before.puts after.puts

-- the puts have grown by these files
abbrev pub Added : Option (List File) → Option (List File) → List File → Type 0
Added puts puts' files = IfSome puts (λ told. puts' ≡ Some (told ++ files))

-- each name has the bytes of the last file of that name among those that there were and, behind them, these
abbrev pub AreSet : Option (List File) → Option (List File) → List File → Type 0
AreSet files files' set = IfSome files (λ told. (after : List File) × (files' ≡ Some after) × ((name : List ℕ) → bytes_in after name ≡ bytes_in (told ++ set) name))

-- these files are put one after the other: the list of puts has grown by them, and each is the file of its name
pub record HasGrown (files files' puts puts' : Option (List File)) (put : List File) : Type 0 where
  pub added : Added puts puts' put
  pub set : AreSet files files' put

-- some of these files are put, from the first on, and not all
pub record AreCutShort (files files' puts puts' : Option (List File)) (all : List File) : Type 0 where
  pub count : ℕ
  pub short : count < length all
  pub front : HasGrown files files' puts puts' (take count all)

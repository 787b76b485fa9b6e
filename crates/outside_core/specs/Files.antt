-- Files by name, as a list in the order in which they were set.
use Rattle.std.specs.Prelude.{◌≡◌, ◌≢◌, ℕ, List, Option, Some, IfSome, take, find, reverse}
use Rattle.std.specs.Option.{option_map}
use Rattle.name_core.specs.Same.{same_name}
use Rattle.outside_core.specs.declared.traits.File.{File}

-- the bytes of the last file of that name
abbrev pub bytes_in : List File → List ℕ → Option (List ℕ)
bytes_in files name = option_map (λ file. file.bytes) (find (λ file. same_name file.name name) (reverse files))

-- what a read of a file gives: none where there is no file of that name, else its first bytes, at most so many
abbrev pub Gives : Option (List File) → List ℕ → ℕ → Option (List ℕ) → Type 0
Gives files name most found = IfSome files (λ known. found ≡ option_map (take most) (bytes_in known name))

-- the file of that name has these bytes, and each other file stays
pub record HasSet (old new : List File) (name bytes : List ℕ) : Type 0 where
  pub here : bytes_in new name ≡ Some bytes
  pub others : (other : List ℕ) → other ≢ name → bytes_in new other ≡ bytes_in old other

-- what a put makes of files that may not be told: where they were told before they are told after, with this one
abbrev pub SetsFile : Option (List File) → Option (List File) → List ℕ → List ℕ → Type 0
SetsFile old new name bytes = IfSome old (λ before. (after : List File) × (new ≡ Some after) × HasSet before after name bytes)

-- What a sink holds after a write that was cut short.
use Rattle.std.specs.Prelude.{◌<◌, ℕ, List, Option, length, take}
use Rattle.std.specs.Io.KnownBytes.{Appends}

-- a proper prefix of the text was appended
pub record IsCutShort (old new : Option (List ℕ)) (text : List ℕ) : Type 0 where
  pub count : ℕ
  pub short : count < length text
  pub front : Appends old new (take count text)

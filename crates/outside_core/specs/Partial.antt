-- The name of a file that is not finished.
use Rattle.std.specs.Prelude.{ℕ, List, ◌++◌, codes}

-- a `.`, which no name begins with, the name, and `.partial`
abbrev pub partial_name : List ℕ → List ℕ
partial_name name = codes "." ++ name ++ codes ".partial"

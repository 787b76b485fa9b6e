-- What the cells of a job's pieces have.
use Rattle.std.specs.Prelude.{◌<◌, ℕ, List, Option, IfSome, length, slice_index_or}
use Rattle.tile_workers.specs.declared.cells.Shot.{Shot}

-- what a shot has is a result of its piece
abbrev pub IsOwn : {X : Type 0} → (ℕ → X → Type 0) → Shot X → Type 0
IsOwn gives shot = gives shot.piece shot.out

-- what a cell has, if anything, is a result of its piece
abbrev pub HaveOwn : {X : Type 0} → (ℕ → X → Type 0) → List (Option X) → Type 0
HaveOwn {X} gives cells = (i : ℕ) (d : Option X) → i < length cells → IfSome (slice_index_or cells i d) (gives i)

-- What the results of a job are.
use Rattle.std.specs.Prelude.{◌<◌, ℕ, List, slice_index_or}

-- each of the first n pieces has its result at its place in the list
abbrev pub AreResults : {X : Type 0} → (ℕ → X → Type 0) → ℕ → List X → Type 0
AreResults {X} gives n all = (i : ℕ) (d : X) → i < n → gives i (slice_index_or all i d)

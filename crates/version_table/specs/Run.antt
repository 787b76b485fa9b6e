-- The run of a machine over the entries of a history.
use Rattle.version_table.specs.declared.rule.Noted.{Noted}
use Rattle.std.specs.Prelude.{◌≡◌, ℕ, ◌+◌, Bool, cond, List, [], ◌∷◌}

-- an entry: its session, its command, and whether it is marked as answered for want of memory
abbrev pub note_of : {C : Type 0} → ℕ → C → Bool → Noted C
note_of session command memory = record { session = session; command = command; memory = memory }

-- what `open` was given
pub record Told (S : Type 0) : Type 0 where
  pub state : S
  pub calls : ℕ

-- what the book of a history holds: what `open` was given, and all entries
pub record BookView (S C : Type 0) : Type 0 where
  pub told : Told S
  pub entries : List (Noted C)

-- a state and a number of calls that `open` was given
abbrev pub told_of : {S : Type 0} → S → ℕ → Told S
told_of state calls = record { state = state; calls = calls }

module _ {S C : Type 0} (next : S → C → S) where
  -- the state after one entry: one that is marked changes nothing
  abbrev pub after : S → Noted C → S
  after s e = cond e.memory s (next s e.command)

  -- the state after all of the entries
  abbrev pub state_after : S → List (Noted C) → S
  state_after s [] = s
  state_after s (e ∷ es) = state_after (after s e) es

module _ {S C : Type 0} (next : S → C → S) (commits : S → C → Bool) where
  -- whether the entry made a version
  abbrev pub commit_of : S → Noted C → ℕ
  commit_of s e = cond e.memory 0 (cond (commits s e.command) 1 0)

  -- how many of the entries made a version
  abbrev pub commits_in : S → List (Noted C) → ℕ
  commits_in s [] = 0
  commits_in s (e ∷ es) = commit_of s e + commits_in (after next s e) es

  -- the state and the version that a run over the entries ends with
  pub record IsRun (opening : S) (entries : List (Noted C)) (state : S) (version : ℕ) : Type 0 where
    pub state_is : state ≡ state_after next opening entries
    pub version_is : version ≡ commits_in opening entries

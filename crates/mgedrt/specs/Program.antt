-- What the program does with its words, and what it says of a status.
use Rattle.std.specs.Prelude.{◌≡◌, ◌⊎◌, ℕ, List, [], ◌∷◌, ◌++◌, Option, Result, Ok, Err}
use Rattle.std.specs.Io.KnownBytes.{Appends}
use Rattle.outside_core.specs.Faults.{Rose}
use Rattle.outside_core.specs.Transfers.{IsCutShort}
use Rattle.mged_top.specs.Calls.{Explains, IsComplete}
use Rattle.mged_top.specs.Outside.{Outside, IsQuiet, IsUnwritten}
use Rattle.mged_top.specs.Statuses.{exit_number, status_line}
use Rattle.mged_top.specs.declared.status.Status.{Status}
use Rattle.mged_top.specs.declared.status.Status.TheVariants.{Usage, Memory}
use Rattle.mgedrt.specs.declared.program.WordsFault.{WordsFault}
use Rattle.mgedrt.specs.declared.program.WordsFault.TheVariants as words

-- the words as texts, where they could be had
abbrev pub given_words : {W : Type 0} → (W → List (List ℕ)) → Result W WordsFault → Result (List (List ℕ)) WordsFault
given_words texts (Ok given) = Ok (texts given)
given_words texts (Err fault) = Err fault

abbrev pub wordless_status : WordsFault → Status
wordless_status words.NotText = Usage
wordless_status WordsFault.Memory = Memory

-- a call with these words ended with this status, or there are none, and nothing is done
abbrev pub Calls : Result (List (List ℕ)) WordsFault → Status → Outside → Outside → Type 0
Calls (Ok given) status before after = Explains status given before after × IsComplete status given before after
Calls (Err words.NotText) status before after = (status ≡ Usage) × (IsUnwritten before after × IsQuiet before after)
Calls (Err WordsFault.Memory) status before after = (status ≡ Memory) × (IsUnwritten before after × IsQuiet before after)

-- the line of a status with its line feed, and nothing where it has none
abbrev pub ended_line : List ℕ → List ℕ
ended_line [] = []
ended_line (byte ∷ line) = byte ∷ (line ++ 10 ∷ [])

-- the error stream has grown by a text, or by first bytes of it and not all where it failed
abbrev pub IsSaid : List ℕ → Option (List ℕ) → Option (List ℕ) → ℕ → ℕ → Type 0
IsSaid text held held' faults faults' = (Appends held held' text × (faults' ≡ faults)) ⊎ (IsCutShort held held' text × Rose faults faults')

-- the call ended with a status, whose number is the program's, and whose line is said
pub record IsProgram (given : Result (List (List ℕ)) WordsFault) (before after : Outside) (error error' : Option (List ℕ)) (faults faults' number : ℕ) : Type 0 where
  pub status : Status
  pub called : Calls given status before after
  pub numbered : number ≡ exit_number status
  pub said : IsSaid (ended_line (status_line status)) error error' faults faults'

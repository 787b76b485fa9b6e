-- The two kinds of answer, where no file goes with them.
use Rattle.std.specs.Prelude.{ℕ, List, None}
use Rattle.transcript.specs.Run.{Answer, Accepted, Refused}

-- the answer of an accepted command without a file
abbrev pub accepted : ℕ → List (List ℕ) → Answer (Unit {0})
accepted version lines = record { version = version; reply = Accepted lines None }

-- the answer of a refused command
abbrev pub refused : ℕ → List ℕ → Answer (Unit {0})
refused version text = record { version = version; reply = Refused text }

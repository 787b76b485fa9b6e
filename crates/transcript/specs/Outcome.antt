-- What the bytes and the files of a run are, with the order and the marks that the bytes themselves show.
use Rattle.std.specs.Prelude.{◌≡◌, ℕ, Bool, List}
use Rattle.transcript.specs.Merge.{Entry, IsMerge}
use Rattle.transcript.specs.Run.{Rules, State, Answer, run_of, merged_script, any_refused, files_of}
use Rattle.transcript.specs.Transcript.{transcript_of}
use Rattle.transcript.specs.Reading.{order_in, marks_in}

module _ {D L C F : Type 0} (rules : Rules D L C F) where
  -- the run of the script, merged by the order that the bytes' first line prints, with the marks in the bytes
  abbrev pub run_shown : State D L → (ℕ → List C) → List ℕ → List (Entry (Answer F))
  run_shown start script bytes = run_of rules start (merged_script rules script (order_in bytes) (marks_in bytes))

  -- The order that the first line prints is a merge of the script, and bytes, files and whether a command is
  -- refused are those of the plain evaluator on that order.
  pub record IsOutcome (start : State D L) (script : ℕ → List C) (bytes : List ℕ) (files : List F) (some_refused : Bool) : Type 0 where
    pub merge : IsMerge (order_in bytes) script
    pub text : bytes ≡ transcript_of (run_shown start script bytes)
    pub files_put : files ≡ files_of (run_shown start script bytes)
    pub refused : some_refused ≡ any_refused (run_shown start script bytes)

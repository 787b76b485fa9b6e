-- What a run of a script gives: its bytes, its files, and whether a command is refused.
use Rattle.std.specs.Prelude.{◌≡◌, ◌≤◌, ℕ, Bool, List, All}
use Rattle.outside_core.specs.declared.traits.File.{File}
use Rattle.transcript.specs.Merge.{Entry, lane, merged}
use Rattle.transcript.specs.Outcome.{IsOutcome}
use Rattle.transcript.specs.Reading.{order_in}
use Rattle.transcript.specs.Run.{files_of}
use Rattle.transcript.specs.Transcript.{transcript}
use Rattle.command_set.specs.declared.command.Command.{Command}
use Rattle.directory.specs.Listing.{Listing}
use Rattle.session_run.specs.Replies.{core_rules, start_from}
use Rattle.session_run.specs.declared.answer.Answer.{Answer}
use Rattle.script_run.specs.Answers.{core_answers}

-- the files of sessions' answers, in an order of sessions
abbrev pub files_among : List ℕ → List (List Answer) → List File
files_among order lists = files_of (merged order (core_answers lists))

-- the number of a session
abbrev pub IsOfEight : ℕ → Type 0
IsOfEight number = (1 ≤ number) × (number ≤ 8)

-- a run of these commands from this directory: its bytes, which are the transcript of an order and of the sessions' answers,
-- its files in that order, and whether a command is refused
pub record IsRun (start : Listing) (commands : List (Entry Command)) (bytes order : List ℕ) (lists : List (List Answer)) (some_refused : Bool) : Type 0 where
  pub outcome : IsOutcome core_rules (start_from start) (lane commands) bytes (files_among order lists) some_refused
  pub sessions : All (λ d. (1 ≤ d) × (d ≤ 8)) order
  pub written : bytes ≡ transcript order (core_answers lists)

-- the same, where the first line prints this order
pub record IsOrderedRun (start : Listing) (commands : List (Entry Command)) (asked bytes order : List ℕ) (lists : List (List Answer)) (some_refused : Bool) : Type 0 where
  pub run : IsRun start commands bytes order lists some_refused
  pub in_order : order_in bytes ≡ asked

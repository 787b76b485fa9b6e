-- The sessions of a script that run at the same time: what each is to run, and what it has run.
use Rattle.std.specs.Prelude.{◌≡◌, ◌≤◌, ◌<◌, ℕ, List, [], None, Some, Option, filter, length, map, nat_lt}
use Rattle.atomic_table.specs.Seated.{TableId}
use Rattle.outside_core.specs.declared.traits.File.{File}
use Rattle.transcript.specs.Merge.{Entry, lane}
use Rattle.version_table.specs.Passes.{PassView, pass_of}
use Rattle.session_merge.specs.Joined.{Done, HaveRun, HaveSeen, all_together, answers_of, passes_of}
use Rattle.command_set.specs.declared.command.Command.{Command}
use Rattle.directory.specs.Listing.{Listing}
use Rattle.session_run.specs.Answers.{core_answer}
use Rattle.session_run.specs.Replies.{core_rules, nothing_used, start_from}
use Rattle.session_run.specs.Sessions.{HasRun}
use Rattle.script_run.specs.Answers.{core_answers}
use Rattle.session_run.specs.declared.answer.Answer.{Answer}
use Rattle.script_run.specs.declared.at_once.Finished.{Finished}
use Rattle.script_run.specs.declared.tasks.Task.{Task}

-- a session's pass at first: it has a call for each of the session's commands, and has seen nothing
abbrev pub own_pass : TableId → List (Entry Command) → ℕ → PassView Command
own_pass id script number = pass_of id number [] [] (length (lane script number))

-- A session of the script is to run its commands, with a pass of its own.
pub record IsTask (id : TableId) (script : List (Entry Command)) (t : Task) : Type 0 where
  pub number : (1 ≤ t.number) × (t.number ≤ 8)
  pub session : t.session.session ≡ t.number
  pub commands : t.session.commands ≡ lane script t.number
  pub own : t.session.own ≡ nothing_used
  pub pass : t.pass ≡ own_pass id script t.number

-- the task of the session of this number; none exactly where the session has no command
abbrev pub IsTaskOf : TableId → List (Entry Command) → ℕ → Option Task → Type 0
IsTaskOf id script number None = lane script number ≡ []
IsTaskOf id script number (Some t) = (0 < length (lane script number)) × (t.number ≡ number) × IsTask id script t

-- a pass of this table that is the session's, with a call for each of its commands
pub record CanRun (id : TableId) (t : Task) : Type 0 where
  pub table : t.pass.table ≡ id
  pub session : t.pass.session ≡ t.session.session
  pub calls : length t.session.commands ≤ t.pass.left

-- what a task was to run has been run
pub record IsRunOf (opening : Listing) (t : Task) (f : Finished) : Type 0 where
  pub number : f.number ≡ t.number
  pub ran : HasRun opening t.session.own t.session.commands t.pass f.pass f.answers

-- one of the eight sessions, with its pass of this table
pub record CanJoin (id : TableId) (f : Finished) : Type 0 where
  pub number : (1 ≤ f.number) × (f.number ≤ 8)
  pub session : f.pass.session ≡ f.number
  pub table : f.pass.table ≡ id

-- what a session has run, as plain data
abbrev pub done_of : Finished → Done Command File
done_of f = record { pass = f.pass; answers = map core_answer f.answers }

abbrev pub all_done : List Finished → List (Done Command File)
all_done finished = map done_of finished

abbrev pub number_of : Task → ℕ
number_of t = t.number

-- those of some sessions that have a command
abbrev pub those_with : List (Entry Command) → List ℕ → List ℕ
those_with script numbers = filter (λ number. nat_lt 0 (length (lane script number))) numbers

-- All sessions of the script have run, each with a pass of its own; then the passes were joined to the first one, and the
-- answers put into the lists of their sessions.
pub record AreAllRun (opening : Listing) (id : TableId) (script : List (Entry Command)) (pass : PassView Command) (lists : List (List Answer)) : Type 0 where
  pub done : List (Done Command File)
  pub run : HaveRun core_rules (start_from opening) (lane script) done
  pub pass_is : pass ≡ all_together (pass_of id 0 [] [] 0) (passes_of done)
  pub seen : HaveSeen pass.seen (passes_of done)
  pub answers : (session : ℕ) → core_answers lists session ≡ answers_of done session

-- The lists of a run's code as the plain data of its definition.
use Rattle.std.specs.Prelude.{ℕ, zero, suc, List, [], drop, get_or, length, map, flat_map, take, Bool, is_err}
use Rattle.std.specs.Arc.{arc_value}
use Rattle.outside_core.specs.declared.traits.File.{File}
use Rattle.transcript.specs.Run as run
use Rattle.transcript.specs.Transcript.{session_lines, sessions}
use Rattle.command_set.specs.declared.command.Command.{Command}
use Rattle.directory.specs.Listing.{Listing}
use Rattle.session_run.specs.Answers.{core_answer, core_book}
use Rattle.session_run.specs.Replies.{nothing_used}
use Rattle.session_run.specs.declared.answer.Answer.{Answer}
use Rattle.session_run.specs.declared.answer.Book.{Book}
use Rattle.session_run.specs.Own.{OwnState}
use Rattle.script_run.specs.declared.run.Lane.{Lane}

-- the answers of each session, where the first list is that of session 1
abbrev pub answers_at : List (List Answer) → ℕ → List Answer
answers_at lists zero = []
answers_at lists (suc n) = get_or lists n []

abbrev pub core_answers : List (List Answer) → ℕ → List (run.Answer File)
core_answers lists session = map core_answer (answers_at lists session)

-- what each session has of its own, where the first is session 1
abbrev pub own_at : List OwnState → ℕ → OwnState
own_at owns zero = nothing_used
own_at owns (suc n) = get_or owns n nothing_used

-- the state of the core
abbrev pub core_state : Book → List OwnState → run.State Listing OwnState
core_state book owns = record { book = core_book book; own = own_at owns }

abbrev pub is_refused : Answer → Bool
is_refused answer = is_err answer.outcome

-- the lines of the first so many sessions
abbrev pub all_session_lines : List (List Answer) → ℕ → List (List ℕ)
all_session_lines lists n = flat_map (λ session. session_lines session 1 (core_answers lists session)) (take n sessions)

-- what each session of a run on one thread has of its own
abbrev pub owns_of : List Lane → List OwnState
owns_of lanes = map (λ (one : Lane). one.own) lanes

-- the answers that each has
abbrev pub lists_of : List Lane → List (List Answer)
lists_of lanes = map (λ (one : Lane). one.answers) lanes

-- the commands of a session that have no answer yet
abbrev pub left_of : Lane → List Command
left_of one = drop (length one.answers) (map arc_value one.commands.items)

-- the list of a session, where the first is that of session 1
abbrev pub list_at : {X : Type 0} → List (List X) → ℕ → List X
list_at lists zero = []
list_at lists (suc n) = get_or lists n []

-- the commands of a session that have no answer yet, by its number
abbrev pub left_at : List Lane → ℕ → List Command
left_at lanes session = list_at (map left_of lanes) session

-- The run in an order, step by step, in the words of the code.
use Rattle.std.specs.Prelude.{◌≡◌, ◌≤◌, ℕ, List, [], ◌∷◌, ◌++◌, map}
use Rattle.transcript.specs.Merge.{Entry, lane, order_of}
use Rattle.transcript.specs.Run.{Marked, State, answer_of, book_after, own_after, run_of}
use Rattle.session_merge.specs.Answered.{shown_as}
use Rattle.command_set.specs.declared.command.Command.{Command}
use Rattle.directory.specs.Listing.{Listing}
use Rattle.session_run.specs.Answers.{core_answer, core_book}
use Rattle.session_run.specs.Kept.{IsCurrent}
use Rattle.session_run.specs.Laws.{state_after}
use Rattle.session_run.specs.Replies.{core_rules, most_used}
use Rattle.session_run.specs.declared.answer.Answer.{Answer}
use Rattle.session_run.specs.declared.answer.Book.{Book}
use Rattle.session_run.specs.Own.{OwnState}
use Rattle.script_run.specs.Answers.{core_answers, core_state, left_at, left_of, lists_of, owns_of}
use Rattle.script_run.specs.declared.run.Lane.{Lane}

-- a session may be asked more: there is room in what it has used, and what it keeps can be used with the book's directory
pub record IsReady (book : Book) (one : Lane) : Type 0 where
  pub quota : one.own.used ≤ most_used
  pub current : IsCurrent one.keep book.version book.directory.objects

-- The next command of a session was answered, with the mark that its answer shows.
pub record HasAnswered (old new : Book) (one one' : Lane) : Type 0 where
  pub command : Command
  pub answer : Answer
  pub left : left_of one ≡ command ∷ left_of one'
  pub answers : one'.answers ≡ one.answers ++ answer ∷ []
  pub answer_is : core_answer answer ≡ answer_of core_rules (core_book old) one.own (shown_as command (core_answer answer))
  pub book : core_book new ≡ book_after core_rules (core_book old) (shown_as command (core_answer answer))
  pub own : one'.own ≡ own_after core_rules (core_book old) one.own (shown_as command (core_answer answer))

-- Commands of a script's sessions were answered in this order: they and what is left are the script, their answers are the run of them, and book and sessions are as they leave them.
pub record HaveAnswered (start : State Listing OwnState) (script : ℕ → List Command) (order : List ℕ) (book : Book) (lanes : List Lane) : Type 0 where
  pub done : List (Entry (Marked Command))
  pub order_is : order_of done ≡ order
  pub commands : (session : ℕ) → map (λ (m : Marked Command). m.command) (lane done session) ++ left_at lanes session ≡ script session
  pub answers : (session : ℕ) → core_answers (lists_of lanes) session ≡ lane (run_of core_rules start done) session
  pub state : core_state book (owns_of lanes) ≡ state_after start done

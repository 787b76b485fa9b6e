-- Sessions, and what a run of one does over a table that other sessions share.
use Rattle.std.specs.Prelude.{◌≡◌, ◌≤◌, ◌+◌, ◌&&◌, ℕ, zero, suc, Bool, false, not, List, [], ◌∷◌, ◌++◌, length, map}
use Rattle.std.specs.List.{AllByRecursion}
use mathlib.Core.List.{IsPrefix}
use Rattle.transcript.specs.Run as run
use Rattle.transcript.specs.Run.{answer_of, book_after, own_after}
use Rattle.version_table.specs.declared.rule.Noted.{Noted}
use Rattle.version_table.specs.Passes.{Adds, PassView}
use Rattle.version_table.specs.Places.{IsRising}
use Rattle.version_table.specs.Run.{note_of, commits_in, state_after}
use Rattle.session_merge.specs.Answered.{AreAnswered, book_past, says_memory, shown_as}
use Rattle.session_merge.specs.Noted.{entries_of, marked_of}
use Rattle.command_set.specs.declared.command.Command.{Command}
use Rattle.directory.specs.Listing.{Listing}
use Rattle.edit_core.specs.Modelling.{next, commits, is_look}
use Rattle.session_run.specs.Answers.{core_answer}
use Rattle.session_run.specs.Kept.{IsCurrent}
use Rattle.session_run.specs.Replies.{core_rules}
use Rattle.session_run.specs.declared.answer.Answer.{Answer}
use Rattle.session_run.specs.Own.{OwnState}
use Rattle.session_run.specs.declared.keep.Keep.{Keep}

-- its number, its commands in sequence, what it has of its own, and the scenes that it keeps
pub record SessionView : Type 0 where
  pub session : ℕ
  pub commands : List Command
  pub own : OwnState
  pub keep : Keep

-- the book of this directory and version
abbrev pub book_at : Listing → ℕ → run.Book Listing
book_at d version = record { directory = d; version = version }

-- the book from which the history of a table starts
abbrev pub start_book : Listing → run.Book Listing
start_book d = book_at d 0

module _ {C : Type 0} where
  -- the mark of the entry at a place, false past the end
  abbrev pub mark_at : List (Noted C) → ℕ → Bool
  mark_at [] place = false
  mark_at (e ∷ es) zero = e.memory
  mark_at (e ∷ es) (suc n) = mark_at es n

module _ {C F : Type 0} (looks : C → Bool) where
  -- the mark that a command's entry is to have: that of an edit that is answered `memory`
  abbrev pub mark_of : C → run.Answer F → Bool
  mark_of command answer = not (looks command) && says_memory answer

  abbrev pub marks_of : List C → List (run.Answer F) → List Bool
  marks_of [] answers = []
  marks_of (c ∷ commands) [] = []
  marks_of (c ∷ commands) (a ∷ answers) = mark_of c a ∷ marks_of commands answers

-- The session's own entries have grown by its commands, each once, in sequence, and past what its pass had seen. Each was answered at its entry's place, with what its own earlier commands left of what the session came with.
pub record HasRun (opening : Listing) (own : OwnState) (commands : List Command) (old new : PassView Command) (answers : List Answer) : Type 0 where
  pub places : List ℕ
  pub grown : new.own ≡ old.own ++ places
  pub rising : IsRising places
  pub later : AllByRecursion (λ (p : ℕ). length old.seen ≤ p) places
  pub answered : AreAnswered core_rules old.session (start_book opening) (entries_of new.seen) places own commands (map core_answer answers)
  pub marks : map (mark_at new.seen) places ≡ marks_of is_look commands (map core_answer answers)
  pub begins : IsPrefix old.seen new.seen
  pub left : new.left + length commands ≡ old.left
  pub table : new.table ≡ old.table
  pub session : new.session ≡ old.session

-- One command was answered, as the session's next entry, with what the session had of its own; and what it has then.
pub record IsNext (opening : Listing) (command : Command) (own : OwnState) (old new : PassView Command) (answer : Answer) (kept : OwnState) : Type 0 where
  pub before : List (Noted Command)
  pub memory : Bool
  pub adds : Adds before (note_of old.session command memory) old new
  pub mark : memory ≡ mark_of is_look command (core_answer answer)
  pub agrees : (book : run.Book Listing) → book_after core_rules book (marked_of (note_of old.session command memory)) ≡ book_after core_rules book (shown_as command (core_answer answer))
  pub answer_is : core_answer answer ≡ answer_of core_rules (book_past core_rules (start_book opening) (entries_of before)) own (shown_as command (core_answer answer))
  pub kept_is : kept ≡ own_after core_rules (book_past core_rules (start_book opening) (entries_of before)) own (shown_as command (core_answer answer))

-- what a session keeps can be used with the directory after a history
abbrev pub IsCurrentPast : Keep → Listing → List (Noted Command) → Type 0
IsCurrentPast keep opening seen = IsCurrent keep (commits_in next commits opening seen) (state_after next opening seen).objects

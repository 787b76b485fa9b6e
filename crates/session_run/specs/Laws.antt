-- What a reader may conclude of any run by the rules of the core.
use Rattle.std.specs.Prelude.{◌≡◌, ◌≤◌, ◌+◌, ◌&&◌, not, ℕ, List, [], ◌∷◌, ◌++◌, map, take, is_some, if◌then◌else◌}
use Rattle.outside_core.specs.declared.traits.File.{File}
use Rattle.transcript.specs.Merge.{Entry, lane}
use Rattle.transcript.specs.Run.{Answer, Book, Marked, State, answered, book_after, run_of, stepped}
use Rattle.command_set.specs.declared.command.Command.{Command}
use Rattle.directory.specs.Listing.{Listing}
use Rattle.session_run.specs.Replies.{core_rules, directory_made}
use Rattle.session_run.specs.Own.{OwnState}

-- numbers of which none is less than the one before it, and the first not less than another
abbrev pub NeverFall : ℕ → List ℕ → Type 0
NeverFall before [] = Unit {0}
NeverFall before (n ∷ rest) = (before ≤ n) × NeverFall n rest

abbrev pub versions_of : List (Answer File) → List ℕ
versions_of answers = map (λ (a : Answer File). a.version) answers

-- along the commands of one session versions never fall, whatever the other sessions do
abbrev pub VersionsNeverFall : Type 0
VersionsNeverFall = (start : State Listing OwnState) (entries : List (Entry (Marked Command))) (session : ℕ) → NeverFall start.book.version (versions_of (lane (run_of core_rules start entries) session))

-- a command raises the version by one where it is an edit that is accepted and not marked, and else leaves it
abbrev pub RisesWithEdits : Type 0
RisesWithEdits = (book : Book Listing) (m : Marked Command) → (book_after core_rules book m).version ≡ book.version + (if not m.memory && is_some (directory_made book.directory m.command) then 1 else 0)

-- the state after some commands
abbrev pub state_after : State Listing OwnState → List (Entry (Marked Command)) → State Listing OwnState
state_after s [] = s
state_after s (e ∷ rest) = state_after (stepped core_rules s e) rest

-- the answer of a command is that of the state at its place, which the commands before it have made
abbrev pub AnswersAtPlaces : Type 0
AnswersAtPlaces =
    (start : State Listing OwnState) (before later : List (Entry (Marked Command))) (e : Entry (Marked Command))
    → run_of core_rules start (before ++ e ∷ later)
    ≡ run_of core_rules start before ++ answered core_rules (state_after start before) e ∷ run_of core_rules (stepped core_rules (state_after start before) e) later

-- the directory and the version at a place of a run, which so many of its commands have made: each answer shows the version at the place after its command
abbrev pub book_at_place : State Listing OwnState → List (Entry (Marked Command)) → ℕ → Book Listing
book_at_place start entries place = (state_after start (take place entries)).book

-- at any two places of one run that have one version, whatever its first book and version, the directory is the same
abbrev pub OneDirectory : Type 0
OneDirectory =
    (start : State Listing OwnState) (entries : List (Entry (Marked Command))) (one other : ℕ)
    → (book_at_place start entries one).version ≡ (book_at_place start entries other).version
    → (book_at_place start entries one).directory ≡ (book_at_place start entries other).directory

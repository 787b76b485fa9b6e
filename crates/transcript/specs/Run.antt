-- The plain evaluator: one command after the other, on one thread.
use Rattle.std.specs.Prelude.{ℕ, ◌+◌, ◌==◌, Bool, true, false, cond, List, [], ◌∷◌, ◌++◌, Option, None, Some, codes}
use Rattle.std.specs.List.{list_any}
use Rattle.transcript.specs.Merge.{Entry, merged}

-- a command, with the mark that it was answered `memory`
pub record Marked (C : Type 0) : Type 0 where
  pub command : C
  pub memory : Bool

abbrev pub marked : {C : Type 0} → List C → List Bool → List (Marked C)
marked [] marks = []
marked (c ∷ rest) [] = []
marked (c ∷ rest) (m ∷ marks) = record { command = c; memory = m } ∷ marked rest marks

-- What a command is answered: it is accepted, with the lines of a body and perhaps a file to put, or it is
-- refused, with the text of a refusal.
pub data Reply (F : Type 0) : Type 0 where
  Accepted : List (List ℕ) → Option F → Reply F
  Refused : List ℕ → Reply F

-- a reply, with the version after the command
pub record Answer (F : Type 0) : Type 0 where
  pub version : ℕ
  pub reply : Reply F

-- The rules of one command. D is a directory, L is what a session has of its own, C is a command, F a file.
pub record Rules (D L C F : Type 0) : Type 0 where
  -- the new directory, exactly where the command is an edit that is accepted
  pub edited : D → C → Option D
  -- what the command is answered
  pub reply : D → L → C → Reply F
  -- what the session has of its own after the command
  pub kept : D → L → C → L
  -- what the session has of its own after a command that was answered `memory`
  pub forgotten : L → C → L

-- the shared directory and its version, which rises by one with each accepted edit
pub record Book (D : Type 0) : Type 0 where
  pub directory : D
  pub version : ℕ

-- the state of the core: the book, and what each session has of its own
pub record State (D L : Type 0) : Type 0 where
  pub book : Book D
  pub own : ℕ → L

abbrev pub committed : {D : Type 0} → Book D → Option D → Book D
committed book None = book
committed book (Some directory) = record { directory = directory; version = book.version + 1 }

module _ {D L C F : Type 0} (rules : Rules D L C F) where
  -- the directory and version after a command; one that was answered for want of memory changes nothing
  abbrev pub book_after : Book D → Marked C → Book D
  book_after book m = cond m.memory book (committed book (rules.edited book.directory m.command))

  -- what the command's own session has after it
  abbrev pub own_after : Book D → L → Marked C → L
  own_after book own m = cond m.memory (rules.forgotten own m.command) (rules.kept book.directory own m.command)

  -- what a command is answered, where it stands in the run
  abbrev pub answer_of : Book D → L → Marked C → Answer F
  answer_of book own m = record {
    version = (book_after book m).version;
    reply = cond m.memory (Refused (codes "memory")) (rules.reply book.directory own m.command);
  }

  -- the core step: the state after one command of one session. No other session's own part changes
  abbrev pub stepped : State D L → Entry (Marked C) → State D L
  stepped s e = record {
    book = book_after s.book e.item;
    own = λ session. cond (e.session == session) (own_after s.book (s.own session) e.item) (s.own session);
  }

  -- its answer
  abbrev pub answered : State D L → Entry (Marked C) → Entry (Answer F)
  answered s e = record { session = e.session; item = answer_of s.book (s.own e.session) e.item }

  -- the run: the core step, from the first entry of a merged list to its last
  abbrev pub run_of : State D L → List (Entry (Marked C)) → List (Entry (Answer F))
  run_of s [] = []
  run_of s (e ∷ rest) = answered s e ∷ run_of (stepped s e) rest

  -- the commands of a script, merged by an order, with marks
  abbrev pub merged_script : (ℕ → List C) → List ℕ → (ℕ → List Bool) → List (Entry (Marked C))
  merged_script script order marks = merged order (λ session. marked (script session) (marks session))

-- whether a command is refused
abbrev pub refuses : {F : Type 0} → Reply F → Bool
refuses (Accepted lines file) = false
refuses (Refused text) = true

abbrev pub answer_refuses : {F : Type 0} → Answer F → Bool
answer_refuses answer = refuses answer.reply

-- whether a run has a refused command
abbrev pub any_refused : {F : Type 0} → List (Entry (Answer F)) → Bool
any_refused {F} run = list_any (λ (e : Entry (Answer F)). answer_refuses e.item) run

abbrev pub file_in : {F : Type 0} → Reply F → List F
file_in (Accepted lines None) = []
file_in (Accepted lines (Some file)) = file ∷ []
file_in (Refused text) = []

-- the files of the accepted commands, in the order of the run
abbrev pub files_of : {F : Type 0} → List (Entry (Answer F)) → List F
files_of [] = []
files_of (e ∷ rest) = file_in (e.item).reply ++ files_of rest

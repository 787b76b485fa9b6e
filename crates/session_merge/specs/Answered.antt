-- What sessions were answered, each command at its own place of one history.
use Rattle.std.specs.Prelude.{◌≡◌, ◌⊎◌, ◌<◌, ℕ, Bool, false, List, [], ◌∷◌, Some, length, take, codes, bytes_eq, slice_get}
use Rattle.transcript.specs.Merge.{Entry, entry, once_taken}
use Rattle.transcript.specs.Run.{Answer, Accepted, Book, Marked, Refused, Reply, Rules, State, answer_of, book_after, own_after}
use Rattle.transcript.specs.Transcript.{sessions}
use Rattle.version_table.specs.Places.{IsRising, times, total}

abbrev pub reply_says_memory : {F : Type 0} → Reply F → Bool
reply_says_memory (Accepted lines file) = false
reply_says_memory (Refused text) = bytes_eq text (codes "memory")

-- whether the answer is the refusal for want of memory
abbrev pub says_memory : {F : Type 0} → Answer F → Bool
says_memory answer = reply_says_memory answer.reply

-- the command, with the mark that its answer shows
abbrev pub shown_as : {C F : Type 0} → C → Answer F → Marked C
shown_as command answer = record { command = command; memory = says_memory answer }

-- the mark that the first of some answers shows
abbrev pub first_shown : {F : Type 0} → List (Answer F) → Bool
first_shown [] = false
first_shown (answer ∷ rest) = says_memory answer

-- the history, where each entry has the mark that the answer of its command shows
abbrev pub remarked : {C F : Type 0} → List (Entry (Marked C)) → (ℕ → List (Answer F)) → List (Entry (Marked C))
remarked [] answers = []
remarked (e ∷ rest) answers = entry e.session (record { command = (e.item).command; memory = first_shown (answers e.session) }) ∷ remarked rest (once_taken e.session answers)

module _ {D L C F : Type 0} (rules : Rules D L C F) where
  -- the book after some entries
  abbrev pub book_past : Book D → List (Entry (Marked C)) → Book D
  book_past book [] = book
  book_past book (e ∷ rest) = book_past (book_after rules book e.item) rest

  -- One command of a session was answered at a place of the history, with what the session had of its own.
  pub record IsAnsweredAt (session : ℕ) (start : Book D) (history : List (Entry (Marked C))) (place : ℕ) (own : L) (command : C) (answer : Answer F) : Type 0 where
    pub noted : Marked C
    pub there : slice_get history place ≡ Some (entry session noted)
    pub same : noted.command ≡ command
    -- The history's mark and the one that the answer shows change the book alike: a look that found no memory is not marked in the history.
    pub agrees : (book : Book D) → book_after rules book noted ≡ book_after rules book (shown_as command answer)
    pub answer_is : answer ≡ answer_of rules (book_past start (take place history)) own (shown_as command answer)

  -- the commands of a session were answered one after the other, at these places
  abbrev pub AreAnswered : ℕ → Book D → List (Entry (Marked C)) → List ℕ → L → List C → List (Answer F) → Type 0
  AreAnswered session start history [] own [] [] = Unit {0}
  AreAnswered session start history [] own [] (a ∷ answers) = ⊥
  AreAnswered session start history [] own (c ∷ commands) answers = ⊥
  AreAnswered session start history (p ∷ places) own [] answers = ⊥
  AreAnswered session start history (p ∷ places) own (c ∷ commands) [] = ⊥
  AreAnswered session start history (p ∷ places) own (c ∷ commands) (a ∷ answers) =
      IsAnsweredAt session start history p own c a
      × AreAnswered session start history places (own_after rules (book_past start (take p history)) own (shown_as c a)) commands answers

  -- what the session has of its own after them
  abbrev pub own_past : Book D → List (Entry (Marked C)) → List ℕ → L → List C → List (Answer F) → L
  own_past start history [] own commands answers = own
  own_past start history (p ∷ places) own [] answers = own
  own_past start history (p ∷ places) own (c ∷ commands) [] = own
  own_past start history (p ∷ places) own (c ∷ commands) (a ∷ answers) =
      own_past start history places (own_after rules (book_past start (take p history)) own (shown_as c a)) commands answers

  -- The sessions 1 to 8 have run their scripts at places of their own, of which each place of the history is one, once.
  pub record AreSessions (start : State D L) (script : ℕ → List C) (history : List (Entry (Marked C))) (places : ℕ → List ℕ) (answers : ℕ → List (Answer F)) : Type 0 where
    pub rising : (session : ℕ) → IsRising (places session)
    pub ran : (session : ℕ) → AreAnswered session start.book history (places session) (start.own session) (script session) (answers session)
    pub once : (n : ℕ) → n < length history → total (λ session. times n (places session)) sessions ≡ 1
    pub no_others : (session : ℕ) → (session ≡ 0) ⊎ (8 < session) → places session ≡ []

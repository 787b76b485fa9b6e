-- What follows where sessions were answered at their own places of one history.
use Rattle.std.specs.Prelude.{◌≡◌, ◌<◌, ◌≤◌, ◌+◌, ◌^◌, ℕ, List, [], ◌∷◌, ◌++◌, length, map, take}
use mathlib.Core.List.{IsPrefix}
use Rattle.std.specs.List.{AllByRecursion}
use Rattle.transcript.specs.Merge.{Entry, lane, merged, order_of}
use Rattle.transcript.specs.Outcome.{IsOutcome}
use Rattle.transcript.specs.Run.{Answer, Book, Marked, Rules, State, any_refused, files_of, own_after, run_of}
use Rattle.transcript.specs.Transcript.{sessions, transcript}
use Rattle.version_table.specs.Passes.{PassView, together}
use Rattle.version_table.specs.Places.{places_from, total}
use Rattle.version_table.specs.declared.rule.Noted.{Noted}
use Rattle.version_table.specs.Run.{commits_in, state_after}
use Rattle.session_merge.specs.Answered.{AreAnswered, AreSessions, IsAnsweredAt, book_past, own_past, remarked, shown_as}
use Rattle.session_merge.specs.Joined.{Done, HaveRun, HaveSeen, all_together, answers_of, passes_of, places_of}
use Rattle.session_merge.specs.Readable.{IsReadable, Tells}
use Rattle.session_merge.specs.Noted.{commits_of, entries_of, next_of}

module _ (D L C F : Type 0) where
  -- what was answered stays answered where the history goes on
  abbrev pub StaysAnswered : Type 0
  StaysAnswered =
      (rules : Rules D L C F) (session : ℕ) (start : Book D) (history more : List (Entry (Marked C))) (places : List ℕ) (own : L) (commands : List C) (answers : List (Answer F))
      → AreAnswered rules session start history places own commands answers
      → AreAnswered rules session start (history ++ more) places own commands answers
      × (own_past rules start (history ++ more) places own commands answers ≡ own_past rules start history places own commands answers)

  -- one command more
  abbrev pub GoesOn : Type 0
  GoesOn =
      (rules : Rules D L C F) (session : ℕ) (start : Book D) (history : List (Entry (Marked C))) (places : List ℕ) (own : L) (commands : List C) (answers : List (Answer F)) (place : ℕ) (command : C) (answer : Answer F)
      → AreAnswered rules session start history places own commands answers → IsAnsweredAt rules session start history place (own_past rules start history places own commands answers) command answer
      → AreAnswered rules session start history (places ++ place ∷ []) own (commands ++ command ∷ []) (answers ++ answer ∷ [])
      × (own_past rules start history (places ++ place ∷ []) own (commands ++ command ∷ []) (answers ++ answer ∷ [])
      ≡ own_after rules (book_past rules start (take place history)) (own_past rules start history places own commands answers) (shown_as command answer))

  -- The answers of the sessions, merged by the order of the history, are the run of its entries, each marked as its answer shows; and these are the commands of the scripts.
  abbrev pub AreOneRun : Type 0
  AreOneRun =
      (rules : Rules D L C F) (start : State D L) (script : ℕ → List C) (history : List (Entry (Marked C))) (places : ℕ → List ℕ) (answers : ℕ → List (Answer F))
      → AreSessions rules start script history places answers
      → (merged (order_of history) answers ≡ run_of rules start (remarked history answers))
      × ((session : ℕ) → map (λ (m : Marked C). m.command) (lane (remarked history answers) session) ≡ script session)

  -- The transcript of the answers is an outcome of the scripts, where each answer can be read back, and no reply of the rules to a command of them is `memory`.
  abbrev pub AreOutcome : Type 0
  AreOutcome =
      (rules : Rules D L C F) (start : State D L) (script : ℕ → List C) (history : List (Entry (Marked C))) (places : ℕ → List ℕ) (answers : ℕ → List (Answer F))
      → AreSessions rules start script history places answers
      → ((session : ℕ) → AllByRecursion IsReadable (answers session)) → length history + 1 < 2 ^ 64
      → ((session : ℕ) → AllByRecursion (Tells rules) (script session))
      → IsOutcome rules start script (transcript (order_of history) answers) (files_of (merged (order_of history) answers)) (any_refused (merged (order_of history) answers))

  -- the directory and the version after a history are those that its table counts
  abbrev pub IsCounted : Type 0
  IsCounted =
      (rules : Rules D L C F) (directory : D) (version : ℕ) (history : List (Noted C))
      → book_past rules (record { directory = directory; version = version }) (entries_of history)
      ≡ record { directory = state_after (next_of rules) directory history; version = version + commits_in (next_of rules) (commits_of rules) directory history }

  -- Versions never fall where the history goes on, and where the version is the same, so is the directory.
  abbrev pub IsKeptByVersion : Type 0
  IsKeptByVersion =
      (rules : Rules D L C F) (directory : D) (history more : List (Noted C))
      → (commits_in (next_of rules) (commits_of rules) directory history ≤ commits_in (next_of rules) (commits_of rules) directory (history ++ more))
      × (commits_in (next_of rules) (commits_of rules) directory (history ++ more) ≡ commits_in (next_of rules) (commits_of rules) directory history
      → state_after (next_of rules) directory (history ++ more) ≡ state_after (next_of rules) directory history)

  -- One pass more is joined in: it is then all of them, and what each of them had seen begins what it has seen.
  abbrev pub IsJoinedNext : Type 0
  IsJoinedNext =
      (p : PassView C) (qs : List (PassView C)) (q old new : PassView C)
      → old ≡ all_together p qs → HaveSeen old.seen qs
      → new ≡ together old q → IsPrefix old.seen new.seen → IsPrefix q.seen new.seen
      → (new ≡ all_together p (qs ++ q ∷ [])) × HaveSeen new.seen (qs ++ q ∷ [])

  -- Where the passes that sessions have run with are joined into one that has each place of its history, they are sessions of that history.
  abbrev pub AreJoined : Type 0
  AreJoined =
      (rules : Rules D L C F) (start : State D L) (script : ℕ → List C) (p : PassView C) (ds : List (Done C F)) (final : PassView C)
      → HaveRun rules start script ds → p.own ≡ [] → final ≡ all_together p (passes_of ds)
      → HaveSeen final.seen (passes_of ds) → final.own ≡ places_from 0 (length final.seen)
      → AreSessions rules start script (entries_of final.seen) (places_of ds) (answers_of ds)

  -- That one has the calls that the first pass has left, and an entry for each command of the scripts.
  abbrev pub AreAllCalls : Type 0
  AreAllCalls =
      (rules : Rules D L C F) (start : State D L) (script : ℕ → List C) (p : PassView C) (ds : List (Done C F))
      → HaveRun rules start script ds
      → ((all_together p (passes_of ds)).left ≡ p.left) × (length (all_together p (passes_of ds)).own ≡ length p.own + total (λ k. length (script k)) sessions)

  -- The sessions 1 to 8 have all entries of a list among them, where it has no others; and the first of them never have more.
  abbrev pub AreAllLanes : Type 0
  AreAllLanes =
      (es : List (Entry C))
      → (AllByRecursion (λ (e : Entry C). (1 ≤ e.session) × (e.session ≤ 8)) es → total (λ k. length (lane es k)) sessions ≡ length es)
      × ((i : ℕ) → total (λ k. length (lane es k)) (take i sessions) ≤ length es)
      × ((i : ℕ) → i < 8 → total (λ k. length (lane es k)) (take (i + 1) sessions) ≡ total (λ k. length (lane es k)) (take i sessions) + length (lane es (i + 1)))

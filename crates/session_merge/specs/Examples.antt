-- A history of three entries of two sessions, at which the definitions hold, and one at which they do not.
use Rattle.std.specs.Prelude.{◌≡◌, ◌⊎◌, ◌<◌, ◌==◌, ℕ, zero, suc, true, false, List, [], ◌∷◌, length, Some, codes, refl}
use Rattle.std.proofs.Common.{◌∙◌, ap, arith}
use Rattle.std.specs.List.{list_any}
use Rattle.transcript.specs.Answers.{accepted, refused}
use Rattle.transcript.specs.Examples.{adding, start}
use Rattle.transcript.specs.Merge.{Entry, entry, merged, order_of}
use Rattle.transcript.specs.Run.{Answer, Book, Marked, book_after, run_of}
use Rattle.transcript.specs.Transcript.{sessions}
use Rattle.atomic_table.specs.Seated.{TableId}
use Rattle.version_table.specs.Passes.{pass_of}
use Rattle.version_table.specs.Places.{IsRising, times, total}
use Rattle.version_table.specs.declared.rule.Noted.{Noted}
use Rattle.version_table.specs.Run.{commits_in, note_of, state_after}
use Rattle.session_merge.specs.Answered.{AreAnswered, AreSessions, IsAnsweredAt, book_past, remarked}
use Rattle.session_merge.specs.Joined.{Done, HaveRun, all_together, passes_of, places_of, sessions_in}
use Rattle.session_merge.specs.Noted.{commits_of, entries_of, next_of}

abbrev pub unmarked : ℕ → Marked ℕ
unmarked command = record { command = command; memory = false }

-- session 2 adds 4, then session 1 adds 3 and looks: the command 0 changes nothing
abbrev pub history : List (Entry (Marked ℕ))
history = entry 2 (unmarked 4) ∷ entry 1 (unmarked 3) ∷ entry 1 (unmarked 0) ∷ []

abbrev pub script : ℕ → List ℕ
script zero = []
script (suc zero) = 3 ∷ 0 ∷ []
script (suc (suc zero)) = 4 ∷ []
script (suc (suc (suc k))) = []

abbrev pub places : ℕ → List ℕ
places zero = []
places (suc zero) = 1 ∷ 2 ∷ []
places (suc (suc zero)) = 0 ∷ []
places (suc (suc (suc k))) = []

-- the look found no memory, which the history does not show
abbrev pub answers : ℕ → List (Answer (Unit {0}))
answers zero = []
answers (suc zero) = accepted 2 ((4 ∷ []) ∷ []) ∷ refused 2 (codes "memory") ∷ []
answers (suc (suc zero)) = accepted 1 ((0 ∷ []) ∷ []) ∷ []
answers (suc (suc (suc k))) = []

ran : (k : ℕ) → AreAnswered adding k start.book history (places k) (start.own k) (script k) (answers k)
ran zero = tt
ran (suc zero) = (
  record { noted = unmarked 3; there = refl; same = refl; agrees = λ book. refl; answer_is = refl },
  (record { noted = unmarked 0; there = refl; same = refl; agrees = λ book. refl; answer_is = refl }, tt),
)
ran (suc (suc zero)) = (record { noted = unmarked 4; there = refl; same = refl; agrees = λ book. refl; answer_is = refl }, tt)
ran (suc (suc (suc k))) = tt

rising : (k : ℕ) → IsRising (places k)
rising zero = tt
rising (suc zero) = ((omega arith, tt), (tt, tt))
rising (suc (suc zero)) = (tt, tt)
rising (suc (suc (suc k))) = tt

once : (n : ℕ) → n < length history → total (λ k. times n (places k)) sessions ≡ 1
once zero below = refl
once (suc zero) below = refl
once (suc (suc zero)) below = refl
once (suc (suc (suc n))) below = absurd (omega (arith, below))

no_others : (k : ℕ) → (k ≡ 0) ⊎ (8 < k) → places k ≡ []
no_others zero far = refl
no_others (suc zero) far = absurd (omega (arith, far))
no_others (suc (suc zero)) far = absurd (omega (arith, far))
no_others (suc (suc (suc k))) far = refl

pub sessions_of_the_history : AreSessions adding start script history places answers
sessions_of_the_history = record { rising = rising; ran = ran; once = once; no_others = no_others }

-- so the answers, merged, are the run, in which the look has its mark
pub marks_of_the_run : remarked history answers ≡ entry 2 (unmarked 4) ∷ entry 1 (unmarked 3) ∷ entry 1 (record { command = 0; memory = true }) ∷ []
marks_of_the_run = refl

pub answers_are_a_run : merged (order_of history) answers ≡ run_of adding start (remarked history answers)
answers_are_a_run = refl

-- the two sessions' first answers, swapped
abbrev pub swapped : ℕ → List (Answer (Unit {0}))
swapped zero = []
swapped (suc zero) = accepted 1 ((0 ∷ []) ∷ []) ∷ refused 2 (codes "memory") ∷ []
swapped (suc (suc zero)) = accepted 2 ((4 ∷ []) ∷ []) ∷ []
swapped (suc (suc (suc k))) = []

pub swapped_answers_are_none : AreSessions adding start script history places swapped → ⊥
swapped_answers_are_none are =
    let one : Answer (Unit {0}) = accepted 1 ((0 ∷ []) ∷ []) in
    let two : Answer (Unit {0}) = accepted 2 ((4 ∷ []) ∷ []) in
    let same : one ≡ two = ((are.ran 1).0).answer_is in
    let versions : one.version ≡ two.version = ap (λ (a : Answer (Unit {0})). a.version) same in
    omega (arith, versions)

items : (e f : Entry (Marked ℕ)) → Some e ≡ Some f → e.item ≡ f.item
items e f there = let is : e ≡ f = cc in ap (λ (x : Entry (Marked ℕ)). x.item) is

-- an edit that is answered `memory` has its mark in the history too, for a book tells it from one that was made
pub unmarked_edit_is_no_memory : (own : Unit {0}) → IsAnsweredAt adding 2 start.book history 0 own 4 (refused 0 (codes "memory")) → ⊥
unmarked_edit_is_no_memory own at =
    let item : unmarked 4 ≡ at.noted = items (entry 2 (unmarked 4)) (entry 2 at.noted) at.there in
    let same : book_after adding start.book (unmarked 4) ≡ start.book = ap (book_after adding start.book) item ∙ at.agrees start.book in
    let versions : (book_after adding start.book (unmarked 4)).version ≡ (start.book).version = ap (λ (b : Book ℕ). b.version) same in
    omega (arith, versions)

-- the same history as one that a table counts: two of its entries made a version
abbrev pub noted : List (Noted ℕ)
noted = note_of 2 4 false ∷ note_of 1 3 false ∷ note_of 1 0 false ∷ []

pub entries_of_the_history : entries_of noted ≡ history
entries_of_the_history = refl

pub book_of_the_history : book_past adding start.book history ≡ record { directory = state_after (next_of adding) 0 noted; version = commits_in (next_of adding) (commits_of adding) 0 noted }
book_of_the_history = refl

pub version_of_the_history : commits_in (next_of adding) (commits_of adding) 0 noted ≡ 2
version_of_the_history = refl

-- Session 2 ran first, session 1 saw what it did: each has a pass, and a third pass takes both in.
abbrev pub first : TableId → Done ℕ (Unit {0})
first table = record { pass = pass_of table 1 noted (1 ∷ 2 ∷ []) 0; answers = answers 1 }

abbrev pub second : TableId → Done ℕ (Unit {0})
second table = record { pass = pass_of table 2 (note_of 2 4 false ∷ []) (0 ∷ []) 0; answers = answers 2 }

abbrev pub both : TableId → List (Done ℕ (Unit {0}))
both table = first table ∷ second table ∷ []

-- the joined pass has seen the longer history, and has the places of both in order
pub both_joined : (table : TableId) → all_together (pass_of table 0 [] [] 0) (passes_of (both table)) ≡ pass_of table 0 noted (0 ∷ 1 ∷ 2 ∷ []) 0
both_joined table = refl

pub places_of_both : (table : TableId) → (places_of (both table) 1 ≡ 1 ∷ 2 ∷ []) × (places_of (both table) 2 ≡ 0 ∷ []) × (places_of (both table) 3 ≡ [])
places_of_both table = (refl, refl, refl)

idle : (table : TableId) (k : ℕ) → list_any (λ s. s == k) (sessions_in (both table)) ≡ false → script k ≡ []
idle table zero none = refl
idle table (suc zero) none = absurd cc
idle table (suc (suc zero)) none = absurd cc
idle table (suc (suc (suc k))) none = refl

-- session 2's answer stands at the one place that its pass has seen
ran_second : AreAnswered adding 2 start.book (entries_of (note_of 2 4 false ∷ [])) (0 ∷ []) (start.own 2) (script 2) (answers 2)
ran_second = (record { noted = unmarked 4; there = refl; same = refl; agrees = λ book. refl; answer_is = refl }, tt)

pub both_have_run : (table : TableId) → HaveRun adding start script (both table)
both_have_run table = record {
  each = (
    record { session = (omega arith, omega arith); rising = rising 1; spent = refl; ran = ran 1 },
    (record { session = (omega arith, omega arith); rising = rising 2; spent = refl; ran = ran_second }, tt),
  );
  apart = ((omega arith, tt), (tt, tt));
  idle = idle table;
}

-- no session comes twice
pub no_session_twice : (table : TableId) → HaveRun adding start script (first table ∷ first table ∷ []) → ⊥
no_session_twice table run = omega (arith, run.apart.0.0)

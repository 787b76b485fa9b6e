-- Versions along a run, and the state at the place of a command.
use Rattle.std.proofs.Common.{◌≡◌, ◌≤◌, ◌<◌, ◌+◌, ◌==◌, ◌&&◌, ◌⊎◌, inl, inr, ◌∙◌, not, ℕ, zero, suc, Bool, true, false, cond, List, [], ◌∷◌, take, Option, Some, None, is_some, refl, ap, sym, arith}
use Rattle.outside_core.specs.declared.traits.File.{File}
use Rattle.transcript.specs.Merge.{Entry, lane}
use Rattle.transcript.specs.Run.{Answer, Book, Marked, State, answered, book_after, committed, run_of, stepped}
use Rattle.command_set.specs.declared.command.Command.{Command}
use Rattle.directory.specs.Listing.{Listing}
use Rattle.session_run.specs.Laws.{NeverFall, VersionsNeverFall, versions_of, RisesWithEdits, state_after, AnswersAtPlaces, book_at_place, OneDirectory}
use Rattle.session_run.specs.Replies.{core_rules, directory_made}
use Rattle.session_run.specs.Own.{OwnState}

committed_rises : (book : Book Listing) (made : Option Listing) → book.version ≤ (committed book made).version
committed_rises book None = omega arith
committed_rises book (Some directory) = omega arith

chosen_rises : (memory : Bool) (book : Book Listing) (made : Option Listing) → book.version ≤ (cond memory book (committed book made)).version
chosen_rises true book made = omega arith
chosen_rises false book made = committed_rises book made

rises : (book : Book Listing) (m : Marked Command) → book.version ≤ (book_after core_rules book m).version
rises book m = chosen_rises m.memory book (directory_made book.directory m.command)

falls_step : (t : Bool) (from : ℕ) (a : Answer File) (rest : List (Answer File)) → from ≤ a.version → NeverFall a.version (versions_of rest) → NeverFall from (versions_of rest) → NeverFall from (versions_of (cond t (a ∷ rest) rest))
falls_step true from a rest le one other = (le, one)
falls_step false from a rest le one other = other

never_fall : (from : ℕ) (s : State Listing OwnState) (entries : List (Entry (Marked Command))) (session : ℕ) → from ≤ s.book.version → NeverFall from (versions_of (lane (run_of core_rules s entries) session))
never_fall from s [] session le = tt
never_fall from s (e ∷ rest) session le =
    let next : State Listing OwnState = stepped core_rules s e in
    let up : s.book.version ≤ next.book.version = rises s.book e.item in
    falls_step (e.session == session) from (answered core_rules s e).item (lane (run_of core_rules next rest) session) (omega (arith, le, up))
    (never_fall next.book.version next rest session (omega arith)) (never_fall from next rest session (omega (arith, le, up)))

pub versions_never_fall : VersionsNeverFall
versions_never_fall start entries session = never_fall start.book.version start entries session (omega arith)

by_made : (book : Book Listing) (made : Option Listing) → (committed book made).version ≡ book.version + cond (is_some made) 1 0
by_made book None = omega arith
by_made book (Some directory) = refl

by_mark : (memory : Bool) (book : Book Listing) (made : Option Listing) → (cond memory book (committed book made)).version ≡ book.version + cond (not memory && is_some made) 1 0
by_mark true book made = omega arith
by_mark false book made = by_made book made

pub rises_with_edits : RisesWithEdits
rises_with_edits book m = by_mark m.memory book (directory_made book.directory m.command)

pub answers_at_places : AnswersAtPlaces
answers_at_places start [] later e = refl
answers_at_places start (x ∷ before) later e = ap (λ run. answered core_rules start x ∷ run) (answers_at_places (stepped core_rules start x) before later e)

-- ---- places of one version
-- a command leaves the book, or it raises the version
abbrev StaysOrRises : Book Listing → Book Listing → Type 0
StaysOrRises old new = (new ≡ old) ⊎ (old.version < new.version)

stays_committed : (book : Book Listing) (made : Option Listing) → StaysOrRises book (committed book made)
stays_committed book None = inl refl
stays_committed book (Some directory) = inr (omega arith)

stays_chosen : (memory : Bool) (book : Book Listing) (made : Option Listing) → StaysOrRises book (cond memory book (committed book made))
stays_chosen true book made = inl refl
stays_chosen false book made = stays_committed book made

stays_or_rises : (book : Book Listing) (m : Marked Command) → StaysOrRises book (book_after core_rules book m)
stays_or_rises book m = stays_chosen m.memory book (directory_made book.directory m.command)

rises_past : (s : State Listing OwnState) (entries : List (Entry (Marked Command))) → s.book.version ≤ (state_after s entries).book.version
rises_past s [] = omega arith
rises_past s (e ∷ rest) = omega (arith, rises s.book e.item, rises_past (stepped core_rules s e) rest)

-- where the version has not risen, no command has changed the book
stays_by : (s : State Listing OwnState) (e : Entry (Marked Command)) (rest : List (Entry (Marked Command))) → StaysOrRises s.book (stepped core_rules s e).book
    → ((state_after (stepped core_rules s e) rest).book.version ≡ (stepped core_rules s e).book.version → (state_after (stepped core_rules s e) rest).book ≡ (stepped core_rules s e).book)
    → (state_after s (e ∷ rest)).book.version ≡ s.book.version → (state_after s (e ∷ rest)).book ≡ s.book
stays_by s e rest (inl same) later is = later (is ∙ ap (λ (b : Book Listing). b.version) (sym same)) ∙ same
stays_by s e rest (inr lt) later is = absurd (omega (arith, lt, is, rises_past (stepped core_rules s e) rest))

stays_past : (s : State Listing OwnState) (entries : List (Entry (Marked Command))) → (state_after s entries).book.version ≡ s.book.version → (state_after s entries).book ≡ s.book
stays_past s [] is = refl
stays_past s (e ∷ rest) is = stays_by s e rest (stays_or_rises s.book e.item) (stays_past (stepped core_rules s e) rest) is

one_book : (s : State Listing OwnState) (entries : List (Entry (Marked Command))) (one other : ℕ)
    → (book_at_place s entries one).version ≡ (book_at_place s entries other).version → book_at_place s entries one ≡ book_at_place s entries other
one_book s entries zero zero is = refl
one_book s entries zero (suc other) is = sym (stays_past s (take (suc other) entries) (sym is))
one_book s entries (suc one) zero is = stays_past s (take (suc one) entries) is
one_book s [] (suc one) (suc other) is = refl
one_book s (e ∷ rest) (suc one) (suc other) is = one_book (stepped core_rules s e) rest one other is

pub one_directory : OneDirectory
one_directory start entries one other is = ap (λ (b : Book Listing). b.directory) (one_book start entries one other is)

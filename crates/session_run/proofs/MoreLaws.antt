-- A session that is answered one command more, for any rules.
use Rattle.std.proofs.Common.{◌≡◌, ◌<◌, ◌≤◌, ℕ, zero, suc, Bool, List, [], ◌∷◌, ◌++◌, length, map, take, ◌∙◌, refl, ap, ap₂, sym, subst, arith, append_assoc, length-append}
use Rattle.std.proofs.lemmas.Option.{slice_get_within}
use mathlib.Core.List.{IsPrefix}
use Rattle.transcript.specs.Merge.{Entry, entry}
use Rattle.transcript.specs.Run.{Answer, Book, Marked, Rules, answer_of, book_after, own_after}
use Rattle.version_table.specs.declared.rule.Noted.{Noted}
use Rattle.version_table.specs.Places.{AllAbove, IsRising}
use Rattle.version_table.specs.Run.{note_of, commits_in, state_after}
use Rattle.session_merge.specs.Answered.{AreAnswered, IsAnsweredAt, book_past, own_past, shown_as}
use Rattle.session_merge.specs.Noted.{commits_of, entries_of, marked_of, next_of}
use Rattle.session_merge.proofs.AnsweredLaws.{answered_longer, answered_more, own_longer, own_more, answered_at_end, book_append}
use Rattle.session_merge.proofs.CountLaws.{book_at, book_of_entries, entries_append, entries_length}
use Rattle.session_run.specs.Sessions.{mark_at, mark_of, marks_of}

above_more : (x p : ℕ) (ps : List ℕ) → AllAbove x ps → x < p → AllAbove x (ps ++ p ∷ [])
above_more x p [] all lt = (lt, tt)
above_more x p (q ∷ ps) all lt = (all.0, above_more x p ps all.1 lt)

module _ {C : Type 0} where
  mark_longer : (xs more : List (Noted C)) (n : ℕ) → n < length xs → mark_at (xs ++ more) n ≡ mark_at xs n
  mark_longer [] more n lt = absurd (omega (arith, lt))
  mark_longer (x ∷ xs) more zero lt = refl
  mark_longer (x ∷ xs) more (suc n) lt = mark_longer xs more n (omega (arith, lt))

  mark_end : (xs : List (Noted C)) (e : Noted C) → mark_at (xs ++ e ∷ []) (length xs) ≡ e.memory
  mark_end [] e = refl
  mark_end (x ∷ xs) e = mark_end xs e

  -- more of the history, and one entry
  joined : (seen before new : List (Noted C)) (e : Noted C) (p : IsPrefix seen before) → new ≡ before ++ e ∷ [] → seen ++ (p.0 ++ e ∷ []) ≡ new
  joined seen before new e p is = sym (append_assoc seen p.0 (e ∷ [])) ∙ ap (λ w. w ++ e ∷ []) p.1 ∙ sym is

  pub grows : (seen before new : List (Noted C)) (e : Noted C) → IsPrefix seen before → new ≡ before ++ e ∷ [] → IsPrefix seen new
  grows seen before new e p is = (p.0 ++ e ∷ [], joined seen before new e p is)

  pub begins_all : (xs ys zs : List (Noted C)) → IsPrefix xs ys → IsPrefix ys zs → IsPrefix xs zs
  begins_all xs ys zs p q = (p.0 ++ q.0, sym (append_assoc xs p.0 q.0) ∙ ap (λ w. w ++ q.0) p.1 ∙ q.1)

module _ {D L C F : Type 0} (rules : Rules D L C F) (looks : C → Bool) (session : ℕ) (start : Book D) where
  marks_more : (history : List (Entry (Marked C))) (places : List ℕ) (own : L) (commands : List C) (answers : List (Answer F)) (command : C) (answer : Answer F)
      → AreAnswered rules session start history places own commands answers
      → marks_of looks (commands ++ command ∷ []) (answers ++ answer ∷ []) ≡ marks_of looks commands answers ++ mark_of looks command answer ∷ []
  marks_more history [] own [] [] command answer all = refl
  marks_more history [] own [] (a ∷ answers) command answer all = absurd all
  marks_more history [] own (c ∷ commands) answers command answer all = absurd all
  marks_more history (p ∷ places) own [] answers command answer all = absurd all
  marks_more history (p ∷ places) own (c ∷ commands) [] command answer all = absurd all
  marks_more history (p ∷ places) own (c ∷ commands) (a ∷ answers) command answer all =
      ap (λ ms. mark_of looks c a ∷ ms) (marks_more history places (own_after rules (book_past rules start (take p history)) own (shown_as c a)) commands answers command answer all.1)

  -- the marks where the history goes on
  marks_longer : (seen more : List (Noted C)) (places : List ℕ) (own : L) (commands : List C) (answers : List (Answer F))
      → AreAnswered rules session start (entries_of seen) places own commands answers
      → (place : ℕ) (mark : Bool) → mark_at (seen ++ more) place ≡ mark
      → map (mark_at (seen ++ more)) (places ++ place ∷ []) ≡ map (mark_at seen) places ++ mark ∷ []
  marks_longer seen more [] own [] [] all place mark is = ap (λ m. m ∷ []) is
  marks_longer seen more [] own [] (a ∷ answers) all place mark is = absurd all
  marks_longer seen more [] own (c ∷ commands) answers all place mark is = absurd all
  marks_longer seen more (p ∷ places) own [] answers all place mark is = absurd all
  marks_longer seen more (p ∷ places) own (c ∷ commands) [] all place mark is = absurd all
  marks_longer seen more (p ∷ places) own (c ∷ commands) (a ∷ answers) all place mark is =
      let within : p < length (entries_of seen) = slice_get_within (entries_of seen) p (entry session (all.0).noted) (all.0).there in
      let below : p < length seen = omega (arith, within, entries_length seen) in
      ap₂ (λ (m : Bool) (ms : List Bool). m ∷ ms) (mark_longer seen more p below)
      (marks_longer seen more places (own_after rules (book_past rules start (take p (entries_of seen))) own (shown_as c a)) commands answers all.1 place mark is)

  -- a place past the history is past all places of what was answered in it
  rising_more : (history : List (Entry (Marked C))) (places : List ℕ) (own : L) (commands : List C) (answers : List (Answer F)) (place : ℕ)
      → AreAnswered rules session start history places own commands answers → length history ≤ place → IsRising places → IsRising (places ++ place ∷ [])
  rising_more history [] own commands answers place all past rising = (tt, tt)
  rising_more history (p ∷ places) own [] answers place all past rising = absurd all
  rising_more history (p ∷ places) own (c ∷ commands) [] place all past rising = absurd all
  rising_more history (p ∷ places) own (c ∷ commands) (a ∷ answers) place all past rising =
      let within : p < length history = slice_get_within history p (entry session (all.0).noted) (all.0).there in
      (above_more p place places rising.0 (omega (arith, within, past)), rising_more history places (own_after rules (book_past rules start (take p history)) own (shown_as c a)) commands answers place all.1 past rising.1)

  -- What one command more needs: it was answered at the end of the history before it, with what the session had of its own.
  pub record IsMore (seen before new : List (Noted C)) (command : C) (memory : Bool) (own : L) (answer : Answer F) : Type 0 where
    pub begins : IsPrefix seen before
    pub seen_is : new ≡ before ++ note_of session command memory ∷ []
    pub mark : memory ≡ mark_of looks command answer
    pub agrees : (book : Book D) → book_after rules book (marked_of (note_of session command memory)) ≡ book_after rules book (shown_as command answer)
    pub answer_is : answer ≡ answer_of rules (book_past rules start (entries_of before)) own (shown_as command answer)

  -- what holds of the session with it
  pub record HasMore (new : List (Noted C)) (places : List ℕ) (own : L) (commands : List C) (answers : List (Answer F)) (kept : L) : Type 0 where
    pub rising : IsRising places
    pub answered : AreAnswered rules session start (entries_of new) places own commands answers
    pub marks : map (mark_at new) places ≡ marks_of looks commands answers
    pub kept_is : kept ≡ own_past rules start (entries_of new) places own commands answers

  pub has_more : (seen before new : List (Noted C)) (places : List ℕ) (own : L) (commands : List C) (answers : List (Answer F)) (now next : L) (command : C) (memory : Bool) (answer : Answer F)
      → HasMore seen places own commands answers now → IsMore seen before new command memory now answer
      → next ≡ own_after rules (book_past rules start (entries_of before)) now (shown_as command answer)
      → HasMore new (places ++ length before ∷ []) own (commands ++ command ∷ []) (answers ++ answer ∷ []) next
  has_more seen before new places own commands answers now next command memory answer has more next_is =
      let e : Noted C = note_of session command memory in
      let rest : List (Noted C) = (more.begins).0 ++ e ∷ [] in
      let split : seen ++ rest ≡ new = joined seen before new e more.begins more.seen_is in
      let whole : entries_of seen ++ entries_of rest ≡ entries_of new = sym (entries_append seen rest) ∙ ap entries_of split in
      let longer : AreAnswered rules session start (entries_of new) places own commands answers =
      subst (λ es. AreAnswered rules session start es places own commands answers) whole (answered_longer rules session start (entries_of seen) (entries_of rest) places own commands answers has.answered) in
      let now_is : now ≡ own_past rules start (entries_of new) places own commands answers =
      has.kept_is ∙ sym (own_longer rules session start (entries_of seen) (entries_of rest) places own commands answers has.answered) ∙ ap (λ es. own_past rules start es places own commands answers) whole in
      let ends : entries_of before ++ entry session (marked_of e) ∷ [] ≡ entries_of new = sym (entries_append before (e ∷ [])) ∙ ap entries_of (sym more.seen_is) in
      let at : IsAnsweredAt rules session start (entries_of new) (length before) now command answer =
      subst (λ es. IsAnsweredAt rules session start es (length before) now command answer) ends
      (subst (λ n. IsAnsweredAt rules session start (entries_of before ++ entry session (marked_of e) ∷ []) n now command answer) (entries_length before)
      (answered_at_end rules session start (entries_of before) (marked_of e) now answer more.agrees more.answer_is)) in
      let past : book_past rules start (take (length before) (entries_of new)) ≡ book_past rules start (entries_of before) =
      ap (book_past rules start) (ap (take (length before)) (sym ends) ∙ ap (λ n. take n (entries_of before ++ entry session (marked_of e) ∷ [])) (sym (entries_length before)) ∙ taken (entries_of before) (entry session (marked_of e))) in record {
        rising = rising_more (entries_of seen) places own commands answers (length before) has.answered
            (omega (arith, entries_length seen, length-append seen (more.begins).0, ap (length {A = Noted C}) (more.begins).1)) has.rising;
        answered = answered_more rules session start (entries_of new) places own commands answers (length before) command answer longer
            (subst (λ o. IsAnsweredAt rules session start (entries_of new) (length before) o command answer) now_is at);
        marks = ap (λ h. map (mark_at h) (places ++ length before ∷ [])) (sym split)
            ∙ marks_longer seen rest places own commands answers has.answered (length before) memory (ap (λ h. mark_at h (length before)) (split ∙ more.seen_is) ∙ mark_end before e)
            ∙ ap₂ (λ (ms : List Bool) (m : Bool). ms ++ m ∷ []) has.marks more.mark
            ∙ sym (marks_more (entries_of seen) places own commands answers command answer has.answered);
        kept_is = next_is
            ∙ ap₂ (λ (b : Book D) (o : L). own_after rules b o (shown_as command answer)) (sym past) now_is
            ∙ sym (own_more rules session start (entries_of new) places own commands answers (length before) command answer longer);
      }
    where
      taken : {X : Type 0} (xs : List X) (x : X) → take (length xs) (xs ++ x ∷ []) ≡ xs
      taken [] x = refl
      taken (y ∷ xs) x = ap (λ l. y ∷ l) (taken xs x)

-- the book after a history, by its entries and by what a table counts
module _ {D L C F : Type 0} (rules : Rules D L C F) where
  pub book_is : (d : D) (es : List (Noted C)) → book_past rules (book_at d 0) (entries_of es) ≡ book_at (state_after (next_of rules) d es) (commits_in (next_of rules) (commits_of rules) d es)
  book_is d es = book_of_entries rules d 0 es ∙ ap (book_at (state_after (next_of rules) d es)) (omega arith)

  pub book_more : (start : Book D) (before new : List (Noted C)) (e : Noted C) → new ≡ before ++ e ∷ [] → book_past rules start (entries_of new) ≡ book_after rules (book_past rules start (entries_of before)) (marked_of e)
  book_more start before new e is = ap (λ es. book_past rules start (entries_of es)) is ∙ ap (book_past rules start) (entries_append before (e ∷ [])) ∙ book_append rules start (entries_of before) (entries_of (e ∷ []))

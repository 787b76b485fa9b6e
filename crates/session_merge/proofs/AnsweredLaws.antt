-- What was answered, where the history goes on and where a command is added.
use Rattle.std.proofs.Common.{◌≡◌, ◌<◌, ◌≤◌, ℕ, zero, suc, List, [], ◌∷◌, ◌++◌, Bool, true, false, None, Some, length, take, slice_get, ◌∙◌, refl, ap, sym, subst, inl, inr, arith}
use Rattle.std.proofs.lemmas.Option.{slice_get_within}
use Rattle.std.proofs.lemmas.List.{take-append-le}
use Rattle.transcript.specs.Merge.{Entry, entry}
use Rattle.transcript.specs.Run.{Answer, Book, Marked, Rules, book_after, answer_of, committed, own_after}
use Rattle.version_table.specs.Places.{IsRising, times}
use Rattle.version_table.proofs.Places.{rising_more, same_place}
use Rattle.session_merge.specs.Answered.{AreAnswered, IsAnsweredAt, book_past, own_past, shown_as}

slice_get_longer : {X : Type 0} (xs more : List X) (n : ℕ) (x : X) → slice_get xs n ≡ Some x → slice_get (xs ++ more) n ≡ Some x
slice_get_longer [] more n x at = cc
slice_get_longer (y ∷ xs) more zero x at = at
slice_get_longer (y ∷ xs) more (suc n) x at = slice_get_longer xs more n x at

module _ {D L C F : Type 0} (rules : Rules D L C F) (session : ℕ) (start : Book D) (history more : List (Entry (Marked C))) where
  -- what came before a place of the history
  past_longer : (place : ℕ) (own : L) (command : C) (answer : Answer F) → IsAnsweredAt rules session start history place own command answer
      → book_past rules start (take place (history ++ more)) ≡ book_past rules start (take place history)
  past_longer place own command answer at =
      let within : place < length history = slice_get_within history place (entry session at.noted) at.there in
      ap (book_past rules start) (take-append-le place history more (omega (arith, within)))

  pub at_longer : (place : ℕ) (own : L) (command : C) (answer : Answer F) → IsAnsweredAt rules session start history place own command answer
      → IsAnsweredAt rules session start (history ++ more) place own command answer
  at_longer place own command answer at = record {
    noted = at.noted;
    there = slice_get_longer history more place (entry session at.noted) at.there;
    same = at.same;
    agrees = at.agrees;
    answer_is = at.answer_is ∙ ap (λ book. answer_of rules book own (shown_as command answer)) (sym (past_longer place own command answer at));
  }

  pub answered_longer : (places : List ℕ) (own : L) (commands : List C) (answers : List (Answer F)) → AreAnswered rules session start history places own commands answers
      → AreAnswered rules session start (history ++ more) places own commands answers
  answered_longer [] own [] [] all = tt
  answered_longer [] own [] (a ∷ answers) all = absurd all
  answered_longer [] own (c ∷ commands) answers all = absurd all
  answered_longer (p ∷ places) own [] answers all = absurd all
  answered_longer (p ∷ places) own (c ∷ commands) [] all = absurd all
  answered_longer (p ∷ places) own (c ∷ commands) (a ∷ answers) all = (
    at_longer p own c a all.0,
    subst (λ book. AreAnswered rules session start (history ++ more) places (own_after rules book own (shown_as c a)) commands answers) (sym (past_longer p own c a all.0))
        (answered_longer places (own_after rules (book_past rules start (take p history)) own (shown_as c a)) commands answers all.1),
  )

  -- what the session has of its own is the same
  pub own_longer : (places : List ℕ) (own : L) (commands : List C) (answers : List (Answer F)) → AreAnswered rules session start history places own commands answers
      → own_past rules start (history ++ more) places own commands answers ≡ own_past rules start history places own commands answers
  own_longer [] own [] [] all = refl
  own_longer [] own [] (a ∷ answers) all = absurd all
  own_longer [] own (c ∷ commands) answers all = absurd all
  own_longer (p ∷ places) own [] answers all = absurd all
  own_longer (p ∷ places) own (c ∷ commands) [] all = absurd all
  own_longer (p ∷ places) own (c ∷ commands) (a ∷ answers) all =
      ap (λ book. own_past rules start (history ++ more) places (own_after rules book own (shown_as c a)) commands answers) (past_longer p own c a all.0)
      ∙ own_longer places (own_after rules (book_past rules start (take p history)) own (shown_as c a)) commands answers all.1

module _ {D L C F : Type 0} (rules : Rules D L C F) (session : ℕ) (start : Book D) (history : List (Entry (Marked C))) where
  pub answered_more : (places : List ℕ) (own : L) (commands : List C) (answers : List (Answer F)) (place : ℕ) (command : C) (answer : Answer F)
      → AreAnswered rules session start history places own commands answers
      → IsAnsweredAt rules session start history place (own_past rules start history places own commands answers) command answer
      → AreAnswered rules session start history (places ++ place ∷ []) own (commands ++ command ∷ []) (answers ++ answer ∷ [])
  answered_more [] own [] [] place command answer all at = (at, tt)
  answered_more [] own [] (a ∷ answers) place command answer all at = absurd all
  answered_more [] own (c ∷ commands) answers place command answer all at = absurd all
  answered_more (p ∷ places) own [] answers place command answer all at = absurd all
  answered_more (p ∷ places) own (c ∷ commands) [] place command answer all at = absurd all
  answered_more (p ∷ places) own (c ∷ commands) (a ∷ answers) place command answer all at = (
    all.0,
    answered_more places (own_after rules (book_past rules start (take p history)) own (shown_as c a)) commands answers place command answer all.1 at,
  )

  -- and what the session has of its own after it
  pub own_more : (places : List ℕ) (own : L) (commands : List C) (answers : List (Answer F)) (place : ℕ) (command : C) (answer : Answer F)
      → AreAnswered rules session start history places own commands answers
      → own_past rules start history (places ++ place ∷ []) own (commands ++ command ∷ []) (answers ++ answer ∷ [])
      ≡ own_after rules (book_past rules start (take place history)) (own_past rules start history places own commands answers) (shown_as command answer)
  own_more [] own [] [] place command answer all = refl
  own_more [] own [] (a ∷ answers) place command answer all = absurd all
  own_more [] own (c ∷ commands) answers place command answer all = absurd all
  own_more (p ∷ places) own [] answers place command answer all = absurd all
  own_more (p ∷ places) own (c ∷ commands) [] place command answer all = absurd all
  own_more (p ∷ places) own (c ∷ commands) (a ∷ answers) place command answer all =
      own_more places (own_after rules (book_past rules start (take p history)) own (shown_as c a)) commands answers place command answer all.1

take_end : {X : Type 0} (xs : List X) (x : X) → (take (length xs) (xs ++ x ∷ []) ≡ xs) × (slice_get (xs ++ x ∷ []) (length xs) ≡ Some x)
take_end [] x = (refl, refl)
take_end (y ∷ xs) x = (ap (λ l. y ∷ l) (take_end xs x).0, (take_end xs x).1)

module _ {D L C F : Type 0} (rules : Rules D L C F) where
  -- the entry that ends a history was answered there
  pub answered_at_end : (session : ℕ) (start : Book D) (before : List (Entry (Marked C))) (noted : Marked C) (own : L) (answer : Answer F)
      → ((book : Book D) → book_after rules book noted ≡ book_after rules book (shown_as noted.command answer))
      → answer ≡ answer_of rules (book_past rules start before) own (shown_as noted.command answer)
      → IsAnsweredAt rules session start (before ++ entry session noted ∷ []) (length before) own noted.command answer
  answered_at_end session start before noted own answer agrees is =
      let ends = take_end before (entry session noted) in record {
        noted = noted;
        there = ends.1;
        same = refl;
        agrees = agrees;
        answer_is = is ∙ ap (λ es. answer_of rules (book_past rules start es) own (shown_as noted.command answer)) (sym ends.0);
      }

  -- a command that no directory takes as an edit leaves each book, however it is marked
  pub look_stays : (command : C) → ((d : D) → rules.edited d command ≡ None) → (memory : Bool) (book : Book D) → book_after rules book (record { command = command; memory = memory }) ≡ book
  look_stays command looks true book = refl
  look_stays command looks false book = ap (committed book) (looks book.directory)

  pub look_agrees : (command : C) → ((d : D) → rules.edited d command ≡ None) → (one two : Bool) (book : Book D)
      → book_after rules book (record { command = command; memory = one }) ≡ book_after rules book (record { command = command; memory = two })
  look_agrees command looks one two book = look_stays command looks one book ∙ sym (look_stays command looks two book)

  pub book_append : (start : Book D) (xs ys : List (Entry (Marked C))) → book_past rules start (xs ++ ys) ≡ book_past rules (book_past rules start xs) ys
  book_append start [] ys = refl
  book_append start (x ∷ xs) ys = book_append (book_after rules start x.item) xs ys

module _ {D L C F : Type 0} (rules : Rules D L C F) (session : ℕ) (start : Book D) (history : List (Entry (Marked C))) where
  -- a session was answered at places of the history
  pub answered_within : (places : List ℕ) (own : L) (commands : List C) (answers : List (Answer F)) → AreAnswered rules session start history places own commands answers
      → (n : ℕ) → 0 < times n places → n < length history
  answered_within [] own commands answers all n some = absurd (omega (arith, some))
  answered_within (p ∷ places) own [] answers all n some = absurd all
  answered_within (p ∷ places) own (c ∷ commands) [] all n some = absurd all
  answered_within (p ∷ places) own (c ∷ commands) (a ∷ answers) all n some = elim (same_place p n) [
    | inl here ↦ omega (arith, here.0, slice_get_within history p (entry session (all.0).noted) (all.0).there)
    | inr other ↦ answered_within places (own_after rules (book_past rules start (take p history)) own (shown_as c a)) commands answers all.1 n (omega (arith, some, other.1))
  ]

  -- so its places still rise with one that comes after the history
  pub rising_next : (places : List ℕ) (own : L) (commands : List C) (answers : List (Answer F)) → AreAnswered rules session start history places own commands answers
      → IsRising places → (place : ℕ) → length history ≤ place → IsRising (places ++ place ∷ [])
  rising_next places own commands answers all rising place after =
      rising_more places place rising (λ n some. omega (arith, after, answered_within places own commands answers all n some))

-- Sessions that were each answered at their own places of one history are one run: by induction over the history, of which one session has the first place.
use Rattle.std.proofs.Common.{◌≡◌, ◌<◌, ◌≤◌, ◌==◌, ℕ, zero, suc, Bool, true, false, cond, List, [], ◌∷◌, Some, map, take, drop, slice_get, ◌∙◌, refl, ap, sym, subst, inl, inr, arith, eqb-true, eq-eqb, true≢false}
use Rattle.std.proofs.lemmas.Bool.{cases_lt}
use Rattle.std.proofs.lemmas.Option.{slice_get_within}
use Rattle.transcript.specs.Merge.{Entry, entry, lane, once_taken}
use Rattle.transcript.specs.Run.{Answer, Book, Marked, Rules, State, answer_of, book_after, own_after, run_of, stepped}
use Rattle.version_table.specs.Places.{AllAbove, IsRising, hit, times}
use Rattle.version_table.proofs.Places.{hit_self, same_place}
use Rattle.session_merge.specs.Answered.{AreAnswered, IsAnsweredAt, book_past, first_shown, remarked, shown_as}

-- a place below the others is not one of them
pub absent_below : (x y : ℕ) (xs : List ℕ) → AllAbove x xs → y ≤ x → times y xs ≡ 0
absent_below x y [] all low = refl
absent_below x y (z ∷ xs) all low = omega (arith, same_place z y, all.0, absent_below x y xs all.1 low)

-- the places, of which none is the first, as those of the history without its first entry
abbrev pub lowered : List ℕ → List ℕ
lowered [] = []
lowered (zero ∷ ps) = zero ∷ lowered ps
lowered (suc p ∷ ps) = p ∷ lowered ps

hit_zero : (n p : ℕ) → hit (suc n) (suc p) ≡ hit n p
hit_zero n p = omega (arith, same_place (suc p) (suc n), same_place p n)

above_lowered : (x : ℕ) (ps : List ℕ) → AllAbove (suc x) ps → AllAbove x (lowered ps)
above_lowered x [] all = tt
above_lowered x (zero ∷ ps) all = absurd (omega (arith, all.0))
above_lowered x (suc p ∷ ps) all = (omega (arith, all.0), above_lowered x ps all.1)

rising_lowered : (ps : List ℕ) → IsRising ps → times 0 ps ≡ 0 → IsRising (lowered ps)
rising_lowered [] rising none = tt
rising_lowered (zero ∷ ps) rising none = absurd (omega (arith, hit_self 0, none))
rising_lowered (suc p ∷ ps) rising none = (above_lowered p ps rising.0, rising_lowered ps rising.1 (omega (arith, none)))

times_lowered : (n : ℕ) (ps : List ℕ) → times 0 ps ≡ 0 → times n (lowered ps) ≡ times (suc n) ps
times_lowered n [] none = refl
times_lowered n (zero ∷ ps) none = absurd (omega (arith, hit_self 0, none))
times_lowered n (suc p ∷ ps) none = omega (arith, hit_zero n p, times_lowered n ps (omega (arith, none)))

module _ {D L C F : Type 0} (rules : Rules D L C F) where
  -- the entry, marked as the first of these answers shows
  abbrev pub mark_shown : Marked C → List (Answer F) → Marked C
  mark_shown m answers = record { command = m.command; memory = first_shown answers }

  -- a session that was answered at its places, which rise
  pub record Goes (k : ℕ) (book : Book D) (history : List (Entry (Marked C))) (places : List ℕ) (own : L) (commands : List C) (answers : List (Answer F)) : Type 0 where
    pub rising : IsRising places
    pub ran : AreAnswered rules k book history places own commands answers

  -- past an entry of another session
  ran_lowered : (k : ℕ) (book : Book D) (e : Entry (Marked C)) (rest : List (Entry (Marked C))) (places : List ℕ) (own : L) (commands : List C) (answers : List (Answer F)) → times 0 places ≡ 0
      → AreAnswered rules k book (e ∷ rest) places own commands answers → AreAnswered rules k (book_after rules book e.item) rest (lowered places) own commands answers
  ran_lowered k book e rest [] own [] [] none all = tt
  ran_lowered k book e rest [] own [] (a ∷ answers) none all = absurd all
  ran_lowered k book e rest [] own (c ∷ commands) answers none all = absurd all
  ran_lowered k book e rest (zero ∷ places) own commands answers none all = absurd (omega (arith, hit_self 0, none))
  ran_lowered k book e rest (suc p ∷ places) own [] answers none all = absurd all
  ran_lowered k book e rest (suc p ∷ places) own (c ∷ commands) [] none all = absurd all
  ran_lowered k book e rest (suc p ∷ places) own (c ∷ commands) (a ∷ answers) none all = (
    record { noted = all.0.noted; there = all.0.there; same = all.0.same; agrees = all.0.agrees; answer_is = all.0.answer_is },
    ran_lowered k book e rest places (own_after rules (book_past rules book (take (suc p) (e ∷ rest))) own (shown_as c a)) commands answers (omega (arith, none)) all.1,
  )

  goes_past : (k : ℕ) (book : Book D) (e : Entry (Marked C)) (rest : List (Entry (Marked C))) (places : List ℕ) (own : L) (commands : List C) (answers : List (Answer F)) → times 0 places ≡ 0
      → Goes k book (e ∷ rest) places own commands answers → Goes k (book_after rules book e.item) rest (lowered places) own commands answers
  goes_past k book e rest places own commands answers none goes = record {
    rising = rising_lowered places goes.rising none;
    ran = ran_lowered k book e rest places own commands answers none goes.ran;
  }

  -- The first place is the session's: its first command was answered there, and the others go on from there.
  pub record HasFirst (k : ℕ) (book : Book D) (e : Entry (Marked C)) (rest : List (Entry (Marked C))) (places : List ℕ) (own : L) (commands : List C) (answers : List (Answer F)) : Type 0 where
    pub session : e.session ≡ k
    pub agrees : book_after rules book e.item ≡ book_after rules book (mark_shown e.item answers)
    pub command : commands ≡ (e.item).command ∷ drop 1 commands
    pub answer : answers ≡ answer_of rules book own (mark_shown e.item answers) ∷ drop 1 answers
    pub later : Goes k (book_after rules book e.item) rest (lowered (drop 1 places)) (own_after rules book own (mark_shown e.item answers)) (drop 1 commands) (drop 1 answers)
    pub counts : (n : ℕ) → times n (lowered (drop 1 places)) ≡ times (suc n) places

  has_first : (k : ℕ) (book : Book D) (e : Entry (Marked C)) (rest : List (Entry (Marked C))) (places : List ℕ) (own : L) (commands : List C) (answers : List (Answer F)) → 0 < times 0 places
      → Goes k book (e ∷ rest) places own commands answers → HasFirst k book e rest places own commands answers
  has_first k book e rest [] own commands answers some goes = absurd (omega (arith, some))
  has_first k book e rest (suc p ∷ places) own commands answers some goes = absurd (omega (arith, same_place (suc p) 0, some, absent_below (suc p) 0 places goes.rising.0 (omega arith)))
  has_first k book e rest (zero ∷ places) own [] answers some goes = absurd goes.ran
  has_first k book e rest (zero ∷ places) own (c ∷ commands) [] some goes = absurd goes.ran
  has_first k book e rest (zero ∷ places) own (c ∷ commands) (a ∷ answers) some goes =
      let one : IsAnsweredAt rules k book (e ∷ rest) 0 own c a = goes.ran.0 in
      let is : e ≡ entry k one.noted = let there : Some e ≡ Some (entry k one.noted) = one.there in cc in
      let item : e.item ≡ one.noted = ap (λ (x : Entry (Marked C)). x.item) is in
      let same : (e.item).command ≡ c = ap (λ (m : Marked C). m.command) item ∙ one.same in
      let mark : mark_shown e.item (a ∷ answers) ≡ shown_as c a = ap (λ d. shown_as d a) same in
      let agrees : book_after rules book e.item ≡ book_after rules book (mark_shown e.item (a ∷ answers)) = ap (book_after rules book) item ∙ one.agrees book ∙ ap (book_after rules book) (sym mark) in
      let none : times 0 places ≡ 0 = absent_below 0 0 places goes.rising.0 (omega arith) in record {
        session = ap (λ (x : Entry (Marked C)). x.session) is;
        agrees = agrees;
        command = ap (λ d. d ∷ commands) (sym same);
        answer = ap (λ x. x ∷ answers) (one.answer_is ∙ ap (answer_of rules book own) (sym mark));
        later = subst (λ m. Goes k (book_after rules book e.item) rest (lowered places) (own_after rules book own m) commands answers) (sym mark)
            (goes_past k book e rest places (own_after rules book own (shown_as c a)) commands answers none (record { rising = goes.rising.1; ran = goes.ran.1 }));
        counts = λ n. omega (arith, times_lowered n places none, same_place 0 (suc n));
      }

  -- a session, whether the first place is its own or not
  goes_next : (t : Bool) (k : ℕ) (book : Book D) (e : Entry (Marked C)) (rest : List (Entry (Marked C))) (places : List ℕ) (own : L) (commands : List C) (answers : List (Answer F)) (m : Marked C)
      → (t ≡ true → (0 < times 0 places) × (m ≡ mark_shown e.item answers)) → (t ≡ false → times 0 places ≡ 0)
      → book_after rules book e.item ≡ book_after rules book m
      → Goes k book (e ∷ rest) places own commands answers
      → Goes k (book_after rules book m) rest (lowered (cond t (drop 1 places) places)) (cond t (own_after rules book own m) own) (cond t (drop 1 commands) commands) (cond t (drop 1 answers) answers)
  goes_next true k book e rest places own commands answers m mine other agrees goes =
      let first = has_first k book e rest places own commands answers (mine refl).0 goes in
      subst (λ b. Goes k b rest (lowered (drop 1 places)) (own_after rules book own m) (drop 1 commands) (drop 1 answers)) agrees
      (subst (λ n. Goes k (book_after rules book e.item) rest (lowered (drop 1 places)) (own_after rules book own n) (drop 1 commands) (drop 1 answers)) (sym (mine refl).1) first.later)
  goes_next false k book e rest places own commands answers m mine other agrees goes =
      subst (λ b. Goes k b rest (lowered places) own commands answers) agrees (goes_past k book e rest places own commands answers (other refl) goes)

  -- each place of the history is one of its session's
  abbrev pub AreTheirs : List (Entry (Marked C)) → (ℕ → List ℕ) → Type 0
  AreTheirs history places = (n : ℕ) (e : Entry (Marked C)) → slice_get history n ≡ Some e → 0 < times n (places e.session)

  counts_next : (t : Bool) (n : ℕ) (places : List ℕ) → (t ≡ true → (m : ℕ) → times m (lowered (drop 1 places)) ≡ times (suc m) places) → (t ≡ false → times 0 places ≡ 0)
      → 0 < times (suc n) places → 0 < times n (lowered (cond t (drop 1 places) places))
  counts_next true n places mine other some = omega (arith, mine refl n, some)
  counts_next false n places mine other some = omega (arith, times_lowered n places (other refl), some)

  -- a place that is a session's has an entry of that session
  pub session_of : (k : ℕ) (book : Book D) (history : List (Entry (Marked C))) (places : List ℕ) (own : L) (commands : List C) (answers : List (Answer F)) (n : ℕ) (e : Entry (Marked C))
      → AreAnswered rules k book history places own commands answers → 0 < times n places → slice_get history n ≡ Some e → e.session ≡ k
  session_of k book history [] own commands answers n e all some at = absurd (omega (arith, some))
  session_of k book history (p ∷ places) own [] answers n e all some at = absurd all
  session_of k book history (p ∷ places) own (c ∷ commands) [] n e all some at = absurd all
  session_of k book history (p ∷ places) own (c ∷ commands) (a ∷ answers) n e all some at = elim (same_place p n) [
    | inl here ↦ is_of (all.0.noted) (subst (λ q. slice_get history q ≡ Some (entry k all.0.noted)) here.0 all.0.there)
    | inr other ↦ session_of k book history places (own_after rules (book_past rules book (take p history)) own (shown_as c a)) commands answers n e all.1 (omega (arith, some, other.1)) at
  ]
    where
      is_of : (noted : Marked C) → slice_get history n ≡ Some (entry k noted) → e.session ≡ k
      is_of noted there =
          let same : Some e ≡ Some (entry k noted) = sym at ∙ there in
          let is : e ≡ entry k noted = cc in ap (λ (x : Entry (Marked C)). x.session) is

  -- without a history there is nothing
  none_ran : (k : ℕ) (book : Book D) (places : List ℕ) (own : L) (commands : List C) (answers : List (Answer F)) → AreAnswered rules k book [] places own commands answers → (commands ≡ []) × (answers ≡ [])
  none_ran k book [] own [] [] all = (refl, refl)
  none_ran k book [] own [] (a ∷ answers) all = absurd all
  none_ran k book [] own (c ∷ commands) answers all = absurd all
  none_ran k book (p ∷ places) own [] answers all = absurd all
  none_ran k book (p ∷ places) own (c ∷ commands) [] all = absurd all
  none_ran k book (p ∷ places) own (c ∷ commands) (a ∷ answers) all = absurd (omega (arith, slice_get_within [] p (entry k all.0.noted) all.0.there))

  list_step : {X : Type 0} (t : Bool) (x : X) (xs r : List X) → (t ≡ true → xs ≡ x ∷ drop 1 xs) → cond t (drop 1 xs) xs ≡ r → xs ≡ cond t (x ∷ r) r
  list_step true x xs r first e = first refl ∙ ap (λ ys. x ∷ ys) e
  list_step false x xs r first e = e

  command_step : (t : Bool) (m : Marked C) (r : List (Marked C)) (cs : List C) → (t ≡ true → cs ≡ m.command ∷ drop 1 cs) → map (λ (n : Marked C). n.command) r ≡ cond t (drop 1 cs) cs
      → map (λ (n : Marked C). n.command) (cond t (m ∷ r) r) ≡ cs
  command_step true m r cs first e = ap (λ ds. m.command ∷ ds) e ∙ sym (first refl)
  command_step false m r cs first e = e

  -- Each session's answers are its own ones in the run, and its commands are those of the run.
  pub lanes_of_run : (s : State D L) (history : List (Entry (Marked C))) (places : ℕ → List ℕ) (commands : ℕ → List C) (answers : ℕ → List (Answer F))
      → ((k : ℕ) → Goes k s.book history (places k) (s.own k) (commands k) (answers k)) → AreTheirs history places
      → (k : ℕ) → (answers k ≡ lane (run_of rules s (remarked history answers)) k) × (map (λ (m : Marked C). m.command) (lane (remarked history answers) k) ≡ commands k)
  lanes_of_run s [] places commands answers goes theirs k = let none = none_ran k s.book (places k) (s.own k) (commands k) (answers k) (goes k).ran in (none.1, sym none.0)
  lanes_of_run s (e ∷ rest) places commands answers goes theirs k =
      let j : ℕ = e.session in
      let m : Marked C = mark_shown e.item (answers j) in
      let first : HasFirst j s.book e rest (places j) (s.own j) (commands j) (answers j) = has_first j s.book e rest (places j) (s.own j) (commands j) (answers j) (theirs 0 e refl) (goes j) in
      let mine : (i : ℕ) → (j == i) ≡ true → HasFirst i s.book e rest (places i) (s.own i) (commands i) (answers i) =
      λ i is. subst (λ i. HasFirst i s.book e rest (places i) (s.own i) (commands i) (answers i)) (eqb-true j i is) first in
      let mark : (i : ℕ) → (j == i) ≡ true → m ≡ mark_shown e.item (answers i) = λ i is. ap (λ i. mark_shown e.item (answers i)) (eqb-true j i is) in
      let some : (i : ℕ) → (j == i) ≡ true → 0 < times 0 (places i) = λ i is. subst (λ i. 0 < times 0 (places i)) (eqb-true j i is) (theirs 0 e refl) in
      let other : (i : ℕ) → (j == i) ≡ false → times 0 (places i) ≡ 0 = λ i is. others s.book e rest (places i) (s.own i) (commands i) (answers i) i is (goes i) in
      let next = lanes_of_run (stepped rules s (entry j m)) rest (λ i. lowered (cond (j == i) (drop 1 (places i)) (places i))) (once_taken j commands) (once_taken j answers)
      (λ i. goes_next (j == i) i s.book e rest (places i) (s.own i) (commands i) (answers i) m (λ is. (some i is, mark i is)) (other i) first.agrees (goes i))
      (λ n f at. counts_next (j == f.session) n (places f.session) (λ is. (mine f.session is).counts) (other f.session) (theirs (suc n) f at)) k in (
        list_step (j == k) (answer_of rules s.book (s.own j) m) (answers k) _
            (λ is. (mine k is).answer ∙ ap (λ x. x ∷ drop 1 (answers k)) (ap (λ i. answer_of rules s.book (s.own i) (mark_shown e.item (answers i))) (sym (eqb-true j k is)))) next.0,
        command_step (j == k) m _ (commands k) (λ is. (mine k is).command) next.1,
      )
    where
      others : (book : Book D) (e : Entry (Marked C)) (rest : List (Entry (Marked C))) (places : List ℕ) (own : L) (commands : List C) (answers : List (Answer F)) (i : ℕ) → (e.session == i) ≡ false
          → Goes i book (e ∷ rest) places own commands answers → times 0 places ≡ 0
      others book e rest places own commands answers i is goes = elim (cases_lt 0 (times 0 places)) [
        | inl some ↦ absurd (true≢false (sym (eq-eqb e.session i (session_of i book (e ∷ rest) places own commands answers 0 e goes.ran some refl)) ∙ is))
        | inr none ↦ omega (arith, none)
      ]

-- The answers of sessions, merged by the order of their history, are the run, and their transcript is an outcome.
use Rattle.std.proofs.Common.{◌≡◌, ◌⊎◌, ◌<◌, ◌≤◌, ◌+◌, ◌^◌, ◌==◌, ℕ, zero, suc, Bool, true, false, cond, List, [], ◌∷◌, Some, filter, length, map, slice_get, ◌∙◌, refl, ap, ap₂, sym, subst, inl, inr, arith, eq-eqb}
use Rattle.std.proofs.lemmas.Bool.{cases_lt}
use Rattle.std.proofs.lemmas.List.{length-map}
use Rattle.std.proofs.lemmas.Option.{slice_get_within}
use Rattle.std.specs.List.{AllByRecursion}
use Rattle.transcript.specs.Merge.{Entry, lane, merged, once_taken, order_of}
use Rattle.transcript.specs.Outcome.{IsOutcome}
use Rattle.transcript.specs.Run.{Accepted, Answer, Marked, Refused, Reply, Rules, State, any_refused, files_of, run_of, stepped}
use Rattle.transcript.specs.Transcript.{sessions, transcript, transcript_of}
use Rattle.transcript.proofs.MergeLaws.{merge_back, order_is_merge}
use Rattle.transcript.proofs.Printable.{ArePrintable, IsPrintable, IsPrintableReply}
use Rattle.transcript.proofs.Printable as printable
use Rattle.transcript.proofs.Readable.{KeepsLines, good_outcome, lane_no_longer}
use Rattle.transcript.proofs.RunLaws.{run_order, run_read_back, run_reading}
use Rattle.version_table.specs.Places.{times, total}
use Rattle.session_merge.specs.Answered.{AreAnswered, AreSessions, remarked, reply_says_memory}
use Rattle.session_merge.specs.Readable.{IsReadable, IsReadableReply, Tells}
use Rattle.session_merge.proofs.RunLaws.{AreTheirs, lanes_of_run, session_of}
use mathlib.Core.Path.{fun_ext}

-- where a sum is not 0, something that it adds is not
total_some : (f : ℕ → ℕ) (xs : List ℕ) → 0 < total f xs → (k : ℕ) × (0 < f k)
total_some f [] some = absurd (omega (arith, some))
total_some f (x ∷ xs) some = elim (cases_lt 0 (f x)) [ inl one ↦ (x, one) | inr none ↦ total_some f xs (omega (arith, none, some)) ]

all_by_place : {X : Type 0} (P : X → Type 0) (xs : List X) → ((n : ℕ) (x : X) → slice_get xs n ≡ Some x → P x) → AllByRecursion P xs
all_by_place P [] h = tt
all_by_place P (x ∷ xs) h = (h 0 x refl, all_by_place P xs (λ n y at. h (suc n) y at))

pub weaker : {X : Type 0} {A B : X → Type 0} → ((x : X) → A x → B x) → (xs : List X) → AllByRecursion A xs → AllByRecursion B xs
weaker f [] h = tt
weaker f (x ∷ xs) h = (f x h.0, weaker f xs h.1)

abbrev IsOfEight : {X : Type 0} → Entry X → Type 0
IsOfEight e = (1 ≤ e.session) × (e.session ≤ 8)

module _ {C F : Type 0} where
  pub remarked_order : (history : List (Entry (Marked C))) (answers : ℕ → List (Answer F)) → order_of (remarked history answers) ≡ order_of history
  remarked_order [] answers = refl
  remarked_order (e ∷ rest) answers = ap (λ ns. e.session ∷ ns) (remarked_order rest (once_taken e.session answers))

  remarked_length : (history : List (Entry (Marked C))) (answers : ℕ → List (Answer F)) → length (remarked history answers) ≡ length history
  remarked_length [] answers = refl
  remarked_length (e ∷ rest) answers = ap suc (remarked_length rest (once_taken e.session answers))

  remarked_ranges : (history : List (Entry (Marked C))) (answers : ℕ → List (Answer F)) → AllByRecursion IsOfEight history → AllByRecursion IsOfEight (remarked history answers)
  remarked_ranges [] answers all = tt
  remarked_ranges (e ∷ rest) answers all = (all.0, remarked_ranges rest (once_taken e.session answers) all.1)

module _ {C : Type 0} where
  -- what holds of each session's commands holds of those of the list
  front : (R : C → Type 0) (t : Bool) (m : Marked C) (r : List (Marked C)) → AllByRecursion R (map (λ (n : Marked C). n.command) (cond t (m ∷ r) r)) → AllByRecursion R (map (λ (n : Marked C). n.command) r)
  front R true m r all = all.1
  front R false m r all = all

  head : (R : C → Type 0) (t : Bool) (m : Marked C) (r : List (Marked C)) → t ≡ true → AllByRecursion R (map (λ (n : Marked C). n.command) (cond t (m ∷ r) r)) → R m.command
  head R true m r is all = all.0
  head R false m r is all = absurd cc

  all_commands : (R : C → Type 0) (entries : List (Entry (Marked C))) → ((k : ℕ) → AllByRecursion R (map (λ (n : Marked C). n.command) (lane entries k))) → AllByRecursion (λ (e : Entry (Marked C)). R (e.item).command) entries
  all_commands R [] all = tt
  all_commands R (e ∷ rest) all = (
    head R (e.session == e.session) e.item (lane rest e.session) (eq-eqb e.session e.session refl) (all e.session),
    all_commands R rest (λ k. front R (e.session == k) e.item (lane rest k) (all k)),
  )

module _ {F : Type 0} where
  same_says : (r : Reply F) → printable.says_memory r ≡ reply_says_memory r
  same_says (Accepted lines file) = refl
  same_says (Refused text) = refl

  printable_of : (a : Answer F) → IsReadable a → IsPrintable a
  printable_of a h = record { reply = reply_of a.reply h.0; version = h.1 }
    where
      reply_of : (r : Reply F) → IsReadableReply r → IsPrintableReply r
      reply_of (Accepted lines file) h = h
      reply_of (Refused text) h = h

module _ {D L C F : Type 0} (rules : Rules D L C F) (start : State D L) (script : ℕ → List C) (history : List (Entry (Marked C))) (places : ℕ → List ℕ) (answers : ℕ → List (Answer F))
    (are : AreSessions rules start script history places answers) where
  -- the entry at a place, and the session of which it is
  at_place : (n : ℕ) (e : Entry (Marked C)) → slice_get history n ≡ Some e → (k : ℕ) × (0 < times n (places k)) × (e.session ≡ k)
  at_place n e at =
      let within : n < length history = slice_get_within history n e at in
      let one = total_some (λ k. times n (places k)) sessions (omega (arith, are.once n within)) in
      (one.0, one.1, session_of rules one.0 start.book history (places one.0) (start.own one.0) (script one.0) (answers one.0) n e (are.ran one.0) one.1 at)

  theirs : AreTheirs rules history places
  theirs n e at = let one = at_place n e at in subst (λ k. 0 < times n (places k)) (sym one.2) one.1

  of_eight : AllByRecursion IsOfEight history
  of_eight = all_by_place IsOfEight history (λ n e at. eight e.session n (theirs n e at))
    where
      none : (k n : ℕ) → (k ≡ 0) ⊎ (8 < k) → times n (places k) ≡ 0
      none k n far = ap (times n) (are.no_others k far)

      eight : (k n : ℕ) → 0 < times n (places k) → (1 ≤ k) × (k ≤ 8)
      eight zero n some = absurd (omega (arith, some, none 0 n (inl refl)))
      eight (suc k) n some = elim (cases_lt 8 (suc k)) [ inl far ↦ absurd (omega (arith, some, none (suc k) n (inr far))) | inr near ↦ (omega arith, omega (arith, near)) ]

  -- the entries of the run
  abbrev entries : List (Entry (Marked C))
  entries = remarked history answers

  lanes : (k : ℕ) → (answers k ≡ lane (run_of rules start entries) k) × (map (λ (m : Marked C). m.command) (lane entries k) ≡ script k)
  lanes = lanes_of_run rules start history places script answers (λ k. record { rising = are.rising k; ran = are.ran k }) theirs

  -- each session has its own answers of the run
  pub own_answers : answers ≡ lane (run_of rules start (remarked history answers))
  own_answers = fun_ext (λ k. (lanes k).0)

  own_order : order_of history ≡ order_of (run_of rules start entries)
  own_order = sym (run_order rules start entries ∙ remarked_order history answers)

  pub commands_of_run : (k : ℕ) → map (λ (m : Marked C). m.command) (lane (remarked history answers) k) ≡ script k
  commands_of_run k = (lanes k).1

  pub sessions_run : merged (order_of history) answers ≡ run_of rules start (remarked history answers)
  sessions_run = ap₂ merged own_order own_answers ∙ merge_back (run_of rules start entries)

  own_transcript : transcript (order_of history) answers ≡ transcript_of (run_of rules start entries)
  own_transcript = ap₂ transcript own_order own_answers

  meets : (R : C → Type 0) → ((k : ℕ) → AllByRecursion R (script k)) → AllByRecursion (λ (e : Entry (Marked C)). R (e.item).command) entries
  meets R fine = all_commands R entries (λ k. subst (AllByRecursion R) (sym (commands_of_run k)) (fine k))

  -- The answers of the sessions are an outcome, where the rules keep what makes answers readable.
  pub sessions_outcome : (P : D → Type 0) (Q : L → Type 0) (R : C → Type 0) → KeepsLines rules P Q R → P start.book.directory → ((k : ℕ) → Q (start.own k))
      → start.book.version + length history + 1 < 2 ^ 64 → ((k : ℕ) → AllByRecursion R (script k))
      → IsOutcome rules start script (transcript (order_of history) answers) (files_of (merged (order_of history) answers)) (any_refused (merged (order_of history) answers))
  sessions_outcome P Q R keeps p q fits fine =
      subst (λ bytes. IsOutcome rules start script bytes (files_of (merged (order_of history) answers)) (any_refused (merged (order_of history) answers))) (sym own_transcript)
      (good_outcome rules P Q R keeps start script entries p q (omega (arith, remarked_length history answers, fits)) (meets R fine) (remarked_ranges history answers of_eight) commands_of_run
      (files_of (merged (order_of history) answers)) (ap files_of sessions_run) (any_refused (merged (order_of history) answers)) (ap any_refused sessions_run))

  run_length : (s : State D L) (es : List (Entry (Marked C))) → length (run_of rules s es) ≡ length es
  run_length s [] = refl
  run_length s (e ∷ rest) = ap suc (run_length (stepped rules s e) rest)

  -- a session that is none of the eight has no answer
  no_answers : (k : ℕ) → (k ≡ 0) ⊎ (8 < k) → lane (run_of rules start entries) k ≡ []
  no_answers k far =
      sym (lanes k).0 ∙ nothing (start.own k) (script k) (answers k) (subst (λ ps. AreAnswered rules k start.book history ps (start.own k) (script k) (answers k)) (are.no_others k far) (are.ran k))
    where
      nothing : (own : L) (commands : List C) (given : List (Answer F)) → AreAnswered rules k start.book history [] own commands given → given ≡ []
      nothing own [] [] all = refl
      nothing own [] (a ∷ given) all = absurd all
      nothing own (c ∷ commands) given all = absurd all

  -- the same, where the answers are readable
  pub readable_outcome : ((k : ℕ) → AllByRecursion IsReadable (answers k)) → length history + 1 < 2 ^ 64 → ((k : ℕ) → AllByRecursion (Tells rules) (script k))
      → IsOutcome rules start script (transcript (order_of history) answers) (files_of (merged (order_of history) answers)) (any_refused (merged (order_of history) answers))
  readable_outcome readable fits tells =
      let run : List (Entry (Answer F)) = run_of rules start entries in
      let printed : ArePrintable (lane run) = record {
        each = λ k. subst (AllByRecursion IsPrintable) (lanes k).0 (weaker printable_of (answers k) (readable k));
        few = λ k. omega (arith, lane_no_longer run k, run_length start entries, remarked_length history answers, fits);
      } in
      let says : (d : D) (l : L) (c : C) → Tells rules c → printable.says_memory (rules.reply d l c) ≡ false = λ d l c h. same_says (rules.reply d l c) ∙ h d l in
      let back = run_read_back rules (Tells rules) says start script entries (meets (Tells rules) tells) commands_of_run printed
      (no_answers 0 (inl refl)) (λ n far. no_answers n (inr far)) in
      let reading = run_reading rules (Tells rules) says start entries (meets (Tells rules) tells) printed (no_answers 0 (inl refl)) (λ n far. no_answers n (inr far)) in
      subst (λ bytes. IsOutcome rules start script bytes (files_of (merged (order_of history) answers)) (any_refused (merged (order_of history) answers))) (sym own_transcript)
      (record {
        merge = λ k. ap (λ o. length (filter (λ digit. digit == k) o)) reading.0 ∙ order_is_merge entries k ∙ sym (length-map (lane entries k) (λ (m : Marked C). m.command)) ∙ ap length (commands_of_run k);
        text = ap (λ es. transcript_of (run_of rules start es)) (sym back);
        files_put = ap files_of sessions_run ∙ ap (λ es. files_of (run_of rules start es)) (sym back);
        refused = ap any_refused sessions_run ∙ ap (λ es. any_refused (run_of rules start es)) (sym back);
      })

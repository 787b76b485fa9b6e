-- The transcript and the files of a script whose commands were answered one after the other, in an order of its sessions.
use Rattle.std.proofs.Common.{◌≡◌, ◌⊎◌, ℕ, suc, ◌<◌, ◌≤◌, ◌+◌, ◌^◌, ◌==◌, ◌||◌, Bool, true, false, cond, List, [], ◌∷◌, ◌++◌, All, filter, map, length, get_or, eq-eqb, inl, inr, refl, ap, ap₂, sym, ◌∙◌, subst, arith, Result, Ok, Err, IfOk, is_err}
use Rattle.std.specs.List.{AllByRecursion, list_any}
use Rattle.std.proofs.lemmas.Bool.{cases_lt}
use Rattle.std.proofs.lemmas.List.{length-map}
use Rattle.std.proofs.lemmas.List.Elements.{All-nil, All-cons, All-head, All-tail}
use mathlib.Core.Path.{fun_ext}
use Rattle.outside_core.specs.declared.traits.File.{File}
use Rattle.transcript.specs.Merge.{Entry, lane, merged, order_of}
use Rattle.transcript.specs.Outcome.{IsOutcome}
use Rattle.transcript.specs.Reading.{order_in}
use Rattle.transcript.specs.Run as run
use Rattle.transcript.specs.Run.{Marked, State, run_of, refuses, answer_refuses, any_refused, files_of}
use Rattle.transcript.specs.Transcript.{sessions, transcript, transcript_of}
use Rattle.transcript.proofs.MergeLaws.{merge_back, order_is_merge}
use Rattle.transcript.proofs.Readable.{good_outcome, good_reading, lane_no_longer, run_ranges}
use Rattle.transcript.proofs.RefusedLaws.{any_of_lanes, among_eight}
use Rattle.transcript.proofs.RunLaws.{run_order}
use Rattle.version_table.specs.Places.{total}
use Rattle.session_merge.proofs.JoinedLaws.{total_lanes}
use Rattle.object_set.proofs.Each.{by_each}
use Rattle.command_set.specs.declared.command.Command.{Command}
use Rattle.directory.specs.Listing.{Listing}
use Rattle.mged_words.specs.Entries.{HasSession}
use Rattle.mged_words.specs.Readable.{IsPlain, IsReadable}
use Rattle.session_run.specs.Answers.{core_answer}
use Rattle.session_run.specs.Replies.{Outcome, core_rules, start_from, shown}
use Rattle.session_run.specs.declared.answer.Answer.{Answer}
use Rattle.session_run.specs.Own.{OwnState}
use Rattle.session_run.proofs.CoreLaws.{Any_own, keeps}
use Rattle.session_run.proofs.EditLaws.{IsPlainListing}
use Rattle.script_run.specs.Answers.{core_answers, answers_at, is_refused}
use Rattle.script_run.specs.Runs.{IsOfEight, IsOrderedRun, IsRun, files_among}
use Rattle.script_run.specs.declared.run.Run.{Run}
use Rattle.script_run.proofs.TaskLaws.{far_lane}

-- the list of a session, of one entry more
pub lane_one : {X : Type 0} (x : Entry X) (xs : List (Entry X)) (k : ℕ) → lane (x ∷ []) k ++ lane xs k ≡ lane (x ∷ xs) k
lane_one x xs k = one_by (x.session == k) x.item (lane xs k)
  where
    one_by : {Y : Type 0} (t : Bool) (y : Y) (ys : List Y) → cond t (y ∷ []) [] ++ ys ≡ cond t (y ∷ ys) ys
    one_by true y ys = refl
    one_by false y ys = refl

-- the answers' lists
any_of_eight : (f : List Answer → Bool) (lists : List (List Answer)) → length lists ≡ 8 → list_any f lists ≡ list_any (λ k. f (answers_at lists k)) sessions
any_of_eight f (a ∷ b ∷ c ∷ d ∷ e ∷ g ∷ h ∷ i ∷ []) n = refl
any_of_eight f [] n = absurd (omega (arith, n))
any_of_eight f (a ∷ []) n = absurd (omega (arith, n))
any_of_eight f (a ∷ b ∷ []) n = absurd (omega (arith, n))
any_of_eight f (a ∷ b ∷ c ∷ []) n = absurd (omega (arith, n))
any_of_eight f (a ∷ b ∷ c ∷ d ∷ []) n = absurd (omega (arith, n))
any_of_eight f (a ∷ b ∷ c ∷ d ∷ e ∷ []) n = absurd (omega (arith, n))
any_of_eight f (a ∷ b ∷ c ∷ d ∷ e ∷ g ∷ []) n = absurd (omega (arith, n))
any_of_eight f (a ∷ b ∷ c ∷ d ∷ e ∷ g ∷ h ∷ []) n = absurd (omega (arith, n))
any_of_eight f (a ∷ b ∷ c ∷ d ∷ e ∷ g ∷ h ∷ i ∷ j ∷ rest) n = absurd (omega (arith, n))

refused_same : (r : Outcome) → is_err r ≡ refuses (shown r)
refused_same (Ok found) = refl
refused_same (Err refusal) = refl

any_refused_same : (answers : List Answer) → list_any is_refused answers ≡ list_any answer_refuses (map core_answer answers)
any_refused_same [] = refl
any_refused_same (a ∷ rest) = ap₂ ◌||◌ (refused_same a.outcome) (any_refused_same rest)

any_same : (f g : ℕ → Bool) (ks : List ℕ) → ((k : ℕ) → f k ≡ g k) → list_any f ks ≡ list_any g ks
any_same f g [] h = refl
any_same f g (k ∷ ks) h = ap₂ ◌||◌ (h k) (any_same f g ks h)

module _ {X : Type 0} where
  none_there : (t : Bool) (x : X) (xs : List X) → t ≡ true → cond t (x ∷ xs) xs ≡ [] → ⊥
  none_there true x xs is none = omega (arith, ap length none)
  none_there false x xs is none = absurd cc

  rest_none : (t : Bool) (x : X) (xs : List X) → cond t (x ∷ xs) xs ≡ [] → xs ≡ []
  rest_none true x xs none = absurd cc
  rest_none false x xs none = none

  -- entries are of the eight sessions where no other session has one
  pub eight_by_lanes : (es : List (Entry X)) → ((k : ℕ) → (k ≡ 0) ⊎ (8 < k) → lane es k ≡ []) → AllByRecursion (λ (e : Entry X). (1 ≤ e.session) × (e.session ≤ 8)) es
  eight_by_lanes [] none = tt
  eight_by_lanes (e ∷ rest) none = (near, eight_by_lanes rest (λ k far. rest_none (e.session == k) e.item (lane rest k) (none k far)))
    where
      not_far : (e.session ≡ 0) ⊎ (8 < e.session) → ⊥
      not_far far = none_there (e.session == e.session) e.item (lane rest e.session) (eq-eqb e.session e.session refl) (none e.session far)

      near : (1 ≤ e.session) × (e.session ≤ 8)
      near = elim (cases_lt 8 e.session) [
        | inl far ↦ absurd (not_far (inr far))
        | inr low ↦ elim (cases_lt 0 e.session) [ inl some ↦ (omega (arith, some), low) | inr first ↦ absurd (not_far (inl (omega (arith, first)))) ]
      ]

  pub orders_by : (es : List (Entry X)) → AllByRecursion (λ (e : Entry X). (1 ≤ e.session) × (e.session ≤ 8)) es → All IsOfEight (order_of es)
  orders_by [] all = All-nil IsOfEight
  orders_by (e ∷ rest) all = All-cons IsOfEight e.session (order_of rest) all.0 (orders_by rest all.1)

-- what holds of each session's commands holds of all
module _ (R : Command → Type 0) where
  rest_holds : (t : Bool) (m : Marked Command) (r : List (Marked Command)) → AllByRecursion R (map (λ (n : Marked Command). n.command) (cond t (m ∷ r) r)) → AllByRecursion R (map (λ (n : Marked Command). n.command) r)
  rest_holds true m r all = all.1
  rest_holds false m r all = all

  first_holds : (t : Bool) (m : Marked Command) (r : List (Marked Command)) → t ≡ true → AllByRecursion R (map (λ (n : Marked Command). n.command) (cond t (m ∷ r) r)) → R m.command
  first_holds true m r is all = all.0
  first_holds false m r is all = absurd cc

  all_hold : (es : List (Entry (Marked Command))) → ((k : ℕ) → AllByRecursion R (map (λ (n : Marked Command). n.command) (lane es k))) → AllByRecursion (λ (e : Entry (Marked Command)). R (e.item).command) es
  all_hold [] all = tt
  all_hold (e ∷ rest) all = (
    first_holds (e.session == e.session) e.item (lane rest e.session) (eq-eqb e.session e.session refl) (all e.session),
    all_hold rest (λ k. rest_holds (e.session == k) e.item (lane rest k) (all k)),
  )

lane_plain : (script : List (Entry Command)) (k : ℕ) → All IsReadable script → AllByRecursion IsPlain (lane script k)
lane_plain [] k all = tt
lane_plain (e ∷ rest) k all =
    elim (e.session == k) as (λ t. AllByRecursion IsPlain (cond t (e.item ∷ lane rest k) (lane rest k))) [
      | true ↦ (All-head IsReadable e rest all, lane_plain rest k (All-tail IsReadable e rest all))
      | false ↦ lane_plain rest k (All-tail IsReadable e rest all)
    ]

no_command : (ms : List (Marked Command)) → map (λ (m : Marked Command). m.command) ms ≡ [] → ms ≡ []
no_command [] none = refl
no_command (m ∷ ms) none = absurd cc

-- Entries of which the sessions' commands are a script, and of whose run these lists are the answers.
pub record IsRunBy (d : Listing) (script : List (Entry Command)) (entries : List (Entry (Marked Command))) (lists : List (List Answer)) : Type 0 where
  pub commands : (k : ℕ) → map (λ (m : Marked Command). m.command) (lane entries k) ≡ lane script k
  pub answers : (k : ℕ) → core_answers lists k ≡ lane (run_of core_rules (start_from d) entries) k

module _ (d : Listing) (script : List (Entry Command)) (entries : List (Entry (Marked Command))) (lists : List (List Answer)) (in_session : All HasSession script) (by : IsRunBy d script entries lists) where
  abbrev start : State Listing OwnState
  start = start_from d

  abbrev answered : List (Entry (run.Answer File))
  answered = run_of core_rules start entries

  entries_of_eight : AllByRecursion (λ (e : Entry (Marked Command)). (1 ≤ e.session) × (e.session ≤ 8)) entries
  entries_of_eight = eight_by_lanes entries (λ k far. no_command (lane entries k) (by.commands k ∙ far_lane script k in_session far))

  pub run_sessions : All IsOfEight (order_of entries)
  run_sessions = orders_by entries entries_of_eight

  commands_length : (k : ℕ) → length (lane entries k) ≡ length (lane script k)
  commands_length k = sym (length-map (lane entries k) (λ (m : Marked Command). m.command)) ∙ ap length (by.commands k)

  same_functions : ◌≡◌ {A = ℕ → ℕ} (λ k. length (lane entries k)) (λ k. length (lane script k))
  same_functions = fun_ext commands_length

  entries_length : length entries ≡ length script
  entries_length =
      sym (total_lanes entries entries_of_eight) ∙ ap (λ (f : ℕ → ℕ). total f sessions) same_functions ∙ total_lanes script (by_each HasSession script in_session)

  -- no session has more answers than the script has commands
  pub few_answers : (i : ℕ) → length (get_or lists i []) ≤ length script
  few_answers i =
      let k : ℕ = suc i in
      let counts : length (lane answered k) ≡ length (lane entries k) =
      sym (order_is_merge answered k) ∙ ap (λ (o : List ℕ). length (filter (λ digit. digit == k) o)) (run_order core_rules start entries) ∙ order_is_merge entries k in
      omega (arith, ap length (by.answers k), length-map (get_or lists i []) core_answer, counts, commands_length k, lane_no_longer script k)

  -- the transcript, the files, and whether a command is refused; and the first line prints the order
  pub is_run : (order text : List ℕ) (some_refused : Bool) → IsPlainListing d → All IsReadable script → length script + 1 < 2 ^ 32
      → order ≡ order_of entries → text ≡ transcript order (core_answers lists) → length lists ≡ 8 → some_refused ≡ list_any (list_any is_refused) lists
      → IsRun d script text order lists some_refused × (order_in text ≡ order)
  is_run order text some_refused plain readable few order_is text_is eight refused =
      let same : core_answers lists ≡ lane answered = fun_ext by.answers in
      let orders : order ≡ order_of answered = order_is ∙ sym (run_order core_rules start entries) in
      let text_run : text ≡ transcript_of answered = text_is ∙ ap₂ transcript orders same in
      let files : files_among order lists ≡ files_of answered = ap₂ (λ (o : List ℕ) (a : ℕ → List (run.Answer File)). files_of (merged o a)) orders same ∙ ap files_of (merge_back answered) in
      let each_list : (k : ℕ) → list_any is_refused (answers_at lists k) ≡ list_any answer_refuses (lane answered k) =
      λ k. any_refused_same (answers_at lists k) ∙ ap (list_any answer_refuses) (by.answers k) in
      let some : some_refused ≡ any_refused answered =
      refused ∙ any_of_eight (list_any is_refused) lists eight ∙ any_same _ _ sessions each_list
      ∙ any_of_lanes answer_refuses sessions among_eight answered (run_ranges core_rules start entries entries_of_eight) in
      let fits : start.book.version + length entries + 1 < 2 ^ 64 = omega (arith, entries_length, few) in
      let met = all_hold IsPlain entries (λ k. subst (AllByRecursion IsPlain) (sym (by.commands k)) (lane_plain script k readable)) in
      let reading = good_reading core_rules IsPlainListing Any_own IsPlain keeps start entries plain (λ j. tt) fits met entries_of_eight in (
        record {
          outcome = subst (λ t. IsOutcome core_rules start (lane script) t (files_among order lists) some_refused) (sym text_run)
              (good_outcome core_rules IsPlainListing Any_own IsPlain keeps start (lane script) entries plain (λ j. tt) fits met entries_of_eight by.commands (files_among order lists) files some_refused some);
          sessions = subst (All IsOfEight) (sym order_is) run_sessions;
          written = text_is;
        },
        ap order_in text_run ∙ reading.0 ∙ sym order_is,
      )

  -- the same of a run that was written
  pub ordered_run : {E : Type 0} (r : Result Run E) (order : List ℕ) → IsPlainListing d → All IsReadable script → length script + 1 < 2 ^ 32 → order ≡ order_of entries → length lists ≡ 8
      → IfOk r (λ x. x.text.items ≡ transcript order (core_answers lists)) → IfOk r (λ x. x.order.items ≡ order) → IfOk r (λ x. x.answers.items ≡ lists)
      → IfOk r (λ x. x.some_refused ≡ list_any (list_any is_refused) lists)
      → IfOk r (λ x. IsOrderedRun d script order x.text.items x.order.items x.answers.items x.some_refused)
  ordered_run (Err e) order plain readable few order_is eight text order_same answers_same refused = tt
  ordered_run (Ok x) order plain readable few order_is eight text order_same answers_same refused =
      let both = is_run order x.text.items x.some_refused plain readable few order_is text eight refused in
      subst (λ (ls : List (List Answer)). IsOrderedRun d script order x.text.items x.order.items ls x.some_refused) (sym answers_same)
      (subst (λ (o : List ℕ). IsOrderedRun d script order x.text.items o lists x.some_refused) (sym order_same) (record { run = both.0; in_order = both.1 }))

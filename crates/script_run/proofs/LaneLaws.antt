-- The sessions of a run on one thread, of which one is answered its next command.
use Rattle.std.proofs.Common.{◌≡◌, ℕ, zero, suc, ◌<◌, ◌≤◌, ◌+◌, ◌-◌, ◌==◌, Bool, true, false, cond, List, [], ◌∷◌, ◌++◌, All, filter, map, length, drop, replicate, get_or, set, append_assoc, OnOk, Result, Ok, Err, eqb-true, eq-eqb, inl, inr, refl, ap, ap₂, sym, ◌∙◌, subst, arith}
use Rattle.std.specs.List.{AllByRecursion}
use Rattle.std.proofs.lemmas.Bool.{eqb-false}
use Rattle.std.proofs.lemmas.List.{append-nil, drop_more, get_or-map, get_or-set_other, get_or-set_same, length-append, length-map, length_push, map-append, map-set, map_push}
use Rattle.std.proofs.lemmas.List.Elements.{filter-append}
use mathlib.Core.Path.{fun_ext}
use Rattle.object_set.proofs.Each.{by_each}
use Rattle.outside_core.specs.declared.traits.File.{File}
use Rattle.transcript.specs.Merge.{Entry, IsMerge, entry, lane, order_of}
use Rattle.transcript.specs.Run as run
use Rattle.transcript.specs.Run.{Marked, State, answer_of, answered, own_after, run_of, stepped}
use Rattle.transcript.specs.Transcript.{sessions}
use Rattle.transcript.proofs.MergeLaws.{order_is_merge}
use Rattle.version_table.specs.Places.{total}
use Rattle.session_merge.specs.Answered.{shown_as}
use Rattle.session_merge.proofs.JoinedLaws.{total_lanes}
use Rattle.command_set.specs.declared.command.Command.{Command}
use Rattle.directory.specs.Listing.{Listing}
use Rattle.mged_words.specs.Entries.{HasSession}
use Rattle.session_run.specs.Answers.{core_answer, core_book}
use Rattle.session_run.specs.Laws.{state_after}
use Rattle.session_run.specs.Replies.{core_rules, nothing_used, start_from}
use Rattle.session_run.specs.declared.answer.Answer.{Answer}
use Rattle.session_run.specs.declared.answer.Book.{Book}
use Rattle.session_run.specs.Own.{OwnState}
use Rattle.session_run.proofs.PlaceLaws.{answers_at_places}
use Rattle.script_run.specs.Answers.{answers_at, core_answers, core_state, left_at, left_of, list_at, lists_of, own_at, owns_of}
use Rattle.script_run.specs.Runs.{IsOfEight}
use Rattle.script_run.specs.Steps.{HasAnswered, HaveAnswered}
use Rattle.script_run.specs.declared.run.Lane.{Lane}
use Rattle.script_run.proofs.RunLaws.{IsRunBy, eight_by_lanes, orders_by}
use Rattle.script_run.proofs.TaskLaws.{far_lane}

pub on_ok : {T E A B : Type 0} (r : Result T E) → (A → B) → OnOk r A → OnOk r B
on_ok (Ok t) f h = f h
on_ok (Err e) f h = tt

-- the first of those that are left
pub first_left : {X Y Z : Type 0} (f : X → Y) (xs : List X) (done : List Z) (last : Z) (next : X) → length done < length xs → next ≡ get_or xs (length done) next
    → drop (length done) (map f xs) ≡ f next ∷ drop (length (done ++ last ∷ [])) (map f xs)
first_left {X} {Y} {Z} f xs done last next lt at =
    let n : ℕ = length done in
    drop_more (map f xs) n (f next) (omega (arith, lt, length-map xs f))
    ∙ ap (λ (y : Y). y ∷ drop (n + 1) (map f xs)) (get_or-map f xs n next (f next) lt ∙ ap f (sym at))
    ∙ ap (λ (k : ℕ). f next ∷ drop k (map f xs)) (sym (length_push done last))

-- What a list has for a session, where the first is that of session 1.
module _ {X : Type 0} (d : X) (g : List X → ℕ → X) (first : (xs : List X) → g xs 0 ≡ d) (next : (xs : List X) (n : ℕ) → g xs (suc n) ≡ get_or xs n d) where
  at_here : (xs : List X) (session place : ℕ) → 1 ≤ session → place ≡ session - 1 → g xs session ≡ get_or xs place d
  at_here xs zero place some here = absurd (omega (arith, some))
  at_here xs (suc n) place some here = let same : n ≡ place = omega (arith, here) in next xs n ∙ ap (λ p. get_or xs p d) same

  at_same : (xs : List X) (session place : ℕ) (v : X) (k : ℕ) → 1 ≤ session → place ≡ session - 1 → place < length xs → (session == k) ≡ true → g (set xs place v) k ≡ v
  at_same xs session place v k some here lt is = subst (λ n. g (set xs place v) n ≡ v) (eqb-true session k is) (at_here (set xs place v) session place some here ∙ get_or-set_same xs place v d lt)

  at_other : (xs : List X) (session place : ℕ) (v : X) (k : ℕ) → 1 ≤ session → place ≡ session - 1 → (session == k) ≡ false → g (set xs place v) k ≡ g xs k
  at_other xs session place v zero some here is = first (set xs place v) ∙ sym (first xs)
  at_other xs session place v (suc k) some here is =
      next (set xs place v) k ∙ get_or-set_other xs place k v d (λ e. eqb-false session (suc k) is (omega (arith, e, some, here))) ∙ sym (next xs k)

by_either : {Y : Type 0} (t : Bool) (x a b : Y) → (t ≡ true → x ≡ a) → (t ≡ false → x ≡ b) → x ≡ cond t a b
by_either true x a b one other = one refl
by_either false x a b one other = other refl

-- a session's list, of one entry more at the end
append_cond : {Y : Type 0} (t : Bool) (y : Y) (ys zs : List Y) → cond t (y ∷ (ys ++ zs)) (ys ++ zs) ≡ cond t (y ∷ ys) ys ++ zs
append_cond true y ys zs = refl
append_cond false y ys zs = refl

lane_append : {X : Type 0} (xs ys : List (Entry X)) (k : ℕ) → lane (xs ++ ys) k ≡ lane xs k ++ lane ys k
lane_append [] ys k = refl
lane_append (x ∷ xs) ys k = ap (λ r. cond (x.session == k) (x.item ∷ r) r) (lane_append xs ys k) ∙ append_cond (x.session == k) x.item (lane xs k) (lane ys k)

state_push : (s : State Listing OwnState) (es : List (Entry (Marked Command))) (e : Entry (Marked Command)) → state_after s (es ++ e ∷ []) ≡ stepped core_rules (state_after s es) e
state_push s [] e = refl
state_push s (x ∷ es) e = state_push (stepped core_rules s x) es e

with_left : (t : Bool) (m : Marked Command) (left left' : List Command) → (t ≡ true → left ≡ m.command ∷ left') → (t ≡ false → left ≡ left')
    → map (λ (n : Marked Command). n.command) (cond t (m ∷ []) []) ++ left' ≡ left
with_left true m left left' one other = sym (one refl)
with_left false m left left' one other = sym (other refl)

with_answer : (t : Bool) (a : Answer) (old new : List (run.Answer File)) → (t ≡ true → new ≡ old ++ core_answer a ∷ []) → (t ≡ false → new ≡ old) → new ≡ old ++ cond t (core_answer a ∷ []) []
with_answer true a old new one other = one refl
with_answer false a old new one other = other refl ∙ sym (append-nil old)

-- One session of eight, by its place in the list.
module _ (session place : ℕ) (lanes : List Lane) (one : Lane) (some : 1 ≤ session) (here : place ≡ session - 1) (within : place < length lanes) (at : one ≡ get_or lanes place one) where
  own_of_session : own_at (owns_of lanes) session ≡ one.own
  own_of_session =
      at_here nothing_used own_at (λ xs. refl) (λ xs n. refl) (owns_of lanes) session place some here
      ∙ get_or-map (λ (l : Lane). l.own) lanes place one nothing_used within ∙ ap (λ (l : Lane). l.own) (sym at)

  list_of_session : answers_at (lists_of lanes) session ≡ one.answers
  list_of_session =
      at_here [] answers_at (λ xs. refl) (λ xs n. refl) (lists_of lanes) session place some here
      ∙ get_or-map (λ (l : Lane). l.answers) lanes place one [] within ∙ ap (λ (l : Lane). l.answers) (sym at)

  pub left_of_session : left_at lanes session ≡ left_of one
  left_of_session =
      at_here [] list_at (λ xs. refl) (λ xs n. refl) (map left_of lanes) session place some here ∙ get_or-map left_of lanes place one [] within ∙ ap left_of (sym at)

  owns_within : place < length (owns_of lanes)
  owns_within = omega (arith, within, length-map lanes (λ (l : Lane). l.own))

  lists_within : place < length (lists_of lanes)
  lists_within = omega (arith, within, length-map lanes (λ (l : Lane). l.answers))

  left_within : place < length (map left_of lanes)
  left_within = omega (arith, within, length-map lanes left_of)

  -- It was answered its next command.
  module _ (old new : Book) (one' : Lane) (has : HasAnswered old new one one') where
    abbrev lanes' : List Lane
    lanes' = set lanes place one'

    abbrev m : Marked Command
    m = shown_as has.command (core_answer has.answer)

    abbrev said : Entry (Marked Command)
    said = entry session m

    -- what the sessions have of their own
    owns_set : owns_of lanes' ≡ set (owns_of lanes) place one'.own
    owns_set = map-set (λ (l : Lane). l.own) lanes place one'

    own_step : (k : ℕ) → own_at (owns_of lanes') k ≡ cond (session == k) (own_after core_rules (core_book old) (own_at (owns_of lanes) k) m) (own_at (owns_of lanes) k)
    own_step k =
        by_either (session == k) (own_at (owns_of lanes') k) (own_after core_rules (core_book old) (own_at (owns_of lanes) k) m) (own_at (owns_of lanes) k)
        (λ is. ap (λ (os : List OwnState). own_at os k) owns_set
        ∙ at_same nothing_used own_at (λ xs. refl) (λ xs n. refl) (owns_of lanes) session place one'.own k some here owns_within is
        ∙ has.own
        ∙ ap (λ (o : OwnState). own_after core_rules (core_book old) o m) (sym own_of_session ∙ ap (own_at (owns_of lanes)) (eqb-true session k is)))
        (λ is. ap (λ (os : List OwnState). own_at os k) owns_set ∙ at_other nothing_used own_at (λ xs. refl) (λ xs n. refl) (owns_of lanes) session place one'.own k some here is)

    state_next : core_state new (owns_of lanes') ≡ stepped core_rules (core_state old (owns_of lanes)) said
    state_next = ap₂ (λ (b : run.Book Listing) (o : ℕ → OwnState). record { book = b; own = o }) has.book (fun_ext own_step)

    -- their answers
    lists_set : lists_of lanes' ≡ set (lists_of lanes) place one'.answers
    lists_set = map-set (λ (l : Lane). l.answers) lanes place one'

    answers_next : (k : ℕ) → core_answers (lists_of lanes') k ≡ core_answers (lists_of lanes) k ++ lane (entry session (core_answer has.answer) ∷ []) k
    answers_next k =
        with_answer (session == k) has.answer (core_answers (lists_of lanes) k) (core_answers (lists_of lanes') k)
        (λ is. ap (λ (ls : List (List Answer)). core_answers ls k) lists_set
        ∙ ap (map core_answer) (at_same [] answers_at (λ xs. refl) (λ xs n. refl) (lists_of lanes) session place one'.answers k some here lists_within is ∙ has.answers)
        ∙ map_push core_answer one.answers has.answer
        ∙ ap (λ (l : List Answer). map core_answer l ++ core_answer has.answer ∷ []) (sym list_of_session ∙ ap (answers_at (lists_of lanes)) (eqb-true session k is)))
        (λ is. ap (λ (ls : List (List Answer)). core_answers ls k) lists_set
        ∙ ap (map core_answer) (at_other [] answers_at (λ xs. refl) (λ xs n. refl) (lists_of lanes) session place one'.answers k some here is))

    -- the commands that are left
    left_set : map left_of lanes' ≡ set (map left_of lanes) place (left_of one')
    left_set = map-set left_of lanes place one'

    left_next : (k : ℕ) → map (λ (n : Marked Command). n.command) (lane (said ∷ []) k) ++ left_at lanes' k ≡ left_at lanes k
    left_next k =
        with_left (session == k) m (left_at lanes k) (left_at lanes' k)
        (λ is. sym (ap (left_at lanes) (eqb-true session k is)) ∙ left_of_session ∙ has.left
        ∙ ap (λ (cs : List Command). has.command ∷ cs)
        (sym (ap (λ (ls : List (List Command)). list_at ls k) left_set ∙ at_same [] list_at (λ xs. refl) (λ xs n. refl) (map left_of lanes) session place (left_of one') k some here left_within is)))
        (λ is. sym (ap (λ (ls : List (List Command)). list_at ls k) left_set ∙ at_other [] list_at (λ xs. refl) (λ xs n. refl) (map left_of lanes) session place (left_of one') k some here is))

    module _ (start : State Listing OwnState) (script : ℕ → List Command) (order : List ℕ) (so : HaveAnswered start script order old lanes) where
      said_answer : answered core_rules (state_after start so.done) said ≡ entry session (core_answer has.answer)
      said_answer =
          ap (λ (s : State Listing OwnState). answered core_rules s said) (sym so.state)
          ∙ ap (λ (o : OwnState). entry session (answer_of core_rules (core_book old) o m)) own_of_session
          ∙ ap (entry session) (sym has.answer_is)

      run_next : run_of core_rules start (so.done ++ said ∷ []) ≡ run_of core_rules start so.done ++ entry session (core_answer has.answer) ∷ []
      run_next = answers_at_places start so.done [] said ∙ ap (λ (a : Entry (run.Answer File)). run_of core_rules start so.done ++ a ∷ []) said_answer

      pub next_answered : HaveAnswered start script (order ++ session ∷ []) new lanes'
      next_answered = record {
        done = so.done ++ said ∷ [];
        order_is = map_push (λ (e : Entry (Marked Command)). e.session) so.done said ∙ ap (λ (o : List ℕ). o ++ session ∷ []) so.order_is;
        commands = λ k.
            ap (λ (ms : List (Marked Command)). map (λ (n : Marked Command). n.command) ms ++ left_at lanes' k) (lane_append so.done (said ∷ []) k)
            ∙ ap (λ (cs : List Command). cs ++ left_at lanes' k) (map-append (λ (n : Marked Command). n.command) (lane so.done k) (lane (said ∷ []) k))
            ∙ append_assoc (map (λ (n : Marked Command). n.command) (lane so.done k)) (map (λ (n : Marked Command). n.command) (lane (said ∷ []) k)) (left_at lanes' k)
            ∙ ap (λ (cs : List Command). map (λ (n : Marked Command). n.command) (lane so.done k) ++ cs) (left_next k)
            ∙ so.commands k;
        answers = λ k.
            answers_next k ∙ ap (λ (given : List (run.Answer File)). given ++ lane (entry session (core_answer has.answer) ∷ []) k) (so.answers k)
            ∙ sym (ap (λ (es : List (Entry (run.Answer File))). lane es k) run_next ∙ lane_append (run_of core_rules start so.done) (entry session (core_answer has.answer) ∷ []) k);
        state = state_next ∙ ap (λ (s : State Listing OwnState). stepped core_rules s said) so.state ∙ sym (state_push start so.done said);
      }

-- before the first command
pub none_answered : (book : Book) (lanes : List Lane) → ((k : ℕ) → core_answers (lists_of lanes) k ≡ []) → HaveAnswered (core_state book (owns_of lanes)) (left_at lanes) [] book lanes
none_answered book lanes none = record { done = []; order_is = refl; commands = λ k. refl; answers = none; state = refl }

-- how often a session comes in an order
abbrev count_of : ℕ → List ℕ → ℕ
count_of k order = length (filter (λ digit. digit == k) order)

module _ (start : State Listing OwnState) (script : ℕ → List Command) (order : List ℕ) (book : Book) (lanes : List Lane) (so : HaveAnswered start script order book lanes) where
  left_length : (k : ℕ) → count_of k order + length (left_at lanes k) ≡ length (script k)
  left_length k =
      let done : length (map (λ (n : Marked Command). n.command) (lane so.done k)) ≡ count_of k order =
      length-map (lane so.done k) (λ (n : Marked Command). n.command) ∙ sym (order_is_merge so.done k) ∙ ap (count_of k) so.order_is in
      omega (arith, done, ap length (so.commands k), length-append (map (λ (n : Marked Command). n.command) (lane so.done k)) (left_at lanes k))

  -- a session that comes next in the order has a command left
  pub some_left : (whole after : List ℕ) (k : ℕ) → IsMerge whole script → whole ≡ order ++ k ∷ after → 0 < length (left_at lanes k)
  some_left whole after k merge is =
      let here : count_of k (k ∷ after) ≡ suc (count_of k after) = ap (λ t. length (cond t (k ∷ filter (λ digit. digit == k) after) (filter (λ digit. digit == k) after))) (eq-eqb k k refl) in
      let both : count_of k whole ≡ count_of k order + count_of k (k ∷ after) =
      ap (count_of k) is ∙ ap length (filter-append (λ digit. digit == k) order (k ∷ after))
      ∙ length-append (filter (λ digit. digit == k) order) (filter (λ digit. digit == k) (k ∷ after)) in
      omega (arith, left_length k, merge k, both, here)

no_item : {X : Type 0} (xs : List X) → length xs ≡ 0 → xs ≡ []
no_item [] is = refl
no_item (x ∷ xs) is = absurd (omega (arith, is))

-- where the order merges the script, no command is left
pub all_answered : (d : Listing) (script : List (Entry Command)) (order : List ℕ) (book : Book) (lanes : List Lane) → IsMerge order (lane script)
    → (so : HaveAnswered (start_from d) (lane script) order book lanes) → IsRunBy d script so.done (lists_of lanes)
all_answered d script order book lanes merge so =
    let none : (k : ℕ) → left_at lanes k ≡ [] = λ k. no_item (left_at lanes k) (omega (arith, left_length (start_from d) (lane script) order book lanes so k, merge k)) in
    record {
      commands = λ k.
          sym (append-nil (map (λ (n : Marked Command). n.command) (lane so.done k)))
          ∙ ap (λ (cs : List Command). map (λ (n : Marked Command). n.command) (lane so.done k) ++ cs) (sym (none k)) ∙ so.commands k;
      answers = so.answers;
    }

-- An order that merges a script has its sessions, and as many as the script has commands.
module _ (script : List (Entry Command)) (order : List ℕ) (in_session : All HasSession script) (merge : IsMerge order (lane script)) where
  abbrev turns : List (Entry ℕ)
  turns = map (λ (d : ℕ). entry d d) order

  order_of_turns : (ds : List ℕ) → order_of (map (λ (d : ℕ). entry d d) ds) ≡ ds
  order_of_turns [] = refl
  order_of_turns (d ∷ ds) = ap (λ (r : List ℕ). d ∷ r) (order_of_turns ds)

  turns_length : (k : ℕ) → length (lane turns k) ≡ length (lane script k)
  turns_length k = sym (order_is_merge turns k) ∙ ap (count_of k) (order_of_turns order) ∙ merge k

  turns_of_eight : AllByRecursion (λ (e : Entry ℕ). (1 ≤ e.session) × (e.session ≤ 8)) turns
  turns_of_eight = eight_by_lanes turns (λ k far. no_item (lane turns k) (turns_length k ∙ ap length (far_lane script k in_session far)))

  pub order_of_eight : All IsOfEight order
  order_of_eight = subst (All IsOfEight) (order_of_turns order) (orders_by turns turns_of_eight)

  same_lengths : ◌≡◌ {A = ℕ → ℕ} (λ k. length (lane turns k)) (λ k. length (lane script k))
  same_lengths = fun_ext turns_length

  pub order_length : length order ≡ length script
  order_length =
      sym (length-map order (λ (d : ℕ). entry d d)) ∙ sym (total_lanes turns turns_of_eight) ∙ ap (λ (f : ℕ → ℕ). total f sessions) same_lengths
      ∙ total_lanes script (by_each HasSession script in_session)

-- at the start no session has used any
pub same_past : {X : Type 0} (n : ℕ) (x : X) (k : ℕ) → get_or (replicate n x) k x ≡ x
same_past zero x k = refl
same_past (suc n) x zero = refl
same_past (suc n) x (suc k) = same_past n x k

none_used : (owns : List OwnState) → owns ≡ replicate 8 nothing_used → ◌≡◌ {A = ℕ → OwnState} (own_at owns) (λ k. nothing_used)
none_used owns is = ap own_at is ∙ fun_ext zero_at
  where
    zero_at : (k : ℕ) → own_at (replicate 8 nothing_used) k ≡ nothing_used
    zero_at zero = refl
    zero_at (suc n) = same_past 8 nothing_used n

pub start_is : (d : Listing) (owns : List OwnState) → owns ≡ replicate 8 nothing_used → core_state (record { directory = d; version = 0 }) owns ≡ start_from d
start_is d owns none = ap (λ (own : ℕ → OwnState). record { book = record { directory = d; version = 0 }; own = own }) (none_used owns none)

-- no session has an answer yet
pub no_answers_yet : (lists : List (List Answer)) (k : ℕ) → lists ≡ replicate 8 [] → core_answers lists k ≡ []
no_answers_yet lists k is = ap (λ (ls : List (List Answer)). core_answers ls k) is ∙ ap (map core_answer) (empty_at k)
  where
    empty_at : (k : ℕ) → answers_at (replicate 8 []) k ≡ []
    empty_at zero = refl
    empty_at (suc n) = same_past 8 [] n

-- each session has all of its commands left
pub all_left : (script : List (Entry Command)) (lanes : List Lane) → All HasSession script → map left_of lanes ≡ map (lane script) sessions → ◌≡◌ {A = ℕ → List Command} (left_at lanes) (lane script)
all_left script lanes in_session is = fun_ext (λ k. ap (λ (ls : List (List Command)). list_at ls k) is ∙ all_at k)
  where
    all_at : (k : ℕ) → list_at (map (lane script) sessions) k ≡ lane script k
    all_at zero = sym (far_lane script 0 in_session (inl refl))
    all_at (suc zero) = refl
    all_at (suc (suc zero)) = refl
    all_at (suc (suc (suc zero))) = refl
    all_at (suc (suc (suc (suc zero)))) = refl
    all_at (suc (suc (suc (suc (suc zero))))) = refl
    all_at (suc (suc (suc (suc (suc (suc zero)))))) = refl
    all_at (suc (suc (suc (suc (suc (suc (suc zero))))))) = refl
    all_at (suc (suc (suc (suc (suc (suc (suc (suc zero)))))))) = refl
    all_at (suc (suc (suc (suc (suc (suc (suc (suc (suc k))))))))) = sym (far_lane script (suc (suc (suc (suc (suc (suc (suc (suc (suc k))))))))) in_session (inr (omega arith)))

-- All sessions were answered all of their commands, in this order, from the first state.
pub whole_run : (d : Listing) (script : List (Entry Command)) (order given : List ℕ) (first lanes : List Lane) (book : Book) → All HasSession script → IsMerge order (lane script) → given ≡ order
    → map left_of first ≡ map (lane script) sessions → owns_of first ≡ replicate 8 nothing_used
    → HaveAnswered (core_state (record { directory = d; version = 0 }) (owns_of first)) (left_at first) given book lanes
    → (entries : List (Entry (Marked Command))) × (order_of entries ≡ order) × IsRunBy d script entries (lists_of lanes)
whole_run d script order given first lanes book in_session merge same left owns all =
    let so : HaveAnswered (start_from d) (lane script) order book lanes =
    subst (λ (o : List ℕ). HaveAnswered (start_from d) (lane script) o book lanes) same
    (subst (λ (f : ℕ → List Command). HaveAnswered (start_from d) f given book lanes) (all_left script first in_session left)
    (subst (λ (s : State Listing OwnState). HaveAnswered s (left_at first) given book lanes) (start_is d (owns_of first) owns) all)) in
    (so.done, so.order_is, all_answered d script order book lanes merge so)

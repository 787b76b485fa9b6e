-- The tasks of a script's sessions, and what was run of them.
use Rattle.std.proofs.Common.{◌≡◌, ◌⊎◌, ◌≤◌, ◌<◌, ◌+◌, ◌-◌, ◌++◌, ◌==◌, ◌||◌, ℕ, zero, suc, Bool, true, false, cond, List, [], ◌∷◌, All, nat_lt, filter, length, map, take, slice_index_or, eqb-true, inl, inr, ◌∙◌, refl, ap, ap₂, sym, subst, arith}
use Rattle.std.specs.List.{AllByRecursion, list_any}
use Rattle.std.proofs.lemmas.Bool.{ltb-false, ne_eqb}
use Rattle.std.proofs.lemmas.List.Elements.{All-head, All-tail, filter-append}
use Rattle.atomic_table.specs.Seated.{TableId}
use Rattle.object_set.proofs.Each.{by_each}
use Rattle.transcript.specs.Merge.{Entry, lane}
use Rattle.transcript.specs.Transcript.{sessions}
use Rattle.version_table.specs.Passes.{PassView, handed_over, pass_of}
use Rattle.version_table.specs.Places.{AllAbove, IsRising, total}
use Rattle.session_merge.specs.Answered.{AreAnswered}
use Rattle.session_merge.specs.Joined.{HasDone, HaveRun, HaveSeen, all_together, answers_of, passes_of, sessions_in}
use Rattle.session_merge.specs.Noted.{entries_of}
use Rattle.session_merge.proofs.JoinedLaws.{lanes_within, sessions_next, total_lanes}
use Rattle.command_set.specs.declared.command.Command.{Command}
use Rattle.directory.specs.Listing.{Listing}
use Rattle.mged_words.specs.Entries.{HasSession}
use Rattle.session_run.specs.Answers.{core_answer}
use Rattle.session_run.specs.Replies.{core_rules, nothing_used, start_from}
use Rattle.session_run.specs.Sessions.{HasRun}
use Rattle.session_run.specs.declared.answer.Answer.{Answer}
use Rattle.session_run.specs.Own.{OwnState}
use Rattle.script_run.specs.Answers.{core_answers}
use Rattle.script_run.specs.AtOnce.{AreAllRun, CanJoin, CanRun, IsRunOf, IsTask, all_done, done_of, number_of, own_pass, those_with}
use Rattle.script_run.specs.declared.at_once.Finished.{Finished}
use Rattle.script_run.specs.declared.tasks.Task.{Task}
use Rattle.script_run.proofs.WriteLaws.{nth}

-- a pass that hands calls over is what it was, with fewer calls
pub still_first : (id : TableId) (n : ℕ) (old new : PassView Command) → old ≡ pass_of id 0 [] [] old.left → new ≡ handed_over n old → new ≡ pass_of id 0 [] [] new.left
still_first id n old new was hands =
    let m : ℕ = old.left - n in
    hands ∙ ap (λ (q : PassView Command). pass_of q.table q.session q.seen q.own m) was ∙ ap (λ (k : ℕ). pass_of id 0 [] [] k) (sym (ap (λ (q : PassView Command). q.left) hands))

abbrev pub calls_of : List (Entry Command) → ℕ → ℕ
calls_of script k = length (lane script k)

-- there are calls left for the next session
pub calls_there : (script : List (Entry Command)) (i left : ℕ) → i < 8 → left + total (calls_of script) (take i sessions) ≡ length script → length (lane script (i + 1)) ≤ left
calls_there script i left below is = omega (arith, is, sessions_next (calls_of script) i below, lanes_within script (i + 1))

pub calls_next : (script : List (Entry Command)) (i left new : ℕ) → i < 8 → left + total (calls_of script) (take i sessions) ≡ length script → new ≡ left - length (lane script (i + 1))
    → new + total (calls_of script) (take (i + 1) sessions) ≡ length script
calls_next script i left new below is hands = omega (arith, is, hands, sessions_next (calls_of script) i below, calls_there script i left below is)

-- the sessions have all calls
pub calls_all : (script : List (Entry Command)) (left : ℕ) → All HasSession script → left + total (calls_of script) (take 8 sessions) ≡ length script → left ≡ 0
calls_all script left all is = omega (arith, is, total_lanes script (by_each HasSession script all))

-- one session more
pub numbers_next : (script : List (Entry Command)) (i : ℕ) (old new : List ℕ) → i < 8 → old ≡ those_with script (take i sessions) → new ≡ old ++ those_with script ((i + 1) ∷ []) → new ≡ those_with script (take (i + 1) sessions)
numbers_next script i old new below was is =
    let f : ℕ → Bool = λ k. nat_lt 0 (length (lane script k)) in
    is ∙ ap (λ ns. ns ++ filter f ((i + 1) ∷ [])) was ∙ sym (filter-append f (take i sessions) ((i + 1) ∷ [])) ∙ ap (filter f) (sym (nth i below))

-- a task can be run
pub can_run : (id : TableId) (script : List (Entry Command)) (t : Task) → IsTask id script t → CanRun id t
can_run id script t is = record {
  table = ap (λ (p : PassView Command). p.table) is.pass;
  session = ap (λ (p : PassView Command). p.session) is.pass ∙ sym is.session;
  calls = omega (arith, ap length is.commands, ap (λ (p : PassView Command). p.left) is.pass);
}

-- The session of this number has run its commands of the script.
pub record IsFinished (opening : Listing) (id : TableId) (script : List (Entry Command)) (f : Finished) : Type 0 where
  pub number : (1 ≤ f.number) × (f.number ≤ 8)
  pub ran : HasRun opening nothing_used (lane script f.number) (own_pass id script f.number) f.pass f.answers

-- what was run of a task is the session's part of the script
finished_one : (opening : Listing) (id : TableId) (script : List (Entry Command)) (t : Task) (f : Finished) → IsTask id script t → IsRunOf opening t f → IsFinished opening id script f
finished_one opening id script t f is run =
    let n : ℕ = f.number in
    let same : t.number ≡ n = sym run.number in
    record {
      number = subst (λ k. (1 ≤ k) × (k ≤ 8)) same is.number;
      ran = subst (λ (o : OwnState). HasRun opening o (lane script n) (own_pass id script n) f.pass f.answers) is.own
          (subst (λ (cs : List Command). HasRun opening t.session.own cs (own_pass id script n) f.pass f.answers) (is.commands ∙ ap (lane script) same)
          (subst (λ (p : PassView Command). HasRun opening t.session.own t.session.commands p f.pass f.answers) (is.pass ∙ ap (own_pass id script) same) run.ran));
    }

abbrev pub number_after : Finished → ℕ
number_after f = f.number

finished_each : (opening : Listing) (id : TableId) (script : List (Entry Command)) (tasks : List Task) (finished : List Finished) → length finished ≡ length tasks → All (IsTask id script) tasks
    → ((i : ℕ) (t : Task) (f : Finished) → i < length tasks → IsRunOf opening (slice_index_or tasks i t) (slice_index_or finished i f))
    → AllByRecursion (IsFinished opening id script) finished × (map number_after finished ≡ map number_of tasks)
finished_each opening id script [] [] same all each = (tt, refl)
finished_each opening id script [] (f ∷ fs) same all each = absurd (omega (arith, same))
finished_each opening id script (t ∷ ts) [] same all each = absurd (omega (arith, same))
finished_each opening id script (t ∷ ts) (f ∷ fs) same all each =
    let run : IsRunOf opening t f = each 0 t f (omega arith) in
    let rest = finished_each opening id script ts fs (omega (arith, same)) (All-tail (IsTask id script) t ts all) (λ i u g lt. each (suc i) u g (omega (arith, lt))) in
    ((finished_one opening id script t f (All-head (IsTask id script) t ts all) run, rest.0), ap₂ (λ (n : ℕ) (ns : List ℕ). n ∷ ns) run.number rest.1)

-- all tasks were run, those of the sessions that have a command
pub tasks_run : (opening : Listing) (id : TableId) (script : List (Entry Command)) (tasks : List Task) (finished : List Finished) → length finished ≡ length tasks → All (IsTask id script) tasks
    → map number_of tasks ≡ those_with script sessions → ((i : ℕ) (t : Task) (f : Finished) → i < length tasks → IsRunOf opening (slice_index_or tasks i t) (slice_index_or finished i f))
    → AllByRecursion (IsFinished opening id script) finished × (map number_after finished ≡ those_with script sessions)
tasks_run opening id script tasks finished same all numbers each =
    let run = finished_each opening id script tasks finished same all each in
    (run.0, run.1 ∙ numbers)

-- its pass can be joined
pub can_join : (opening : Listing) (id : TableId) (script : List (Entry Command)) (fs : List Finished) → AllByRecursion (IsFinished opening id script) fs → AllByRecursion (CanJoin id) fs
can_join opening id script [] each = tt
can_join opening id script (f ∷ fs) each = (record { number = each.0.number; session = each.0.ran.session; table = each.0.ran.table }, can_join opening id script fs each.1)

pub sessions_after : (opening : Listing) (id : TableId) (script : List (Entry Command)) (fs : List Finished) → AllByRecursion (IsFinished opening id script) fs → sessions_in (all_done fs) ≡ map number_after fs
sessions_after opening id script [] each = refl
sessions_after opening id script (f ∷ fs) each = ap₂ (λ (n : ℕ) (ns : List ℕ). n ∷ ns) each.0.ran.session (sessions_after opening id script fs each.1)

-- some of rising numbers rise
above_some : (f : ℕ → Bool) (x : ℕ) (xs : List ℕ) → AllAbove x xs → AllAbove x (filter f xs)
above_some f x [] above = tt
above_some f x (y ∷ ys) above = elim (f y) as (λ t. AllAbove x (cond t (y ∷ filter f ys) (filter f ys))) [ true ↦ (above.0, above_some f x ys above.1) | false ↦ above_some f x ys above.1 ]

rising_some : (f : ℕ → Bool) (xs : List ℕ) → IsRising xs → IsRising (filter f xs)
rising_some f [] rising = tt
rising_some f (x ∷ xs) rising =
    elim (f x) as (λ t. IsRising (cond t (x ∷ filter f xs) (filter f xs))) [ true ↦ (above_some f x xs rising.0, rising_some f xs rising.1) | false ↦ rising_some f xs rising.1 ]

eight_rise : IsRising sessions
eight_rise = (
  (omega arith, (omega arith, (omega arith, (omega arith, (omega arith, (omega arith, (omega arith, tt))))))),
  (
    (omega arith, (omega arith, (omega arith, (omega arith, (omega arith, (omega arith, tt)))))),
    (
      (omega arith, (omega arith, (omega arith, (omega arith, (omega arith, tt))))),
      ((omega arith, (omega arith, (omega arith, (omega arith, tt)))), ((omega arith, (omega arith, (omega arith, tt))), ((omega arith, (omega arith, tt)), ((omega arith, tt), (tt, tt))))),
    ),
  ),
)

pub apart_of : (script : List (Entry Command)) (numbers : List ℕ) → numbers ≡ those_with script sessions → IsRising numbers
apart_of script numbers is = subst IsRising (sym is) (rising_some (λ k. nat_lt 0 (length (lane script k))) sessions eight_rise)

-- a session that is none of the eight has no command
none_by : {X : Type 0} (t : Bool) (x : X) (xs : List X) → t ≡ false → xs ≡ [] → cond t (x ∷ xs) xs ≡ []
none_by true x xs is none = absurd cc
none_by false x xs is none = none

pub far_lane : (script : List (Entry Command)) (k : ℕ) → All HasSession script → (k ≡ 0) ⊎ (8 < k) → lane script k ≡ []
far_lane [] k all far = refl
far_lane (e ∷ rest) k all far =
    let near : (1 ≤ e.session) × (e.session ≤ 8) = All-head HasSession e rest all in
    none_by (e.session == k) e.item (lane rest k) (ne_eqb e.session k (λ same. omega (arith, same, near.0, near.1, far))) (far_lane rest k (All-tail HasSession e rest all) far)

-- a number that is among some, and not among those that pass a test, does not pass it
or_false : (t u : Bool) → (t || u) ≡ false → u ≡ false
or_false true u is = absurd cc
or_false false u is = is

passed_by : (t u v : Bool) → (t ≡ true → v ≡ u) → (a b : Bool) → (a ≡ true → b ≡ false → v ≡ false) → (t || a) ≡ true → cond u (t || b) b ≡ false → v ≡ false
passed_by true true v same a b rest there none = absurd cc
passed_by true false v same a b rest there none = same refl
passed_by false true v same a b rest there none = rest there none
passed_by false false v same a b rest there none = rest there none

any_cond : (u : Bool) (k x : ℕ) (xs : List ℕ) → list_any (λ s. s == k) (cond u (x ∷ xs) xs) ≡ cond u ((x == k) || list_any (λ s. s == k) xs) (list_any (λ s. s == k) xs)
any_cond true k x xs = refl
any_cond false k x xs = refl

not_passed : (f : ℕ → Bool) (k : ℕ) (xs : List ℕ) → list_any (λ s. s == k) xs ≡ true → list_any (λ s. s == k) (filter f xs) ≡ false → f k ≡ false
not_passed f k [] there none = absurd cc
not_passed f k (x ∷ xs) there none =
    passed_by (x == k) (f x) (f k) (λ same. ap f (sym (eqb-true x k same))) (list_any (λ s. s == k) xs) (list_any (λ s. s == k) (filter f xs)) (λ here gone. not_passed f k xs here gone) there
    (sym (any_cond (f x) k x (filter f xs)) ∙ none)

no_item : {X : Type 0} (xs : List X) → nat_lt 0 (length xs) ≡ false → xs ≡ []
no_item [] is = refl
no_item (x ∷ xs) is = absurd (omega (arith, ltb-false 0 (length (x ∷ xs)) is))

among_or_far : (k : ℕ) → (list_any (λ s. s == k) sessions ≡ true) ⊎ ((k ≡ 0) ⊎ (8 < k))
among_or_far zero = inr (inl refl)
among_or_far (suc zero) = inl refl
among_or_far (suc (suc zero)) = inl refl
among_or_far (suc (suc (suc zero))) = inl refl
among_or_far (suc (suc (suc (suc zero)))) = inl refl
among_or_far (suc (suc (suc (suc (suc zero))))) = inl refl
among_or_far (suc (suc (suc (suc (suc (suc zero)))))) = inl refl
among_or_far (suc (suc (suc (suc (suc (suc (suc zero))))))) = inl refl
among_or_far (suc (suc (suc (suc (suc (suc (suc (suc zero)))))))) = inl refl
among_or_far (suc (suc (suc (suc (suc (suc (suc (suc (suc k))))))))) = inr (inr (omega arith))

idle_of : (script : List (Entry Command)) (numbers : List ℕ) → All HasSession script → numbers ≡ those_with script sessions → (k : ℕ) → list_any (λ s. s == k) numbers ≡ false → lane script k ≡ []
idle_of script numbers all is k none = elim (among_or_far k) [
  | inl among ↦ no_item (lane script k) (not_passed (λ n. nat_lt 0 (length (lane script n))) k sessions among (sym (ap (list_any (λ s. s == k)) is) ∙ none))
  | inr far ↦ far_lane script k all far
]

-- the sessions have run their parts of the script
done_each : (opening : Listing) (id : TableId) (script : List (Entry Command)) (fs : List Finished) → AllByRecursion (IsFinished opening id script) fs
    → AllByRecursion (HasDone core_rules (start_from opening) (lane script)) (all_done fs)
done_each opening id script [] each = tt
done_each opening id script (f ∷ fs) each = (done_one f each.0, done_each opening id script fs each.1)
  where
    done_one : (f : Finished) → IsFinished opening id script f → HasDone core_rules (start_from opening) (lane script) (done_of f)
    done_one f is =
        let session : f.pass.session ≡ f.number = is.ran.session in
        record {
          session = subst (λ k. (1 ≤ k) × (k ≤ 8)) (sym session) is.number;
          rising = subst IsRising (sym is.ran.grown) is.ran.rising;
          spent = omega (arith, is.ran.left);
          ran = subst (λ k. AreAnswered core_rules k (start_from opening).book (entries_of f.pass.seen) f.pass.own nothing_used (lane script k) (map core_answer f.answers)) (sym session)
              (subst (λ ps. AreAnswered core_rules f.number (start_from opening).book (entries_of f.pass.seen) ps nothing_used (lane script f.number) (map core_answer f.answers)) (sym is.ran.grown) is.ran.answered);
        }

pub have_run : (opening : Listing) (id : TableId) (script : List (Entry Command)) (fs : List Finished) → All HasSession script → AllByRecursion (IsFinished opening id script) fs
    → map number_after fs ≡ those_with script sessions → HaveRun core_rules (start_from opening) (lane script) (all_done fs)
have_run opening id script fs all each numbers =
    let same : sessions_in (all_done fs) ≡ those_with script sessions = sessions_after opening id script fs each ∙ numbers in
    record {
      each = done_each opening id script fs each;
      apart = apart_of script (sessions_in (all_done fs)) same;
      idle = λ k none. idle_of script (sessions_in (all_done fs)) all same k none;
    }

-- all sessions have run, and their passes are joined
pub all_run : (opening : Listing) (id : TableId) (script : List (Entry Command)) (fs : List Finished) (pass final : PassView Command) (lists : List (List Answer)) → All HasSession script
    → AllByRecursion (IsFinished opening id script) fs → map number_after fs ≡ those_with script sessions → pass ≡ pass_of id 0 [] [] 0
    → final ≡ all_together pass (passes_of (all_done fs)) → HaveSeen final.seen (passes_of (all_done fs)) → ((k : ℕ) → core_answers lists k ≡ answers_of (all_done fs) k)
    → AreAllRun opening id script final lists
all_run opening id script fs pass final lists all each numbers first joins seen answers = record {
  done = all_done fs;
  run = have_run opening id script fs all each numbers;
  pass_is = joins ∙ ap (λ (p : PassView Command). all_together p (passes_of (all_done fs))) first;
  seen = seen;
  answers = answers;
}

-- Sessions whose passes are joined into one that has seen the whole history, and has each of its places.
use Rattle.std.proofs.Common.{◌≡◌, ◌⊎◌, ◌<◌, ◌≤◌, ◌+◌, ◌^◌, ◌==◌, ◌||◌, ℕ, zero, suc, Bool, true, false, cond, List, [], ◌∷◌, ◌++◌, Some, length, take, slice_get, ◌∙◌, refl, ap, sym, subst, inl, inr, arith, eqb-true}
use Rattle.std.proofs.lemmas.Bool.{cases_lt, ne_eqb}
use Rattle.std.proofs.lemmas.List.{append_assoc}
use Rattle.std.specs.List.{AllByRecursion, list_any}
use Rattle.transcript.specs.Merge.{Entry, lane, merged, order_of}
use Rattle.transcript.specs.Outcome.{IsOutcome}
use Rattle.transcript.specs.Run.{Answer, Marked, Rules, State, any_refused, files_of, own_after}
use Rattle.transcript.specs.Transcript.{sessions, transcript}
use Rattle.transcript.proofs.Readable.{KeepsLines}
use Rattle.version_table.specs.Passes.{PassView, together}
use Rattle.version_table.specs.Places.{AllAbove, IsRising, places_from, times, total}
use Rattle.version_table.specs.declared.rule.Noted.{Noted}
use Rattle.version_table.proofs.Places.{length_merged, same_place, times_merged}
use Rattle.version_table.proofs.Totals.{total_sum}
use Rattle.session_merge.specs.Answered.{AreAnswered, AreSessions, book_past, shown_as}
use Rattle.session_merge.specs.Joined.{Done, HasDone, HaveRun, HaveSeen, all_together, answers_of, passes_of, places_of, sessions_in}
use Rattle.session_merge.specs.Noted.{entries_of}
use Rattle.session_merge.proofs.AnsweredLaws.{answered_longer}
use Rattle.session_merge.proofs.CountLaws.{entries_append, entries_length}
use Rattle.session_merge.proofs.OutcomeLaws.{sessions_outcome, weaker}
use mathlib.Core.List.{IsPrefix}

module _ {X : Type 0} where
  total_same : (f g : X → ℕ) → ((x : X) → f x ≡ g x) → (xs : List X) → total f xs ≡ total g xs
  total_same f g same [] = refl
  total_same f g same (x ∷ xs) = omega (arith, same x, total_same f g same xs)

  -- a sum over the first of some things
  pub total_part : (f : X → ℕ) (i : ℕ) (xs : List X) → total f (take i xs) ≤ total f xs
  total_part f zero xs = omega arith
  total_part f (suc i) [] = omega arith
  total_part f (suc i) (x ∷ xs) = omega (arith, total_part f i xs)

  total_next : (f : X → ℕ) (i : ℕ) (xs : List X) (x : X) → slice_get xs i ≡ Some x → total f (take (suc i) xs) ≡ total f (take i xs) + f x
  total_next f i [] x at = cc
  total_next f zero (y ∷ xs) x at = let same : y ≡ x = cc in omega (arith, ap f same)
  total_next f (suc i) (y ∷ xs) x at = omega (arith, total_next f i xs x at)

-- what one session has, and no other
abbrev only_at : ℕ → ℕ → ℕ → ℕ
only_at s x k = cond (s == k) x 0

only_eight : (s x : ℕ) → 1 ≤ s → s ≤ 8 → total (only_at s x) sessions ≡ x
only_eight zero x low high = absurd (omega (arith, low))
only_eight (suc zero) x low high = omega arith
only_eight (suc (suc zero)) x low high = omega arith
only_eight (suc (suc (suc zero))) x low high = omega arith
only_eight (suc (suc (suc (suc zero)))) x low high = omega arith
only_eight (suc (suc (suc (suc (suc zero))))) x low high = omega arith
only_eight (suc (suc (suc (suc (suc (suc zero)))))) x low high = omega arith
only_eight (suc (suc (suc (suc (suc (suc (suc zero))))))) x low high = omega arith
only_eight (suc (suc (suc (suc (suc (suc (suc (suc zero)))))))) x low high = omega arith
only_eight (suc (suc (suc (suc (suc (suc (suc (suc (suc s))))))))) x low high = absurd (omega (arith, high))

only_far : (s x k : ℕ) → k < s → only_at s x k ≡ 0
only_far s x k far = ap {B = ℕ} (λ t. cond t x 0) (ne_eqb s k (λ e. omega (arith, e, far)))

only_once : (s x : ℕ) → total (only_at s x) sessions ≤ x
only_once s x = elim (cases_lt 8 s) [
  | inl far ↦ omega (
    arith,
    only_far s x 1 (omega (arith, far)),
    only_far s x 2 (omega (arith, far)),
    only_far s x 3 (omega (arith, far)),
    only_far s x 4 (omega (arith, far)),
    only_far s x 5 (omega (arith, far)),
    only_far s x 6 (omega (arith, far)),
    only_far s x 7 (omega (arith, far)),
    only_far s x 8 (omega (arith, far)),
  )
  | inr near ↦ elim (cases_lt 0 s) [
    | inl some ↦ omega (arith, only_eight s x (omega (arith, some)) near)
    | inr none ↦ let is : s ≡ 0 = omega (arith, none) in subst (λ s. total (only_at s x) sessions ≤ x) (sym is) (omega arith)
  ]
]

session_at : (i : ℕ) → i < 8 → slice_get sessions i ≡ Some (suc i)
session_at zero below = refl
session_at (suc zero) below = refl
session_at (suc (suc zero)) below = refl
session_at (suc (suc (suc zero))) below = refl
session_at (suc (suc (suc (suc zero)))) below = refl
session_at (suc (suc (suc (suc (suc zero))))) below = refl
session_at (suc (suc (suc (suc (suc (suc zero)))))) below = refl
session_at (suc (suc (suc (suc (suc (suc (suc zero))))))) below = refl
session_at (suc (suc (suc (suc (suc (suc (suc (suc i)))))))) below = absurd (omega (arith, below))

-- a sum over the first sessions, and over one more
pub sessions_next : (f : ℕ → ℕ) (i : ℕ) → i < 8 → total f (take (i + 1) sessions) ≡ total f (take i sessions) + f (i + 1)
sessions_next f i below =
    let one : i + 1 ≡ suc i = omega arith in
    subst (λ n. total f (take n sessions) ≡ total f (take i sessions) + f n) (sym one) (total_next f i sessions (suc i) (session_at i below))

module _ {X : Type 0} where
  lane_one : (t : Bool) (x : X) (xs : List X) → length (cond t (x ∷ xs) xs) ≡ cond t 1 0 + length xs
  lane_one true x xs = omega arith
  lane_one false x xs = omega arith

  lanes_one : (e : Entry X) (rest : List (Entry X)) → total (λ k. length (lane (e ∷ rest) k)) sessions ≡ total (only_at e.session 1) sessions + total (λ k. length (lane rest k)) sessions
  lanes_one e rest =
      total_same (λ k. length (lane (e ∷ rest) k)) (λ k. only_at e.session 1 k + length (lane rest k)) (λ k. lane_one (e.session == k) e.item (lane rest k)) sessions
      ∙ total_sum (only_at e.session 1) (λ k. length (lane rest k)) sessions

  -- the entries of the sessions are all entries
  pub total_lanes : (es : List (Entry X)) → AllByRecursion (λ (e : Entry X). (1 ≤ e.session) × (e.session ≤ 8)) es → total (λ k. length (lane es k)) sessions ≡ length es
  total_lanes [] all = refl
  total_lanes (e ∷ rest) all = omega (arith, lanes_one e rest, only_eight e.session 1 all.0.0 all.0.1, total_lanes rest all.1)

  -- those of some of the sessions are no more than all
  pub lanes_within : (es : List (Entry X)) (i : ℕ) → total (λ k. length (lane es k)) (take i sessions) ≤ length es
  lanes_within es i = omega (arith, total_part (λ k. length (lane es k)) i sessions, within es)
    where
      within : (es : List (Entry X)) → total (λ k. length (lane es k)) sessions ≤ length es
      within [] = omega arith
      within (e ∷ rest) = omega (arith, lanes_one e rest, only_once e.session 1, within rest)

-- a place that is one of those from `from` on
times_before : (k from n : ℕ) → k < from → times k (places_from from n) ≡ 0
times_before k from zero low = refl
times_before k from (suc n) low = omega (arith, same_place from k, low, times_before k (suc from) n (omega (arith, low)))

times_from : (k from n : ℕ) → from ≤ k → k < from + n → times k (places_from from n) ≡ 1
times_from k from zero low high = absurd (omega (arith, low, high))
times_from k from (suc n) low high = elim (same_place from k) [
  | inl here ↦ omega (arith, here.1, times_before k (suc from) n (omega (arith, here.0)))
  | inr other ↦ omega (arith, other.1, times_from k (suc from) n (omega (arith, other.0, low)) (omega (arith, high)))
]

module _ {C : Type 0} where
  -- the passes joined in, and one more
  pub together_more : (p : PassView C) (qs : List (PassView C)) (q : PassView C) → all_together p (qs ++ q ∷ []) ≡ together (all_together p qs) q
  together_more p [] q = refl
  together_more p (r ∷ qs) q = together_more (together p r) qs q

  pub together_left : (p : PassView C) (qs : List (PassView C)) → (all_together p qs).left ≡ p.left + total (λ (q : PassView C). q.left) qs
  together_left p [] = omega arith
  together_left p (q ∷ qs) = omega (arith, together_left (together p q) qs)

  pub together_length : (p : PassView C) (qs : List (PassView C)) → length (all_together p qs).own ≡ length p.own + total (λ (q : PassView C). length q.own) qs
  together_length p [] = omega arith
  together_length p (q ∷ qs) = omega (arith, together_length (together p q) qs, length_merged p.own q.own)

  pub together_times : (n : ℕ) (p : PassView C) (qs : List (PassView C)) → times n (all_together p qs).own ≡ times n p.own + total (λ (q : PassView C). times n q.own) qs
  together_times n p [] = omega arith
  together_times n p (q ∷ qs) = omega (arith, together_times n (together p q) qs, times_merged n p.own q.own)

  prefix_chain : (xs ys zs : List (Noted C)) → IsPrefix xs ys → IsPrefix ys zs → IsPrefix xs zs
  prefix_chain xs ys zs p q = (p.0 ++ q.0, sym (append_assoc xs p.0 q.0) ∙ ap (λ ws. ws ++ q.0) p.1 ∙ q.1)

all_more : {X : Type 0} (P : X → Type 0) (xs : List X) (x : X) → AllByRecursion P xs → P x → AllByRecursion P (xs ++ x ∷ [])
all_more P [] x all one = (one, tt)
all_more P (y ∷ xs) x all one = (all.0, all_more P xs x all.1 one)

module _ {C : Type 0} where
  pub seen_longer : (history longer : List (Noted C)) (qs : List (PassView C)) → IsPrefix history longer → HaveSeen history qs → HaveSeen longer qs
  seen_longer history longer [] begins seen = tt
  seen_longer history longer (q ∷ qs) begins seen = (prefix_chain q.seen history longer seen.0 begins, seen_longer history longer qs begins seen.1)

  -- One pass more is joined in: it is then all of them, and what each had seen begins what it has seen.
  pub joined_next : (p : PassView C) (qs : List (PassView C)) (q old new : PassView C) → old ≡ all_together p qs → HaveSeen old.seen qs
      → new ≡ together old q → IsPrefix old.seen new.seen → IsPrefix q.seen new.seen
      → (new ≡ all_together p (qs ++ q ∷ [])) × HaveSeen new.seen (qs ++ q ∷ [])
  joined_next p qs q old new is seen joins begins begins_other = (
    joins ∙ ap (λ r. together r q) is ∙ sym (together_more p qs q),
    all_more (λ (r : PassView C). IsPrefix r.seen new.seen) qs q (seen_longer old.seen new.seen qs begins seen) begins_other,
  )

-- a sum over the passes of the sessions
pub total_passes : {C F : Type 0} (f : PassView C → ℕ) (ds : List (Done C F)) → total f (passes_of ds) ≡ total (λ (d : Done C F). f d.pass) ds
total_passes f [] = refl
total_passes f (d ∷ ds) = omega (arith, total_passes f ds)

-- the passes of the sessions, and of one session more
pub passes_more : {C F : Type 0} (ds : List (Done C F)) (d : Done C F) → passes_of (ds ++ d ∷ []) ≡ passes_of ds ++ d.pass ∷ []
passes_more [] d = refl
passes_more (c ∷ ds) d = ap (λ qs. c.pass ∷ qs) (passes_more ds d)

of_place : (g : List ℕ → ℕ) → g [] ≡ 0 → (t : Bool) (own rest : List ℕ) → (t ≡ true → rest ≡ []) → g (cond t own rest) ≡ cond t (g own) 0 + g rest
of_place g none true own rest alone = omega (arith, ap g (alone refl), none)
of_place g none false own rest alone = omega arith

module _ {C F : Type 0} where
  -- a session that comes before the others has no place of theirs
  none_before : (x k : ℕ) (ds : List (Done C F)) → AllAbove x (sessions_in ds) → k ≤ x → places_of ds k ≡ []
  none_before x k [] all low = refl
  none_before x k (d ∷ ds) all low =
      ap (λ t. cond t d.pass.own (places_of ds k)) (ne_eqb d.pass.session k (λ e. omega (arith, e, all.0, low))) ∙ none_before x k ds all.1 low

  -- what is counted of the places of each session, added up
  pub total_places : (g : List ℕ → ℕ) → g [] ≡ 0 → (ds : List (Done C F)) → IsRising (sessions_in ds) → AllByRecursion (λ (d : Done C F). (1 ≤ d.pass.session) × (d.pass.session ≤ 8)) ds
      → total (λ k. g (places_of ds k)) sessions ≡ total (λ (d : Done C F). g d.pass.own) ds
  total_places g none [] apart near = omega (arith, none)
  total_places g none (d ∷ ds) apart near =
      let s : ℕ = d.pass.session in
      let x : ℕ = g d.pass.own in
      let same = total_same (λ k. g (places_of (d ∷ ds) k)) (λ k. only_at s x k + g (places_of ds k))
      (λ k. of_place g none (s == k) d.pass.own (places_of ds k) (λ is. none_before s k ds apart.0 (omega (arith, eqb-true s k is)))) sessions in
      omega (arith, same, total_sum (only_at s x) (λ k. g (places_of ds k)) sessions, only_eight s x near.0.0 near.0.1, total_places g none ds apart.1 near.1)

  none_far : (k : ℕ) → (k ≡ 0) ⊎ (8 < k) → (ds : List (Done C F)) → AllByRecursion (λ (d : Done C F). (1 ≤ d.pass.session) × (d.pass.session ≤ 8)) ds → places_of ds k ≡ []
  none_far k far [] near = refl
  none_far k far (d ∷ ds) near =
      ap (λ t. cond t d.pass.own (places_of ds k)) (ne_eqb d.pass.session k (λ e. omega (arith, e, far, near.0.0, near.0.1))) ∙ none_far k far ds near.1

module _ {D L C F : Type 0} (rules : Rules D L C F) (start : State D L) (script : ℕ → List C) where
  near : (ds : List (Done C F)) → AllByRecursion (HasDone rules start script) ds → AllByRecursion (λ (d : Done C F). (1 ≤ d.pass.session) × (d.pass.session ≤ 8)) ds
  near ds each = weaker (λ d done. done.session) ds each

  rising_of : (ds : List (Done C F)) → AllByRecursion (HasDone rules start script) ds → (k : ℕ) → IsRising (places_of ds k)
  rising_of [] each k = tt
  rising_of (d ∷ ds) each k = elim (d.pass.session == k) as (λ t. IsRising (cond t d.pass.own (places_of ds k))) [ true ↦ each.0.rising | false ↦ rising_of ds each.1 k ]

  choose : (history : List (Entry (Marked C))) (k : ℕ) (t : Bool) (own rest : List ℕ) (given later : List (Answer F))
      → (t ≡ true → AreAnswered rules k start.book history own (start.own k) (script k) given)
      → (t ≡ false → AreAnswered rules k start.book history rest (start.own k) (script k) later)
      → AreAnswered rules k start.book history (cond t own rest) (start.own k) (script k) (cond t given later)
  choose history k true own rest given later one other = one refl
  choose history k false own rest given later one other = other refl

  not_first : (t u : Bool) → t ≡ false → u ≡ false → (t || u) ≡ false
  not_first true u one two = one
  not_first false u one two = two

  ran_of : (history : List (Noted C)) (ds : List (Done C F)) → AllByRecursion (HasDone rules start script) ds → HaveSeen history (passes_of ds) → (k : ℕ)
      → (list_any (λ s. s == k) (sessions_in ds) ≡ false → script k ≡ [])
      → AreAnswered rules k start.book (entries_of history) (places_of ds k) (start.own k) (script k) (answers_of ds k)
  ran_of history [] each seen k idle = subst (λ cs. AreAnswered rules k start.book (entries_of history) [] (start.own k) cs []) (sym (idle refl)) tt
  ran_of history (d ∷ ds) each seen k idle =
      choose (entries_of history) k (d.pass.session == k) d.pass.own (places_of ds k) d.answers (answers_of ds k)
      (λ is. subst (λ i. AreAnswered rules i start.book (entries_of history) d.pass.own (start.own i) (script i) d.answers) (eqb-true d.pass.session k is) (longer d each.0 seen.0))
      (λ not. ran_of history ds each.1 seen.1 k (λ none. idle (not_first (d.pass.session == k) (list_any (λ s. s == k) (sessions_in ds)) not none)))
    where
      longer : (d : Done C F) → HasDone rules start script d → IsPrefix d.pass.seen history
          → AreAnswered rules d.pass.session start.book (entries_of history) d.pass.own (start.own d.pass.session) (script d.pass.session) d.answers
      longer d done begins =
          let s : ℕ = d.pass.session in
          subst (λ es. AreAnswered rules s start.book es d.pass.own (start.own s) (script s) d.answers) (sym (entries_append d.pass.seen begins.0) ∙ ap (λ h. entries_of h) begins.1)
          (answered_longer rules s start.book (entries_of d.pass.seen) (entries_of begins.0) d.pass.own (start.own s) (script s) d.answers done.ran)

  -- The passes that the sessions have run with are joined into one, which has each place of its history: they are sessions of that history.
  pub joined_sessions : (p : PassView C) (ds : List (Done C F)) (final : PassView C) → HaveRun rules start script ds → p.own ≡ [] → final ≡ all_together p (passes_of ds)
      → HaveSeen final.seen (passes_of ds) → final.own ≡ places_from 0 (length final.seen)
      → AreSessions rules start script (entries_of final.seen) (places_of ds) (answers_of ds)
  joined_sessions p ds final run bare is seen whole = record {
    rising = rising_of ds run.each;
    ran = λ k. ran_of final.seen ds run.each seen k (run.idle k);
    once = λ n below. omega (
      arith,
      total_places (times n) refl ds run.apart (near ds run.each),
      total_passes (λ (q : PassView C). times n q.own) ds,
      together_times n p (passes_of ds),
      ap (times n) bare,
      ap (λ (q : PassView C). times n q.own) is,
      ap (times n) whole,
      times_from n 0 (length final.seen) (omega arith) (omega (arith, below, entries_length final.seen)),
    );
    no_others = λ k far. none_far k far ds (near ds run.each);
  }

  -- a session has a place for each of its commands
  commands_counted : (session : ℕ) (history : List (Entry (Marked C))) (ps : List ℕ) (own : L) (commands : List C) (answers : List (Answer F))
      → AreAnswered rules session start.book history ps own commands answers → length ps ≡ length commands
  commands_counted session history [] own [] [] all = refl
  commands_counted session history [] own [] (a ∷ answers) all = absurd all
  commands_counted session history [] own (c ∷ commands) answers all = absurd all
  commands_counted session history (p ∷ ps) own [] answers all = absurd all
  commands_counted session history (p ∷ ps) own (c ∷ commands) [] all = absurd all
  commands_counted session history (p ∷ ps) own (c ∷ commands) (a ∷ answers) all =
      ap suc (commands_counted session history ps (own_after rules (book_past rules start.book (take p history)) own (shown_as c a)) commands answers all.1)

  script_counted : (ds : List (Done C F)) → AllByRecursion (HasDone rules start script) ds → (k : ℕ) → (list_any (λ s. s == k) (sessions_in ds) ≡ false → script k ≡ [])
      → length (places_of ds k) ≡ length (script k)
  script_counted [] each k idle = sym (ap length (idle refl))
  script_counted (d ∷ ds) each k idle =
      select (d.pass.session == k)
      (λ is. subst (λ i. length d.pass.own ≡ length (script i)) (eqb-true d.pass.session k is)
      (commands_counted d.pass.session (entries_of d.pass.seen) d.pass.own (start.own d.pass.session) (script d.pass.session) d.answers each.0.ran))
      (λ not. script_counted ds each.1 k (λ none. idle (not_first (d.pass.session == k) (list_any (λ s. s == k) (sessions_in ds)) not none)))
    where
      select : (t : Bool) → (t ≡ true → length d.pass.own ≡ length (script k)) → (t ≡ false → length (places_of ds k) ≡ length (script k)) → length (cond t d.pass.own (places_of ds k)) ≡ length (script k)
      select true one other = one refl
      select false one other = other refl

  -- the sessions have as many places as the script has commands
  pub entries_of_script : (ds : List (Done C F)) → HaveRun rules start script ds → total (λ (d : Done C F). length d.pass.own) ds ≡ total (λ k. length (script k)) sessions
  entries_of_script ds run =
      sym (total_places (λ ps. length ps) refl ds run.apart (near ds run.each)) ∙ total_same (λ k. length (places_of ds k)) (λ k. length (script k)) (λ k. script_counted ds run.each k (run.idle k)) sessions

  none_left : (ds : List (Done C F)) → AllByRecursion (HasDone rules start script) ds → total (λ (d : Done C F). d.pass.left) ds ≡ 0
  none_left [] each = refl
  none_left (d ∷ ds) each = omega (arith, each.0.spent, none_left ds each.1)

  -- The pass that they are joined into has the calls that the first one has left, and as many entries as the script has commands.
  pub calls_of_all : (p : PassView C) (ds : List (Done C F)) → HaveRun rules start script ds
      → ((all_together p (passes_of ds)).left ≡ p.left) × (length (all_together p (passes_of ds)).own ≡ length p.own + total (λ k. length (script k)) sessions)
  calls_of_all p ds run = (
    omega (arith, together_left p (passes_of ds), total_passes (λ (q : PassView C). q.left) ds, none_left ds run.each),
    omega (arith, together_length p (passes_of ds), total_passes (λ (q : PassView C). length q.own) ds, entries_of_script ds run),
  )

  -- The transcript of the sessions' answers is an outcome, where the rules keep what makes answers readable.
  pub joined_outcome : (p : PassView C) (ds : List (Done C F)) (final : PassView C) → HaveRun rules start script ds → p.own ≡ [] → final ≡ all_together p (passes_of ds)
      → HaveSeen final.seen (passes_of ds) → final.own ≡ places_from 0 (length final.seen)
      → (P : D → Type 0) (Q : L → Type 0) (R : C → Type 0) → KeepsLines rules P Q R → P start.book.directory → ((k : ℕ) → Q (start.own k))
      → start.book.version + length final.seen + 1 < 2 ^ 64 → ((k : ℕ) → AllByRecursion R (script k))
      → IsOutcome rules start script (transcript (order_of (entries_of final.seen)) (answers_of ds)) (files_of (merged (order_of (entries_of final.seen)) (answers_of ds)))
      (any_refused (merged (order_of (entries_of final.seen)) (answers_of ds)))
  joined_outcome p ds final run bare is seen whole P Q R keeps good own fits fine =
      sessions_outcome rules start script (entries_of final.seen) (places_of ds) (answers_of ds) (joined_sessions p ds final run bare is seen whole) P Q R keeps good own
      (omega (arith, fits, entries_length final.seen)) fine

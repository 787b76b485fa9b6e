-- The laws of winners and runs.
use Rattle.std.proofs.Common.{◌≡◌, ◌≢◌, ◌<◌, ◌≤◌, ◌+◌, ◌-◌, ℕ, zero, suc, List, [], ◌∷◌, length, get_or, filter, Bool, true, false, not, ◌&&◌, eqb, Option, Some, None, IsSome, MatchOption, ap, sym, ◌∙◌, subst, refl, inl, inr, arith}
use Rattle.std.specs.List.{position, position_from}
use Rattle.std.proofs.lemmas.Bool.{cases_lt, cases_Bool, and_parts, and_from, eqb-true, eq-eqb, true≢false, not-true, not_from_false, cond-true, cond-false, false_from_ne_true}
use Rattle.std.proofs.lemmas.List.Quantifiers.{position-Some}
use Rattle.std.proofs.lemmas.List.Elements.{filter_passes}
use Rattle.std.proofs.lemmas.Iterator.Adapters.{position_from-zero}
use Rattle.bool_weave.proofs.Sorted.{Has, has_from_contains, contains_from_has}
use Rattle.bool_weave.proofs.Middles.{has_filtered}
use Rattle.overlap_list.specs.declared.region.RegionClaims.{RegionClaims}
use Rattle.overlap_list.specs.Winners.{claims_at, or_else, first_without_air, first_with_air, winner_of}
use Rattle.overlap_list.specs.Runs.{IntervalRun, runs_below, has_before, is_maximal}
use Rattle.overlap_list.specs.Partitions.{is_one_winner, is_won_as, won_runs}
use Rattle.overlap_list.specs.Steps.{IsEnd}
use Rattle.overlap_list.specs.Laws.{IsWinner, WinnersAreRight, RunsAreMaximal}
use Rattle.overlap_list.proofs.Running.{run_of, maximal, range_at}
use Rattle.overlap_list.proofs.Ordered.{has_rows, rows_have}

some_none : (n : ℕ) → ◌≡◌ {A = Option ℕ} (Some n) None → ⊥
some_none n e = cc e

none_from : {X : Type 0} (t : X → Bool) (n : ℕ) (xs : List X) → position_from t n xs ≡ None → (s : ℕ) (d : X) → s < length xs → t (get_or xs s d) ≡ false
none_from t n [] e s d lt = absurd (omega (arith, lt))
none_from t n (x ∷ xs) e zero d lt = false_from_ne_true (t x) (λ passed. some_none n (sym (cond-true (t x) (Some n) (position_from t (n + 1) xs) passed) ∙ e))
none_from t n (x ∷ xs) e (suc s) d lt =
    elim (cases_Bool (t x)) [
      | inl passed ↦ absurd (some_none n (sym (cond-true (t x) (Some n) (position_from t (n + 1) xs) passed) ∙ e))
      | inr failed ↦ none_from t (n + 1) xs (sym (cond-false (t x) (Some n) (position_from t (n + 1) xs) failed) ∙ e) s d (omega (arith, lt))
    ]

pub none_pass : {X : Type 0} (t : X → Bool) (xs : List X) → position t xs ≡ None → (s : ℕ) (d : X) → s < length xs → t (get_or xs s d) ≡ false
none_pass t xs e = none_from t 0 xs (sym (position_from-zero t xs) ∙ e)

without_fails : (r : RegionClaims) (k : ℕ) → (not r.air && claims_at r k) ≡ false → r.air ≡ false → claims_at r k ≡ true → ⊥
without_fails r k h air c = true≢false (sym (and_from (not r.air) (claims_at r k) (not_from_false r.air air) c) ∙ h)

with_fails : (r : RegionClaims) (k : ℕ) → (r.air && claims_at r k) ≡ false → r.air ≡ true → claims_at r k ≡ true → ⊥
with_fails r k h air c = true≢false (sym (and_from r.air (claims_at r k) air c) ∙ h)

winner_go : (regions : List RegionClaims) (k : ℕ) (one two : Option ℕ) → first_without_air regions k ≡ one → first_with_air regions k ≡ two
    → MatchOption (or_else one two) ((s : ℕ) (d : RegionClaims) → s < length regions → claims_at (get_or regions s d) k ≡ false) (IsWinner regions k)
winner_go regions k (Some r) two e f =
    let at : (d : RegionClaims) → (r < length regions) × ((not (get_or regions r d).air && claims_at (get_or regions r d) k) ≡ true) × ((j : ℕ) → j < r → (not (get_or regions j d).air && claims_at (get_or regions j d) k) ≡ false) =
    λ d. position-Some (λ x. not x.air && claims_at x k) regions r d e in
    let dry : (d : RegionClaims) → (get_or regions r d).air ≡ false = λ d. not-true _ (and_parts (not (get_or regions r d).air) (claims_at (get_or regions r d) k) (at d).1).0 in
    record {
      there = (at (record { air = false; first = 0; count = 0; claims = [] })).0;
      claims = λ d. (and_parts (not (get_or regions r d).air) (claims_at (get_or regions r d) k) (at d).1).1;
      no_air = λ s d lt c air. dry d;
      first = λ s d lt c same. elim (cases_lt s r) [ inl before ↦ absurd (without_fails (get_or regions s d) k ((at d).2 s before) (same ∙ dry d) c) | inr le ↦ le ];
    }
winner_go regions k None (Some r) e f =
    let at : (d : RegionClaims) → (r < length regions) × (((get_or regions r d).air && claims_at (get_or regions r d) k) ≡ true) × ((j : ℕ) → j < r → ((get_or regions j d).air && claims_at (get_or regions j d) k) ≡ false) =
    λ d. position-Some (λ x. x.air && claims_at x k) regions r d f in
    let none = none_pass (λ x. not x.air && claims_at x k) regions e in
    record {
      there = (at (record { air = false; first = 0; count = 0; claims = [] })).0;
      claims = λ d. (and_parts (get_or regions r d).air (claims_at (get_or regions r d) k) (at d).1).1;
      no_air = λ s d lt c air. absurd (without_fails (get_or regions s d) k (none s d lt) air c);
      first = λ s d lt c same. elim (cases_lt s r) [
        | inl before ↦ absurd (with_fails (get_or regions s d) k ((at d).2 s before) (same ∙ (and_parts (get_or regions r d).air (claims_at (get_or regions r d) k) (at d).1).0) c)
        | inr le ↦ le
      ];
    }
winner_go regions k None None e f = λ s d lt.
    false_from_ne_true (claims_at (get_or regions s d) k) (λ c.
    elim (cases_Bool (get_or regions s d).air) [
      | inl air ↦ with_fails (get_or regions s d) k (none_pass (λ x. x.air && claims_at x k) regions f s d lt) air c
      | inr dry ↦ without_fails (get_or regions s d) k (none_pass (λ x. not x.air && claims_at x k) regions e s d lt) dry c
    ])

pub winners_are_right : WinnersAreRight
winners_are_right regions k = winner_go regions k (first_without_air regions k) (first_with_air regions k) refl refl

abbrev nothing : Option ℕ
nothing = None

no_some : IsSome nothing → ⊥
no_some i = true≢false (sym i)

pub one_winner : (a b : Option ℕ) → is_one_winner a b ≡ true → (b ≡ a) × IsSome a
one_winner None b h = absurd (true≢false (sym h))
one_winner (Some a) None h = absurd (true≢false (sym h))
one_winner (Some a) (Some b) h = (ap (λ x. Some x) (sym (eqb-true a b h)), refl)

pub two_winners : (a b : Option ℕ) → IsSome a → is_one_winner a b ≡ false → b ≢ a
two_winners None b i h e = absurd (no_some i)
two_winners (Some a) b i h e = true≢false (sym (ap (is_one_winner (Some a)) e ∙ eq-eqb a a refl) ∙ h)

is_one : (a b : Option ℕ) → IsSome a → b ≡ a → is_one_winner a b ≡ true
is_one None b i e = absurd (no_some i)
is_one (Some a) b i e = ap (is_one_winner (Some a)) e ∙ eq-eqb a a refl

is_two : (a b : Option ℕ) → b ≢ a → is_one_winner a b ≡ false
is_two None b ne = refl
is_two (Some a) None ne = refl
is_two (Some a) (Some b) ne = false_from_ne_true (eqb a b) (λ h. ne (ap (λ x. Some x) (sym (eqb-true a b h))))

pub filter_has : {X : Type 0} (p : X → Bool) (xs : List X) (x : X) → p x ≡ true → Has xs x → Has (filter p xs) x
filter_has p [] x passed h = h
filter_has p (y ∷ ys) x passed (inl e) = subst (λ l. Has l x) (sym (cond-true (p y) (y ∷ filter p ys) (filter p ys) (ap p e ∙ passed))) (inl e)
filter_has p (y ∷ ys) x passed (inr h) =
    elim (cases_Bool (p y)) [
      | inl kept ↦ subst (λ l. Has l x) (sym (cond-true (p y) (y ∷ filter p ys) (filter p ys) kept)) (inr (filter_has p ys x passed h))
      | inr gone ↦ subst (λ l. Has l x) (sym (cond-false (p y) (y ∷ filter p ys) (filter p ys) gone)) (filter_has p ys x passed h)
    ]

before_at : (has : ℕ → Bool) (n k : ℕ) → k + 1 ≡ n → has_before has n ≡ false → has k ≡ false
before_at has zero k e h = absurd (omega (arith, e))
before_at has (suc n) k e h = let s : k ≡ n = omega (arith, e) in ap has s ∙ h

before_from : (has : ℕ → Bool) (n : ℕ) → ((k : ℕ) → k + 1 ≡ n → has k ≡ false) → has_before has n ≡ false
before_from has zero h = refl
before_from has (suc n) h = h n (omega arith)

pub runs_are_maximal : RunsAreMaximal
runs_are_maximal regions count run = (
  λ c.
      let m = has_from_contains (won_runs regions count) run c in
      let made = has_rows run_of count 0 count run (has_filtered (λ (r : IntervalRun). is_maximal (is_won_as regions r.from) r) (runs_below count) run m) in
      let from : run.from ≡ made.0 = ap (λ (r : IntervalRun). r.from) made.2 in
      let to : run.to ≡ made.1 = ap (λ (r : IntervalRun). r.to) made.2 in
      let some_there : run.from < run.to = omega (arith, from, to, made.4) in
      let passed : is_maximal (is_won_as regions run.from) run ≡ true =
      subst (λ (r : IntervalRun). is_maximal (is_won_as regions r.from) r ≡ true) c.2 (filter_passes (λ (r : IntervalRun). is_maximal (is_won_as regions r.from) r) (runs_below count) c.0 run c.1) in
      let parts = and_parts _ _ passed in
      let sides = and_parts _ _ parts.1 in
      let at : (k : ℕ) → run.from ≤ k → k < run.to → is_won_as regions run.from k ≡ true = λ k low high. range_at (is_won_as regions run.from) run.from (run.to - run.from) k parts.0 low (omega (arith, low, high)) in
      let some : IsSome (winner_of regions run.from) = (one_winner (winner_of regions run.from) (winner_of regions run.from) (at run.from (omega arith) some_there)).1 in (
        record {
          some = some_there;
          region = some;
          won = λ k low high. (one_winner (winner_of regions run.from) (winner_of regions k) (at k low high)).0;
          begun = λ k e. two_winners (winner_of regions run.from) (winner_of regions k) some (before_at (is_won_as regions run.from) run.from k e (not-true _ sides.0));
          ended = two_winners (winner_of regions run.from) (winner_of regions run.to) some (not-true _ sides.1);
        },
        omega (arith, to, made.5),
      ),
  λ h.
      let w = h.0 in
      let e : IsEnd (is_won_as regions run.from) run.from run.to = record {
        some = w.some;
        all = λ k low high. is_one (winner_of regions run.from) (winner_of regions k) w.region (w.won k low high);
        ended = is_two (winner_of regions run.from) (winner_of regions run.to) w.ended;
      } in
      contains_from_has (won_runs regions count) run
      (filter_has (λ (r : IntervalRun). is_maximal (is_won_as regions r.from) r) (runs_below count) run
      (maximal (is_won_as regions run.from) run.from run.to e (before_from (is_won_as regions run.from) run.from (λ k s. is_two (winner_of regions run.from) (winner_of regions k) (w.begun k s))))
      (rows_have run_of count 0 count run.from run.to (omega arith) (omega (arith, w.some, h.1)) w.some h.1)),
)

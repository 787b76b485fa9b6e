-- Maximal runs among all runs of neighbouring numbers.
use Rattle.std.proofs.Common.{◌≡◌, ◌<◌, ◌≤◌, ◌+◌, ◌-◌, ◌⊎◌, ℕ, zero, suc, List, [], ◌∷◌, ◌++◌, map, filter, flat_map, Bool, true, false, ap, sym, ◌∙◌, refl, inl, inr, arith}
use Rattle.std.specs.List.{list_all, range_with_len}
use Rattle.std.proofs.lemmas.Bool.{cases_lt, cases_eq, and_parts, and_from, and_left, and_right, not_from_true, not_from_false, true≢false, cond-true, cond-false, false_from_ne_true}
use Rattle.std.proofs.lemmas.List.{map-id, append-nil}
use Rattle.std.proofs.lemmas.List.FromFn.{map-range_with_len_more}
use Rattle.std.proofs.lemmas.List.Concat.{flat_map-append}
use Rattle.std.proofs.lemmas.List.Elements.{filter-append}
use Rattle.overlap_list.specs.Runs.{IntervalRun, runs_from, has_before, is_maximal}
use Rattle.overlap_list.specs.Steps.{IsEnd, passes}

abbrev pub run_of : ℕ → ℕ → IntervalRun
run_of from to = record { from = from; to = to }

none_pass : (p : IntervalRun → Bool) (from a n : ℕ) → ((t : ℕ) → a ≤ t → p (run_of from t) ≡ false) → filter p (map (λ to. run_of from to) (range_with_len a n)) ≡ []
none_pass p from a zero none = refl
none_pass p from a (suc n) none =
    cond-false (p (run_of from a)) _ _ (none a (omega arith)) ∙ none_pass p from (a + 1) n (λ t le. none t (omega (arith, le)))

one_pass : (p : IntervalRun → Bool) (from a n to : ℕ) → a ≤ to → to < a + n → p (run_of from to) ≡ true → ((t : ℕ) → a ≤ t → (t ≡ to → ⊥) → p (run_of from t) ≡ false)
    → filter p (map (λ to. run_of from to) (range_with_len a n)) ≡ run_of from to ∷ []
one_pass p from a zero to low high passed none = absurd (omega (arith, low, high))
one_pass p from a (suc n) to low high passed none =
    elim (cases_eq a to) [
      | inl here ↦ cond-true (p (run_of from a)) _ _ (ap (λ t. p (run_of from t)) here ∙ passed)
          ∙ ap (λ l. run_of from a ∷ l) (none_pass p from (a + 1) n (λ t le. none t (omega (arith, le)) (λ e. omega (arith, le, e, here))))
          ∙ ap (λ t. run_of from t ∷ []) here
      | inr apart ↦ cond-false (p (run_of from a)) _ _ (none a (omega arith) apart)
          ∙ one_pass p from (a + 1) n to (elim (cases_lt a to) [ inl lt ↦ omega (arith, lt) | inr le ↦ absurd (apart (omega (arith, le, low))) ]) (omega (arith, high)) passed (λ t le. none t (omega (arith, le)))
    ]

all_range : (has : ℕ → Bool) (a n : ℕ) → ((k : ℕ) → a ≤ k → k < a + n → has k ≡ true) → list_all has (range_with_len a n) ≡ true
all_range has a zero h = refl
all_range has a (suc n) h = and_from (has a) (list_all has (range_with_len (a + 1) n)) (h a (omega arith) (omega arith)) (all_range has (a + 1) n (λ k low high. h k (omega (arith, low)) (omega (arith, high))))

pub range_at : (has : ℕ → Bool) (a n k : ℕ) → list_all has (range_with_len a n) ≡ true → a ≤ k → k < a + n → has k ≡ true
range_at has a zero k h low high = absurd (omega (arith, low, high))
range_at has a (suc n) k h low high =
    let parts = and_parts (has a) (list_all has (range_with_len (a + 1) n)) h in
    elim (cases_eq k a) [
      | inl here ↦ ap has here ∙ parts.0
      | inr apart ↦ range_at has (a + 1) n k parts.1 (elim (cases_lt a k) [ inl lt ↦ omega (arith, lt) | inr le ↦ absurd (apart (omega (arith, le, low))) ]) (omega (arith, high))
    ]

-- a run with a number inside that has the property not is not maximal
broken : (has : ℕ → Bool) (from to k : ℕ) → from ≤ k → k < to → has k ≡ false → is_maximal has (run_of from to) ≡ false
broken has from to k low high h =
    and_left _ _ (false_from_ne_true _ (λ all. true≢false (sym (range_at has from (to - from) k all low (omega (arith, low, high))) ∙ h)))

pub maximal : (has : ℕ → Bool) (from to : ℕ) → IsEnd has from to → has_before has from ≡ false → is_maximal has (run_of from to) ≡ true
maximal has from to e before =
    and_from _ _ (all_range has from (to - from) (λ k low high. e.all k low (omega (arith, high, e.some)))) (and_from _ _ (not_from_false _ before) (not_from_false _ e.ended))

not_maximal : (has : ℕ → Bool) (from to t : ℕ) → IsEnd has from to → from < t → (t ≡ to → ⊥) → is_maximal has (run_of from t) ≡ false
not_maximal has from to t e low apart =
    elim (cases_lt t to) [
      | inl short ↦ and_right _ _ (and_right _ _ (not_from_true _ (e.all t (omega (arith, low)) short)))
      | inr long ↦ broken has from t to (omega (arith, e.some)) (elim (cases_lt to t) [ inl lt ↦ lt | inr le ↦ absurd (apart (omega (arith, le, long))) ]) e.ended
    ]

-- the runs from a number where one begins
pub begins : (test : ℕ → ℕ → Bool) (count from to : ℕ) → IsEnd (test from) from to → to ≤ count → has_before (test from) from ≡ false
    → filter (passes test) (runs_from count from) ≡ run_of from to ∷ []
begins test count from to e within before =
    one_pass (passes test) from (from + 1) (count - from) to (omega (arith, e.some)) (omega (arith, within, e.some)) (maximal (test from) from to e before) (λ t le apart. not_maximal (test from) from to t e (omega (arith, le)) apart)

-- there are none where the number has the property not, or the one before has it
pub begins_none : (test : ℕ → ℕ → Bool) (count from : ℕ) → (test from from ≡ false) ⊎ (has_before (test from) from ≡ true) → filter (passes test) (runs_from count from) ≡ []
begins_none test count from (inl away) = none_pass (passes test) from (from + 1) (count - from) (λ t le. broken (test from) from t from (omega arith) (omega (arith, le)) away)
begins_none test count from (inr before) = none_pass (passes test) from (from + 1) (count - from) (λ t le. and_right _ _ (and_left _ _ (not_from_true _ before)))

range_more : (n : ℕ) → range_with_len 0 (n + 1) ≡ range_with_len 0 n ++ n ∷ []
range_more n = sym (map-id (range_with_len 0 (n + 1))) ∙ map-range_with_len_more (λ k. k) 0 n n (omega arith) ∙ ap (λ l. l ++ n ∷ []) (map-id (range_with_len 0 n))

pub flat_more : {X : Type 0} (f : ℕ → List X) (n : ℕ) → flat_map f (range_with_len 0 (n + 1)) ≡ flat_map f (range_with_len 0 n) ++ f n
flat_more f n = ap (flat_map f) (range_more n) ∙ flat_map-append f (range_with_len 0 n) (n ∷ []) ∙ ap (λ l. flat_map f (range_with_len 0 n) ++ l) (append-nil (f n))

-- the maximal runs that begin below a number, and those that begin with it
pub filter_more : (test : ℕ → ℕ → Bool) (count n : ℕ)
    → filter (passes test) (flat_map (runs_from count) (range_with_len 0 (n + 1))) ≡ filter (passes test) (flat_map (runs_from count) (range_with_len 0 n)) ++ filter (passes test) (runs_from count n)
filter_more test count n = ap (filter (passes test)) (flat_more (runs_from count) n) ∙ filter-append (passes test) (flat_map (runs_from count) (range_with_len 0 n)) (runs_from count n)

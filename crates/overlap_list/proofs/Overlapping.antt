-- The first run of a pair of regions, and the pairs one after another.
use Rattle.std.proofs.Common.{◌≡◌, ◌<◌, ◌≤◌, ◌+◌, ◌-◌, ℕ, zero, suc, List, [], ◌∷◌, ◌++◌, length, get_or, map, filter, flat_map, find, Bool, false, ◌&&◌, Option, Some, None, slice_get, ap, sym, ◌∙◌, refl, inl, inr, arith}
use Rattle.std.specs.List.{range_with_len, filter_map}
use Rattle.std.proofs.lemmas.Bool.{cases_Bool, cond-true, cond-false}
use Rattle.std.proofs.lemmas.List.{length-append}
use Rattle.std.proofs.lemmas.List.Concat.{flat_map-append}
use Rattle.std.proofs.lemmas.List.Elements.{filter-append, filter_map-append}
use Rattle.overlap_list.specs.Runs.{runs_from, runs_below, has_before, is_maximal}
use Rattle.std.proofs.lemmas.List.{map-append}
use Rattle.std.proofs.lemmas.List.FromFn.{map-range_with_len_more}
use Rattle.bool_weave.specs.declared.woven.Woven.{Woven}
use Rattle.bool_weave.specs.Claims.{intervals_of}
use Rattle.overlap_list.specs.declared.region.RegionClaims.{RegionClaims}
use Rattle.overlap_list.specs.declared.overlap.OverlapRun.{OverlapRun}
use Rattle.overlap_list.specs.declared.overlap.CheckFault.{CheckFault}
use Rattle.overlap_list.specs.declared.overlap.CheckFault.TheVariants.{TooMany, Memory}
use Rattle.overlap_list.specs.Hits.{cut_at}
use Rattle.overlap_list.specs.Overlaps.{RegionPair, pairs_from, pairs_up_to, is_solid_at, do_overlap_at, overlap_on, first_overlap, IsTooMany}
use Rattle.overlap_list.specs.Steps.{IsEnd, do_overlap}
use Rattle.overlap_list.proofs.Running.{run_of, begins, begins_none, flat_more}

abbrev pub first_of : {X : Type 0} → List X → Option X
first_of [] = None
first_of (x ∷ xs) = Some x

pub find_first : {X : Type 0} (p : X → Bool) (xs : List X) → find p xs ≡ first_of (filter p xs)
find_first p [] = refl
find_first p (x ∷ xs) =
    elim (cases_Bool (p x)) [
      | inl passed ↦ cond-true (p x) (Some x) (find p xs) passed ∙ sym (ap first_of (cond-true (p x) (x ∷ filter p xs) (filter p xs) passed))
      | inr failed ↦ cond-false (p x) (Some x) (find p xs) failed ∙ find_first p xs ∙ sym (ap first_of (cond-false (p x) (x ∷ filter p xs) (filter p xs) failed))
    ]

range_split : (a n m : ℕ) → range_with_len a (n + m) ≡ range_with_len a n ++ range_with_len (a + n) m
range_split a zero m = let e : zero + m ≡ m = omega arith in let f : a ≡ a + 0 = omega arith in ap (range_with_len a) e ∙ ap (λ b. range_with_len b m) f
range_split a (suc n) m =
    let e : suc n + m ≡ suc (n + m) = omega arith in
    let f : a + 1 + n ≡ a + suc n = omega arith in
    ap (range_with_len a) e ∙ ap (λ l. a ∷ l) (range_split (a + 1) n m ∙ ap (λ b. range_with_len (a + 1) n ++ range_with_len b m) f)

-- no run that begins where the property is missing is maximal
pub none_of : (has : ℕ → Bool) (count a n : ℕ) → ((k : ℕ) → a ≤ k → k < a + n → has k ≡ false) → filter (is_maximal has) (flat_map (runs_from count) (range_with_len a n)) ≡ []
none_of has count a zero h = refl
none_of has count a (suc n) h =
    filter-append (is_maximal has) (runs_from count a) (flat_map (runs_from count) (range_with_len (a + 1) n))
    ∙ ap (λ l. l ++ filter (is_maximal has) (flat_map (runs_from count) (range_with_len (a + 1) n))) (begins_none (λ _. has) count a (inl (h a (omega arith) (omega arith))))
    ∙ none_of has count (a + 1) n (λ k low high. h k (omega (arith, low)) (omega (arith, high)))

pub no_run : (has : ℕ → Bool) (count : ℕ) → ((k : ℕ) → has k ≡ false) → find (is_maximal has) (runs_below count) ≡ None
no_run has count h = find_first (is_maximal has) (runs_below count) ∙ ap first_of (none_of has count 0 count (λ k low high. h k))

before_none : (has : ℕ → Bool) (n : ℕ) → ((k : ℕ) → k < n → has k ≡ false) → has_before has n ≡ false
before_none has zero h = refl
before_none has (suc n) h = h n (omega arith)

pub first_run : (has : ℕ → Bool) (count from to : ℕ) → IsEnd has from to → to ≤ count → ((k : ℕ) → k < from → has k ≡ false) → find (is_maximal has) (runs_below count) ≡ Some (run_of from to)
first_run has count from to e within before =
    let parts : count ≡ from + suc (count - from - 1) = omega (arith, within, e.some) in
    let rest = flat_map (runs_from count) (range_with_len (0 + from + 1) (count - from - 1)) in
    let here : 0 + from ≡ from = omega arith in
    let split : runs_below count ≡ flat_map (runs_from count) (range_with_len 0 from) ++ flat_map (runs_from count) (range_with_len (0 + from) (suc (count - from - 1))) =
    ap (λ n. flat_map (runs_from count) (range_with_len 0 n)) parts ∙ ap (flat_map (runs_from count)) (range_split 0 from (suc (count - from - 1)))
    ∙ flat_map-append (runs_from count) (range_with_len 0 from) (range_with_len (0 + from) (suc (count - from - 1))) in
    find_first (is_maximal has) (runs_below count)
    ∙ ap (λ l. first_of (filter (is_maximal has) l)) split
    ∙ ap first_of (filter-append (is_maximal has) (flat_map (runs_from count) (range_with_len 0 from)) (flat_map (runs_from count) (range_with_len (0 + from) (suc (count - from - 1)))))
    ∙ ap (λ l. first_of (l ++ filter (is_maximal has) (runs_from count (0 + from) ++ rest))) (none_of has count 0 from (λ k low high. before k (omega (arith, high))))
    ∙ ap first_of (filter-append (is_maximal has) (runs_from count (0 + from)) rest)
    ∙ ap (λ n. first_of (filter (is_maximal has) (runs_from count n) ++ filter (is_maximal has) rest)) here
    ∙ ap (λ l. first_of (l ++ filter (is_maximal has) rest)) (begins (λ _. has) count from to e within (before_none has from before))

abbrev pub pair_of : ℕ → ℕ → RegionPair
pair_of one two = record { one = one; two = two }

pub slice_at : {X : Type 0} (xs : List X) (i : ℕ) (d : X) → i < length xs → slice_get xs i ≡ Some (get_or xs i d)
slice_at [] i d lt = absurd (omega (arith, lt))
slice_at (x ∷ xs) zero d lt = refl
slice_at (x ∷ xs) (suc i) d lt = slice_at xs i d (omega (arith, lt))

module _ (woven : List Woven) (regions : List RegionClaims) (one two : ℕ) (r s : RegionClaims) (in_one : one < length regions) (in_two : two < length regions) (is_r : r ≡ get_or regions one r) (is_s : s ≡ get_or regions two s) where
  overlap_is : (k : ℕ) → do_overlap_at regions (pair_of one two) k ≡ do_overlap r s k
  overlap_is k =
      ap (λ o. is_solid_at o k && is_solid_at (slice_get regions two) k) (slice_at regions one r in_one ∙ ap (λ x. Some x) (sym is_r))
      ∙ ap (λ o. is_solid_at (Some r) k && is_solid_at o k) (slice_at regions two s in_two ∙ ap (λ x. Some x) (sym is_s))

  pub no_overlap : ((k : ℕ) → do_overlap r s k ≡ false) → first_overlap woven regions (pair_of one two) ≡ None
  no_overlap h = ap (overlap_on woven (pair_of one two)) (no_run (do_overlap_at regions (pair_of one two)) (length (intervals_of woven)) (λ k. overlap_is k ∙ h k))

  pub some_overlap : (from to : ℕ) → IsEnd (do_overlap r s) from to → to ≤ length (intervals_of woven) → ((k : ℕ) → k < from → do_overlap r s k ≡ false)
      → first_overlap woven regions (pair_of one two) ≡ Some (record { one = one; two = two; start = cut_at woven from; end = cut_at woven to })
  some_overlap from to e within before =
      ap (overlap_on woven (pair_of one two)) (first_run (do_overlap_at regions (pair_of one two)) (length (intervals_of woven)) from to
      (record { some = e.some; all = λ k low high. overlap_is k ∙ e.all k low high; ended = overlap_is to ∙ e.ended }) within (λ k lt. overlap_is k ∙ before k lt))

pub more_too_many : (a b : ℕ) (fault : CheckFault) → a ≤ b → IsTooMany a fault → IsTooMany b fault
more_too_many a b TooMany le h = omega (arith, le, h)
more_too_many a b Memory le h = tt

-- one more pair
pub pairs_more : (f : RegionPair → Option OverlapRun) (one two : ℕ) → one < two
    → filter_map f (map (pair_of one) (range_with_len (one + 1) (two + 1 - (one + 1)))) ≡ filter_map f (map (pair_of one) (range_with_len (one + 1) (two - (one + 1)))) ++ filter_map f (pair_of one two ∷ [])
pairs_more f one two lt =
    let e : two + 1 - (one + 1) ≡ two - (one + 1) + 1 = omega (arith, lt) in
    ap (λ n. filter_map f (map (pair_of one) (range_with_len (one + 1) n))) e
    ∙ ap (filter_map f) (map-range_with_len_more (pair_of one) (one + 1) (two - (one + 1)) two (omega (arith, lt)))
    ∙ filter_map-append f (map (pair_of one) (range_with_len (one + 1) (two - (one + 1)))) (pair_of one two ∷ [])

-- the pairs up to one are no more than all
pub pairs_within : (f : RegionPair → Option OverlapRun) (last one two : ℕ) → one < two → two ≤ last
    → length (filter_map f (map (pair_of one) (range_with_len (one + 1) (two - (one + 1))))) + length (filter_map f (pair_of one two ∷ [])) ≤ length (filter_map f (pairs_from last one))
pairs_within f last one two lt le =
    let e : last - one ≡ (two - one) + (last - two) = omega (arith, lt, le) in
    let n : two - one ≡ two + 1 - (one + 1) = omega (arith, lt) in
    let front = filter_map f (map (pair_of one) (range_with_len (one + 1) (two - one))) in
    let back = filter_map f (map (pair_of one) (range_with_len (one + 1 + (two - one)) (last - two))) in
    let whole : filter_map f (pairs_from last one) ≡ front ++ back =
    ap (λ m. filter_map f (map (pair_of one) (range_with_len (one + 1) m))) e
    ∙ ap (λ l. filter_map f (map (pair_of one) l)) (range_split (one + 1) (two - one) (last - two))
    ∙ ap (filter_map f) (map-append (pair_of one) (range_with_len (one + 1) (two - one)) (range_with_len (one + 1 + (two - one)) (last - two)))
    ∙ filter_map-append f (map (pair_of one) (range_with_len (one + 1) (two - one))) (map (pair_of one) (range_with_len (one + 1 + (two - one)) (last - two))) in
    let more : front ≡ filter_map f (map (pair_of one) (range_with_len (one + 1) (two - (one + 1)))) ++ filter_map f (pair_of one two ∷ []) =
    ap (λ m. filter_map f (map (pair_of one) (range_with_len (one + 1) m))) n ∙ pairs_more f one two lt in
    omega (arith, ap length whole, length-append front back, ap length more, length-append (filter_map f (map (pair_of one) (range_with_len (one + 1) (two - (one + 1))))) (filter_map f (pair_of one two ∷ [])))

pub all_more : (f : RegionPair → Option OverlapRun) (last n : ℕ)
    → filter_map f (flat_map (pairs_from last) (range_with_len 0 (n + 1))) ≡ filter_map f (flat_map (pairs_from last) (range_with_len 0 n)) ++ filter_map f (pairs_from last n)
all_more f last n = ap (filter_map f) (flat_more (pairs_from last) n) ∙ filter_map-append f (flat_map (pairs_from last) (range_with_len 0 n)) (pairs_from last n)

pub all_within : (f : RegionPair → Option OverlapRun) (last n : ℕ) → n < last
    → length (filter_map f (flat_map (pairs_from last) (range_with_len 0 n))) + length (filter_map f (pairs_from last n)) ≤ length (filter_map f (pairs_up_to last))
all_within f last n lt =
    let e : last ≡ (n + 1) + (last - (n + 1)) = omega (arith, lt) in
    let front = filter_map f (flat_map (pairs_from last) (range_with_len 0 (n + 1))) in
    let back = filter_map f (flat_map (pairs_from last) (range_with_len (0 + (n + 1)) (last - (n + 1)))) in
    let whole : filter_map f (pairs_up_to last) ≡ front ++ back =
    ap (λ m. filter_map f (flat_map (pairs_from last) (range_with_len 0 m))) e
    ∙ ap (λ l. filter_map f (flat_map (pairs_from last) l)) (range_split 0 (n + 1) (last - (n + 1)))
    ∙ ap (filter_map f) (flat_map-append (pairs_from last) (range_with_len 0 (n + 1)) (range_with_len (0 + (n + 1)) (last - (n + 1))))
    ∙ filter_map-append f (flat_map (pairs_from last) (range_with_len 0 (n + 1))) (flat_map (pairs_from last) (range_with_len (0 + (n + 1)) (last - (n + 1)))) in
    omega (arith, ap length whole, length-append front back, ap length (all_more f last n), length-append (filter_map f (flat_map (pairs_from last) (range_with_len 0 n))) (filter_map f (pairs_from last n)))

-- The overlaps of regions are the first runs that two of them claim, and all of these.
use Rattle.std.proofs.Common.{◌≡◌, ◌<◌, ◌≤◌, ◌+◌, ◌-◌, ◌⊎◌, ℕ, zero, suc, List, [], length, get_or, find, Bool, true, false, Option, Some, None, All, ap, sym, ◌∙◌, subst, refl, inl, inr, arith}
use Rattle.std.proofs.lemmas.Bool.{cases_lt, cases_eq, cases_Bool, and_left, and_right}
use Rattle.std.proofs.lemmas.List.{get_or_past}
use Rattle.bool_weave.specs.declared.woven.Woven.{Woven}
use Rattle.bool_weave.specs.Claims.{intervals_of}
use Rattle.bool_weave.proofs.Sorted.{Has, has_from_contains, contains_from_has}
use Rattle.overlap_list.specs.declared.region.RegionClaims.{RegionClaims}
use Rattle.overlap_list.specs.declared.overlap.OverlapRun.{OverlapRun}
use Rattle.overlap_list.specs.Runs.{IntervalRun, runs_below, is_maximal}
use Rattle.overlap_list.specs.Hits.{cut_at}
use Rattle.overlap_list.specs.Overlaps.{RegionPair, pairs_up_to, is_solid_at, do_overlap_at, overlap_on, first_overlap, overlaps_of}
use Rattle.overlap_list.specs.Steps.{IsEnd}
use Rattle.overlap_list.specs.Laws.{IsFirstOverlap, OverlapsAreFirst}
use Rattle.overlap_list.proofs.Running.{run_of}
use Rattle.overlap_list.proofs.Overlapping.{pair_of, first_of, find_first, none_of, first_run, slice_at}
use Rattle.overlap_list.proofs.Ordered.{has_chosen, chosen_has, has_rows, rows_have}

module _ (has : ℕ → Bool) where
  -- the first number below another that has the property, where there is one
  least : (n : ℕ) → ((k : ℕ) → k < n → has k ≡ false) ⊎ ((from : ℕ) × (from < n) × (has from ≡ true) × ((k : ℕ) → k < from → has k ≡ false))
  least zero = inl (λ k lt. absurd (omega (arith, lt)))
  least (suc n) =
      elim (least n) [
        | inr f ↦ inr (f.0, omega (arith, f.1), f.2, f.3)
        | inl none ↦ elim (cases_Bool (has n)) [
          | inl is ↦ inr (n, omega arith, is, none)
          | inr away ↦ inl (λ k lt. elim (cases_lt k n) [
            | inl below ↦ none k below
            | inr here ↦ let e : k ≡ n = omega (arith, lt, here) in ap has e ∙ away
          ])
        ]
      ]

  -- where the property ends that the last number has not
  end_from : (count n k : ℕ) → k + n ≡ count → has count ≡ false → (to : ℕ) × (k ≤ to) × (to ≤ count) × ((j : ℕ) → k ≤ j → j < to → has j ≡ true) × (has to ≡ false)
  end_from count zero k e last = (k, omega arith, omega (arith, e), λ j low high. absurd (omega (arith, low, high)), let s : k ≡ count = omega (arith, e) in ap has s ∙ last)
  end_from count (suc n) k e last =
      elim (cases_Bool (has k)) [
        | inl on ↦
            let b = end_from count n (k + 1) (omega (arith, e)) last in (
              b.0,
              omega (arith, b.1),
              b.2,
              λ j low high. elim (cases_eq j k) [
                | inl s ↦ ap has s ∙ on
                | inr apart ↦ b.3 j (elim (cases_lt k j) [ inl lt ↦ omega (arith, lt) | inr le ↦ absurd (apart (omega (arith, le, low))) ]) high
              ],
              b.4,
            )
        | inr off ↦ (k, omega arith, omega (arith, e), λ j low high. absurd (omega (arith, low, high)), off)
      ]

  -- the first run of numbers that have the property is found, where there is one
  pub found : (count : ℕ) → has count ≡ false → ((find (is_maximal has) (runs_below count) ≡ None) × ((k : ℕ) → k < count → has k ≡ false))
      ⊎ ((run : IntervalRun) × (find (is_maximal has) (runs_below count) ≡ Some run) × IsEnd has run.from run.to × (run.to ≤ count) × ((k : ℕ) → k < run.from → has k ≡ false))
  found count last =
      elim (least count) [
        | inl none ↦ inl (find_first (is_maximal has) (runs_below count) ∙ ap first_of (none_of has count 0 count (λ k low high. none k (omega (arith, high)))), none)
        | inr f ↦
            let t = end_from count (count - (f.0 + 1)) (f.0 + 1) (omega (arith, f.1)) last in
            let e : IsEnd has f.0 t.0 = record {
              some = omega (arith, t.1);
              all = λ k low high. elim (cases_lt f.0 k) [
                | inl behind ↦ t.3 k (omega (arith, behind)) high
                | inr here ↦ let s : k ≡ f.0 = omega (arith, low, here) in ap has s ∙ f.2
              ];
              ended = t.4;
            } in
            inr (run_of f.0 t.0, first_run has count f.0 t.0 e t.2 f.3, e, t.2, f.3)
      ]

same_run : (a b : OverlapRun) → ◌≡◌ {A = Option OverlapRun} (Some a) (Some b) → a ≡ b
same_run a b e = cc e

no_run_there : (b : OverlapRun) → ◌≡◌ {A = Option OverlapRun} None (Some b) → ⊥
no_run_there b e = cc e

module _ (woven : List Woven) (regions : List RegionClaims) (rows : All (λ r. length r.claims ≡ length (intervals_of woven)) regions) where
  -- behind the last interval no two regions overlap
  pub past : (one two : ℕ) → one < length regions → do_overlap_at regions (pair_of one two) (length (intervals_of woven)) ≡ false
  past one two lt =
      let nothing : RegionClaims = record { air = false; first = 0; count = 0; claims = [] } in
      and_left _ _
      (ap (λ o. is_solid_at o (length (intervals_of woven))) (slice_at regions one nothing lt)
      ∙ and_right _ _ (get_or_past (get_or regions one nothing).claims (length (intervals_of woven)) false (omega (arith, rows one nothing lt))))

  overlap_of : (pair : RegionPair) (run : IntervalRun) → pair.one < pair.two → pair.two < length regions → IsEnd (do_overlap_at regions pair) run.from run.to
      → run.to ≤ length (intervals_of woven) → ((k : ℕ) → k < run.from → do_overlap_at regions pair k ≡ false)
      → IsFirstOverlap woven regions (record { one = pair.one; two = pair.two; start = cut_at woven run.from; end = cut_at woven run.to })
  overlap_of pair run order there e within first = record {
    run = run;
    order = order;
    there = there;
    some = e.some;
    within = within;
    start = refl;
    end = refl;
    both = e.all;
    first = first;
    ended = e.ended;
  }

  listed : (o : OverlapRun) → Has (overlaps_of woven regions) o → IsFirstOverlap woven regions o
  listed o h =
      let c = has_chosen (first_overlap woven regions) (pairs_up_to (length regions - 1)) o h in
      let m = has_rows pair_of (length regions - 1) 0 (length regions - 1) c.0 c.1 in
      let one : c.0.one ≡ m.0 = ap (λ (x : RegionPair). x.one) m.2 in
      let two : c.0.two ≡ m.1 = ap (λ (x : RegionPair). x.two) m.2 in
      elim (found (do_overlap_at regions c.0) (length (intervals_of woven)) (past c.0.one c.0.two (omega (arith, one, m.4, m.5)))) [
        | inl none ↦ absurd (no_run_there o (sym (ap (overlap_on woven c.0) none.0) ∙ c.2))
        | inr r ↦ subst (IsFirstOverlap woven regions)
            (same_run (record { one = c.0.one; two = c.0.two; start = cut_at woven r.0.from; end = cut_at woven r.0.to }) o (sym (ap (overlap_on woven c.0) r.1) ∙ c.2))
            (overlap_of c.0 r.0 (omega (arith, one, two, m.4)) (omega (arith, two, m.4, m.5)) r.2 r.3 r.4)
      ]

  lists : (o : OverlapRun) → IsFirstOverlap woven regions o → Has (overlaps_of woven regions) o
  lists o f =
      let pair = pair_of o.one o.two in
      let run : find (is_maximal (do_overlap_at regions pair)) (runs_below (length (intervals_of woven))) ≡ Some (run_of f.run.from f.run.to) =
      first_run (do_overlap_at regions pair) (length (intervals_of woven)) f.run.from f.run.to (record { some = f.some; all = f.both; ended = f.ended }) f.within f.first in
      chosen_has (first_overlap woven regions) (pairs_up_to (length regions - 1)) pair o
      (ap (overlap_on woven pair) run
      ∙ ap (λ x. let r : OverlapRun = record { one = o.one; two = o.two; start = x; end = cut_at woven f.run.to } in Some r) (sym f.start)
      ∙ ap (λ x. let r : OverlapRun = record { one = o.one; two = o.two; start = o.start; end = x } in Some r) (sym f.end))
      (rows_have pair_of (length regions - 1) 0 (length regions - 1) o.one o.two (omega arith) (omega (arith, f.order, f.there)) f.order (omega (arith, f.there)))

pub overlaps_are_first : OverlapsAreFirst
overlaps_are_first woven regions rows o = (
  λ c. listed woven regions rows o (has_from_contains (overlaps_of woven regions) o c),
  λ f. contains_from_has (overlaps_of woven regions) o (lists woven regions rows o f),
)

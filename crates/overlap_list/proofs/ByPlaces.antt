-- The first overlap of two regions is the first stretch of the ray that both claim.
use Rattle.std.proofs.Common.{◌≡◌, ◌<◌, ◌≤◌, ◌-◌, ◌⊎◌, ℕ, List, length, get_or, map, Bool, true, false, not, ◌&&◌, Option, Some, None, ap, sym, ◌∙◌, subst, refl, inl, inr, arith}
use Rattle.std.specs.Option.{option_map, MatchOption}
use Rattle.std.specs.List.{slice_get}
use Rattle.std.specs.Ordering.{is_lt}
use Rattle.std.specs.declared.cmp.Ordering.TheVariants.{Less}
use Rattle.std.proofs.lemmas.Bool.{cases_lt, and_left, and_right, true≢false, false_from_ne_true}
use Rattle.std.proofs.lemmas.List.{get_or_default, length-map}
use Rattle.std.proofs.lemmas.Map.Keys.{Less-from_sorted}
use Rattle.std.proofs.lemmas.Option.{slice_get-map}
use Rattle.surd_order.specs.declared.position.Pos.{Pos}
use Rattle.surd_order.specs.PlaceOrder.{place_cmp}
use Rattle.bool_weave.specs.declared.woven.Woven.{Woven}
use Rattle.bool_weave.specs.Cuts.{ray_start, places_of, cuts_of}
use Rattle.bool_weave.specs.Claims.{intervals_of, is_before}
use Rattle.bool_weave.specs.Behind.{claims_behind, AreSpelled}
use Rattle.bool_weave.proofs.Sorted.{Has, has_at}
use Rattle.bool_weave.proofs.Cutting.{cuts_sorted, tied_same, turned, less_from, from_order}
use Rattle.bool_weave.proofs.Claimed.{intervals_length}
use Rattle.bool_weave.proofs.Behind as beside
use Rattle.overlap_list.specs.declared.region.RegionClaims.{RegionClaims}
use Rattle.overlap_list.specs.declared.overlap.OverlapRun.{OverlapRun}
use Rattle.overlap_list.specs.Hits.{cut_at}
use Rattle.overlap_list.specs.Overlaps.{is_solid_at, do_overlap_at, overlap_on, first_overlap}
use Rattle.overlap_list.specs.Steps.{IsEnd}
use Rattle.overlap_list.specs.Firsts.{TreeRegion, claims_by, is_solid_behind}
use Rattle.overlap_list.specs.FirstOverlaps.{do_both_behind, IsFirstStretch, IsFirstStretchOf, OverlapsAreByPlaces, FirstStretchIsOverlap, NoOverlapWithoutStretch}
use Rattle.overlap_list.proofs.Overlapping.{pair_of, slice_at}
use Rattle.overlap_list.proofs.FirstRuns as runs
use Rattle.overlap_list.proofs.Firsts as firsts

pub not_after : (x y : Pos) → is_before x y ≡ true → is_before y x ≡ false
not_after x y lt = ap is_lt (turned x y Less (less_from _ lt))

-- cuts by their numbers
module _ (woven : List Woven) where
  cut_rises : (j k : ℕ) → j < k → k < length (cuts_of woven) → is_before (cut_at woven j) (cut_at woven k) ≡ true
  cut_rises j k less lt = ap is_lt (Less-from_sorted place_cmp (cuts_of woven) j k ray_start (cuts_sorted woven) less lt)

  number_before : (j k : ℕ) → j < length (cuts_of woven) → is_before (cut_at woven j) (cut_at woven k) ≡ true → j < k
  number_before j k lt is =
      elim (cases_lt j k) [
        | inl less ↦ less
        | inr le ↦ elim (cases_lt k j) [
          | inl more ↦ absurd (true≢false (sym (cut_rises k j more lt) ∙ not_after (cut_at woven j) (cut_at woven k) is))
          | inr ge ↦
              let e : j ≡ k = omega (arith, le, ge) in
              absurd (true≢false (sym is ∙ ap (λ n. is_before (cut_at woven j) (cut_at woven n)) (sym e) ∙ beside.never_itself (cut_at woven j)))
        ]
      ]

  cut_place : (k : ℕ) → k < length (cuts_of woven) → Has (places_of woven) (cut_at woven k)
  cut_place k lt = from_order (cut_at woven k) (places_of woven) (has_at (cuts_of woven) (cut_at woven k) ray_start k lt refl)

solid_off : (air b : Bool) → b ≡ false → (not air && b) ≡ false
solid_off air b off = and_right (not air) b off

-- two overlaps of one pair with the same ends
run_same : (o : OverlapRun) (one two : ℕ) (start end : Pos) → o.one ≡ one → o.two ≡ two → o.start ≡ start → o.end ≡ end → Some o ≡ Some (let r : OverlapRun = record { one = one; two = two; start = start; end = end } in r)
run_same o one two start end a b c d =
    ap (λ n. let r : OverlapRun = record { one = n; two = o.two; start = o.start; end = o.end } in Some r) a
    ∙ ap (λ n. let r : OverlapRun = record { one = one; two = n; start = o.start; end = o.end } in Some r) b
    ∙ ap (λ x. let r : OverlapRun = record { one = one; two = two; start = x; end = o.end } in Some r) c
    ∙ ap (λ x. let r : OverlapRun = record { one = one; two = two; start = start; end = x } in Some r) d

-- there is one first stretch
module _ (woven : List Woven) (one two : TreeRegion) (x y x' y' : Pos) (p : IsFirstStretch woven one two x y) (q : IsFirstStretch woven one two x' y') where
  start_on : do_both_behind woven one two x ≡ true
  start_on = p.both x (beside.never_itself x) p.ordered

  not_sooner : is_before x x' ≡ false
  not_sooner = false_from_ne_true _ (λ is. true≢false (sym start_on ∙ q.first x is))

  end_not_sooner : x ≡ x' → is_before y y' ≡ false
  end_not_sooner e = false_from_ne_true _ (λ is. true≢false (sym (q.both y (ap (is_before y) (sym e) ∙ not_after x y p.ordered) is) ∙ p.ended))

pub one_stretch : (woven : List Woven) (one two : TreeRegion) (x y x' y' : Pos) → IsFirstStretch woven one two x y → IsFirstStretch woven one two x' y' → (x ≡ x') × (y ≡ y')
one_stretch woven one two x y x' y' p q =
    let start : x ≡ x' = tied_same x x' p.start_spelled q.start_spelled (firsts.tied_from x x' (not_sooner woven one two x y x' y' p q) (not_sooner woven one two x' y' x y q p)) in (
      start,
      tied_same y y' p.end_spelled q.end_spelled (firsts.tied_from y y' (end_not_sooner woven one two x y x' y' p q start) (end_not_sooner woven one two x' y' x y q p (sym start))),
    )

module _ (woven : List Woven) (s : AreSpelled woven) (regions : List TreeRegion) (one two : ℕ) (d e : TreeRegion) (in_one : one < length regions) (in_two : two < length regions) where
  abbrev all : List RegionClaims
  all = map (claims_by woven) regions

  abbrev count : ℕ
  count = length (intervals_of woven)

  abbrev a : TreeRegion
  a = get_or regions one d

  abbrev b : TreeRegion
  b = get_or regions two e

  abbrev both : Pos → Bool
  both x = do_both_behind woven a b x

  abbrev has : ℕ → Bool
  has k = do_overlap_at all (pair_of one two) k

  solid_is : (n : ℕ) (c : TreeRegion) → n < length regions → (k : ℕ) → k < count → is_solid_at (slice_get all n) k ≡ is_solid_behind woven (cut_at woven k) (get_or regions n c)
  solid_is n c lt k within =
      ap (λ o. is_solid_at o k) (slice_get-map (claims_by woven) regions n ∙ ap (option_map (claims_by woven)) (slice_at regions n c lt))
      ∙ ap (λ v. not (get_or regions n c).air && v) (firsts.claim_behind woven regions s (get_or regions n c) k within)

  has_is : (k : ℕ) → k < count → has k ≡ both (cut_at woven k)
  has_is k lt = ap (λ v. v && is_solid_at (slice_get all two) k) (solid_is one d in_one k lt) ∙ ap (λ v. is_solid_behind woven (cut_at woven k) a && v) (solid_is two e in_two k lt)

  past : has count ≡ false
  past = runs.past woven all (firsts.rows woven regions s) one two (omega (arith, in_one, length-map regions (claims_by woven)))

  off_where : (x : Pos) → ((r : TreeRegion) → claims_behind woven r.tree r.first x ≡ false) → both x ≡ false
  off_where x off = and_left (is_solid_behind woven x a) (is_solid_behind woven x b) (solid_off a.air (claims_behind woven a.tree a.first x) (off a))

  cut_is : (k : ℕ) → k < length (cuts_of woven) → both (cut_at woven k) ≡ has k
  cut_is k lt =
      elim (cases_lt k count) [
        | inl within ↦ sym (has_is k within)
        | inr ge ↦
            let last : k ≡ length (cuts_of woven) - 1 = omega (arith, ge, lt, intervals_length (cuts_of woven)) in
            let end : count ≡ k = omega (arith, ge, lt, intervals_length (cuts_of woven)) in
            ap (λ n. both (cut_at woven n)) last ∙ off_where (cut_at woven (length (cuts_of woven) - 1)) (λ r. beside.behind_last woven s r.tree r.first) ∙ sym (ap has (sym end) ∙ past)
      ]

  -- from the last cut that comes up to a place on it is claimed alike
  record IsFromCut (x : Pos) : Type 0 where
    k : ℕ
    within : k < length (cuts_of woven)
    reached : is_before x (cut_at woven k) ≡ false
    last : (j : ℕ) → j < length (cuts_of woven) → is_before x (cut_at woven j) ≡ false → j ≤ k
    same : both x ≡ has k

  record IsBeforeCuts (x : Pos) : Type 0 where
    off : both x ≡ false
    early : (j : ℕ) → j < length (cuts_of woven) → is_before x (cut_at woven j) ≡ true

  from_last : (x z : Pos) → beside.IsLast x (places_of woven) z → IsFromCut x
  from_last x z l =
      let c = beside.among_cuts woven z s l.there in
      let at : cut_at woven c.0 ≡ z = get_or_default (cuts_of woven) c.0 ray_start z c.1 ∙ c.2 in
      let alike : (r : TreeRegion) → is_solid_behind woven x r ≡ is_solid_behind woven (cut_at woven c.0) r = λ r.
      ap (λ v. not r.air && v) (beside.behind_from woven (places_of woven) (beside.places_held woven) x z l r.tree r.first ∙ ap (claims_behind woven r.tree r.first) (sym at)) in
      record {
        k = c.0;
        within = c.1;
        reached = ap (is_before x) at ∙ l.reached;
        last = λ j lt up. elim (cases_lt c.0 j) [
          | inl later ↦ absurd (true≢false (sym (cut_rises woven c.0 j later lt) ∙ ap (λ y. is_before y (cut_at woven j)) at ∙ l.last (cut_at woven j) (cut_place woven j lt) up))
          | inr le ↦ le
        ];
        same = ap (λ v. v && is_solid_behind woven x b) (alike a) ∙ ap (λ v. is_solid_behind woven (cut_at woven c.0) a && v) (alike b) ∙ cut_is c.0 c.1;
      }

  from_cut : (x : Pos) → IsFromCut x ⊎ IsBeforeCuts x
  from_cut x =
      elim (beside.last_up_to x (places_of woven)) [
        | inl l ↦ inl (from_last x l.0 l.1)
        | inr none ↦ inr (record {
          off = off_where x (λ r. beside.behind_none woven (places_of woven) (beside.places_held woven) x none r.tree r.first);
          early = λ j lt. none (cut_at woven j) (cut_place woven j lt);
        })
      ]

  nowhere : ((k : ℕ) → k < count → has k ≡ false) → (x : Pos) → both x ≡ false
  nowhere none x =
      elim (from_cut x) [
        | inl f ↦ f.same ∙ elim (cases_lt f.k count) [
          | inl lt ↦ none f.k lt
          | inr ge ↦ let last : f.k ≡ count = omega (arith, ge, f.within, intervals_length (cuts_of woven)) in ap has last ∙ past
        ]
        | inr f ↦ f.off
      ]

  module _ (from to : ℕ) (end : IsEnd has from to) (within : to ≤ count) (early : (k : ℕ) → k < from → has k ≡ false) where
    to_lt : to < length (cuts_of woven)
    to_lt = omega (arith, within, end.some, intervals_length (cuts_of woven))

    from_lt : from < length (cuts_of woven)
    from_lt = omega (arith, to_lt, end.some)

    before_start : (x : Pos) → is_before x (cut_at woven from) ≡ true → both x ≡ false
    before_start x lt =
        elim (from_cut x) [
          | inl f ↦ f.same ∙ early f.k (number_before woven f.k from f.within (beside.before_through x (cut_at woven from) (cut_at woven f.k) f.reached lt))
          | inr f ↦ f.off
        ]

    inside : (x : Pos) → is_before x (cut_at woven from) ≡ false → is_before x (cut_at woven to) ≡ true → both x ≡ true
    inside x reached lt =
        elim (from_cut x) [
          | inl f ↦ f.same ∙ end.all f.k (f.last from from_lt reached) (number_before woven f.k to f.within (beside.before_through x (cut_at woven to) (cut_at woven f.k) f.reached lt))
          | inr f ↦ absurd (true≢false (sym (f.early from from_lt) ∙ reached))
        ]

    stretch : IsFirstStretch woven a b (cut_at woven from) (cut_at woven to)
    stretch = record {
      start_spelled = beside.places_spelled woven (cut_at woven from) s (cut_place woven from from_lt);
      end_spelled = beside.places_spelled woven (cut_at woven to) s (cut_place woven to to_lt);
      ordered = cut_rises woven from to end.some to_lt;
      first = before_start;
      both = inside;
      ended = cut_is to to_lt ∙ end.ended;
    }

  pub by_places : MatchOption (first_overlap woven all (pair_of one two)) ((x : Pos) → both x ≡ false) (IsFirstStretchOf woven one two a b)
  by_places =
      elim (runs.found has count past) [
        | inl none ↦ subst (λ o. MatchOption o ((x : Pos) → both x ≡ false) (IsFirstStretchOf woven one two a b)) (sym (ap (overlap_on woven (pair_of one two)) none.0)) (nowhere none.1)
        | inr r ↦ subst (λ o. MatchOption o ((x : Pos) → both x ≡ false) (IsFirstStretchOf woven one two a b)) (sym (ap (overlap_on woven (pair_of one two)) r.1))
            (record { one_is = refl; two_is = refl; stretch = stretch r.0.from r.0.to r.2 r.3 r.4 })
      ]

  is_found : (start end : Pos) → IsFirstStretch woven a b start end → (o : Option OverlapRun) → MatchOption o ((x : Pos) → both x ≡ false) (IsFirstStretchOf woven one two a b)
      → o ≡ Some (let r : OverlapRun = record { one = one; two = two; start = start; end = end } in r)
  is_found start end p None off = absurd (true≢false (sym (p.both start (beside.never_itself start) p.ordered) ∙ off start))
  is_found start end p (Some o) q =
      let same = one_stretch woven a b o.start o.end start end q.stretch p in
      run_same o one two start end q.one_is q.two_is same.0 same.1

  is_none : ((x : Pos) → both x ≡ false) → (o : Option OverlapRun) → MatchOption o ((x : Pos) → both x ≡ false) (IsFirstStretchOf woven one two a b) → o ≡ None
  is_none off None h = refl
  is_none off (Some o) q = absurd (true≢false (sym (q.stretch.both o.start (beside.never_itself o.start) q.stretch.ordered) ∙ off o.start))

pub overlaps_are_by_places : OverlapsAreByPlaces
overlaps_are_by_places woven regions one two d e s in_one in_two = by_places woven s regions one two d e in_one in_two

pub first_stretch_is_overlap : FirstStretchIsOverlap
first_stretch_is_overlap woven regions one two d e start end s in_one in_two p =
    is_found woven s regions one two d e in_one in_two start end p (first_overlap woven (map (claims_by woven) regions) (pair_of one two)) (by_places woven s regions one two d e in_one in_two)

pub no_overlap_without_stretch : NoOverlapWithoutStretch
no_overlap_without_stretch woven regions one two d e s in_one in_two off =
    is_none woven s regions one two d e in_one in_two off (first_overlap woven (map (claims_by woven) regions) (pair_of one two)) (by_places woven s regions one two d e in_one in_two)

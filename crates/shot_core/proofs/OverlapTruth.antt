-- The overlaps of a ray tell where two regions without air first both hold.
use Rattle.std.proofs.Common.{◌≡◌, ◌<◌, ◌≤◌, ◌+◌, ℕ, zero, suc, ℤ, List, [], ◌∷◌, length, get_or, slice_get, Bool, true, false, ◌&&◌, not, Option, Some, All, Any, ap, sym, subst, ◌∙◌, refl, inl, inr, arith}
use Rattle.std.proofs.lemmas.Bool.{cases_lt, and_parts, and_from, true≢false}
use Rattle.std.proofs.lemmas.List.{get_or_past}
use Rattle.std.proofs.lemmas.Option.{slice_get_within}
use Rattle.lattice_core.specs.declared.ray.Ray.{Ray}
use Rattle.lattice_core.specs.Rays.{IsOnRay}
use Rattle.surd_order.specs.declared.position.Pos.{Pos}
use Rattle.surd_order.specs.declared.position.Pos.TheVariants.{Frac}
use Rattle.surd_order.specs.Order.{Precedes}
use Rattle.surd_order.proofs.OrderLaws.{same_refl, transitive}
use Rattle.solid_set.specs.Segments.{ray_start, ray_end}
use Rattle.bool_weave.specs.declared.woven.Woven.{Woven}
use Rattle.bool_weave.specs.Claims.{intervals_of}
use Rattle.bool_weave.proofs.Sorted.{has_from_contains}
use Rattle.overlap_list.specs.declared.overlap.OverlapRun.{OverlapRun}
use Rattle.overlap_list.specs.declared.region.RegionClaims.{RegionClaims}
use Rattle.overlap_list.specs.Hits.{cut_at}
use Rattle.overlap_list.specs.Laws.{IsFirstOverlap}
use Rattle.overlap_list.specs.Overlaps.{RegionPair, is_solid_at, do_overlap_at}
use Rattle.overlap_list.specs.Winners.{claims_at}
use Rattle.overlap_list.proofs.FirstRuns.{found, overlaps_are_first}
use Rattle.overlap_list.proofs.Overlapping.{slice_at}
use Rattle.shot_core.specs.OverlapPoints.{BothHoldSolid, IsTrueOverlap, OverlapsTellPoints}
use Rattle.shot_core.specs.Points.{IsRayHitPlace, HoldsPoint}
use Rattle.shot_core.specs.Regions.{Region, HaveInstances, has_air}
use Rattle.shot_core.specs.Shots.{woven_of, claims_on, overlaps_on}
use Rattle.shot_core.specs.Steps.{no_region}
use Rattle.shot_core.proofs.Claiming.{claims_length, no_claims}
use Rattle.shot_core.proofs.Pointing.{any_from, place, not_back, on_ray, rises, last_cut, located, region_of}
use Rattle.shot_core.proofs.ResultLaws.{rows_from}

not_true : (b : Bool) → b ≡ false → not b ≡ true
not_true b e = ap not e

true_not : (b : Bool) → not b ≡ true → b ≡ false
true_not true e = absurd (true≢false (sym e))
true_not false e = refl

module _ (regions : List Region) (ray : Ray) (below : HaveInstances regions) where
  abbrev woven : List Woven
  woven = woven_of regions ray

  abbrev claimed : List RegionClaims
  claimed = claims_on regions ray

  abbrev count : ℕ
  count = length (intervals_of woven)

  abbrev pair : ℕ → ℕ → RegionPair
  pair one two = record { one = one; two = two }

  many : length claimed ≡ length regions
  many = claims_length woven 0 regions

  module _ (p q : ℤ) (on : IsOnRay p q) (no_hit : ¬ (IsRayHitPlace regions ray (Frac p q))) where
    abbrev k : ℕ
    k = (located regions ray below p q on no_hit).k

    within : (located regions ray below p q on no_hit).k < count
    within = (located regions ray below p q on no_hit).within

    -- between which cuts a point lies tells which interval it is in
    in_run : (from to : ℕ) → from ≤ count → to ≤ count → Precedes (cut_at woven from) (Frac p q) → Precedes (Frac p q) (cut_at woven to) → (from ≤ k) × (k < to)
    in_run from to le le' after before =
        let l = located regions ray below p q on no_hit in (
          elim (cases_lt l.k from) [
            | inl late ↦ absurd (not_back regions ray below (l.k + 1) from (omega (arith, late)) le
                (transitive (cut_at woven from) (Frac p q) (cut_at woven (l.k + 1)) on.positive (place regions ray below (l.k + 1) (omega (arith, l.within))) after l.before))
            | inr ge ↦ ge
          ],
          elim (cases_lt l.k to) [
            | inl lt ↦ lt
            | inr past ↦ absurd (not_back regions ray below to l.k past (omega (arith, l.within))
                (transitive (cut_at woven l.k) (Frac p q) (cut_at woven to) on.positive (place regions ray below to le') l.after before))
          ],
        )

    early : (from : ℕ) → from ≤ count → Precedes (Frac p q) (cut_at woven from) → k < from
    early from le before =
        let l = located regions ray below p q on no_hit in
        elim (cases_lt l.k from) [
          | inl lt ↦ lt
          | inr past ↦ absurd (not_back regions ray below from l.k past (omega (arith, l.within))
              (transitive (cut_at woven l.k) (Frac p q) (cut_at woven from) on.positive (place regions ray below from le) l.after before))
        ]

    -- a region without air whose tree holds there claims the interval, and no other one does
    solid_from : (n : ℕ) (region : Region) → slice_get regions n ≡ Some region → has_air region.body ≡ false → HoldsPoint region.body ray p q → is_solid_at (slice_get claimed n) k ≡ true
    solid_from n region there solid holds =
        let r = region_of regions ray below p q on no_hit n region there in
        let lt : n < length claimed = omega (arith, slice_get_within regions n region there, many) in
        ap (λ (o : Option RegionClaims). is_solid_at o k) (slice_at claimed n no_claims lt)
        ∙ and_from (not (get_or claimed n no_claims).air) (claims_at (get_or claimed n no_claims) k) (not_true (get_or claimed n no_claims).air (r.air no_claims ∙ solid)) ((r.claims no_claims).1 holds)

    record IsSolidThere (n : ℕ) : Type 0 where
      region : Region
      there : slice_get regions n ≡ Some region
      solid : has_air region.body ≡ false
      holds : HoldsPoint region.body ray p q

    solid_to : (n : ℕ) → n < length regions → is_solid_at (slice_get claimed n) k ≡ true → IsSolidThere n
    solid_to n lt e =
        let there : slice_get regions n ≡ Some (get_or regions n no_region) = slice_at regions n no_region lt in
        let r = region_of regions ray below p q on no_hit n (get_or regions n no_region) there in
        let both = and_parts (not (get_or claimed n no_claims).air) (claims_at (get_or claimed n no_claims) k)
        (sym (ap (λ (o : Option RegionClaims). is_solid_at o k) (slice_at claimed n no_claims (omega (arith, lt, many)))) ∙ e) in
        record { region = get_or regions n no_region; there = there; solid = sym (r.air no_claims) ∙ true_not (get_or claimed n no_claims).air both.0; holds = (r.claims no_claims).0 both.1 }

    overlap_from : (one two : ℕ) → BothHoldSolid regions ray p q one two → do_overlap_at claimed (pair one two) k ≡ true
    overlap_from one two h =
        and_from (is_solid_at (slice_get claimed one) k) (is_solid_at (slice_get claimed two) k)
        (solid_from one h.first h.first_there h.first_solid h.first_holds) (solid_from two h.second h.second_there h.second_solid h.second_holds)

    overlap_to : (one two : ℕ) → one < length regions → two < length regions → do_overlap_at claimed (pair one two) k ≡ true → BothHoldSolid regions ray p q one two
    overlap_to one two lt lt' e =
        let both = and_parts (is_solid_at (slice_get claimed one) k) (is_solid_at (slice_get claimed two) k) e in
        let a = solid_to one lt both.0 in
        let b = solid_to two lt' both.1 in
        record {
          first = a.region;
          second = b.region;
          first_there = a.there;
          second_there = b.there;
          first_solid = a.solid;
          second_solid = b.solid;
          first_holds = a.holds;
          second_holds = b.holds;
        }

  -- nobody claims an interval past the last
  past : (one two : ℕ) → one < length regions → do_overlap_at claimed (pair one two) count ≡ false
  past one two lt =
      ap (λ (o : Option RegionClaims). is_solid_at o count && is_solid_at (slice_get claimed two) count) (slice_at claimed one no_claims (omega (arith, lt, many)))
      ∙ nothing (not (get_or claimed one no_claims).air) (claims_at (get_or claimed one no_claims) count) (is_solid_at (slice_get claimed two) count)
      (get_or_past (get_or claimed one no_claims).claims count false (let e : length (get_or claimed one no_claims).claims ≡ count = rows_from woven 0 regions one no_claims (omega (arith, lt, many)) in omega (arith, e)))
    where
      nothing : (a b c : Bool) → b ≡ false → ((a && b) && c) ≡ false
      nothing true true c e = absurd (true≢false e)
      nothing true false c e = refl
      nothing false b c e = refl

  apart_at : (p q : ℤ) (on : IsOnRay p q) (no_hit : ¬ (IsRayHitPlace regions ray (Frac p q))) (one two n : ℕ) → (located regions ray below p q on no_hit).k ≡ n → do_overlap_at claimed (pair one two) n ≡ false → ¬ (BothHoldSolid regions ray p q one two)
  apart_at p q on no_hit one two n e away = λ together. true≢false (sym (overlap_from p q on no_hit one two together) ∙ ap (λ m. do_overlap_at claimed (pair one two) m) e ∙ away)

  true_overlap : (o : OverlapRun) → IsFirstOverlap woven claimed o → IsTrueOverlap regions ray o
  true_overlap o f = record {
    forward = subst (λ (z : Pos). Precedes z o.end) (sym f.start) (subst (Precedes (cut_at woven f.run.from)) (sym f.end) (rises regions ray below f.run.from f.run.to f.some f.within));
    begun = subst (λ (z : Pos). ¬ (Precedes z ray_start)) (sym f.start) (on_ray regions ray below f.run.from (omega (arith, f.some, f.within))).begun;
    not_ended = subst (λ (z : Pos). ¬ (Precedes ray_end z)) (sym f.end) (on_ray regions ray below f.run.to f.within).not_ended;
    between = λ p q on no_hit after before.
        let i = in_run p q on no_hit f.run.from f.run.to (omega (arith, f.some, f.within)) f.within (subst (λ (z : Pos). Precedes z (Frac p q)) f.start after) (subst (Precedes (Frac p q)) f.end before) in
        overlap_to p q on no_hit o.one o.two (omega (arith, f.order, f.there, many)) (omega (arith, f.there, many)) (f.both (located regions ray below p q on no_hit).k i.0 i.1);
    before = λ p q on no_hit before.
        let lt = early p q on no_hit f.run.from (omega (arith, f.some, f.within)) (subst (Precedes (Frac p q)) f.start before) in
        apart_at p q on no_hit o.one o.two (located regions ray below p q on no_hit).k refl (f.first (located regions ray below p q on no_hit).k lt);
    ended = elim (cases_lt f.run.to count) [
      | inl lt ↦ inr (record {
        limit = cut_at woven (f.run.to + 1);
        later = subst (λ (z : Pos). Precedes z (cut_at woven (f.run.to + 1))) (sym f.end) (rises regions ray below f.run.to (f.run.to + 1) (omega arith) (omega (arith, lt)));
        apart = λ p q on no_hit after before.
            let i = in_run p q on no_hit f.run.to (f.run.to + 1) (omega (arith, lt)) (omega (arith, lt)) (subst (λ (z : Pos). Precedes z (Frac p q)) f.end after) before in
            apart_at p q on no_hit o.one o.two f.run.to (omega (arith, i.0, i.1)) f.ended;
      })
      | inr ge ↦
          let last : o.end ≡ ray_end = f.end ∙ ap (λ n. cut_at woven n) (let e : f.run.to ≡ count = omega (arith, ge, f.within) in e) ∙ last_cut regions ray below in
          inl (λ more. (same_refl ray_end).not_before (subst (λ (z : Pos). Precedes z ray_end) last more))
    ];
  }

  each_true : All (IsTrueOverlap regions ray) (overlaps_on regions ray)
  each_true i d lt = true_overlap (get_or (overlaps_on regions ray) i d) ((overlaps_are_first woven claimed (rows_from woven 0 regions) (get_or (overlaps_on regions ray) i d)).0 (i, lt, again (overlaps_on regions ray) i d lt))
    where
      again : (xs : List OverlapRun) (n : ℕ) (e : OverlapRun) → n < length xs → get_or xs n (get_or xs n e) ≡ get_or xs n e
      again [] n e lt = absurd (omega (arith, lt))
      again (x ∷ xs) zero e lt = refl
      again (x ∷ xs) (suc n) e lt = again xs n e (omega (arith, lt))

  all_told : (p q : ℤ) (one two : ℕ) (on : IsOnRay p q) → ¬ (IsRayHitPlace regions ray (Frac p q)) → one < two → BothHoldSolid regions ray p q one two → Any (λ (o : OverlapRun). (o.one ≡ one) × (o.two ≡ two)) (overlaps_on regions ray)
  all_told p q one two on no_hit order together =
      let lt : one < length regions = slice_get_within regions one together.first together.first_there in
      let lt' : two < length regions = slice_get_within regions two together.second together.second_there in
      let at : do_overlap_at claimed (pair one two) (located regions ray below p q on no_hit).k ≡ true = overlap_from p q on no_hit one two together in
      elim (found (do_overlap_at claimed (pair one two)) count (past one two lt)) [
        | inl none ↦ absurd (true≢false (sym at ∙ none.1 (located regions ray below p q on no_hit).k (located regions ray below p q on no_hit).within))
        | inr r ↦
            let o : OverlapRun = record { one = one; two = two; start = cut_at woven r.0.from; end = cut_at woven r.0.to } in
            let first : IsFirstOverlap woven claimed (record { one = one; two = two; start = cut_at woven r.0.from; end = cut_at woven r.0.to }) = record {
              run = r.0;
              order = order;
              there = omega (arith, lt', many);
              some = r.2.some;
              within = r.3;
              start = refl;
              end = refl;
              both = r.2.all;
              first = r.4;
              ended = r.2.ended;
            } in
            any_from (λ (o : OverlapRun). (o.one ≡ one) × (o.two ≡ two)) (overlaps_on regions ray) (record { one = one; two = two; start = cut_at woven r.0.from; end = cut_at woven r.0.to })
            (has_from_contains (overlaps_on regions ray) (record { one = one; two = two; start = cut_at woven r.0.from; end = cut_at woven r.0.to }) ((overlaps_are_first woven claimed (rows_from woven 0 regions) (record { one = one; two = two; start = cut_at woven r.0.from; end = cut_at woven r.0.to })).1 first)) (refl, refl)
      ]

pub overlaps_tell_points : OverlapsTellPoints
overlaps_tell_points regions ray below = record { each = each_true regions ray below; all = λ p q one two on no_hit order together. all_told regions ray below p q one two on no_hit order together }

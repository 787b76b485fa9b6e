-- A region whose claim changes at a cut begins or ceases to hold there.
use Rattle.std.proofs.Common.{◌≡◌, ◌<◌, ◌+◌, ℕ, zero, suc, ℤ, pos, negsuc, List, length, get_or, slice_get, Bool, true, false, Some, ap, sym, ◌∙◌, subst, refl, inl, inr, arith}
use Rattle.std.proofs.lemmas.Bool.{cases_lt, true≢false}
use Rattle.std.proofs.lemmas.Int.{ints}
use Rattle.lattice_core.specs.declared.ray.Ray.{Ray}
use Rattle.lattice_core.specs.Rays.{IsOnRay}
use Rattle.surd_order.specs.declared.position.Pos.{Pos}
use Rattle.surd_order.specs.declared.position.Pos.TheVariants.{Frac}
use Rattle.surd_order.specs.Order.{IsPlace, Precedes}
use Rattle.surd_order.proofs.LawProofs.{outcome, is_kept_by_same_place}
use Rattle.surd_order.proofs.OrderLaws.{same_symm, transitive}
use Rattle.solid_set.specs.Segments.{ray_start, ray_end}
use Rattle.bool_weave.specs.declared.woven.Woven.{Woven}
use Rattle.bool_weave.specs.Claims.{intervals_of}
use Rattle.overlap_list.specs.Hits.{cut_at, differ, changes_at}
use Rattle.overlap_list.specs.Runs.{has_before}
use Rattle.overlap_list.specs.Winners.{claims_at}
use Rattle.shot_core.specs.Points.{IsRayHitPlace}
use Rattle.shot_core.specs.Regions.{Region, HaveInstances}
use Rattle.shot_core.specs.Shots.{woven_of, claims_on}
use Rattle.shot_core.proofs.Claiming.{no_claims}
use Rattle.shot_core.proofs.Pointing.{located, region_of, on_ray as on_cut, place, rises, not_back}
use Rattle.view_laws.proofs.Free.{IsFreeBeforeBoth, IsFreeBehindBoth, free_between, free_before_both, free_behind_both}
use Rattle.view_laws.specs.PixelPoints.{HoldsBetween, HoldsNowhereBetween, TurnsAt}

-- -1 comes before what does not come before 0
minus_one_first : Precedes (Frac (negsuc 0) (pos 1)) ray_start
minus_one_first = record { p = pos 0; q = pos 1; positive = omega (arith, ints); within = omega (arith, ints); beyond = λ h. omega (arith, ints, h) }

minus_one_before : (x : Pos) → IsPlace x → ¬ (Precedes x ray_start) → Precedes (Frac (negsuc 0) (pos 1)) x
minus_one_before x place begun = elim (outcome x ray_start place (omega (arith, ints))) [
  | inl early ↦ absurd (begun early)
  | inr (inl same) ↦ is_kept_by_same_place.after (Frac (negsuc 0) (pos 1)) ray_start x minus_one_first (same_symm x ray_start same)
  | inr (inr later) ↦ transitive (Frac (negsuc 0) (pos 1)) ray_start x (omega (arith, ints)) place minus_one_first later
]

module _ (regions : List Region) (ray : Ray) (below : HaveInstances regions) where
  abbrev woven : List Woven
  woven = woven_of regions ray

  abbrev count : ℕ
  count = length (intervals_of woven)

  abbrev cut : ℕ → Pos
  cut k = cut_at woven k

  -- the interval between two cuts has the points between them
  located_is : (p q : ℤ) (on : IsOnRay p q) (free : ¬ (IsRayHitPlace regions ray (Frac p q))) (k : ℕ) → k < count → Precedes (cut k) (Frac p q) → Precedes (Frac p q) (cut (k + 1)) → (located regions ray below p q on free).k ≡ k
  located_is p q on free k lt after before =
      let l = located regions ray below p q on free in
      elim (cases_lt l.k k) [
        | inl early ↦ absurd (not_back regions ray below (l.k + 1) k (omega (arith, early)) (omega (arith, lt))
            (transitive (cut k) (Frac p q) (cut (l.k + 1)) on.positive (place regions ray below (l.k + 1) (omega (arith, l.within))) after l.before))
        | inr ge ↦ elim (cases_lt k l.k) [
          | inl late ↦ absurd (not_back regions ray below (k + 1) l.k (omega (arith, late)) (omega (arith, l.within))
              (transitive (cut l.k) (Frac p q) (cut (k + 1)) on.positive (place regions ray below (k + 1) (omega (arith, lt))) l.after before))
          | inr le ↦ omega (arith, ge, le)
        ]
      ]

  -- before the first cut the ray has no points
  none_before : (p q : ℤ) (on : IsOnRay p q) → ¬ (IsRayHitPlace regions ray (Frac p q)) → ¬ (Precedes (Frac p q) (cut 0))
  none_before p q on free =
      let l = located regions ray below p q on free in
      λ before. not_back regions ray below 0 l.k (omega arith) (omega (arith, l.within))
      (transitive (cut l.k) (Frac p q) (cut 0) on.positive (place regions ray below 0 (omega arith)) l.after before)

  module _ (n : ℕ) (region : Region) (there : slice_get regions n ≡ Some region) where
    abbrev claims : ℕ → Bool
    claims k = claims_at (get_or (claims_on regions ray) n no_claims) k

    holds_in : (k : ℕ) → k < count → claims k ≡ true → HoldsBetween regions ray region.body (cut k) (cut (k + 1))
    holds_in k lt is p q on free after before =
        ((region_of regions ray below p q on free n region there).claims no_claims).0 (ap claims (located_is p q on free k lt after before) ∙ is)

    nowhere_in : (k : ℕ) → k < count → claims k ≡ false → HoldsNowhereBetween regions ray region.body (cut k) (cut (k + 1))
    nowhere_in k lt none p q on free after before =
        λ holds. true≢false (sym (((region_of regions ray below p q on free n region there).claims no_claims).1 holds) ∙ ap claims (located_is p q on free k lt after before) ∙ none)

    nothing_before : HoldsNowhereBetween regions ray region.body (Frac (negsuc 0) (pos 1)) (cut 0)
    nothing_before p q on free after before = λ holds. none_before p q on free before

    turns : (k : ℕ) (a b : Bool) → k < count → has_before claims k ≡ a → claims k ≡ b → differ a b ≡ true → TurnsAt regions ray region.body (cut k)
    turns k true true lt before here change = absurd (true≢false (sym change))
    turns k false false lt before here change = absurd (true≢false (sym change))
    turns zero true false lt before here change = absurd (true≢false (sym before))
    turns (suc j) true false lt before here change =
        let e : j + 1 ≡ suc j = omega arith in
        record {
          from = cut j;
          to = cut (suc j + 1);
          from_place = place regions ray below j (omega (arith, lt));
          to_place = place regions ray below (suc j + 1) (omega (arith, lt));
          before = rises regions ray below j (suc j) (omega arith) (omega (arith, lt));
          behind = rises regions ray below (suc j) (suc j + 1) (omega arith) (omega (arith, lt));
          not_ended = (on_cut regions ray below (suc j + 1) (omega (arith, lt))).not_ended;
          turns = inr (
            (on_cut regions ray below j (omega (arith, lt))).begun,
            subst (λ m. HoldsBetween regions ray region.body (cut j) (cut m)) e (holds_in j (omega (arith, lt)) before),
            nowhere_in (suc j) lt here,
          );
        }
    turns zero false true lt before here change = record {
      from = Frac (negsuc 0) (pos 1);
      to = cut 1;
      from_place = omega (arith, ints);
      to_place = place regions ray below 1 (omega (arith, lt));
      before = minus_one_before (cut 0) (place regions ray below 0 (omega arith)) (on_cut regions ray below 0 (omega arith)).begun;
      behind = rises regions ray below 0 1 (omega arith) (omega (arith, lt));
      not_ended = (on_cut regions ray below 1 (omega (arith, lt))).not_ended;
      turns = inl (nothing_before, holds_in 0 lt here);
    }
    turns (suc j) false true lt before here change =
        let e : j + 1 ≡ suc j = omega arith in
        record {
          from = cut j;
          to = cut (suc j + 1);
          from_place = place regions ray below j (omega (arith, lt));
          to_place = place regions ray below (suc j + 1) (omega (arith, lt));
          before = rises regions ray below j (suc j) (omega arith) (omega (arith, lt));
          behind = rises regions ray below (suc j) (suc j + 1) (omega arith) (omega (arith, lt));
          not_ended = (on_cut regions ray below (suc j + 1) (omega (arith, lt))).not_ended;
          turns = inl (subst (λ m. HoldsNowhereBetween regions ray region.body (cut j) (cut m)) e (nowhere_in j (omega (arith, lt)) before), holds_in (suc j) lt here);
        }

    pub turns_at : (k : ℕ) → k < count → changes_at k (get_or (claims_on regions ray) n no_claims) ≡ true → TurnsAt regions ray region.body (cut k)
    turns_at k lt change = turns k (has_before claims k) (claims k) lt refl refl change

    -- and where it begins or ceases to hold its claim changes
    inside_before : (j : ℕ) (from : Pos) → suc j < count → IsPlace from → Precedes from (cut (suc j)) → IsFreeBehindBoth regions ray from (cut j) (cut (suc j))
    inside_before j from lt from_place before =
        free_behind_both regions ray from (cut j) (cut (suc j)) from_place (place regions ray below j (omega (arith, lt))) (place regions ray below (suc j) (omega (arith, lt)))
        (on_cut regions ray below j (omega (arith, lt))).begun (on_cut regions ray below (suc j) (omega (arith, lt))).not_ended before (rises regions ray below j (suc j) (omega arith) (omega (arith, lt)))

    inside_behind : (k : ℕ) (to : Pos) → k < count → IsPlace to → Precedes (cut k) to → ¬ (Precedes ray_end to) → IsFreeBeforeBoth regions ray (cut k) to (cut (k + 1))
    inside_behind k to lt to_place behind not_ended =
        free_before_both regions ray (cut k) to (cut (k + 1)) (place regions ray below k (omega (arith, lt))) to_place (place regions ray below (k + 1) (omega (arith, lt)))
        (on_cut regions ray below k (omega (arith, lt))).begun not_ended behind (rises regions ray below k (k + 1) (omega arith) (omega (arith, lt)))

    abbrev next : (j : ℕ) → j + 1 ≡ suc j
    next j = omega arith

    no_end : (k : ℕ) → k < count → has_before claims k ≡ false → (t : TurnsAt regions ray region.body (cut k)) → ¬ (Precedes t.from ray_start) → HoldsBetween regions ray region.body t.from (cut k) → ⊥
    no_end zero lt before t begun holds =
        let x = free_between regions ray t.from (cut 0) t.from_place (place regions ray below 0 (omega arith)) begun (on_cut regions ray below 0 (omega arith)).not_ended t.before in
        none_before x.p x.q x.on x.free x.before
    no_end (suc j) lt before t begun holds =
        let z = inside_before j t.from lt t.from_place t.before in
        let x = z.point in
        nowhere_in j (omega (arith, lt)) before x.p x.q x.on x.free x.after (subst (λ m. Precedes (Frac x.p x.q) (cut m)) (sym (next j)) x.before) (holds x.p x.q x.on x.free z.after_other x.before)

    still : (k : ℕ) (a b : Bool) → k < count → has_before claims k ≡ a → claims k ≡ b → TurnsAt regions ray region.body (cut k) → differ a b ≡ true
    still k true false lt before here t = refl
    still k false true lt before here t = refl
    still zero true true lt before here t = absurd (true≢false (sym before))
    still (suc j) true true lt before here t =
        elim t.turns [
          | inl begins ↦
              let z = inside_before j t.from lt t.from_place t.before in
              let x = z.point in
              absurd (begins.0 x.p x.q x.on x.free z.after_other x.before (holds_in j (omega (arith, lt)) before x.p x.q x.on x.free x.after (subst (λ m. Precedes (Frac x.p x.q) (cut m)) (sym (next j)) x.before)))
          | inr ends ↦
              let z = inside_behind (suc j) t.to lt t.to_place t.behind t.not_ended in
              let x = z.point in
              absurd (ends.2 x.p x.q x.on x.free x.after x.before (holds_in (suc j) lt here x.p x.q x.on x.free x.after z.before_other))
        ]
    still k false false lt before here t =
        elim t.turns [
          | inl begins ↦
              let z = inside_behind k t.to lt t.to_place t.behind t.not_ended in
              let x = z.point in
              absurd (nowhere_in k lt here x.p x.q x.on x.free x.after z.before_other (begins.1 x.p x.q x.on x.free x.after x.before))
          | inr ends ↦ absurd (no_end k lt before t ends.0 ends.1)
        ]

    pub changes_from : (k : ℕ) → k < count → TurnsAt regions ray region.body (cut k) → changes_at k (get_or (claims_on regions ray) n no_claims) ≡ true
    changes_from k lt t = still k (has_before claims k) (claims k) lt refl refl t

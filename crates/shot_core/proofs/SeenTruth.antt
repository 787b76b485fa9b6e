-- What a ray shows first begins where first a region without air holds.
use Rattle.std.proofs.Common.{◌≡◌, ◌<◌, ℕ, ℤ, List, [], ◌∷◌, length, slice_get, find, Bool, true, false, not, Option, Some, None, AllPairs, ap, sym, subst, ◌∙◌, refl, inl, inr, arith}
use Rattle.std.proofs.lemmas.Bool.{cases_Bool, cond-true, cond-false, true≢false}
use Rattle.std.proofs.lemmas.Option.{slice_get_within}
use Rattle.lattice_core.specs.declared.ray.Ray.{Ray}
use Rattle.lattice_core.specs.Rays.{IsOnRay}
use Rattle.surd_order.specs.declared.position.Pos.{Pos}
use Rattle.surd_order.specs.declared.position.Pos.TheVariants.{Frac}
use Rattle.surd_order.specs.Order.{Precedes, IsPlace}
use Rattle.surd_order.proofs.LawProofs.{is_kept_by_same_place}
use Rattle.surd_order.proofs.OrderLaws.{asymmetric, transitive}
use Rattle.bool_weave.proofs.Sorted.{Has}
use Rattle.overlap_list.proofs.Parts.{winner_is}
use Rattle.overlap_list.specs.Winners.{winner_of}
use Rattle.shot_core.specs.declared.shot.Lit.{Lit}
use Rattle.shot_core.specs.FirstShots.{is_solid, first_of, first_seen}
use Rattle.shot_core.specs.Points.{IsRayHitPlace, Stretch, stretch_of, stretches_of, HasPosition, HasRegionAt}
use Rattle.shot_core.specs.Regions.{Region, HaveInstances, has_air}
use Rattle.shot_core.specs.SeenPoints.{SomeSolidHolds, IsSeenFirst, SeenTellsPoints}
use Rattle.shot_core.specs.Shots.{claims_on, lit_of}
use Rattle.shot_core.specs.Steps.{no_region}
use Rattle.shot_core.proofs.Claiming.{claims_length, no_claims}
use Rattle.shot_core.proofs.OneList.{AreGood, start_place, end_place, good_one}
use Rattle.shot_core.proofs.Pointing.{any_from, any_to, has_mapped, located, region_of, some_winner, winner_lies}
use Rattle.shot_core.proofs.PointTruth.{good_of, true_of_points}
use Rattle.shot_core.specs.Shots.{woven_of}

solid_is : (b : Bool) → not b ≡ true → b ≡ false
solid_is true e = absurd (true≢false (sym e))
solid_is false e = refl

-- where a region without air holds, one of the partitions there is of such a region
record IsCovered (regions : List Region) (ray : Ray) (x : Pos) : Type 0 where
  lit : Lit
  there : Has (lit_of regions ray) lit
  solid : is_solid (slice_get regions lit.region) ≡ true
  has : HasPosition (stretch_of lit) x

covered : (regions : List Region) (ray : Ray) (rising : AllPairs (λ (r s : Region). r.place < s.place) regions) (below : HaveInstances regions) (p q : ℤ) (on : IsOnRay p q) → ¬ (IsRayHitPlace regions ray (Frac p q))
    → SomeSolidHolds regions ray p q → IsCovered regions ray (Frac p q)
covered regions ray rising below p q on no_hit h =
    let mine = region_of regions ray below p q on no_hit h.number h.region h.there in
    let lt : h.number < length (claims_on regions ray) = omega (arith, slice_get_within regions h.number h.region h.there, claims_length (woven_of regions ray) 0 regions) in
    let claims = (mine.claims no_claims).1 h.holds in
    let w = some_winner regions ray below p q on no_hit (λ i j lt within. rising i j no_region lt within) h.number (winner_of (claims_on regions ray) (located regions ray below p q on no_hit).k) refl lt claims in
    let win = winner_is (claims_on regions ray) (located regions ray below p q on no_hit).k w.0 w.1 in
    let lies = winner_lies regions ray below p q on no_hit w.0 win (λ i j lt within. rising i j no_region lt within) in
    let other = region_of regions ray below p q on no_hit w.0 lies.region lies.there in
    let no_air : has_air lies.region.body ≡ false = sym (other.air no_claims) ∙ win.no_air h.number no_claims lt claims (mine.air no_claims ∙ h.solid) in
    let told : HasRegionAt (stretches_of (lit_of regions ray)) w.0 (Frac p q) = ((true_of_points regions ray rising below).tells p q w.0 on no_hit).1 lies in
    let s = any_to (λ (s : Stretch). (s.region ≡ w.0) × HasPosition s (Frac p q)) (stretches_of (lit_of regions ray)) told in
    let l = has_mapped stretch_of (lit_of regions ray) s.0 s.1 in
    let region : l.0.region ≡ w.0 = ap (λ (t : Stretch). t.region) l.2 ∙ s.2.0 in
    record {
      lit = l.0;
      there = l.1;
      solid = ap (λ (n : ℕ). is_solid (slice_get regions n)) region ∙ ap is_solid lies.there ∙ ap not no_air;
      has = subst (λ (t : Stretch). HasPosition t (Frac p q)) (sym l.2) s.2.1;
    }

-- the first partition that passes a test, in a list in order
none_passes : (test : Lit → Bool) (ls : List Lit) → find test ls ≡ None → (l : Lit) → Has ls l → test l ≡ true → ⊥
none_passes test [] e l has passes = absurd has
none_passes test (m ∷ ls) e l has passes = elim (cases_Bool (test m)) [
  | inl passed ↦ absurd (let f : Some m ≡ None = sym (cond-true (test m) (Some m) (find test ls) passed) ∙ e in cc)
  | inr failed ↦ elim has [
    | inl same ↦ true≢false (sym passes ∙ ap test (sym same) ∙ failed)
    | inr more ↦ none_passes test ls (sym (cond-false (test m) (Some m) (find test ls) failed) ∙ e) l more passes
  ]
]

pub record IsFoundFirst (test : Lit → Bool) (ls : List Lit) (lit : Lit) : Type 0 where
  pub there : Has ls lit
  pub passes : test lit ≡ true
  pub first : (x : Pos) → IsPlace x → Precedes x lit.start → (l : Lit) → Has ls l → test l ≡ true → ¬ (HasPosition (stretch_of l) x)

some_lit : (l m : Lit) → Some l ≡ Some m → l ≡ m
some_lit l m e = cc

-- the stretch of a partition is among those of the list
mapped : (ls : List Lit) (l : Lit) → Has ls l → Has (stretches_of ls) (stretch_of l)
mapped [] l has = absurd has
mapped (m ∷ ls) l has = elim has [ inl e ↦ inl (ap stretch_of e) | inr more ↦ inr (mapped ls l more) ]

found_first : (test : Lit → Bool) (ls : List Lit) (lit : Lit) → AreGood (stretches_of ls) → find test ls ≡ Some lit → IsFoundFirst test ls lit
found_first test [] lit good e = absurd (let f : None ≡ Some lit = e in cc)
found_first test (m ∷ ls) lit good e = elim (cases_Bool (test m)) [
  | inl passed ↦
      let same : m ≡ lit = some_lit m lit (sym (cond-true (test m) (Some m) (find test ls) passed) ∙ e) in
      subst (IsFoundFirst test (m ∷ ls)) same (record {
        there = inl refl;
        passes = passed;
        first = λ x place before l has passes position. elim has [
          | inl e' ↦ position.begun (subst (λ (k : Lit). Precedes x k.start) e' before)
          | inr more ↦
              let h = good.0 in
              let g = good_one (stretches_of ls) (stretch_of l) good.2 (mapped ls l more) in
              let early : Precedes x m.end = transitive x m.start m.end (start_place (stretch_of m) h) (end_place (stretch_of m) h) before h.forward in
              position.begun (elim (good.1 (stretch_of l) (mapped ls l more)) [
                | inl gap ↦ transitive x m.end l.start (end_place (stretch_of m) h) (start_place (stretch_of l) g) early gap
                | inr touch ↦ is_kept_by_same_place.after x m.end l.start early touch.0
              ])
        ];
      })
  | inr failed ↦
      let f = found_first test ls lit good.2 (sym (cond-false (test m) (Some m) (find test ls) failed) ∙ e) in
      record {
        there = inr f.there;
        passes = f.passes;
        first = λ x place before l has passes position. elim has [
          | inl e' ↦ true≢false (sym passes ∙ ap test (sym e') ∙ failed)
          | inr more ↦ f.first x place before l more passes position
        ];
      }
]

record IsSolidRegion (o : Option Region) : Type 0 where
  region : Region
  is : o ≡ Some region
  solid : has_air region.body ≡ false

solid_region : (o : Option Region) → is_solid o ≡ true → IsSolidRegion o
solid_region None e = absurd (true≢false (sym e))
solid_region (Some r) e = record { region = r; is = refl; solid = solid_is (has_air r.body) e }

abbrev passes_solid : List Region → Lit → Bool
passes_solid regions l = is_solid (slice_get regions l.region)

seen_by : (regions : List Region) (ray : Ray) → AllPairs (λ (r s : Region). r.place < s.place) regions → HaveInstances regions → (o : Option Lit) → first_of regions (lit_of regions ray) ≡ o → IsSeenFirst regions ray o
seen_by regions ray rising below None e = λ p q on no_hit solid.
    let c = covered regions ray rising below p q on no_hit solid in
    none_passes (passes_solid regions) (lit_of regions ray) e c.lit c.there c.solid
seen_by regions ray rising below (Some lit) e =
    let truth = true_of_points regions ray rising below in
    let good = good_of (stretches_of (lit_of regions ray)) truth.ordered.each truth.ordered.apart in
    let f = found_first (passes_solid regions) (lit_of regions ray) lit good e in
    let s = good_one (stretches_of (lit_of regions ray)) (stretch_of lit) good (mapped (lit_of regions ray) lit f.there) in
    let r = solid_region (slice_get regions lit.region) f.passes in
    record {
      region = r.region;
      there = r.is;
      solid = r.solid;
      forward = s.forward;
      begun = s.begun;
      not_ended = s.not_ended;
      before = λ p q on no_hit early solid. let c = covered regions ray rising below p q on no_hit solid in f.first (Frac p q) on.positive early c.lit c.there c.solid c.has;
      behind = λ p q on no_hit after before.
          (truth.tells p q lit.region on no_hit).0
          (any_from (λ (t : Stretch). (t.region ≡ lit.region) × HasPosition t (Frac p q)) (stretches_of (lit_of regions ray)) (stretch_of lit) (mapped (lit_of regions ray) lit f.there) (
            refl,
            record { begun = asymmetric lit.start (Frac p q) (start_place (stretch_of lit) s) on.positive after; not_ended = asymmetric (Frac p q) lit.end on.positive (end_place (stretch_of lit) s) before },
          ));
    }

pub seen_tells_points : SeenTellsPoints
seen_tells_points regions ray rising below = seen_by regions ray rising below (first_seen regions ray) refl

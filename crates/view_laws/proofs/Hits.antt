-- What is hit where a part of a ray starts, by the regions and without their numbers.
use Rattle.std.proofs.Common.{◌≡◌, ◌<◌, ◌+◌, ℕ, List, [], ◌∷◌, ◌++◌, length, get_or, slice_get, map, flat_map, Bool, true, false, not, ◌&&◌, ◌==◌, filter, cond, Some, ap, sym, subst, ◌∙◌, refl, inl, inr, arith}
use Rattle.std.specs.Ordering.{is_lt, is_eq}
use Rattle.std.specs.declared.cmp.Ordering.{Ordering}
use Rattle.std.specs.declared.cmp.Ordering.TheVariants.{Less, Equal, Greater}
use Rattle.std.proofs.lemmas.Bool.{cond-true, true≢false}
use Rattle.lattice_core.specs.declared.ray.Ray.{Ray}
use Rattle.surd_order.specs.declared.position.Pos.{Pos}
use Rattle.surd_order.specs.PlaceOrder.{place_cmp}
use Rattle.bool_weave.specs.declared.woven.Woven.{Woven}
use Rattle.bool_weave.specs.Claims.{intervals_of, is_before}
use Rattle.bool_weave.specs.Behind.{covers_behind, covers_before, spans_behind, spans_before, claims_before}
use Rattle.bool_weave.proofs.Behind as beside
use Rattle.bool_weave.proofs.Cutting.{turned}
use Rattle.bool_weave.proofs.Sorted.{Has, has_at}
use Rattle.overlap_list.specs.declared.hit.Hit.{Hit}
use Rattle.overlap_list.specs.declared.partition.Partition.{Partition}
use Rattle.overlap_list.specs.declared.region.RegionClaims.{RegionClaims}
use Rattle.overlap_list.specs.Firsts.{TreeRegion, claims_by, changes_over, hit_by}
use Rattle.overlap_list.specs.Hits.{is_at, has_end_at, differ, changes_at, cut_at, hit_of}
use Rattle.overlap_list.specs.Laws.{IsWonRun}
use Rattle.overlap_list.specs.Partitions.{won_runs, or_no_hit, partition_of}
use Rattle.overlap_list.specs.Runs.{IntervalRun}
use Rattle.overlap_list.specs.Winners.{claims_at}
use Rattle.overlap_list.proofs.Firsts as firsts
use Rattle.overlap_list.proofs.Hitting.{some_change}
use Rattle.overlap_list.proofs.Overlapping.{first_of}
use Rattle.overlap_list.proofs.Parts.{won_run}
use Rattle.shot_core.specs.declared.shot.Lit.{Lit}
use Rattle.shot_core.specs.FirstShots.{tree_region, trees_of}
use Rattle.shot_core.specs.Regions.{RegionBody, Region, HaveInstances, firsts_from, instances_of}
use Rattle.shot_core.specs.Shots.{woven_from, woven_of, claims_on, level_on, level_of_hit, lit_by, lit_of}
use Rattle.shot_core.specs.Steps.{no_region}
use Rattle.shot_core.proofs.Claiming.{claims_length, claims_number}
use Rattle.shot_core.proofs.FirstHits.{Ending, ends_among, hits_of, hits_among, face_of, ending_of, ends_are, hit_is}
use Rattle.shot_core.proofs.FirstShots.{woven_spelled, claims_by_trees}
use Rattle.shot_core.proofs.OwnClaims.{before_on, behind_on, own_before, own_behind, changes_on, change_is}
use Rattle.shot_core.proofs.Pointing.{has_mapped}
use Rattle.shot_core.proofs.Weaving.{or_false}

-- a segment without an end at a place covers what lies before the place where it covers what lies behind it
flips_by : (r : Ordering) (a x : Pos) → place_cmp a x ≡ r → is_at a x ≡ false → is_before a x ≡ not (is_before x a)
flips_by Less a x is off = ap is_lt is ∙ sym (ap (λ q. not (is_lt q)) (turned a x Less is))
flips_by Equal a x is off = absurd (true≢false (sym (ap is_eq is) ∙ off))
flips_by Greater a x is off = ap is_lt is ∙ sym (ap (λ q. not (is_lt q)) (turned a x Greater is))

not_twice : (b : Bool) → not (not b) ≡ b
not_twice true = refl
not_twice false = refl

covers_alike : (x : Pos) (w : Woven) → has_end_at x w ≡ false → covers_before x w.seg ≡ covers_behind x w.seg
covers_alike x w none =
    let off = or_false (is_at w.seg.start x) (is_at w.seg.end x) none in
    ap (λ b. b && not (is_before w.seg.end x)) (flips_by (place_cmp w.seg.start x) w.seg.start x refl off.0)
    ∙ ap (λ b. not (is_before x w.seg.start) && not b) (flips_by (place_cmp w.seg.end x) w.seg.end x refl off.1)
    ∙ ap (λ b. not (is_before x w.seg.start) && b) (not_twice (is_before x w.seg.end))

-- so without an end of an instance at a place the claim of a region does not change there
empty_of : {X Y : Type 0} (f : X → Y) (xs : List X) → map f xs ≡ [] → xs ≡ []
empty_of f [] e = refl
empty_of f (x ∷ xs) e = absurd cc

none_of_one : {X : Type 0} (b : Bool) (x : X) (xs : List X) → cond b (x ∷ xs) xs ≡ [] → (b ≡ false) × (xs ≡ [])
none_of_one true x xs e = absurd cc
none_of_one false x xs e = (refl, e)

none_passes : {X : Type 0} (p : X → Bool) (xs : List X) (x : X) → filter p xs ≡ [] → Has xs x → p x ≡ false
none_passes p [] x e there = absurd there
none_passes p (y ∷ ys) x e (inl is) = ap p (sym is) ∙ (none_of_one (p y) y (filter p ys) e).0
none_passes p (y ∷ ys) x e (inr there) = none_passes p ys x (none_of_one (p y) y (filter p ys) e).1 there

claims_alike : (ray : Ray) (x : Pos) (body : RegionBody) → ends_among ray x body.instances ≡ [] → before_on ray x body ≡ behind_on ray x body
claims_alike ray x body e =
    let own = woven_from ray 0 body.instances in
    let none : filter (has_end_at x) (woven_from ray 0 body.instances) ≡ [] =
    empty_of (ending_of body.instances) (filter (has_end_at x) (woven_from ray 0 body.instances))
    (ends_are body.instances x ray 0 body.instances (λ k lt. let e : 0 + k ≡ k = omega arith in ap (slice_get body.instances) e) ∙ e) in
    sym (own_before ray 0 x body)
    ∙ beside.mask_alike body.tree (λ i. spans_before own x (0 + i)) (λ i. spans_behind own x (0 + i))
    (λ i. beside.any_same (λ (w : Woven). (w.instance == (0 + i)) && covers_before x w.seg) (λ w. (w.instance == (0 + i)) && covers_behind x w.seg) own
    (λ w there. ap (λ b. (w.instance == (0 + i)) && b) (covers_alike x w (none_passes (has_end_at x) own w none there))))
    ∙ own_behind ray 0 x body

abbrev HasFirst : {Y : Type 0} → List Y → Type 0
HasFirst {Y} ys = (e : Y) × (first_of ys ≡ Some e)

differ_not : (b : Bool) → differ b b ≡ false
differ_not true = refl
differ_not false = refl

first_end : (ray : Ray) (x : Pos) (r : Region) (ends : List Ending) → ends_among ray x r.body.instances ≡ ends → changes_on ray x r ≡ true → HasFirst (hits_of ray x r)
first_end ray x r [] e change =
    absurd (true≢false (sym change ∙ ap (λ b. differ b (behind_on ray x r.body)) (claims_alike ray x r.body e) ∙ differ_not (behind_on ray x r.body)))
first_end ray x r (z ∷ zs) e change = (z, ap first_of (cond-true (changes_on ray x r) (ends_among ray x r.body.instances) [] change ∙ e))

first_left : {Y : Type 0} (xs ys : List Y) → HasFirst xs → HasFirst (xs ++ ys)
first_left [] ys h = absurd (let wrong = h.1 in cc)
first_left (x ∷ xs) ys h = (x, refl)

first_right : {Y : Type 0} (xs ys : List Y) → HasFirst ys → HasFirst (xs ++ ys)
first_right [] ys h = h
first_right (x ∷ xs) ys h = (x, refl)

first_flat : {X Y : Type 0} (f : X → List Y) (xs : List X) (x : X) → Has xs x → HasFirst (f x) → HasFirst (flat_map f xs)
first_flat f [] x there h = absurd there
first_flat f (y ∷ ys) x (inl e) h = first_left (f y) (flat_map f ys) (subst (λ z. HasFirst (f z)) (sym e) h)
first_flat f (y ∷ ys) x (inr there) h = first_right (f y) (flat_map f ys) (first_flat f ys x there h)

-- the first of what is hit where a partition starts, with the instance that the partition hits, and its face and level
pub record IsFirstHit (regions : List Region) (ray : Ray) (l : Lit) : Type 0 where
  pub first : Ending
  pub there : first_of (hits_among ray l.start regions) ≡ Some first
  pub instance : slice_get (instances_of regions) l.hit.instance ≡ first.0
  pub face : l.hit.face ≡ face_of l.start first
  pub level : l.level ≡ level_on first.0 (face_of l.start first) ray

module _ (regions : List Region) (ray : Ray) (below : HaveInstances regions) where
  abbrev woven : List Woven
  woven = woven_of regions ray

  abbrev trees : List TreeRegion
  trees = trees_of regions

  abbrev all : List RegionClaims
  all = claims_on regions ray

  abbrev count : ℕ
  count = length (intervals_of woven)

  change_there : (t : TreeRegion) (k : ℕ) → k < count → changes_at k (claims_by woven t) ≡ changes_over woven (cut_at woven k) t
  change_there t k lt =
      ap (λ b. differ b (claims_at (claims_by woven t) k)) (firsts.claim_before woven [] (woven_spelled regions ray) t k lt)
      ∙ ap (differ (claims_before woven t.tree t.first (cut_at woven k))) (firsts.claim_behind woven [] (woven_spelled regions ray) t k lt)

  -- the hit of a run, by the trees of regions
  hit_there : (k : ℕ) → k < count → or_no_hit (hit_of woven all k) ≡ hit_by woven trees (cut_at woven k)
  hit_there k lt = ap (λ l. or_no_hit (hit_of woven l k)) (claims_by_trees woven 0 regions) ∙ firsts.hit_is woven trees (woven_spelled regions ray) k lt

  abbrev tree_no : ℕ → TreeRegion
  tree_no n = tree_region (get_or (firsts_from 0 regions) n 0) (get_or regions n no_region).body

  -- a region's claim changes at a cut just where it does by its number
  pub change_no : (n k : ℕ) (d : RegionClaims) → n < length regions → k < count → changes_at k (get_or all n d) ≡ changes_on ray (cut_at woven k) (get_or regions n no_region)
  change_no n k d within lt = ap (changes_at k) (claims_number woven 0 regions n d within) ∙ change_there (tree_no n) k lt ∙ change_is regions ray below (cut_at woven k) n within

  -- something is hit where a run begins that one region wins
  some_hit : (run : IntervalRun) → IsWonRun all run → run.from < count → HasFirst (hits_among ray (cut_at woven run.from) regions)
  some_hit run won lt =
      let a = some_change all run won in
      let within : a.0 < length regions = omega (arith, a.2, claims_length woven 0 regions) in
      let change : changes_on ray (cut_at woven run.from) (get_or regions a.0 no_region) ≡ true = sym (change_no a.0 run.from a.1 within lt) ∙ ap (changes_at run.from) a.3 ∙ a.4 in
      let r = get_or regions a.0 no_region in
      first_flat (hits_of ray (cut_at woven run.from)) regions (get_or regions a.0 no_region) (has_at regions (get_or regions a.0 no_region) no_region a.0 within refl)
      (first_end ray (cut_at woven run.from) (get_or regions a.0 no_region) (ends_among ray (cut_at woven run.from) r.body.instances) refl change)

  of_run : (run : IntervalRun) → IsWonRun all run → run.from < count → IsFirstHit regions ray (lit_by regions ray (partition_of woven all run))
  of_run run won lt =
      let hit = some_hit run won lt in
      let got = hit_is regions ray (cut_at woven run.from) below hit.0 hit.1 in
      record {
        first = hit.0;
        there = hit.1;
        instance = ap (λ (h : Hit). slice_get (instances_of regions) h.instance) (hit_there run.from lt) ∙ got.2;
        face = ap (λ (h : Hit). h.face) (hit_there run.from lt) ∙ got.0;
        level = ap (level_of_hit regions ray) (hit_there run.from lt) ∙ got.1;
      }

  -- each partition has the face and the level of the first of what is hit at its start
  pub first_hit : (l : Lit) → Has (lit_of regions ray) l → IsFirstHit regions ray l
  first_hit l has =
      let p = has_mapped (lit_by regions ray) (map (partition_of woven all) (won_runs all count)) l has in
      let run = has_mapped (partition_of woven all) (won_runs all count) p.0 p.1 in
      let w = won_run all count run.0 run.1 in
      subst (IsFirstHit regions ray) (ap (lit_by regions ray) run.2 ∙ p.2) (of_run run.0 w.0 (omega (arith, w.0.some, w.1)))

  -- a partition starts at a cut
  pub start_cut : (l : Lit) → Has (lit_of regions ray) l → (k : ℕ) × (k < count) × (cut_at woven k ≡ l.start)
  start_cut l has =
      let p = has_mapped (lit_by regions ray) (map (partition_of woven all) (won_runs all count)) l has in
      let run = has_mapped (partition_of woven all) (won_runs all count) p.0 p.1 in
      let w = won_run all count run.0 run.1 in
      (run.0.from, omega (arith, w.0.some, w.1), ap (λ (r : Partition). r.start) run.2 ∙ ap (λ (m : Lit). m.start) p.2)

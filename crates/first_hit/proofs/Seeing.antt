-- What is seen first is where the front is, with the lowest hit of all parts.
use Rattle.std.proofs.Common.{◌≡◌, ◌<◌, ◌≤◌, ◌+◌, ◌⊎◌, ℕ, zero, suc, List, [], ◌∷◌, length, get_or, slice_get, filter, Bool, true, false, not, cond, ◌&&◌, ◌||◌, Option, Some, None, All, Any, ap, sym, ◌∙◌, subst, refl, inl, inr, arith}
use Rattle.std.specs.List.{list_any, position, position_from}
use Rattle.std.specs.Option.{option_map}
use Rattle.std.proofs.lemmas.Bool.{cases_Bool, and_parts, and_from, cond-true, cond-false, true≢false, false_from_ne_true}
use Rattle.std.proofs.lemmas.Iterator.Adapters.{position_from-zero}
use Rattle.std.proofs.lemmas.List.{get_or_default}
use Rattle.std.proofs.lemmas.Option.{slice_get_within}
use Rattle.lattice_core.specs.declared.ray.Ray.{Ray}
use Rattle.surd_order.specs.declared.position.Pos.{Pos}
use Rattle.surd_order.specs.declared.position.Seg.{Seg}
use Rattle.solid_set.specs.Segments.{segment_of}
use Rattle.solid_set.specs.Levels.{IsEndFace}
use Rattle.bool_weave.specs.declared.woven.Woven.{Woven}
use Rattle.bool_weave.specs.Cuts.{places_of}
use Rattle.bool_weave.specs.Behind.{claims_behind, claims_before, HasSpelledEnds}
use Rattle.bool_weave.specs.Claims.{is_before}
use Rattle.bool_weave.proofs.Behind.{never_itself}
use Rattle.bool_weave.proofs.Flanks.{nothing_before}
use Rattle.bool_weave.proofs.Cutting.{equal_from, tied_same, start_is_place, end_is_place}
use Rattle.bool_weave.proofs.Sorted.{Has, has_from_contains, contains_from_has}
use Rattle.overlap_list.specs.declared.hit.Hit.{Hit}
use Rattle.overlap_list.specs.Firsts.{TreeRegion, is_solid_behind, changes_over, is_hit_at, hit_by, start_by, some_solid_behind, IsFirstPlace}
use Rattle.overlap_list.specs.Hits.{differ, is_at, has_end_at, lowest, hit_on}
use Rattle.overlap_list.specs.Partitions.{or_no_hit}
use Rattle.shot_core.specs.declared.first.Seen.{Seen}
use Rattle.first_hit.specs.declared.front.Front.{Front}
use Rattle.first_hit.specs.declared.front.Part.{Part}
use Rattle.shot_core.specs.Regions.{Instance, Region, HaveInstances, HavePlacedSolids, has_air, instances_of, firsts_from}
use Rattle.shot_core.specs.Shots.{woven_of, level_of_hit}
use Rattle.shot_core.specs.Steps.{no_region, IsHitOn}
use Rattle.shot_core.specs.FirstShots.{first_seen, seen_of, tree_region, trees_from, trees_of, seen_by, IsOrderOf}
use Rattle.first_hit.specs.FirstSteps.{first_no, body_no, own_no, box_no, solid_no, IsFront, IsFrontAt, IsPassed, IsPartOf, IsThrough, TurnsInFront, changes_beside, own_hit, part_hit, lowest_hit}
use Rattle.shot_core.proofs.FirstShots.{woven_spelled, own_segments_tell, seen_at_first_place, nothing_seen_else}
use Rattle.first_hit.proofs.LowestHits.{is_lowest, none_lowest, of_region, of_all, only_its_own, IsAtMost, all_take, all_are, own_hit_is, own_hit_most}
use Rattle.first_hit.proofs.Passing.{unchanged}
use Rattle.shot_core.proofs.Weaving.{woven_rises, has_woven}

-- whether some element passes, and the first that does, by their places
any_at : {X : Type 0} (f : X → Bool) (xs : List X) (k : ℕ) (d : X) → k < length xs → f (get_or xs k d) ≡ true → list_any f xs ≡ true
any_at f [] k d lt is = absurd (omega (arith, lt))
any_at f (x ∷ xs) zero d lt is = ap (λ b. b || list_any f xs) is
any_at f (x ∷ xs) (suc k) d lt is = elim (cases_Bool (f x)) [
  | inl yes_ ↦ ap (λ b. b || list_any f xs) yes_
  | inr no_ ↦ ap (λ b. b || list_any f xs) no_ ∙ any_at f xs k d (omega (arith, lt)) is
]

none_at : {X : Type 0} (f : X → Bool) (xs : List X) (d : X) → ((k : ℕ) → k < length xs → f (get_or xs k d) ≡ false) → list_any f xs ≡ false
none_at f [] d h = refl
none_at f (x ∷ xs) d h = ap (λ b. b || list_any f xs) (h zero (omega arith)) ∙ none_at f xs d (λ k lt. h (suc k) (omega (arith, lt)))

first_at : {X : Type 0} (f : X → Bool) (n : ℕ) (xs : List X) (k : ℕ) (d : X) → k < length xs → f (get_or xs k d) ≡ true → ((j : ℕ) → j < k → f (get_or xs j d) ≡ false) → position_from f n xs ≡ Some (n + k)
first_at f n [] k d lt is early = absurd (omega (arith, lt))
first_at f n (x ∷ xs) zero d lt is early = let e : n ≡ n + 0 = omega arith in cond-true (f x) (Some n) (position_from f (n + 1) xs) is ∙ ap (λ m. Some m) e
first_at f n (x ∷ xs) (suc k) d lt is early =
    let e : n + 1 + k ≡ n + suc k = omega arith in
    cond-false (f x) (Some n) (position_from f (n + 1) xs) (early zero (omega arith)) ∙ first_at f (n + 1) xs k d (omega (arith, lt)) is (λ j less. early (suc j) (omega (arith, less))) ∙ ap (λ m. Some m) e

trees_length : (first : ℕ) (rs : List Region) → length (trees_from first rs) ≡ length rs
trees_length first [] = refl
trees_length first (r ∷ rs) = ap (λ k. suc k) (trees_length (first + length r.body.instances) rs)

trees_at : (first : ℕ) (rs : List Region) (n : ℕ) (d : TreeRegion) → n < length rs → get_or (trees_from first rs) n d ≡ tree_region (get_or (firsts_from first rs) n 0) (get_or rs n no_region).body
trees_at first [] n d lt = absurd (omega (arith, lt))
trees_at first (r ∷ rs) zero d lt = refl
trees_at first (r ∷ rs) (suc n) d lt = trees_at (first + length r.body.instances) rs n d (omega (arith, lt))

no_woven : (v : Woven) → ◌≡◌ {A = Option Woven} None (Some v) → ⊥
no_woven v e = cc e

same_woven : (w v : Woven) → ◌≡◌ {A = Option Woven} (Some w) (Some v) → w ≡ v
same_woven w v e = cc e

same_instance : (w v : Instance) → ◌≡◌ {A = Option Instance} (Some w) (Some v) → w ≡ v
same_instance w v e = cc e

no_tree : TreeRegion
no_tree = tree_region 0 no_region.body

module _ (regions : List Region) (ray : Ray) (below : HaveInstances regions) where
  -- a region without air claims behind a place what it does by its own segments
  solid_at : (x : Pos) (n : ℕ) → n < length regions → is_solid_behind (woven_of regions ray) x (get_or (trees_of regions) n no_tree) ≡ solid_no regions ray n x
  solid_at x n lt =
      ap (is_solid_behind (woven_of regions ray) x) (trees_at 0 regions n no_tree lt)
      ∙ ap (λ b. not (has_air (body_no regions n)) && b) (sym (own_segments_tell regions ray n no_region x below lt).behind)

  none_solid : (x : Pos) → ((n : ℕ) → n < length regions → solid_no regions ray n x ≡ false) → some_solid_behind (woven_of regions ray) (trees_of regions) x ≡ false
  none_solid x h =
      none_at (is_solid_behind (woven_of regions ray) x) (trees_of regions) no_tree (λ n lt.
      let within : n < length regions = omega (arith, lt, trees_length 0 regions) in solid_at x n within ∙ h n within)

  -- each region is one of an order
  module _ (order : List ℕ) (all : IsOrderOf (length regions) order) where
    in_order : (P : ℕ → Type 0) → ((k : ℕ) → k < length order → P (get_or order k 0)) → (n : ℕ) → n < length regions → P n
    in_order P h n lt = let c = all.all n lt in subst P (get_or_default order c.0 0 n c.1 ∙ c.2) (h c.0 c.1)

    pub nothing_seen : IsFront regions ray order (length order) None → None ≡ option_map seen_of (first_seen regions ray)
    nothing_seen f = sym (ap (option_map seen_of) (nothing_seen_else regions ray (λ x. none_solid x (in_order (λ n. solid_no regions ray n x ≡ false) (λ k lt. f k x lt)))))

    module _ (front : Front) (f : IsFrontAt regions ray order (length order) front) where
      within_trees : front.region < length (trees_of regions)
      within_trees = omega (arith, f.there, trees_length 0 regions)

      solid_there : is_solid_behind (woven_of regions ray) front.start (get_or (trees_of regions) front.region no_tree) ≡ true
      solid_there = solid_at front.start front.region f.there ∙ f.solid

      first_place : IsFirstPlace (woven_of regions ray) (trees_of regions) front.start
      first_place = record {
        spelled = f.spelled;
        solid = any_at (is_solid_behind (woven_of regions ray) front.start) (trees_of regions) front.region no_tree within_trees solid_there;
        first = λ y before. none_solid y (in_order (λ n. solid_no regions ray n y ≡ false) (λ k lt. f.early k y lt before));
      }

      -- nothing lies before the front that the region in front claims, so its claim changes there
      pub front_turns : changes_beside (own_no regions ray front.region) (body_no regions front.region).tree (first_no regions front.region) front.start ≡ true
      front_turns =
          let own = own_no regions ray front.region in
          let tree = (body_no regions front.region).tree in
          let first = first_no regions front.region in
          let solid = and_parts (not (has_air (body_no regions front.region))) (claims_behind own tree first front.start) f.solid in
          let quiet : (y : Pos) → is_before y front.start ≡ true → claims_behind own tree first y ≡ false =
          λ y before. sym (ap (λ b. b && claims_behind own tree first y) solid.0)
          ∙ in_order (λ n. solid_no regions ray n y ≡ false) (λ k lt. f.early k y lt before) front.region f.there in
          ap (λ b. differ b (claims_behind own tree first front.start)) (nothing_before own tree first front.start quiet) ∙ ap (differ false) solid.1

      pub part_turns : (segments : List Woven) (p : Part) → IsPartOf regions ray segments p → TurnsInFront regions segments front p
      part_turns segments p i here =
          ap (λ ws. changes_beside ws (body_no regions p.region).tree (first_no regions p.region) front.start) i.own
          ∙ ap (λ n. changes_beside (own_no regions ray n) (body_no regions n).tree (first_no regions n) front.start) here
          ∙ front_turns

      position_is : position (is_solid_behind (woven_of regions ray) front.start) (trees_of regions) ≡ Some front.region
      position_is =
          let e : 0 + front.region ≡ front.region = omega arith in
          position_from-zero (is_solid_behind (woven_of regions ray) front.start) (trees_of regions)
          ∙ first_at (is_solid_behind (woven_of regions ray) front.start) 0 (trees_of regions) front.region no_tree within_trees solid_there
          (λ j less. solid_at front.start j (omega (arith, less, f.there)) ∙ in_order (λ n. n < front.region → solid_no regions ray n front.start ≡ false) (λ k lt low. f.lowest k lt low) j (omega (arith, less, f.there)) less)
          ∙ ap (λ m. Some m) e

      seen_is : option_map seen_of (first_seen regions ray) ≡ Some (seen_by regions ray (start_by (woven_of regions ray) (trees_of regions) front.start front.region))
      seen_is =
          seen_at_first_place regions ray front.start first_place
          ∙ ap (λ o. option_map (seen_by regions ray) (option_map (start_by (woven_of regions ray) (trees_of regions) front.start) o)) position_is

      -- a hit of a region by its own segments is one among all
      own_is_hit : (n : ℕ) (w : Woven) → n < length regions → Has (own_no regions ray n) w
          → is_hit_at (woven_of regions ray) (trees_of regions) front.start w ≡ (has_end_at front.start w && changes_beside (own_no regions ray n) (body_no regions n).tree (first_no regions n) front.start)
      own_is_hit n w lt h =
          let i = has_woven ray (first_no regions n) (body_no regions n).instances w h in
          let tell = own_segments_tell regions ray n no_region front.start below lt in
          let low : first_no regions n ≤ w.instance = omega (arith, i.number) in
          let high : w.instance < first_no regions n + length (body_no regions n).instances = omega (arith, i.number, slice_get_within (body_no regions n).instances i.place i.one i.there) in
          ap (λ b. has_end_at front.start w && b)
          (only_its_own (changes_over (woven_of regions ray) front.start) w.instance 0 regions n lt low high
          ∙ sym (ap (λ b. differ b (claims_behind (own_no regions ray n) (body_no regions n).tree (first_no regions n) front.start)) tell.before
          ∙ ap (λ b. differ (claims_before (woven_of regions ray) (body_no regions n).tree (first_no regions n) front.start) b) tell.behind))

      -- an end of a segment at the front is a place of the ray
      end_place : (w : Woven) → Has (woven_of regions ray) w → has_end_at front.start w ≡ true → Has (places_of (woven_of regions ray)) front.start
      end_place w h end =
          let c = contains_from_has (woven_of regions ray) w h in
          let s : HasSpelledEnds w.seg = subst (λ (v : Woven). HasSpelledEnds v.seg) c.2 (woven_spelled regions ray c.0 w c.1) in
          elim (cases_Bool (is_at w.seg.start front.start)) [
            | inl at ↦ subst (Has (places_of (woven_of regions ray))) (tied_same w.seg.start front.start s.start f.spelled (equal_from _ at)) (inr (inr (start_is_place (woven_of regions ray) w h)))
            | inr not_at ↦
                let at : is_at w.seg.end front.start ≡ true = ap (λ b. b || is_at w.seg.end front.start) (sym not_at) ∙ end in
                subst (Has (places_of (woven_of regions ray))) (tied_same w.seg.end front.start s.end f.spelled (equal_from _ at)) (inr (inr (end_is_place (woven_of regions ray) w h)))
          ]

      module _ (placed : HavePlacedSolids regions) (segments : List Woven) (parts : List Part) (through : IsThrough regions ray order (length order) (Some front) parts) (own : All (IsPartOf regions ray segments) parts) where
        part_at : (p : Part) → Has parts p → IsPartOf regions ray segments p
        part_at p h = let c = contains_from_has parts p h in subst (IsPartOf regions ray segments) c.2 (own c.0 p c.1)

        part_hit_is : (p : Part) → Has parts p → part_hit regions segments front.start p ≡ own_hit (own_no regions ray p.region) (body_no regions p.region).tree (first_no regions p.region) front.start
        part_hit_is p h = ap (λ ws. own_hit ws (body_no regions p.region).tree (first_no regions p.region) front.start) (part_at p h).own

        -- each hit is at least what was found
        at_most : (v : Woven) → Has (woven_of regions ray) v → is_hit_at (woven_of regions ray) (trees_of regions) front.start v ≡ true → IsAtMost (lowest_hit regions segments front.start None parts) v.instance
        at_most v h is =
            let r = of_region ray 0 regions v h in
            let n = r.0 in
            let both = and_parts (has_end_at front.start v) (changes_beside (own_no regions ray n) (body_no regions n).tree (first_no regions n) front.start) (sym (own_is_hit n v r.1 r.2) ∙ is) in
            let found : Any (λ (p : Part). p.region ≡ n) parts ⊎ IsPassed (box_no regions n) ray (Some front) = in_order (λ m. Any (λ (p : Part). p.region ≡ m) parts ⊎ IsPassed (box_no regions m) ray (Some front)) through n r.1 in
            elim found [
              | inl a ↦
                  let there : Has parts a.1 = has_from_contains parts a.1 (a.0, a.2, a.3) in
                  let mine : IsAtMost (own_hit (own_no regions ray n) (body_no regions n).tree (first_no regions n) front.start) v.instance =
                  own_hit_most (own_no regions ray n) (body_no regions n).tree (first_no regions n) front.start v (woven_rises ray (first_no regions n) (body_no regions n).instances) (record { there = r.2; end = both.0; changes = both.1 }) in
                  all_take regions segments front.start None parts a.1 v.instance there
                  (subst (λ o. IsAtMost o v.instance) (sym (part_hit_is a.1 there ∙ ap (λ m. own_hit (own_no regions ray m) (body_no regions m).tree (first_no regions m) front.start) a.4)) mine)
              | inr passed ↦ absurd (true≢false (sym both.1 ∙ unchanged regions ray n below placed r.1 front f.spelled passed (never_itself front.start) (end_place v h both.0)))
            ]

        -- what was found is a hit
        record IsFoundHit (w : Woven) : Type 0 where
          there : Has (woven_of regions ray) w
          end : has_end_at front.start w ≡ true
          hit : is_hit_at (woven_of regions ray) (trees_of regions) front.start w ≡ true

        found_hit : (w : Woven) → lowest_hit regions segments front.start None parts ≡ Some w → IsFoundHit w
        found_hit w e =
            all_are regions segments front.start IsFoundHit None parts (λ v n. absurd (no_woven v n))
            (λ p h v g.
            let i = own_hit_is (own_no regions ray p.region) (body_no regions p.region).tree (first_no regions p.region) front.start v (sym (part_hit_is p h) ∙ g) in
            let lt = (part_at p h).there in
            record {
              there = of_all ray 0 regions p.region v lt i.there;
              end = i.end;
              hit = own_is_hit p.region v lt i.there ∙ and_from (has_end_at front.start v) (changes_beside (own_no regions ray p.region) (body_no regions p.region).tree (first_no regions p.region) front.start) i.end i.changes;
            }) w e

        lowest_go : (o : Option Woven) → lowest_hit regions segments front.start None parts ≡ o → lowest (filter (is_hit_at (woven_of regions ray) (trees_of regions) front.start) (woven_of regions ray)) ≡ o
        lowest_go None e =
            none_lowest (is_hit_at (woven_of regions ray) (trees_of regions) front.start) (woven_of regions ray)
            (λ v h. false_from_ne_true _ (λ is. let m = at_most v h is in no_woven m.one (sym e ∙ m.found)))
        lowest_go (Some w) e =
            let i = found_hit w e in
            is_lowest (is_hit_at (woven_of regions ray) (trees_of regions) front.start) (woven_of regions ray) w (woven_rises ray 0 (instances_of regions))
            (record { there = i.there; passes = i.hit; low = λ v h is. let m = at_most v h is in omega (arith, m.most, ap (λ (u : Woven). u.instance) (same_woven w m.one (sym e ∙ m.found))) })

        pub hit_is : or_no_hit (hit_on front.start (lowest_hit regions segments front.start None parts)) ≡ hit_by (woven_of regions ray) (trees_of regions) front.start
        hit_is = ap (λ o. or_no_hit (hit_on front.start o)) (sym (lowest_go (lowest_hit regions segments front.start None parts) refl))

        face_go : (o : Option Woven) → lowest_hit regions segments front.start None parts ≡ o → IsHitOn regions ray (or_no_hit (hit_on front.start o))
        face_go None e = λ i at. inl refl
        face_go (Some w) e = λ i at.
            let h = found_hit w e in
            let a = has_woven ray 0 (instances_of regions) w h.there in
            let number : w.instance ≡ a.place = omega (arith, a.number) in
            let same : i ≡ a.one = same_instance i a.one (sym at ∙ ap (slice_get (instances_of regions)) number ∙ a.there) in
            inr (subst (λ (s : Option Seg). IsEndFace (cond (is_at w.seg.start front.start) w.seg.start_face w.seg.end_face) s) (sym (ap (λ (x : Instance). segment_of x.surface ray) same ∙ a.segment))
            (elim (cases_Bool (is_at w.seg.start front.start)) [
              | inl is ↦ inl (cond-true (is_at w.seg.start front.start) w.seg.start_face w.seg.end_face is)
              | inr no_ ↦ inr (cond-false (is_at w.seg.start front.start) w.seg.start_face w.seg.end_face no_)
            ]))

        pub hit_is_on : IsHitOn regions ray (or_no_hit (hit_on front.start (lowest_hit regions segments front.start None parts)))
        hit_is_on = face_go (lowest_hit regions segments front.start None parts) refl

        -- what is seen
        pub seen_there : (hit : Hit) (level : ℕ) → hit ≡ or_no_hit (hit_on front.start (lowest_hit regions segments front.start None parts)) → level ≡ level_of_hit regions ray hit
            → Some (let s : Seen = record { region = front.region; start = front.start; hit = hit; level = level } in s) ≡ option_map seen_of (first_seen regions ray)
        seen_there hit level e l =
            let by_hit : ℕ → Hit → Option Seen = λ m h. Some (let s : Seen = record { region = front.region; start = front.start; hit = h; level = m } in s) in
            ap (λ m. by_hit m hit) l ∙ ap (λ h. by_hit (level_of_hit regions ray h) h) (e ∙ hit_is) ∙ sym seen_is

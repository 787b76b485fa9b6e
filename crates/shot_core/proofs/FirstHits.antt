-- What is hit where a region starts, by the instances of the regions and without their numbers.
use Rattle.std.proofs.Common.{◌≡◌, ◌<◌, ◌≤◌, ◌+◌, ℕ, zero, suc, List, [], ◌∷◌, ◌++◌, length, slice_get, map, filter, flat_map, Bool, true, false, cond, ◌&&◌, ◌||◌, nat_le, nat_lt, Option, Some, None, ap, ◌∙◌, refl, inl, inr, arith}
use Rattle.std.specs.List.{list_any}
use Rattle.std.proofs.lemmas.Bool.{cond-true, le-leb, lt-ltb, le-ltb, leb-true, false_from_ne_true}
use Rattle.std.proofs.lemmas.List.{length-append, map-append}
use Rattle.std.proofs.lemmas.List.Elements.{filter-append}
use Rattle.std.proofs.lemmas.Option.{slice_get_within}
use Rattle.lattice_core.specs.declared.ray.Ray.{Ray}
use Rattle.surd_order.specs.declared.position.Pos.{Pos}
use Rattle.surd_order.specs.declared.position.Seg.{Seg}
use Rattle.solid_set.specs.Segments.{segment_of}
use Rattle.bool_weave.specs.declared.woven.Woven.{Woven}
use Rattle.bool_weave.proofs.Sorted.{Has}
use Rattle.overlap_list.specs.declared.hit.Hit.{Hit}
use Rattle.overlap_list.specs.Hits.{is_at, has_end_at, lower, lowest, hit_on}
use Rattle.overlap_list.specs.Partitions.{or_no_hit}
use Rattle.overlap_list.specs.Firsts.{TreeRegion, changes_over, is_hit_at, hit_by}
use Rattle.overlap_list.proofs.Ordered.{Rises, rises_filter}
use Rattle.overlap_list.proofs.Overlapping.{first_of}
use Rattle.shot_core.specs.Regions.{Instance, Region, HaveInstances, instances_of}
use Rattle.shot_core.specs.Shots.{woven_if, woven_from, woven_of, level_on, level_of_hit}
use Rattle.shot_core.specs.FirstShots.{tree_region, trees_from, trees_of}
use Rattle.shot_core.proofs.FirstShots.{none_right}
use Rattle.shot_core.proofs.Numbering.{get_left, get_right}
use Rattle.shot_core.proofs.Weaving.{woven_append, woven_rises, has_woven}
use Rattle.shot_core.proofs.OwnClaims.{changes_on, change_is, Agree, next_agree}

-- the lowest-numbered of rising ones is the first
abbrev pub IsBelow : Woven → Woven → Type 0
IsBelow v w = v.instance < w.instance

lower_first : (w : Woven) (ws : List Woven) → ((v : Woven) → Has ws v → IsBelow w v) → lower w (first_of ws) ≡ Some w
lower_first w [] h = refl
lower_first w (v ∷ vs) h =
    let lt : w.instance < v.instance = h v (inl refl) in
    cond-true (nat_le w.instance v.instance) (Some w) (Some v) (le-leb w.instance v.instance (omega (arith, lt)))

lowest_first : (ws : List Woven) → Rises IsBelow ws → lowest ws ≡ first_of ws
lowest_first [] r = refl
lowest_first (w ∷ ws) r = ap (lower w) (lowest_first ws r.1) ∙ lower_first w ws r.0

filter_same : {X : Type 0} (f g : X → Bool) (xs : List X) → ((x : X) → Has xs x → f x ≡ g x) → filter f xs ≡ filter g xs
filter_same f g [] h = refl
filter_same f g (x ∷ xs) h = ap (λ b. cond b (x ∷ filter f xs) (filter f xs)) (h x (inl refl)) ∙ ap (λ l. cond (g x) (x ∷ l) l) (filter_same f g xs (λ y m. h y (inr m)))

and_true : (b : Bool) → (b && true) ≡ b
and_true true = refl
and_true false = refl

and_false : (b : Bool) → (b && false) ≡ false
and_false true = refl
and_false false = refl

none_filtered : {X : Type 0} (xs : List X) → filter (λ (x : X). false) xs ≡ []
none_filtered [] = refl
none_filtered (x ∷ xs) = none_filtered xs

filter_if : {X Y : Type 0} (g : X → Y) (f : X → Bool) (c : Bool) (xs : List X) → map g (filter (λ x. f x && c) xs) ≡ cond c (map g (filter f xs)) []
filter_if g f true xs = ap (map g) (filter_same (λ x. f x && true) f xs (λ x m. and_true (f x)))
filter_if {X = X} g f false xs = ap (map g) (filter_same (λ x. f x && false) (λ (x : X). false) xs (λ x m. and_false (f x)) ∙ none_filtered xs)

-- an end of an instance's segment
abbrev pub Ending : Type 0
Ending = Option Instance × Seg

abbrev ends_at : Pos → Seg → Bool
ends_at x seg = is_at seg.start x || is_at seg.end x

abbrev end_if : Pos → Instance → Option Seg → List Ending
end_if x i None = []
end_if x i (Some seg) = cond (ends_at x seg) ((Some i, seg) ∷ []) []

abbrev pub ends_among : Ray → Pos → List Instance → List Ending
ends_among ray x [] = []
ends_among ray x (i ∷ xs) = end_if x i (segment_of i.surface ray) ++ ends_among ray x xs

-- the ends at a place of a region whose claim changes there
abbrev pub hits_of : Ray → Pos → Region → List Ending
hits_of ray x r = cond (changes_on ray x r) (ends_among ray x r.body.instances) []

abbrev pub hits_among : Ray → Pos → List Region → List Ending
hits_among ray x rs = flat_map (hits_of ray x) rs

abbrev pub face_of : Pos → Ending → ℕ
face_of x e = cond (is_at e.1.start x) e.1.start_face e.1.end_face

abbrev pub ending_of : List Instance → Woven → Ending
ending_of all w = (slice_get all w.instance, w.seg)

cond_first : (b : Bool) (g : Woven → Ending) (w : Woven) (e : Ending) (l : List Woven) → g w ≡ e → map g (cond b (w ∷ l) l) ≡ cond b (e ∷ []) [] ++ map g l
cond_first true g w e l is = ap (λ q. q ∷ map g l) is
cond_first false g w e l is = refl

module _ (all : List Instance) (x : Pos) where
  first_end : (n : ℕ) (i : Instance) (o : Option Seg) (ws : List Woven) → slice_get all n ≡ Some i
      → map (ending_of all) (filter (has_end_at x) (woven_if n o ++ ws)) ≡ end_if x i o ++ map (ending_of all) (filter (has_end_at x) ws)
  first_end n i None ws at = refl
  first_end n i (Some seg) ws at =
      cond_first (ends_at x seg) (ending_of all) (record { instance = n; seg = seg }) (Some i, seg) (filter (has_end_at x) ws) (ap (λ (o : Option Instance). let e : Ending = (o, seg) in e) at)

  pub ends_are : (ray : Ray) (n : ℕ) (xs : List Instance) → ((k : ℕ) → k < length xs → slice_get all (n + k) ≡ slice_get xs k) → map (ending_of all) (filter (has_end_at x) (woven_from ray n xs)) ≡ ends_among ray x xs
  ends_are ray n [] at = refl
  ends_are ray n (i ∷ xs) at =
      let here : n ≡ n + 0 = omega arith in
      first_end n i (segment_of i.surface ray) (woven_from ray (n + 1) xs) (ap (slice_get all) here ∙ at zero (omega arith))
      ∙ ap (λ l. end_if x i (segment_of i.surface ray) ++ l) (ends_are ray (n + 1) xs (λ k lt. let e : n + 1 + k ≡ n + suc k = omega arith in ap (slice_get all) e ∙ at (suc k) (omega (arith, lt))))

-- which regions have an instance
module _ (change : TreeRegion → Bool) (i : ℕ) where
  abbrev holds : TreeRegion → Bool
  holds t = (nat_le t.first i && nat_lt i (t.first + t.count)) && change t

  none_later : (m : ℕ) (rs : List Region) → i < m → list_any holds (trees_from m rs) ≡ false
  none_later m [] lt = refl
  none_later m (r ∷ rs) lt =
      ap (λ b. ((b && nat_lt i (m + length r.body.instances)) && change (tree_region m r.body)) || list_any holds (trees_from (m + length r.body.instances) rs))
      (false_from_ne_true (nat_le m i) (λ is. omega (arith, lt, leb-true m i is)))
      ∙ none_later (m + length r.body.instances) rs (omega (arith, lt))

  later_only : (m : ℕ) (r : Region) (rs : List Region) → m + length r.body.instances ≤ i → list_any holds (trees_from m (r ∷ rs)) ≡ list_any holds (trees_from (m + length r.body.instances) rs)
  later_only m r rs le =
      ap (λ b. ((nat_le m i && b) && change (tree_region m r.body)) || list_any holds (trees_from (m + length r.body.instances) rs)) (le-ltb i (m + length r.body.instances) le)
      ∙ ap (λ b. (b && change (tree_region m r.body)) || list_any holds (trees_from (m + length r.body.instances) rs)) (and_false (nat_le m i))

  here_only : (m : ℕ) (r : Region) (rs : List Region) → m ≤ i → i < m + length r.body.instances → list_any holds (trees_from m (r ∷ rs)) ≡ change (tree_region m r.body)
  here_only m r rs low high =
      ap (λ b. ((b && nat_lt i (m + length r.body.instances)) && change (tree_region m r.body)) || list_any holds (trees_from (m + length r.body.instances) rs)) (le-leb m i low)
      ∙ ap (λ b. (b && change (tree_region m r.body)) || list_any holds (trees_from (m + length r.body.instances) rs)) (lt-ltb i (m + length r.body.instances) high)
      ∙ ap (λ b. change (tree_region m r.body) || b) (none_later (m + length r.body.instances) rs high)
      ∙ none_right (change (tree_region m r.body))

none_there : (e : Ending) → ◌≡◌ {A = Option Ending} None (Some e) → ⊥
none_there e h = cc

same_there : (d e : Ending) → ◌≡◌ {A = Option Ending} (Some d) (Some e) → d ≡ e
same_there d e h = cc

module _ (regions : List Region) (ray : Ray) (x : Pos) where
  abbrev all : List Instance
  all = instances_of regions

  abbrev test : Woven → Bool
  test w = is_hit_at (woven_of regions ray) (trees_of regions) x w

  abbrev change : TreeRegion → Bool
  change t = changes_over (woven_of regions ray) x t

  hits_from : (n : ℕ) (rs : List Region) → ((k : ℕ) → k < length (instances_of rs) → slice_get all (n + k) ≡ slice_get (instances_of rs) k)
      → ((i : ℕ) → n ≤ i → list_any (holds change i) (trees_of regions) ≡ list_any (holds change i) (trees_from n rs))
      → Agree change (changes_on ray x) n rs
      → map (ending_of all) (filter test (woven_from ray n (instances_of rs))) ≡ hits_among ray x rs
  hits_from n [] at tests agree = refl
  hits_from n (r ∷ rs) at tests agree =
      let xs = r.body.instances in
      let next = n + length r.body.instances in
      let head : map (ending_of all) (filter test (woven_from ray n r.body.instances)) ≡ hits_of ray x r =
      ap (map (ending_of all)) (filter_same test (λ w. has_end_at x w && changes_on ray x r) (woven_from ray n r.body.instances) (λ w h.
      let a = has_woven ray n r.body.instances w h in
      let within : a.place < length r.body.instances = slice_get_within r.body.instances a.place a.one a.there in
      ap (λ b. has_end_at x w && b) (tests w.instance (omega (arith, a.number)) ∙ here_only change w.instance n r rs (omega (arith, a.number)) (omega (arith, a.number, within)) ∙ agree zero (omega arith))))
      ∙ filter_if (ending_of all) (has_end_at x) (changes_on ray x r) (woven_from ray n r.body.instances)
      ∙ ap (λ l. cond (changes_on ray x r) l []) (ends_are all x ray n r.body.instances (λ k lt. at k (omega (arith, lt, length-append r.body.instances (instances_of rs))) ∙ get_left r.body.instances (instances_of rs) k lt)) in
      let tail : map (ending_of all) (filter test (woven_from ray (n + length r.body.instances) (instances_of rs))) ≡ hits_among ray x rs =
      hits_from (n + length r.body.instances) rs
      (λ k lt. let e : n + length r.body.instances + k ≡ n + (length r.body.instances + k) = omega arith in ap (slice_get all) e ∙ at (length r.body.instances + k) (omega (arith, lt, length-append r.body.instances (instances_of rs))) ∙ get_right r.body.instances (instances_of rs) k)
      (λ i le. tests i (omega (arith, le)) ∙ later_only change i n r rs le)
      (next_agree change (changes_on ray x) n r rs agree) in
      ap (λ l. map (ending_of all) (filter test l)) (woven_append ray n r.body.instances (instances_of rs))
      ∙ ap (map (ending_of all)) (filter-append test (woven_from ray n r.body.instances) (woven_from ray (n + length r.body.instances) (instances_of rs)))
      ∙ map-append (ending_of all) (filter test (woven_from ray n r.body.instances)) (filter test (woven_from ray (n + length r.body.instances) (instances_of rs)))
      ∙ ap (λ l. l ++ map (ending_of all) (filter test (woven_from ray (n + length r.body.instances) (instances_of rs)))) head
      ∙ ap (λ l. hits_of ray x r ++ l) tail

  module _ (leaves : HaveInstances regions) where
    hits_are : map (ending_of all) (filter test (woven_of regions ray)) ≡ hits_among ray x regions
    hits_are =
        hits_from 0 regions (λ k lt. let e : 0 + k ≡ k = omega arith in ap (slice_get all) e) (λ i le. refl) (λ k lt. change_is regions ray leaves x k lt)

    face_go : (ws : List Woven) (e : Ending) → first_of (map (ending_of all) ws) ≡ Some e
        → ((or_no_hit (hit_on x (first_of ws))).face ≡ face_of x e) × (level_of_hit regions ray (or_no_hit (hit_on x (first_of ws))) ≡ level_on e.0 (face_of x e) ray) × (slice_get all (or_no_hit (hit_on x (first_of ws))).instance ≡ e.0)
    face_go [] e h = absurd (none_there e h)
    face_go (w ∷ ws) e h =
        let same : ending_of all w ≡ e = same_there (ending_of all w) e h in
        (ap (face_of x) same, ap (λ (d : Ending). level_on d.0 (face_of x d) ray) same, ap (λ (d : Ending). d.0) same)

    -- the first of these is hit
    pub hit_is : (e : Ending) → first_of (hits_among ray x regions) ≡ Some e
        → ((hit_by (woven_of regions ray) (trees_of regions) x).face ≡ face_of x e) × (level_of_hit regions ray (hit_by (woven_of regions ray) (trees_of regions) x) ≡ level_on e.0 (face_of x e) ray) × (slice_get all (hit_by (woven_of regions ray) (trees_of regions) x).instance ≡ e.0)
    hit_is e h =
        let first : hit_by (woven_of regions ray) (trees_of regions) x ≡ or_no_hit (hit_on x (first_of (filter test (woven_of regions ray)))) =
        ap (λ o. or_no_hit (hit_on x o)) (lowest_first (filter test (woven_of regions ray)) (rises_filter IsBelow test (woven_of regions ray) (woven_rises ray 0 (instances_of regions)))) in
        let got = face_go (filter test (woven_of regions ray)) e (ap first_of hits_are ∙ h) in
        (ap (λ (k : Hit). k.face) first ∙ got.0, ap (level_of_hit regions ray) first ∙ got.1, ap (λ (k : Hit). slice_get all k.instance) first ∙ got.2)

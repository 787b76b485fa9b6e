-- Where regions overlap only those tell that overlap another one.
use Rattle.std.proofs.Common.{◌≡◌, ◌<◌, ◌+◌, ◌-◌, ℕ, zero, suc, List, [], ◌∷◌, ◌++◌, length, get_or, slice_get, map, filter, Bool, false, ◌&&◌, Option, Some, None, ap, sym, ◌∙◌, subst, refl, inl, inr, arith}
use Rattle.std.specs.List.{filter_map, cons_option, range_with_len}
use Rattle.std.specs.Option.{option_map, MatchOption}
use Rattle.std.proofs.lemmas.Bool.{cases_Bool, cond-true, cond-false, true≢false}
use Rattle.std.proofs.lemmas.List.Elements.{filter_map-append, All-filter, All-cons, All-nil}
use Rattle.std.proofs.lemmas.Option.{slice_get-get_or}
use Rattle.lattice_core.specs.declared.ray.Ray.{Ray}
use Rattle.surd_order.specs.declared.position.Pos.{Pos}
use Rattle.bool_weave.specs.declared.woven.Woven.{Woven}
use Rattle.bool_weave.proofs.Sorted.{Has, contains_from_has}
use Rattle.bool_weave.proofs.Behind.{never_itself}
use Rattle.overlap_list.specs.declared.overlap.OverlapRun.{OverlapRun}
use Rattle.overlap_list.specs.Overlaps.{RegionPair, pairs_up_to, first_overlap, overlaps_of}
use Rattle.overlap_list.specs.Firsts.{TreeRegion, claims_by, is_solid_behind}
use Rattle.overlap_list.specs.FirstOverlaps.{do_both_behind, IsFirstStretch, IsFirstStretchOf}
use Rattle.overlap_list.proofs.Overlapping.{pair_of}
use Rattle.overlap_list.proofs.Ordered.{Rises, has_rows}
use Rattle.overlap_list.proofs.ByPlaces.{one_stretch, overlaps_are_by_places}
use Rattle.shot_core.specs.Regions.{Region, HasLeavesBelow, HaveInstances, firsts_from}
use Rattle.shot_core.specs.Shots.{woven_of}
use Rattle.shot_core.specs.Steps.{no_region}
use Rattle.shot_core.specs.FirstShots.{tree_region, trees_from, trees_of}
use Rattle.shot_core.specs.Pruned.{place_of, by_place, overlaps_by_place}
use Rattle.shot_core.proofs.Claiming.{claims_length}
use Rattle.shot_core.proofs.FirstShots.{woven_spelled, claims_by_trees}
use Rattle.shot_core.proofs.OwnClaims.{solid_on, solid_is}
use Rattle.shot_core.proofs.Picking.{map_twice}
use Rattle.shot_core.proofs.PickingOverlaps.{pairs_of, pairs_is, chosen_same, chosen_from, chosen_to, mapped_append}

-- a value with each later one
abbrev pub pairs_in : {X : Type 0} → List X → List (X × X)
pairs_in [] = []
pairs_in (x ∷ xs) = map (λ y. (x, y)) xs ++ pairs_in xs

pairs_named : {X : Type 0} (f : ℕ → X) (ns : List ℕ) → map (λ (p : RegionPair). (f p.one, f p.two)) (pairs_of ns) ≡ pairs_in (map f ns)
pairs_named f [] = refl
pairs_named {X = X} f (n ∷ ns) =
    let pick : RegionPair → X × X = λ p. (f p.one, f p.two) in
    mapped_append pick (map (pair_of n) ns) (pairs_of ns)
    ∙ ap (λ l. l ++ map pick (pairs_of ns)) (map_twice pick (pair_of n) ns ∙ sym (map_twice (λ y. (f n, y)) f ns))
    ∙ ap (λ l. map (λ y. (f n, y)) (map f ns) ++ l) (pairs_named f ns)

-- a list is what it has at its places
shifted : {X : Type 0} (x : X) (xs : List X) (d : X) (a n : ℕ) → map (λ i. get_or (x ∷ xs) i d) (range_with_len (a + 1) n) ≡ map (λ i. get_or xs i d) (range_with_len a n)
shifted x xs d a zero = refl
shifted x xs d a (suc n) =
    let e : a + 1 ≡ suc a = omega arith in
    ap (λ i. get_or (x ∷ xs) i d ∷ map (λ i. get_or (x ∷ xs) i d) (range_with_len (a + 1 + 1) n)) e ∙ ap (λ l. get_or xs a d ∷ l) (shifted x xs d (a + 1) n)

listed : {X : Type 0} (xs : List X) (d : X) → map (λ i. get_or xs i d) (range_with_len 0 (length xs)) ≡ xs
listed [] d = refl
listed (x ∷ xs) d = ap (λ l. x ∷ l) (shifted x xs d 0 (length xs) ∙ listed xs d)

-- the trees of regions by their numbers
tree_at : (first : ℕ) (rs : List Region) (n : ℕ) (d : TreeRegion) → n < length rs → get_or (trees_from first rs) n d ≡ tree_region (get_or (firsts_from first rs) n 0) (get_or rs n no_region).body
tree_at first [] n d lt = absurd (omega (arith, lt))
tree_at first (r ∷ rs) zero d lt = refl
tree_at first (r ∷ rs) (suc n) d lt = tree_at (first + length r.body.instances) rs n d (omega (arith, lt))

trees_length : (first : ℕ) (rs : List Region) → length (trees_from first rs) ≡ length rs
trees_length first [] = refl
trees_length first (r ∷ rs) = ap (λ k. suc k) (trees_length (first + length r.body.instances) rs)

-- whether two regions without air both claim what lies just behind a place
abbrev pub both_on : Ray → Region → Region → Pos → Bool
both_on ray r s x = solid_on ray x r && solid_on ray x s

-- an overlap's two ends
abbrev Ends : Type 0
Ends = Pos × Pos

abbrev ends_of : OverlapRun → Ends
ends_of o = (o.start, o.end)

abbrev run_between : Region → Region → Ends → OverlapRun
run_between r s e = record { one = r.place; two = s.place; start = e.0; end = e.1 }

-- what is told of an overlap by what both regions claim
abbrev Tells : (Pos → Bool) → Option OverlapRun → Type 0
Tells both o = MatchOption o ((x : Pos) → both x ≡ false) (λ run. (woven : List Woven) × (a : TreeRegion) × (b : TreeRegion) × IsFirstStretch woven a b run.start run.end × ((x : Pos) → do_both_behind woven a b x ≡ both x))

carried : (woven woven' : List Woven) (a b a' b' : TreeRegion) (start end : Pos) → ((x : Pos) → do_both_behind woven a b x ≡ do_both_behind woven' a' b' x) → IsFirstStretch woven a b start end → IsFirstStretch woven' a' b' start end
carried woven woven' a b a' b' start end same p = record {
  start_spelled = p.start_spelled;
  end_spelled = p.end_spelled;
  ordered = p.ordered;
  first = λ x lt. sym (same x) ∙ p.first x lt;
  both = λ x reached lt. sym (same x) ∙ p.both x reached lt;
  ended = sym (same end) ∙ p.ended;
}

never_both : (both : Pos → Bool) (woven : List Woven) (a b : TreeRegion) (start end : Pos) → ((x : Pos) → both x ≡ false) → IsFirstStretch woven a b start end → ((x : Pos) → do_both_behind woven a b x ≡ both x) → ⊥
never_both both woven a b start end off p same = true≢false (sym (p.both start (never_itself start) p.ordered) ∙ same start ∙ off start)

-- two that are told by the same have the same ends
told_alike : (both : Pos → Bool) (o o' : Option OverlapRun) → Tells both o → Tells both o' → option_map ends_of o ≡ option_map ends_of o'
told_alike both None None p q = refl
told_alike both None (Some o') p q = absurd (never_both both q.0 q.1 q.2 o'.start o'.end p q.3 q.4)
told_alike both (Some o) None p q = absurd (never_both both p.0 p.1 p.2 o.start o.end q p.3 p.4)
told_alike both (Some o) (Some o') p q =
    let one = one_stretch p.0 p.1 p.2 o.start o.end o'.start o'.end p.3 (carried q.0 p.0 q.1 q.2 p.1 p.2 o'.start o'.end (λ x. q.4 x ∙ sym (p.4 x)) q.3) in
    ap (λ x. let e : Ends = (x, o.end) in Some e) one.0 ∙ ap (λ x. let e : Ends = (o'.start, x) in Some e) one.1

none_alike : (both : Pos → Bool) (o : Option OverlapRun) → Tells both o → ((x : Pos) → both x ≡ false) → option_map ends_of o ≡ None
none_alike both o p off = told_alike both o None p off

module _ (regions : List Region) (ray : Ray) (leaves : HaveInstances regions) where
  abbrev woven : List Woven
  woven = woven_of regions ray

  abbrev region_no : ℕ → Region
  region_no n = get_or regions n no_region

  abbrev tree_no : ℕ → TreeRegion
  tree_no n = get_or (trees_of regions) n (tree_region 0 no_region.body)

  both_is : (i j : ℕ) → i < length regions → j < length regions → (x : Pos) → do_both_behind woven (tree_no i) (tree_no j) x ≡ both_on ray (region_no i) (region_no j) x
  both_is i j li lj x =
      ap (λ t. is_solid_behind woven x t && is_solid_behind woven x (tree_no j)) (tree_at 0 regions i (tree_region 0 no_region.body) li)
      ∙ ap (λ b. b && is_solid_behind woven x (tree_no j)) (solid_is regions ray leaves x i li)
      ∙ ap (λ t. solid_on ray x (region_no i) && is_solid_behind woven x t) (tree_at 0 regions j (tree_region 0 no_region.body) lj)
      ∙ ap (λ b. solid_on ray x (region_no i) && b) (solid_is regions ray leaves x j lj)

  abbrev pub overlap_no : ℕ → ℕ → Option OverlapRun
  overlap_no i j = first_overlap woven (map (claims_by woven) (trees_of regions)) (pair_of i j)

  by_both : (i j : ℕ) → i < length regions → j < length regions → (o : Option OverlapRun)
      → MatchOption o ((x : Pos) → do_both_behind woven (tree_no i) (tree_no j) x ≡ false) (IsFirstStretchOf woven i j (tree_no i) (tree_no j))
      → Tells (both_on ray (region_no i) (region_no j)) o
  by_both i j li lj None off = λ x. sym (both_is i j li lj x) ∙ off x
  by_both i j li lj (Some o) p = (woven, tree_no i, tree_no j, p.stretch, both_is i j li lj)

  matched : (i j : ℕ) → i < length regions → j < length regions
      → MatchOption (overlap_no i j) ((x : Pos) → do_both_behind woven (tree_no i) (tree_no j) x ≡ false) (IsFirstStretchOf woven i j (tree_no i) (tree_no j))
  matched i j li lj =
      overlaps_are_by_places woven (trees_of regions) i j (tree_region 0 no_region.body) (tree_region 0 no_region.body) (woven_spelled regions ray)
      (omega (arith, li, trees_length 0 regions)) (omega (arith, lj, trees_length 0 regions))

  pub tells : (i j : ℕ) → i < length regions → j < length regions → Tells (both_on ray (region_no i) (region_no j)) (overlap_no i j)
  tells i j li lj = by_both i j li lj (overlap_no i j) (matched i j li lj)

  place_no : (n m : ℕ) → m < length regions → n ≡ m → place_of (slice_get regions n) ≡ (region_no m).place
  place_no n m lt e = ap (λ k. place_of (slice_get regions k)) e ∙ ap place_of (slice_get-get_or regions m no_region lt)

  placed_go : (i j : ℕ) → i < length regions → j < length regions → (o : Option OverlapRun)
      → MatchOption o ((x : Pos) → do_both_behind woven (tree_no i) (tree_no j) x ≡ false) (IsFirstStretchOf woven i j (tree_no i) (tree_no j))
      → option_map (by_place regions) o ≡ option_map (run_between (region_no i) (region_no j)) (option_map ends_of o)
  placed_go i j li lj None off = refl
  placed_go i j li lj (Some o) p =
      ap (λ n. let r : OverlapRun = record { one = n; two = place_of (slice_get regions o.two); start = o.start; end = o.end } in Some r) (place_no o.one i li p.one_is)
      ∙ ap (λ n. let r : OverlapRun = record { one = (region_no i).place; two = n; start = o.start; end = o.end } in Some r) (place_no o.two j lj p.two_is)

  pub placed : (i j : ℕ) → i < length regions → j < length regions → option_map (by_place regions) (overlap_no i j) ≡ option_map (run_between (region_no i) (region_no j)) (option_map ends_of (overlap_no i j))
  placed i j li lj = placed_go i j li lj (overlap_no i j) (matched i j li lj)

-- the overlap of two regions alone
abbrev two_alone : Ray → Region → Region → Option OverlapRun
two_alone ray r s = first_overlap (woven_of (r ∷ s ∷ []) ray) (map (claims_by (woven_of (r ∷ s ∷ []) ray)) (trees_of (r ∷ s ∷ []))) (pair_of 0 1)

abbrev pub over : Ray → Region × Region → Option OverlapRun
over ray p = option_map (run_between p.0 p.1) (option_map ends_of (two_alone ray p.0 p.1))

abbrev pub HasInstances : Region → Type 0
HasInstances r = HasLeavesBelow (length r.body.instances) r.body.tree

leaves_of_two : (r s : Region) → HasInstances r → HasInstances s → HaveInstances (r ∷ s ∷ [])
leaves_of_two r s a b = All-cons HasInstances r (s ∷ []) a (All-cons HasInstances s [] b (All-nil HasInstances))

alone_tells : (ray : Ray) (r s : Region) → HasInstances r → HasInstances s → Tells (both_on ray r s) (two_alone ray r s)
alone_tells ray r s a b = tells (r ∷ s ∷ []) ray (leaves_of_two r s a b) 0 1 (omega arith) (omega arith)

-- those that nowhere both claim do not overlap
pub none_over : (ray : Ray) (r s : Region) → HasInstances r → HasInstances s → ((x : Pos) → both_on ray r s x ≡ false) → over ray (r, s) ≡ None
none_over ray r s a b off = ap (option_map (run_between r s)) (none_alike (both_on ray r s) (two_alone ray r s) (alone_tells ray r s a b) off)

module _ (regions : List Region) (ray : Ray) (leaves : HaveInstances regions) where
  abbrev pub region_at : ℕ → Region
  region_at n = get_or regions n no_region

  -- each pair overlaps as it does alone
  pair_is : (i j : ℕ) → i < length regions → j < length regions → option_map (by_place regions) (overlap_no regions ray leaves i j) ≡ over ray (region_at i, region_at j)
  pair_is i j li lj =
      placed regions ray leaves i j li lj
      ∙ ap (option_map (run_between (region_at i) (region_at j)))
      (told_alike (both_on ray (region_at i) (region_at j)) (overlap_no regions ray leaves i j) (two_alone ray (region_at i) (region_at j)) (tells regions ray leaves i j li lj)
      (alone_tells ray (region_at i) (region_at j) (leaves i no_region li) (leaves j no_region lj)))

  pub none_at : (i j : ℕ) → i < length regions → j < length regions → overlap_no regions ray leaves i j ≡ None → over ray (region_at i, region_at j) ≡ None
  none_at i j li lj none = sym (pair_is i j li lj) ∙ ap (option_map (by_place regions)) none

  pub overlaps_are : overlaps_by_place regions ray ≡ filter_map (over ray) (pairs_in regions)
  overlaps_are =
      let claims = map (claims_by (woven_of regions ray)) (trees_of regions) in
      let first = first_overlap (woven_of regions ray) (map (claims_by (woven_of regions ray)) (trees_of regions)) in
      let last = length regions - 1 in
      let pick : RegionPair → Region × Region = λ p. (region_at p.one, region_at p.two) in
      let count : length (map (claims_by (woven_of regions ray)) (trees_of regions)) ≡ length regions = ap length (sym (claims_by_trees (woven_of regions ray) 0 regions)) ∙ claims_length (woven_of regions ray) 0 regions in
      ap (λ l. map (by_place regions) (overlaps_of (woven_of regions ray) l)) (claims_by_trees (woven_of regions ray) 0 regions)
      ∙ ap (λ n. map (by_place regions) (filter_map first (pairs_up_to (n - 1)))) count
      ∙ sym (chosen_to first (by_place regions) (pairs_up_to (length regions - 1)))
      ∙ chosen_same (λ p. option_map (by_place regions) (first p)) (λ p. over ray (pick p)) (pairs_up_to (length regions - 1))
      (λ p there.
      let m = has_rows pair_of (length regions - 1) 0 (length regions - 1) p there in
      pair_is p.one p.two (omega (arith, ap (λ (q : RegionPair). q.one) m.2, m.4, m.5)) (omega (arith, ap (λ (q : RegionPair). q.two) m.2, m.4, m.5)))
      ∙ ap (filter_map (λ p. over ray (pick p))) (pairs_is (length regions))
      ∙ sym (chosen_from (over ray) pick (pairs_of (range_with_len 0 (length regions))))
      ∙ ap (filter_map (over ray)) (pairs_named region_at (range_with_len 0 (length regions)) ∙ ap pairs_in (listed regions no_region))

-- values that give nothing with any other may be left out
module _ {X Y : Type 0} (G : X × X → Option Y) (keep : X → Bool) where
  abbrev pub GivesNone : X → X → Type 0
  GivesNone x y = (keep x ≡ false → G (x, y) ≡ None) × (keep y ≡ false → G (x, y) ≡ None)

  row_left : (x : X) (xs : List X) → ((y : X) → Has xs y → keep y ≡ false → G (x, y) ≡ None) → filter_map G (map (λ y. (x, y)) (filter keep xs)) ≡ filter_map G (map (λ y. (x, y)) xs)
  row_left x [] h = refl
  row_left x (y ∷ ys) h =
      let rest = row_left x ys (λ z m. h z (inr m)) in
      elim (cases_Bool (keep y)) [
        | inl is ↦ ap (λ l. filter_map G (map (λ z. (x, z)) l)) (cond-true (keep y) (y ∷ filter keep ys) (filter keep ys) is) ∙ ap (cons_option (G (x, y))) rest
        | inr off ↦ ap (λ l. filter_map G (map (λ z. (x, z)) l)) (cond-false (keep y) (y ∷ filter keep ys) (filter keep ys) off) ∙ rest
            ∙ sym (ap (λ o. cons_option o (filter_map G (map (λ z. (x, z)) ys))) (h y (inl refl) off))
      ]

  row_none : (x : X) (xs : List X) → ((y : X) → Has xs y → G (x, y) ≡ None) → filter_map G (map (λ y. (x, y)) xs) ≡ []
  row_none x [] h = refl
  row_none x (y ∷ ys) h = ap (λ o. cons_option o (filter_map G (map (λ z. (x, z)) ys))) (h y (inl refl)) ∙ row_none x ys (λ z m. h z (inr m))

  pub pairs_left : (xs : List X) → Rises GivesNone xs → filter_map G (pairs_in (filter keep xs)) ≡ filter_map G (pairs_in xs)
  pairs_left [] h = refl
  pairs_left (x ∷ xs) h =
      let rest = pairs_left xs h.1 in
      let whole = filter_map-append G (map (λ y. (x, y)) xs) (pairs_in xs) in
      elim (cases_Bool (keep x)) [
        | inl is ↦ ap (λ l. filter_map G (pairs_in l)) (cond-true (keep x) (x ∷ filter keep xs) (filter keep xs) is)
            ∙ filter_map-append G (map (λ y. (x, y)) (filter keep xs)) (pairs_in (filter keep xs))
            ∙ ap (λ l. l ++ filter_map G (pairs_in (filter keep xs))) (row_left x xs (λ y m off. (h.0 y m).1 off))
            ∙ ap (λ l. filter_map G (map (λ y. (x, y)) xs) ++ l) rest
            ∙ sym whole
        | inr off ↦ ap (λ l. filter_map G (pairs_in l)) (cond-false (keep x) (x ∷ filter keep xs) (filter keep xs) off)
            ∙ rest
            ∙ sym (whole ∙ ap (λ l. l ++ filter_map G (pairs_in xs)) (row_none x xs (λ y m. (h.0 y m).0 off)))
      ]

-- what holds of any two of a list holds of each and those that follow
pub rises_all : {X : Type 0} (R : X → X → Type 0) (xs : List X) → ((x y : X) → Has xs x → Has xs y → R x y) → Rises R xs
rises_all R [] h = tt
rises_all R (x ∷ xs) h = (λ y m. h x y (inl refl) (inr m), rises_all R xs (λ y z m n. h y z (inr m) (inr n)))

pub has_instances : (regions : List Region) → HaveInstances regions → (r : Region) → Has regions r → HasInstances r
has_instances regions leaves r h = let c = contains_from_has regions r h in subst HasInstances c.2 (leaves c.0 r c.1)

module _ (regions : List Region) (ray : Ray) (leaves : HaveInstances regions) (keep : Region → Bool) (apart : Rises (GivesNone (over ray) keep) regions) where
  -- regions that overlap no other one may be left out
  pub overlaps_left : overlaps_by_place (filter keep regions) ray ≡ overlaps_by_place regions ray
  overlaps_left = overlaps_are (filter keep regions) ray (All-filter keep HasInstances regions leaves) ∙ pairs_left (over ray) keep regions apart ∙ sym (overlaps_are regions ray leaves)

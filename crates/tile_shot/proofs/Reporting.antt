-- Reports of some pixels and of others make that of all.
use Rattle.std.proofs.Common.{◌≡◌, ◌<◌, ◌≤◌, ◌+◌, ℕ, suc, List, [], ◌∷◌, ◌++◌, length, map, filter, find, Bool, true, false, cond, ◌&&◌, ◌||◌, Option, Some, None, is_some, ap, sym, ◌∙◌, subst, refl, inl, inr, arith}
use Rattle.std.specs.List.{filter_map, cons_option}
use Rattle.std.proofs.lemmas.Bool.{cond-true, cond-false}
use Rattle.std.proofs.lemmas.Bool.Decides.{nat_tests}
use Rattle.bool_weave.proofs.Sorted.{Has, has_append_cases}
use Rattle.bool_weave.proofs.Middles.{has_filtered}
use Rattle.overlap_list.proofs.Ordered.{Rises, rises_append, rises_map}
use Rattle.lattice_core.specs.declared.view.View.{View}
use Rattle.overlap_list.specs.declared.overlap.OverlapRun.{OverlapRun}
use Rattle.ppm_write.specs.Pictures.{whole_span}
use Rattle.shot_core.specs.declared.pair.Pair.{Pair}
use Rattle.shot_core.specs.Regions.{Region}
use Rattle.tile_shot.specs.Reports.{Spot, spots_of, CheckedRay, checked_ray, PlacePair, place_pairs, is_of_pair, run_of, rays_of, pair_at, pair_of, report_of, spots_where, AreApart, either, AddUp, HaveRisingPlaces}
use Rattle.tile_shot.specs.Merges.{is_earlier, merged}
use Rattle.tile_shot.proofs.Merging.{combined, IsLower, merged_maps, rises_from_pairs}
use Rattle.tile_shot.proofs.Spotting.{IsBefore, spots_rise, in_span}

found_go : {X : Type 0} (test : X → Bool) (x y : X) (o : Option X) (b : Bool) → test x ≡ b → (o ≡ Some y → test y ≡ true) → cond b (Some x) o ≡ Some y → test y ≡ true
found_go test x y o true e more h = let same : x ≡ y = cc in subst (λ z. test z ≡ true) same e
found_go test x y o false e more h = more h

-- what is found passes the test
pub found : {X : Type 0} (test : X → Bool) (xs : List X) (y : X) → find test xs ≡ Some y → test y ≡ true
found test [] y h = cc
found test (x ∷ xs) y h = found_go test x y (find test xs) (test x) refl (found test xs y) h

pub run_keys : (p : PlacePair) (ray : CheckedRay) (run : OverlapRun) → run_of p ray ≡ Some run → (run.one ≡ p.one) × (run.two ≡ p.two)
run_keys p ray run e = let f = found (is_of_pair p) ray.runs run e in (grind (arith, nat_tests), grind (arith, nat_tests))

-- what the rays of some pixels say of a pair
module _ (regions : List Region) (view : View) (p : PlacePair) where
  abbrev pub at_spot : Spot → Option OverlapRun
  at_spot s = run_of p (checked_ray regions view s)

  abbrev pub rays_at : List Spot → List CheckedRay
  rays_at spots = rays_of p (map (checked_ray regions view) spots)

  abbrev pub pair_on : List Spot → Option Pair
  pair_on spots = pair_of p (rays_at spots)

  abbrev pub made : Spot → OverlapRun → ℕ → Pair
  made s run n = record { one = run.one; two = run.two; rays = n; column = s.column; row = s.row; start = run.start; end = run.end }

  pub skipped : (s : Spot) (spots : List Spot) → at_spot s ≡ None → rays_at (s ∷ spots) ≡ rays_at spots
  skipped s spots e = cond-false (is_some (at_spot s)) (checked_ray regions view s ∷ rays_at spots) (rays_at spots) (ap is_some e)

  pub taken : (s : Spot) (spots : List Spot) (run : OverlapRun) → at_spot s ≡ Some run → rays_at (s ∷ spots) ≡ checked_ray regions view s ∷ rays_at spots
  taken s spots run e = cond-true (is_some (at_spot s)) (checked_ray regions view s ∷ rays_at spots) (rays_at spots) (ap is_some e)

  pub taken_pair : (s : Spot) (spots : List Spot) (run : OverlapRun) → at_spot s ≡ Some run → pair_on (s ∷ spots) ≡ Some (made s run (suc (length (rays_at spots))))
  taken_pair s spots run e = ap (pair_of p) (taken s spots run e) ∙ ap (pair_at (length (checked_ray regions view s ∷ rays_at spots)) s) e

  -- a pair has as many rays as it overlaps on, from 1 on, and one of the pixels is its first
  pub record IsTold (spots : List Spot) (pair : Pair) : Type 0 where
    pub one : pair.one ≡ p.one
    pub two : pair.two ≡ p.two
    pub rays : pair.rays ≡ length (rays_at spots)
    pub some : 1 ≤ pair.rays
    pub spot : Spot
    pub there : Has spots spot
    pub column : pair.column ≡ spot.column
    pub row : pair.row ≡ spot.row

  abbrev pub Tells : List Spot → Option Pair → Type 0
  Tells spots None = length (rays_at spots) ≡ 0
  Tells spots (Some pair) = IsTold spots pair

  told_more : (s : Spot) (spots : List Spot) (o : Option Pair) → at_spot s ≡ None → Tells spots o → Tells (s ∷ spots) o
  told_more s spots None e t = ap length (skipped s spots e) ∙ t
  told_more s spots (Some pair) e t = record { one = t.one; two = t.two; rays = t.rays ∙ sym (ap length (skipped s spots e)); some = t.some; spot = t.spot; there = inr t.there; column = t.column; row = t.row }

  told_step : (s : Spot) (spots : List Spot) (o : Option OverlapRun) → at_spot s ≡ o → Tells spots (pair_on spots) → Tells (s ∷ spots) (pair_on (s ∷ spots))
  told_step s spots None e t = subst (Tells (s ∷ spots)) (sym (ap (pair_of p) (skipped s spots e))) (told_more s spots (pair_on spots) e t)
  told_step s spots (Some run) e t =
      let k = run_keys p (checked_ray regions view s) run e in
      subst (Tells (s ∷ spots)) (sym (taken_pair s spots run e)) (record {
        one = k.0;
        two = k.1;
        rays = sym (ap length (taken s spots run e));
        some = omega arith;
        spot = s;
        there = inl refl;
        column = refl;
        row = refl;
      })

  pub told : (spots : List Spot) → Tells spots (pair_on spots)
  told [] = refl
  told (s ∷ spots) = told_step s spots (at_spot s) refl (told spots)

  -- a pixel that comes before all others of one list
  first_stays : (s : Spot) (run : OverlapRun) (spots : List Spot) (o : Option Pair) (n m : ℕ) → Tells spots o → n ≡ m + length (rays_at spots) → ((t : Spot) → Has spots t → IsBefore s t)
      → Some (made s run (suc n)) ≡ combined (Some (made s run (suc m))) o
  first_stays s run spots None n m t e before = let same : suc n ≡ suc m = omega (arith, t, e) in ap (λ k. Some (made s run k)) same
  first_stays s run spots (Some pair) n m t e before =
      let b = before t.spot t.there in
      let late : is_earlier pair (made s run (suc m)) ≡ false = grind (arith, nat_tests, t.row, t.column) in
      let sum : suc n ≡ suc m + pair.rays = omega (arith, t.rays, e) in
      ap (λ k. Some (made s run k)) sum ∙ ap (λ c. let f : Pair = cond c pair (made s run (suc m)) in Some (record f { rays = suc m + pair.rays })) (sym late)

  second_stays : (s : Spot) (run : OverlapRun) (spots : List Spot) (o : Option Pair) (n m : ℕ) → Tells spots o → n ≡ length (rays_at spots) + m → ((t : Spot) → Has spots t → IsBefore s t)
      → Some (made s run (suc n)) ≡ combined o (Some (made s run (suc m)))
  second_stays s run spots None n m t e before = let same : suc n ≡ suc m = omega (arith, t, e) in ap (λ k. Some (made s run k)) same
  second_stays s run spots (Some pair) n m t e before =
      let b = before t.spot t.there in
      let early : is_earlier (made s run (suc m)) pair ≡ true = grind (arith, nat_tests, t.row, t.column) in
      let sum : suc n ≡ pair.rays + suc m = omega (arith, t.rays, e) in
      ap (λ k. Some (made s run k)) sum ∙ ap (λ c. let f : Pair = cond c (made s run (suc m)) pair in Some (record f { rays = pair.rays + suc m })) (sym early)

  -- the pixels of two lists in one, where the next pixel is of the first, or of the second, or of neither
  length_more : (s : Spot) (xs : List Spot) (o : Option OverlapRun) → at_spot s ≡ o → length (rays_at (s ∷ xs)) ≡ cond (is_some o) 1 0 + length (rays_at xs)
  length_more s xs None e = ap length (skipped s xs e) ∙ omega arith
  length_more s xs (Some run) e = ap length (taken s xs run e) ∙ omega arith

  pub record IsSplit (all xs ys : List Spot) : Type 0 where
    pub pair : pair_on all ≡ combined (pair_on xs) (pair_on ys)
    pub count : length (rays_at all) ≡ length (rays_at xs) + length (rays_at ys)

  next_first : (s : Spot) (all xs ys : List Spot) (o : Option OverlapRun) → at_spot s ≡ o → IsSplit all xs ys → ((t : Spot) → Has ys t → IsBefore s t) → IsSplit (s ∷ all) (s ∷ xs) ys
  next_first s all xs ys None e split before = record {
    pair = ap (pair_of p) (skipped s all e) ∙ split.pair ∙ ap (λ l. combined (pair_of p l) (pair_on ys)) (sym (skipped s xs e));
    count = ap length (skipped s all e) ∙ split.count ∙ ap (λ (l : List CheckedRay). length l + length (rays_at ys)) (sym (skipped s xs e));
  }
  next_first s all xs ys (Some run) e split before = record {
    pair = taken_pair s all run e ∙ first_stays s run ys (pair_on ys) (length (rays_at all)) (length (rays_at xs)) (told ys) split.count before ∙ ap (λ o. combined o (pair_on ys)) (sym (taken_pair s xs run e));
    count = omega (arith, ap length (taken s all run e), ap length (taken s xs run e), split.count);
  }

  next_second : (s : Spot) (all xs ys : List Spot) (o : Option OverlapRun) → at_spot s ≡ o → IsSplit all xs ys → ((t : Spot) → Has xs t → IsBefore s t) → IsSplit (s ∷ all) xs (s ∷ ys)
  next_second s all xs ys None e split before = record {
    pair = ap (pair_of p) (skipped s all e) ∙ split.pair ∙ ap (λ l. combined (pair_on xs) (pair_of p l)) (sym (skipped s ys e));
    count = ap length (skipped s all e) ∙ split.count ∙ ap (λ (l : List CheckedRay). length (rays_at xs) + length l) (sym (skipped s ys e));
  }
  next_second s all xs ys (Some run) e split before = record {
    pair = taken_pair s all run e ∙ second_stays s run xs (pair_on xs) (length (rays_at all)) (length (rays_at ys)) (told xs) split.count before ∙ ap (λ o. combined (pair_on xs) o) (sym (taken_pair s ys run e));
    count = omega (arith, ap length (taken s all run e), ap length (taken s ys run e), split.count);
  }

  pub split_behind : (xs ys : List Spot) → ((s t : Spot) → Has xs s → Has ys t → IsBefore s t) → IsSplit (xs ++ ys) xs ys
  split_behind [] ys before = record { pair = refl; count = omega arith }
  split_behind (s ∷ xs) ys before = next_first s (xs ++ ys) xs ys (at_spot s) refl (split_behind xs ys (λ t u h k. before t u (inr h) k)) (λ t h. before s t (inl refl) h)

  module _ (a b : Spot → Bool) where
    split_step : (s : Spot) (spots : List Spot) (c d : Bool) → a s ≡ c → b s ≡ d → c && d ≡ false → ((t : Spot) → Has spots t → IsBefore s t)
        → IsSplit (filter (either a b) spots) (filter a spots) (filter b spots) → IsSplit (cond (c || d) (s ∷ filter (either a b) spots) (filter (either a b) spots)) (cond c (s ∷ filter a spots) (filter a spots)) (cond d (s ∷ filter b spots) (filter b spots))
    split_step s spots true true e f apart before split = absurd (cc)
    split_step s spots true false e f apart before split = next_first s (filter (either a b) spots) (filter a spots) (filter b spots) (at_spot s) refl split (λ t h. before t (has_filtered b spots t h))
    split_step s spots false true e f apart before split = next_second s (filter (either a b) spots) (filter a spots) (filter b spots) (at_spot s) refl split (λ t h. before t (has_filtered a spots t h))
    split_step s spots false false e f apart before split = split

    pub split_kinds : (spots : List Spot) → Rises IsBefore spots → ((s : Spot) → Has spots s → a s && b s ≡ false) → IsSplit (filter (either a b) spots) (filter a spots) (filter b spots)
    split_kinds [] r apart = record { pair = refl; count = omega arith }
    split_kinds (s ∷ spots) r apart = split_step s spots (a s) (b s) refl refl (apart s (inl refl)) r.0 (split_kinds spots r.1 (λ t h. apart t (inr h)))

-- pairs of places rise where places do
pub has_second : (one : ℕ) (ps : List ℕ) (p : PlacePair) → Has (map (λ q. record { one = one; two = q }) ps) p → (p.one ≡ one) × Has ps p.two
has_second one [] p h = absurd h
has_second one (q ∷ ps) p (inl e) = (sym (ap (λ (x : PlacePair). x.one) e), inl (ap (λ (x : PlacePair). x.two) e))
has_second one (q ∷ ps) p (inr h) = let m = has_second one ps p h in (m.0, inr m.1)

pub has_places : (ps : List ℕ) (p : PlacePair) → Has (place_pairs ps) p → Has ps p.one × Has ps p.two
has_places [] p h = absurd h
has_places (q ∷ ps) p h =
    elim (has_append_cases (map (λ r. record { one = q; two = r }) ps) (place_pairs ps) p h) [
      | inl m ↦ let s = has_second q ps p m in (inl (sym s.0), inr s.1)
      | inr m ↦ let s = has_places ps p m in (inr s.0, inr s.1)
    ]

row_lower : (one : ℕ) (ps : List ℕ) → Rises (λ x y. x < y) ps → Rises IsLower (map (λ q. record { one = one; two = q }) ps)
row_lower one [] r = tt
row_lower one (q ∷ ps) r = (λ p h. let m = has_second one ps p h in inr (sym m.0, r.0 p.two m.1), row_lower one ps r.1)

pub pairs_rise : (ps : List ℕ) → Rises (λ x y. x < y) ps → Rises IsLower (place_pairs ps)
pairs_rise [] r = tt
pairs_rise (q ∷ ps) r =
    rises_append IsLower (map (λ s. record { one = q; two = s }) ps) (place_pairs ps) (row_lower q ps r.1) (pairs_rise ps r.1)
    (λ x y h k. let m = has_second q ps x h in let n = has_places ps y k in inl (subst (λ z. z < y.one) (sym m.0) (r.0 y.one n.0)))

pub places_rise : (regions : List Region) → HaveRisingPlaces regions → Rises (λ x y. x < y) (map (λ r. r.place) regions)
places_rise regions p = rises_map (λ x y. x < y) (λ (r : Region). r.place) regions (rises_from_pairs (λ (r s : Region). r.place < s.place) regions p)

keys_of : (p : PlacePair) (regions : List Region) (view : View) (spots : List Spot) (o : Option Pair) (x : Pair) → Tells regions view p spots o → o ≡ Some x → (x.one ≡ p.one) × (x.two ≡ p.two)
keys_of p regions view spots None x t e = absurd (cc)
keys_of p regions view spots (Some y) x t e = let same : y ≡ x = cc in subst (λ (z : Pair). (z.one ≡ p.one) × (z.two ≡ p.two)) same (t.one, t.two)

chosen_same : {X Y : Type 0} (f g : X → Option Y) (xs : List X) → ((x : X) → f x ≡ g x) → filter_map f xs ≡ filter_map g xs
chosen_same f g [] h = refl
chosen_same f g (x ∷ xs) h = ap (λ o. cons_option o (filter_map f xs)) (h x) ∙ ap (λ l. cons_option (g x) l) (chosen_same f g xs h)

-- where each pair is split so, the report of all is made of two
pub split_reports : (regions : List Region) (view : View) (all xs ys : List Spot) → HaveRisingPlaces regions → ((p : PlacePair) → IsSplit regions view p all xs ys)
    → merged (report_of regions view xs) (report_of regions view ys) ≡ report_of regions view all
split_reports regions view all xs ys rising split =
    let ps = place_pairs (map (λ r. r.place) regions) in
    merged_maps (λ p. pair_on regions view p xs) (λ p. pair_on regions view p ys) (λ p x e. keys_of p regions view xs (pair_on regions view p xs) x (told regions view p xs) e)
    (λ p x e. keys_of p regions view ys (pair_on regions view p ys) x (told regions view p ys) e) ps (pairs_rise (map (λ r. r.place) regions) (places_rise regions rising))
    ∙ chosen_same (λ p. combined (pair_on regions view p xs) (pair_on regions view p ys)) (λ p. pair_on regions view p all) ps (λ p. sym (split p).pair)

pub reports_of_kinds : (regions : List Region) (view : View) (a b : Spot → Bool) → HaveRisingPlaces regions → AreApart view a b
    → merged (report_of regions view (spots_where view a)) (report_of regions view (spots_where view b)) ≡ report_of regions view (spots_where view (either a b))
reports_of_kinds regions view a b rising apart =
    split_reports regions view (spots_where view (either a b)) (spots_where view a) (spots_where view b) rising
    (λ p. split_kinds regions view p a b (spots_of (whole_span view)) (spots_rise (whole_span view)) (λ s h. let m = in_span (whole_span view) s h in apart s.column s.row (omega (arith, m.3)) (omega (arith, m.1))))

pub reports_behind : (regions : List Region) (view : View) (xs ys : List Spot) → HaveRisingPlaces regions → ((s t : Spot) → Has xs s → Has ys t → IsBefore s t)
    → merged (report_of regions view xs) (report_of regions view ys) ≡ report_of regions view (xs ++ ys)
reports_behind regions view xs ys rising before = split_reports regions view (xs ++ ys) xs ys rising (λ p. split_behind regions view p xs ys before)

pub merged_adds_up : (first second : List Pair) → AddUp first second (merged first second)
merged_adds_up first second regions view a b rising apart one two = ap (λ l. merged l second) one ∙ ap (λ l. merged (report_of regions view (spots_where view a)) l) two ∙ reports_of_kinds regions view a b rising apart

pub adds_up : (first second both : List Pair) → both ≡ merged first second → AddUp first second both
adds_up first second both e = subst (AddUp first second) (sym e) (merged_adds_up first second)

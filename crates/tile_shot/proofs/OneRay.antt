-- The report of one ray is its list of overlaps.
use Rattle.std.proofs.Common.{◌≡◌, ◌<◌, ℕ, zero, suc, List, [], ◌∷◌, length, map, find, Bool, true, false, cond, Option, Some, None, is_some, slice_get, All, ap, sym, ◌∙◌, subst, refl, inl, inr, arith}
use Rattle.std.specs.List.{filter_map, cons_option}
use Rattle.std.proofs.lemmas.Bool.{cond-true, cond-false}
use Rattle.std.proofs.lemmas.Bool.Decides.{nat_tests}
use Rattle.bool_weave.proofs.Sorted.{Has, has_append_left, has_append_right, contains_from_has}
use Rattle.overlap_list.specs.declared.overlap.OverlapRun.{OverlapRun}
use Rattle.overlap_list.specs.declared.overlap.CheckFault.{CheckFault}
use Rattle.overlap_list.specs.Overlaps.{IsTooMany}
use Rattle.overlap_list.proofs.Overlapping.{more_too_many}
use Rattle.std.proofs.lemmas.List.{length-map}
use Rattle.overlap_list.specs.Laws.{HasLowerPlaces, AreByPlace}
use Rattle.overlap_list.proofs.Ordered.{Rises, rises_map, rises_weaker}
use Rattle.overlap_list.proofs.Parts.{overlaps_are_in_order}
use Rattle.lattice_core.specs.declared.view.View.{View}
use Rattle.lattice_core.specs.declared.ray.Ray.{Ray}
use Rattle.lattice_core.specs.Views.{pixel_ray}
use Rattle.shot_core.specs.declared.pair.Pair.{Pair}
use Rattle.shot_core.specs.Regions.{Region}
use Rattle.shot_core.specs.Shots.{woven_of, claims_on, overlaps_on}
use Rattle.shot_core.specs.Pruned.{place_of, by_place}
use Rattle.shot_core.proofs.Claiming.{claims_length}
use Rattle.tile_shot.specs.Reports.{Spot, CheckedRay, PlacePair, place_pairs, is_of_pair, run_of, rays_of, pair_at, pair_of, report_of, HaveRisingPlaces}
use Rattle.tile_shot.specs.Merges.{merged}
use Rattle.tile_shot.specs.RaySteps.{pair_on_ray, pair_by_place}
use Rattle.tile_shot.proofs.Merging.{IsLower, rises_from_pairs, no_fewer_than_second}
use Rattle.tile_shot.proofs.Reporting.{pairs_rise, places_rise}

pub all_member : {X : Type 0} (P : X → Type 0) (xs : List X) (x : X) → All P xs → Has xs x → P x
all_member P xs x all h = let c = contains_from_has xs x h in subst P c.2 (all c.0 x c.1)

abbrev HasKey : PlacePair → OverlapRun → Type 0
HasKey p r = (r.one ≡ p.one) × (r.two ≡ p.two)

of_key : (p : PlacePair) (r : OverlapRun) → HasKey p r → is_of_pair p r ≡ true
of_key p r k = grind (arith, nat_tests)

of_lower : (p q : PlacePair) (r : OverlapRun) → HasKey q r → IsLower p q → is_of_pair p r ≡ false
of_lower p q r k h = grind (arith, nat_tests)

of_higher : (p q : PlacePair) (r : OverlapRun) → HasKey p r → IsLower p q → is_of_pair q r ≡ false
of_higher p q r k h = grind (arith, nat_tests)

lower_chain : (p q : PlacePair) (r s : OverlapRun) → IsLower p q → HasKey q r → HasLowerPlaces r s → is_of_pair p s ≡ false
lower_chain p q r s h k l = grind (arith, nat_tests)

not_itself : (p : PlacePair) (r s : OverlapRun) → HasKey p r → HasKey p s → HasLowerPlaces r s → ⊥
not_itself p r s k l (inl lt) = omega (arith, lt, k.0, l.0)
not_itself p r s k l (inr h) = omega (arith, h.1, k.1, l.1)

not_below : (p q : PlacePair) (r s : OverlapRun) → IsLower p q → HasKey q r → HasKey p s → HasLowerPlaces r s → ⊥
not_below p q r s (inl a) k l (inl b) = omega (arith, a, b, k.0, l.0)
not_below p q r s (inl a) k l (inr b) = omega (arith, a, b.0, k.0, l.0)
not_below p q r s (inr a) k l (inl b) = omega (arith, a.0, b, k.0, l.0)
not_below p q r s (inr a) k l (inr b) = omega (arith, a.1, b.1, k.1, l.1)

pub find_none : {X : Type 0} (test : X → Bool) (xs : List X) → ((x : X) → Has xs x → test x ≡ false) → find test xs ≡ None
find_none test [] h = refl
find_none test (x ∷ xs) h = cond-false (test x) (Some x) (find test xs) (h x (inl refl)) ∙ find_none test xs (λ y m. h y (inr m))

chosen_alike : {X Y : Type 0} (f g : X → Option Y) (xs : List X) → ((x : X) → Has xs x → f x ≡ g x) → filter_map f xs ≡ filter_map g xs
chosen_alike f g [] h = refl
chosen_alike f g (x ∷ xs) h = ap (λ o. cons_option o (filter_map f xs)) (h x (inl refl)) ∙ ap (λ l. cons_option (g x) l) (chosen_alike f g xs (λ y m. h y (inr m)))

-- each run is of one of the pairs
abbrev AreOf : List PlacePair → List OverlapRun → Type 0
AreOf ps runs = (r : OverlapRun) → Has runs r → (p : PlacePair) × Has ps p × HasKey p r

rest_here : (p : PlacePair) (ps : List PlacePair) (r : OverlapRun) (runs : List OverlapRun) → Rises HasLowerPlaces (r ∷ runs) → HasKey p r → (s : OverlapRun) → Has runs s
    → (z : PlacePair) → Has (p ∷ ps) z → HasKey z s → (w : PlacePair) × Has ps w × HasKey w s
rest_here p ps r runs b here s h z (inl e) k = absurd (not_itself p r s here (subst (λ v. HasKey v s) (sym e) k) (b.0 s h))
rest_here p ps r runs b here s h z (inr m) k = (z, m, k)

module _ (p : PlacePair) (ps : List PlacePair) (r : OverlapRun) (runs : List OverlapRun) (a : Rises IsLower (p ∷ ps)) (b : Rises HasLowerPlaces (r ∷ runs)) (q : PlacePair) (later : Has ps q) (key : HasKey q r) where
  none_later : (s : OverlapRun) → Has (r ∷ runs) s → is_of_pair p s ≡ false
  none_later s (inl e) = subst (λ v. is_of_pair p v ≡ false) e (of_lower p q r key (a.0 q later))
  none_later s (inr h) = lower_chain p q r s (a.0 q later) key (b.0 s h)

  rest_later : (s : OverlapRun) → Has (r ∷ runs) s → (z : PlacePair) → Has (p ∷ ps) z → HasKey z s → (w : PlacePair) × Has ps w × HasKey w s
  rest_later s (inl e) z m k = (q, later, subst (λ v. HasKey q v) e key)
  rest_later s (inr h) z (inl e) k = absurd (not_below p q r s (a.0 q later) key (subst (λ v. HasKey v s) (sym e) k) (b.0 s h))
  rest_later s (inr h) z (inr m) k = (z, m, k)

module _ (spot : Spot) where
  abbrev picked : List OverlapRun → PlacePair → Option Pair
  picked runs p = pair_at 1 spot (find (is_of_pair p) runs)

  pick_step : (p : PlacePair) (ps : List PlacePair) (r : OverlapRun) (runs : List OverlapRun) → Rises IsLower (p ∷ ps) → Rises HasLowerPlaces (r ∷ runs) → AreOf (p ∷ ps) (r ∷ runs)
      → (q : PlacePair) → Has (p ∷ ps) q → HasKey q r
      → (AreOf ps runs → filter_map (picked runs) ps ≡ map (pair_on_ray spot) runs) → (AreOf ps (r ∷ runs) → filter_map (picked (r ∷ runs)) ps ≡ map (pair_on_ray spot) (r ∷ runs))
      → filter_map (picked (r ∷ runs)) (p ∷ ps) ≡ map (pair_on_ray spot) (r ∷ runs)
  pick_step p ps r runs a b of q (inl same) key more again =
      let here : HasKey p r = subst (λ z. HasKey z r) (sym same) key in
      ap (λ o. cons_option (pair_at 1 spot o) (filter_map (picked (r ∷ runs)) ps)) (cond-true (is_of_pair p r) (Some r) (find (is_of_pair p) runs) (of_key p r here))
      ∙ ap (λ l. pair_on_ray spot r ∷ l) (chosen_alike (picked (r ∷ runs)) (picked runs) ps (λ z h. ap (pair_at 1 spot) (cond-false (is_of_pair z r) (Some r) (find (is_of_pair z) runs) (of_higher p z r here (a.0 z h))))
      ∙ more (λ s h. let k = of s (inr h) in rest_here p ps r runs b here s h k.0 k.1 k.2))
  pick_step p ps r runs a b of q (inr later) key more again =
      ap (λ o. cons_option (pair_at 1 spot o) (filter_map (picked (r ∷ runs)) ps)) (find_none (is_of_pair p) (r ∷ runs) (none_later p ps r runs a b q later key))
      ∙ again (λ s h. let k = of s h in rest_later p ps r runs a b q later key s h k.0 k.1 k.2)

  pick : (ps : List PlacePair) (runs : List OverlapRun) → Rises IsLower ps → Rises HasLowerPlaces runs → AreOf ps runs → filter_map (picked runs) ps ≡ map (pair_on_ray spot) runs
  pick [] [] a b of = refl
  pick [] (r ∷ runs) a b of = let k = of r (inl refl) in absurd k.1
  pick (p ∷ ps) [] a b of = pick ps [] a.1 b (λ r h. absurd h)
  pick (p ∷ ps) (r ∷ runs) a b of = let k = of r (inl refl) in pick_step p ps r runs a b of k.0 k.1 k.2 (pick ps runs a.1 b.1) (pick ps (r ∷ runs) a.1 b)

one_go : (p : PlacePair) (ray : CheckedRay) (o : Option OverlapRun) → run_of p ray ≡ o → pair_of p (cond (is_some o) (ray ∷ []) []) ≡ pair_at 1 ray.spot o
one_go p ray None e = refl
one_go p ray (Some run) e = ap (pair_at 1 ray.spot) e

-- numbers of regions by their places
pub region_at : (rs : List Region) (j : ℕ) → j < length rs → (r : Region) × Has rs r × (slice_get rs j ≡ Some r)
region_at [] j lt = absurd (omega (arith, lt))
region_at (r ∷ rs) zero lt = (r, inl refl, refl)
region_at (r ∷ rs) (suc j) lt = let m = region_at rs j (omega (arith, lt)) in (m.0, inr m.1, m.2)

pub place_rises : (rs : List Region) (i j : ℕ) → Rises (λ (r s : Region). r.place < s.place) rs → i < j → j < length rs → place_of (slice_get rs i) < place_of (slice_get rs j)
place_rises [] i j rises lt within = absurd (omega (arith, within))
place_rises (r ∷ rs) i zero rises lt within = absurd (omega (arith, lt))
place_rises (r ∷ rs) zero (suc j) rises lt within = let m = region_at rs j (omega (arith, within)) in subst (λ o. r.place < place_of o) (sym m.2) (rises.0 m.0 m.1)
place_rises (r ∷ rs) (suc i) (suc j) rises lt within = place_rises rs i j rises.1 (omega (arith, lt)) (omega (arith, within))

abbrev pub places : List Region → List ℕ
places rs = map (λ r. r.place) rs

abbrev pub two_places : ℕ → ℕ → PlacePair
two_places one two = record { one = one; two = two }

has_in_row : (one : ℕ) (rs : List Region) (j : ℕ) → j < length rs → Has (map (two_places one) (places rs)) (two_places one (place_of (slice_get rs j)))
has_in_row one [] j lt = absurd (omega (arith, lt))
has_in_row one (r ∷ rs) zero lt = inl refl
has_in_row one (r ∷ rs) (suc j) lt = inr (has_in_row one rs j (omega (arith, lt)))

has_pair : (rs : List Region) (i j : ℕ) → i < j → j < length rs → Has (place_pairs (places rs)) (two_places (place_of (slice_get rs i)) (place_of (slice_get rs j)))
has_pair [] i j lt within = absurd (omega (arith, within))
has_pair (r ∷ rs) i zero lt within = absurd (omega (arith, lt))
has_pair (r ∷ rs) zero (suc j) lt within = has_append_left (map (two_places r.place) (places rs)) (place_pairs (places rs)) _ (has_in_row r.place rs j (omega (arith, within)))
has_pair (r ∷ rs) (suc i) (suc j) lt within = has_append_right (map (two_places r.place) (places rs)) (place_pairs (places rs)) _ (has_pair rs i j (omega (arith, lt)) (omega (arith, within)))

module _ (regions : List Region) (rising : HaveRisingPlaces regions) (runs : List OverlapRun) (in_order : AreByPlace (length regions) runs) where
  rises : Rises (λ (r s : Region). r.place < s.place) regions
  rises = rises_from_pairs (λ (r s : Region). r.place < s.place) regions rising

  within : (r : OverlapRun) → Has runs r → (r.one < r.two) × (r.two < length regions)
  within r h = all_member (λ (x : OverlapRun). (x.one < x.two) × (x.two < length regions)) runs r in_order.pairs h

  lower_by_place : (a b : OverlapRun) → Has runs a → Has runs b → HasLowerPlaces a b → HasLowerPlaces (by_place regions a) (by_place regions b)
  lower_by_place a b h k (inl lt) = let v = within b k in inl (place_rises regions a.one b.one rises lt (omega (arith, v.0, v.1)))
  lower_by_place a b h k (inr e) = let v = within b k in inr (ap (λ n. place_of (slice_get regions n)) e.0, place_rises regions a.two b.two rises e.1 v.1)

  named_rise : Rises HasLowerPlaces (map (by_place regions) runs)
  named_rise = rises_map HasLowerPlaces (by_place regions) runs (rises_weaker HasLowerPlaces (λ x y. HasLowerPlaces (by_place regions x) (by_place regions y)) runs lower_by_place (rises_from_pairs HasLowerPlaces runs in_order.rising))

  named : (xs : List OverlapRun) → ((r : OverlapRun) → Has xs r → Has runs r) → AreOf (place_pairs (places regions)) (map (by_place regions) xs)
  named [] sub r h = absurd h
  named (x ∷ xs) sub r (inl e) =
      let v = within x (sub x (inl refl)) in
      subst (λ z. (p : PlacePair) × Has (place_pairs (places regions)) p × HasKey p z) e (two_places (place_of (slice_get regions x.one)) (place_of (slice_get regions x.two)), has_pair regions x.one x.two v.0 v.1, (refl, refl))
  named (x ∷ xs) sub r (inr h) = named xs (λ y m. sub y (inr m)) r h

  pub picked_all : (spot : Spot) → filter_map (λ p. pair_at 1 spot (find (is_of_pair p) (map (by_place regions) runs))) (place_pairs (places regions)) ≡ map (pair_on_ray spot) (map (by_place regions) runs)
  picked_all spot = pick spot (place_pairs (places regions)) (map (by_place regions) runs) (pairs_rise (places regions) (places_rise regions rising)) named_rise (named runs (λ r h. h))

map_both : {X Y Z : Type 0} (f : X → Y) (g : Y → Z) (xs : List X) → map g (map f xs) ≡ map (λ x. g (f x)) xs
map_both f g [] = refl
map_both f g (x ∷ xs) = ap (λ l. g (f x) ∷ l) (map_both f g xs)

pub in_order_on : (regions : List Region) (ray : Ray) → AreByPlace (length regions) (overlaps_on regions ray)
in_order_on regions ray = subst (λ n. AreByPlace n (overlaps_on regions ray)) (claims_length (woven_of regions ray) 0 regions) (overlaps_are_in_order (woven_of regions ray) (claims_on regions ray))

pub one_ray : (regions : List Region) (view : View) (column row : ℕ) → HaveRisingPlaces regions
    → report_of regions view (record { column = column; row = row } ∷ []) ≡ map (pair_by_place regions column row) (overlaps_on regions (pixel_ray view column row))
one_ray regions view column row rising =
    let spot : Spot = record { column = column; row = row } in
    let runs = overlaps_on regions (pixel_ray view column row) in
    let ray : CheckedRay = record { spot = spot; runs = map (by_place regions) runs } in
    chosen_alike (λ p. pair_of p (rays_of p (ray ∷ []))) (λ p. pair_at 1 spot (find (is_of_pair p) (map (by_place regions) runs))) (place_pairs (places regions)) (λ p h. one_go p ray (run_of p ray) refl)
    ∙ picked_all regions rising runs (in_order_on regions (pixel_ray view column row)) spot
    ∙ map_both (by_place regions) (pair_on_ray spot) runs

module _ (regions : List Region) (view : View) (column row : ℕ) (ray : Ray) (rising : HaveRisingPlaces regions) (ray_is : ray ≡ pixel_ray view column row) where
  abbrev here : Spot
  here = record { column = column; row = row }

  pub report_from : (runs : List OverlapRun) (more : List Pair) → runs ≡ overlaps_on regions ray → more ≡ map (pair_by_place regions column row) runs → more ≡ report_of regions view (here ∷ [])
  report_from runs more runs_are more_are =
      more_are ∙ ap (map (pair_by_place regions column row)) (runs_are ∙ ap (overlaps_on regions) ray_is) ∙ sym (one_ray regions view column row rising)

  pub none_on_ray : (runs : List OverlapRun) → runs ≡ overlaps_on regions ray → length runs ≡ 0 → report_of regions view (here ∷ []) ≡ []
  none_on_ray [] runs_are none = sym (report_from [] [] runs_are refl)
  none_on_ray (r ∷ rs) runs_are none = absurd (omega (arith, none))

  pub ray_too_many : (pairs : List Pair) (fault : CheckFault) → IsTooMany (length (overlaps_on regions ray)) fault → IsTooMany (length (merged pairs (report_of regions view (here ∷ [])))) fault
  ray_too_many pairs fault many =
      more_too_many (length (overlaps_on regions ray)) (length (merged pairs (report_of regions view (here ∷ [])))) fault
      (omega (
        arith,
        no_fewer_than_second pairs (report_of regions view (here ∷ [])),
        length-map (overlaps_on regions ray) (pair_by_place regions column row),
        ap length (report_from (overlaps_on regions ray) (map (pair_by_place regions column row) (overlaps_on regions ray)) refl refl),
      )) many

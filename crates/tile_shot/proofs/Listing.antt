-- What the pairs of a report are, and how many there are.
use Rattle.std.proofs.Common.{◌≡◌, ◌<◌, ◌≤◌, ◌^◌, ℕ, suc, List, [], ◌∷◌, ◌++◌, length, map, filter, Bool, true, false, cond, Option, Some, None, is_some, All, Any, ap, sym, ◌∙◌, subst, refl, inl, inr, arith}
use Rattle.std.specs.List.{filter_map, cons_option}
use Rattle.std.proofs.lemmas.Bool.{cases_Bool, cond-true, cond-false}
use Rattle.std.proofs.lemmas.Nat.{mul-le}
use Rattle.std.proofs.lemmas.List.{length-map, length-append, map-append}
use Rattle.std.proofs.lemmas.List.Elements.{filter-append}
use Rattle.bool_weave.proofs.Sorted.{Has, has_append_cases, contains_from_has}
use Rattle.overlap_list.proofs.Ordered.{Rises, has_chosen, rises_chosen, all_from_has, pairs_from_rises}
use Rattle.lattice_core.specs.declared.view.View.{View}
use Rattle.lattice_core.specs.Views.{IsChecked}
use Rattle.ppm_write.specs.Pictures.{whole_span}
use Rattle.shot_core.specs.declared.pair.Pair.{Pair}
use Rattle.shot_core.specs.Regions.{Region}
use Rattle.tile_shot.specs.Reports.{Spot, spots_of, checked_ray, PlacePair, place_pairs, run_of, rays_of, pair_of, report_of, view_report, spots_where, HaveRisingPlaces}
use Rattle.tile_shot.specs.Merges.{HasLowerPair, ArePairs}
use Rattle.tile_shot.specs.ReportLaws.{IsReported}
use Rattle.tile_shot.proofs.Merging.{IsLower}
use Rattle.tile_shot.proofs.Spotting.{length_spots}
use Rattle.tile_shot.proofs.Reporting.{pair_on, rays_at, Tells, IsTold, told, has_second, has_places, pairs_rise, places_rise}

filter_short : {X : Type 0} (p : X → Bool) (xs : List X) → length (filter p xs) ≤ length xs
filter_short p [] = omega arith
filter_short p (x ∷ xs) =
    elim (cases_Bool (p x)) [
      | inl kept ↦ subst (λ (l : List _). length l ≤ suc (length xs)) (sym (cond-true (p x) (x ∷ filter p xs) (filter p xs) kept)) (omega (arith, filter_short p xs))
      | inr gone ↦ subst (λ (l : List _). length l ≤ suc (length xs)) (sym (cond-false (p x) (x ∷ filter p xs) (filter p xs) gone)) (omega (arith, filter_short p xs))
    ]

-- as many or fewer are chosen where none is chosen alone
fewer_step : {X Y : Type 0} (f g : X → Option Y) (xs : List X) (a b : Option Y) → (is_some a ≡ true → is_some b ≡ true) → length (filter_map f xs) ≤ length (filter_map g xs)
    → length (cons_option a (filter_map f xs)) ≤ length (cons_option b (filter_map g xs))
fewer_step f g xs None None h le = le
fewer_step f g xs None (Some y) h le = omega (arith, le)
fewer_step f g xs (Some x) None h le = absurd (let e = h refl in cc)
fewer_step f g xs (Some x) (Some y) h le = omega (arith, le)

fewer_chosen : {X Y : Type 0} (f g : X → Option Y) (xs : List X) → ((x : X) → is_some (f x) ≡ true → is_some (g x) ≡ true) → length (filter_map f xs) ≤ length (filter_map g xs)
fewer_chosen f g [] h = omega arith
fewer_chosen f g (x ∷ xs) h = fewer_step f g xs (f x) (g x) (h x) (fewer_chosen f g xs h)

told_some : (regions : List Region) (view : View) (p : PlacePair) (xs ys : List Spot) (a b : Option Pair) → Tells regions view p xs a → Tells regions view p ys b
    → length (rays_at regions view p xs) ≤ length (rays_at regions view p ys) → is_some a ≡ true → is_some b ≡ true
told_some regions view p xs ys None b t u le e = absurd (cc)
told_some regions view p xs ys (Some x) None t u le e = absurd (omega (arith, t.some, t.rays, u, le))
told_some regions view p xs ys (Some x) (Some y) t u le e = refl

pub fewer_pairs : (regions : List Region) (view : View) (xs ys : List Spot) → ((p : PlacePair) → length (rays_at regions view p xs) ≤ length (rays_at regions view p ys))
    → length (report_of regions view xs) ≤ length (report_of regions view ys)
fewer_pairs regions view xs ys h =
    fewer_chosen (λ p. pair_on regions view p xs) (λ p. pair_on regions view p ys) (place_pairs (map (λ r. r.place) regions))
    (λ p e. told_some regions view p xs ys (pair_on regions view p xs) (pair_on regions view p ys) (told regions view p xs) (told regions view p ys) (h p) e)

pub fewer_in_front : (regions : List Region) (view : View) (xs ys : List Spot) → length (report_of regions view xs) ≤ length (report_of regions view (xs ++ ys))
fewer_in_front regions view xs ys =
    fewer_pairs regions view xs (xs ++ ys)
    (λ p. omega (
      arith,
      ap (λ l. length (rays_of p l)) (map-append (checked_ray regions view) xs ys),
      ap length (filter-append (λ ray. is_some (run_of p ray)) (map (checked_ray regions view) xs) (map (checked_ray regions view) ys)),
      length-append (rays_at regions view p xs) (rays_at regions view p ys),
    ))

module _ (regions : List Region) (view : View) (p : PlacePair) (a : Spot → Bool) where
  one_less : (s : Spot) (spots : List Spot) (b : Bool) → length (rays_at regions view p (filter a spots)) ≤ length (rays_at regions view p spots)
      → length (rays_at regions view p (cond b (s ∷ filter a spots) (filter a spots))) ≤ length (rays_at regions view p (s ∷ spots))
  one_less s spots true le =
      elim (cases_Bool (is_some (run_of p (checked_ray regions view s)))) [
        | inl hit ↦ omega (
          arith,
          le,
          ap length (cond-true (is_some (run_of p (checked_ray regions view s))) (checked_ray regions view s ∷ rays_at regions view p (filter a spots)) (rays_at regions view p (filter a spots)) hit),
          ap length (cond-true (is_some (run_of p (checked_ray regions view s))) (checked_ray regions view s ∷ rays_at regions view p spots) (rays_at regions view p spots) hit),
        )
        | inr missed ↦ omega (
          arith,
          le,
          ap length (cond-false (is_some (run_of p (checked_ray regions view s))) (checked_ray regions view s ∷ rays_at regions view p (filter a spots)) (rays_at regions view p (filter a spots)) missed),
          ap length (cond-false (is_some (run_of p (checked_ray regions view s))) (checked_ray regions view s ∷ rays_at regions view p spots) (rays_at regions view p spots) missed),
        )
      ]
  one_less s spots false le =
      elim (cases_Bool (is_some (run_of p (checked_ray regions view s)))) [
        | inl hit ↦ omega (arith, le, ap length (cond-true (is_some (run_of p (checked_ray regions view s))) (checked_ray regions view s ∷ rays_at regions view p spots) (rays_at regions view p spots) hit))
        | inr missed ↦ omega (arith, le, ap length (cond-false (is_some (run_of p (checked_ray regions view s))) (checked_ray regions view s ∷ rays_at regions view p spots) (rays_at regions view p spots) missed))
      ]

  pub fewer_of_kind : (spots : List Spot) → length (rays_at regions view p (filter a spots)) ≤ length (rays_at regions view p spots)
  fewer_of_kind [] = omega arith
  fewer_of_kind (s ∷ spots) = one_less s spots (a s) (fewer_of_kind spots)

pub parts_have_fewer : (regions : List Region) (view : View) (a : Spot → Bool) → length (report_of regions view (spots_where view a)) ≤ length (view_report regions view)
parts_have_fewer regions view a = fewer_pairs regions view (spots_where view a) (spots_of (whole_span view)) (λ p. fewer_of_kind regions view p a (spots_of (whole_span view)))

-- no pair has more rays than there are pixels
rays_short : (regions : List Region) (view : View) (p : PlacePair) (spots : List Spot) → length (rays_at regions view p spots) ≤ length spots
rays_short regions view p spots = omega (arith, filter_short (λ ray. is_some (run_of p ray)) (map (checked_ray regions view) spots), length-map spots (checked_ray regions view))

told_is : (regions : List Region) (view : View) (p : PlacePair) (spots : List Spot) (o : Option Pair) (x : Pair) → Tells regions view p spots o → o ≡ Some x → IsTold regions view p spots x
told_is regions view p spots None x t e = absurd (cc)
told_is regions view p spots (Some y) x t e = let same : y ≡ x = cc in subst (IsTold regions view p spots) same t

pub told_of : (regions : List Region) (view : View) (p : PlacePair) (spots : List Spot) (x : Pair) → pair_on regions view p spots ≡ Some x → IsTold regions view p spots x
told_of regions view p spots x e = told_is regions view p spots (pair_on regions view p spots) x (told regions view p spots) e

lower_keys : (p q : PlacePair) (x y : Pair) → IsLower p q → (x.one ≡ p.one) × (x.two ≡ p.two) → (y.one ≡ q.one) × (y.two ≡ q.two) → HasLowerPair x y
lower_keys p q x y (inl lt) k l = inl (omega (arith, lt, k.0, l.0))
lower_keys p q x y (inr h) k l = inr (omega (arith, h.0, k.0, l.0), omega (arith, h.1, k.1, l.1))

pub are_pairs : (regions : List Region) (view : View) (spots : List Spot) → HaveRisingPlaces regions → length spots < 2 ^ 31 → ArePairs (report_of regions view spots)
are_pairs regions view spots rising few =
    let ps = place_pairs (map (λ r. r.place) regions) in
    record {
      rising = pairs_from_rises HasLowerPair (report_of regions view spots) (rises_chosen IsLower HasLowerPair (λ p. pair_on regions view p spots) ps
          (λ p q x y lower e d. let t = told_of regions view p spots x e in let u = told_of regions view q spots y d in lower_keys p q x y lower (t.one, t.two) (u.one, u.two))
          (pairs_rise (map (λ r. r.place) regions) (places_rise regions rising)));
      rays = all_from_has (λ (x : Pair). x.rays < 2 ^ 31) (report_of regions view spots) (λ x h.
          let c = has_chosen (λ p. pair_on regions view p spots) ps x h in
          let t = told_of regions view c.0 spots x c.2 in
          omega (arith, t.rays, few, rays_short regions view c.0 spots));
    }

pub whole_few : (view : View) → IsChecked view → length (spots_of (whole_span view)) ≤ 4194304
whole_few view checked = omega (arith, length_spots (whole_span view), mul-le view.h view.w 2048 2048 checked.rows.1 checked.columns.1)

pub kinds_are_pairs : (regions : List Region) (view : View) (a : Spot → Bool) → HaveRisingPlaces regions → IsChecked view → ArePairs (report_of regions view (spots_where view a))
kinds_are_pairs regions view a rising checked = are_pairs regions view (spots_where view a) rising (omega (arith, whole_few view checked, filter_short a (spots_of (whole_span view))))

-- the places of a pair are those of two regions
place_has : (regions : List Region) (n : ℕ) → Has (map (λ r. r.place) regions) n → (r : Region) × Has regions r × (r.place ≡ n)
place_has [] n h = absurd h
place_has (r ∷ rs) n (inl e) = (r, inl refl, e)
place_has (r ∷ rs) n (inr h) = let m = place_has rs n h in (m.0, inr m.1, m.2)

place_any : (regions : List Region) (n m : ℕ) → n ≡ m → Has (map (λ r. r.place) regions) m → Any (λ r. r.place ≡ n) regions
place_any regions n m same h = let x = place_has regions m h in let c = contains_from_has regions x.0 x.1 in (c.0, x.0, c.1, c.2, x.2 ∙ sym same)

pub pairs_lower : (ps : List ℕ) (p : PlacePair) → Rises (λ x y. x < y) ps → Has (place_pairs ps) p → p.one < p.two
pairs_lower [] p r h = absurd h
pairs_lower (q ∷ ps) p r h =
    elim (has_append_cases (map (λ x. record { one = q; two = x }) ps) (place_pairs ps) p h) [
      | inl m ↦ let s = has_second q ps p m in subst (λ z. z < p.two) (sym s.0) (r.0 p.two s.1)
      | inr m ↦ pairs_lower ps p r.1 m
    ]

pub reported : (regions : List Region) (view : View) (spots : List Spot) → HaveRisingPlaces regions → All (IsReported regions (length spots)) (report_of regions view spots)
reported regions view spots rising =
    let ps = map (λ r. r.place) regions in
    all_from_has (IsReported regions (length spots)) (report_of regions view spots) (λ x h.
    let c = has_chosen (λ p. pair_on regions view p spots) (place_pairs ps) x h in
    let t = told_of regions view c.0 spots x c.2 in
    let places = has_places ps c.0 c.1 in
    let lower = pairs_lower ps c.0 (places_rise regions rising) c.1 in
    record {
      one = place_any regions x.one c.0.one t.one places.0;
      two = place_any regions x.two c.0.two t.two places.1;
      order = omega (arith, lower, t.one, t.two);
      some = t.some;
      most = omega (arith, t.rays, rays_short regions view c.0 spots);
    })

-- there are no pairs on no rays, nor of no regions
none_chosen : (ps : List PlacePair) → filter_map (λ (p : PlacePair). pair_of p []) ps ≡ []
none_chosen [] = refl
none_chosen (p ∷ ps) = none_chosen ps

pub no_rays : (regions : List Region) (view : View) → report_of regions view [] ≡ []
no_rays regions view = none_chosen (place_pairs (map (λ r. r.place) regions))

pub no_regions : (regions : List Region) (view : View) (spots : List Spot) → length regions ≡ 0 → report_of regions view spots ≡ []
no_regions [] view spots none = refl
no_regions (r ∷ rs) view spots none = absurd (omega (arith, none))

-- The regions that are kept for a tile have the tile's report of all regions.
use Rattle.std.proofs.Common.{◌≡◌, ◌<◌, ℕ, List, [], ◌∷◌, ◌++◌, length, map, filter, Bool, true, false, cond, Option, None, is_some, slice_get, ap, sym, ◌∙◌, subst, refl, inl, inr, arith}
use Rattle.std.specs.List.{filter_map, cons_option}
use Rattle.std.proofs.lemmas.Bool.{cases_Bool}
use Rattle.std.proofs.lemmas.Bool.Decides.{nat_tests}
use Rattle.std.proofs.lemmas.List.Elements.{filter_map-append}
use Rattle.bool_weave.proofs.Sorted.{Has}
use Rattle.bool_weave.proofs.Middles.{has_filtered}
use Rattle.overlap_list.specs.declared.overlap.OverlapRun.{OverlapRun}
use Rattle.overlap_list.proofs.Ordered.{Rises}
use Rattle.lattice_core.specs.declared.view.View.{View}
use Rattle.lattice_core.specs.declared.ray.Ray.{Ray}
use Rattle.lattice_core.specs.Views.{pixel_ray}
use Rattle.lattice_core.specs.Tiles.{span_of}
use Rattle.shot_core.specs.declared.pair.Pair.{Pair}
use Rattle.shot_core.specs.Regions.{Region}
use Rattle.shot_core.specs.RegionBoxes.{region_box}
use Rattle.shot_core.specs.Shots.{overlaps_on}
use Rattle.shot_core.specs.Pruned.{place_of, by_place, overlaps_by_place, meets_tile, KeptOverlapTheSame}
use Rattle.shot_core.specs.Candidates.{is_candidate, CandidatesOverlapTheSame}
use Rattle.tile_shot.specs.Reports.{Spot, spots_of, CheckedRay, checked_ray, PlacePair, place_pairs, is_of_pair, run_of, rays_of, pair_of, report_on, report_of, HaveRisingPlaces}
use Rattle.tile_shot.specs.ReportLaws.{KeptHaveTheSameReport, CandidatesHaveTheSameReport}
use Rattle.tile_shot.proofs.Merging.{rises_from_pairs}
use Rattle.tile_shot.proofs.Spotting.{in_span}
use Rattle.tile_shot.proofs.OneRay.{all_member, region_at, places, two_places, find_none, in_order_on}
use Rattle.tile_shot.proofs.Parting.{filter_none}

-- what is chosen where no pair of a region that is left out is
module _ (f : PlacePair → Option Pair) (keep : Region → Bool) where
  row_step : (one : ℕ) (r : Region) (rs : List Region) (b : Bool) → (b ≡ false → f (two_places one r.place) ≡ None)
      → filter_map f (map (two_places one) (places (filter keep rs))) ≡ filter_map f (map (two_places one) (places rs))
      → filter_map f (map (two_places one) (places (cond b (r ∷ filter keep rs) (filter keep rs)))) ≡ filter_map f (map (two_places one) (places (r ∷ rs)))
  row_step one r rs true h more = ap (λ l. cons_option (f (two_places one r.place)) l) more
  row_step one r rs false h more = more ∙ sym (ap (λ o. cons_option o (filter_map f (map (two_places one) (places rs)))) (h refl))

  row_kept : (one : ℕ) (rs : List Region) → ((r : Region) → Has rs r → keep r ≡ false → f (two_places one r.place) ≡ None)
      → filter_map f (map (two_places one) (places (filter keep rs))) ≡ filter_map f (map (two_places one) (places rs))
  row_kept one [] h = refl
  row_kept one (r ∷ rs) h = row_step one r rs (keep r) (h r (inl refl)) (row_kept one rs (λ s m. h s (inr m)))

  row_none : (one : ℕ) (rs : List Region) → ((y : ℕ) → f (two_places one y) ≡ None) → filter_map f (map (two_places one) (places rs)) ≡ []
  row_none one [] h = refl
  row_none one (r ∷ rs) h = ap (λ o. cons_option o (filter_map f (map (two_places one) (places rs)))) (h r.place) ∙ row_none one rs h

  pairs_step : (r : Region) (rs : List Region) (b : Bool) → (b ≡ false → (y : ℕ) → f (two_places r.place y) ≡ None) → ((s : Region) → Has rs s → keep s ≡ false → f (two_places r.place s.place) ≡ None)
      → filter_map f (place_pairs (places (filter keep rs))) ≡ filter_map f (place_pairs (places rs))
      → filter_map f (place_pairs (places (cond b (r ∷ filter keep rs) (filter keep rs)))) ≡ filter_map f (place_pairs (places (r ∷ rs)))
  pairs_step r rs true h k more =
      filter_map-append f (map (two_places r.place) (places (filter keep rs))) (place_pairs (places (filter keep rs)))
      ∙ ap (λ l. l ++ filter_map f (place_pairs (places (filter keep rs)))) (row_kept r.place rs k)
      ∙ ap (λ l. filter_map f (map (two_places r.place) (places rs)) ++ l) more
      ∙ sym (filter_map-append f (map (two_places r.place) (places rs)) (place_pairs (places rs)))
  pairs_step r rs false h k more =
      more ∙ sym (filter_map-append f (map (two_places r.place) (places rs)) (place_pairs (places rs)) ∙ ap (λ l. l ++ filter_map f (place_pairs (places rs))) (row_none r.place rs (h refl)))

  pairs_kept : (rs : List Region) → ((r : Region) → Has rs r → keep r ≡ false → (y : ℕ) → (f (two_places r.place y) ≡ None) × (f (two_places y r.place) ≡ None))
      → filter_map f (place_pairs (places (filter keep rs))) ≡ filter_map f (place_pairs (places rs))
  pairs_kept [] h = refl
  pairs_kept (r ∷ rs) h =
      pairs_step r rs (keep r) (λ e y. (h r (inl refl) e y).0) (λ s m e. (h s (inr m) e r.place).1) (pairs_kept rs (λ s m e y. h s (inr m) e y))

-- a place of a region that is left out is none of those that are kept
kept_go : (keep : Region → Bool) (x : Region) (xs : List Region) (s : Region) (b : Bool) → keep x ≡ b → (Has (filter keep xs) s → keep s ≡ true) → Has (cond b (x ∷ filter keep xs) (filter keep xs)) s → keep s ≡ true
kept_go keep x xs s true e more (inl same) = subst (λ r. keep r ≡ true) same e
kept_go keep x xs s true e more (inr h) = more h
kept_go keep x xs s false e more h = more h

is_kept : (keep : Region → Bool) (xs : List Region) (s : Region) → Has (filter keep xs) s → keep s ≡ true
is_kept keep [] s h = absurd h
is_kept keep (x ∷ xs) s h = kept_go keep x xs s (keep x) refl (is_kept keep xs s) h

only_one : (xs : List Region) (r s : Region) → Rises (λ (a b : Region). a.place < b.place) xs → Has xs r → Has xs s → r.place ≡ s.place → r ≡ s
only_one [] r s rises h k e = absurd h
only_one (x ∷ xs) r s rises (inl a) (inl b) e = sym a ∙ b
only_one (x ∷ xs) r s rises (inl a) (inr k) e = absurd (omega (arith, rises.0 s k, e, ap (λ (z : Region). z.place) a))
only_one (x ∷ xs) r s rises (inr h) (inl b) e = absurd (omega (arith, rises.0 r h, e, ap (λ (z : Region). z.place) b))
only_one (x ∷ xs) r s rises (inr h) (inr k) e = only_one xs r s rises.1 h k e

place_is : (xs : List Region) (n : ℕ) → Has (places xs) n → (r : Region) × Has xs r × (r.place ≡ n)
place_is [] n h = absurd h
place_is (x ∷ xs) n (inl e) = (x, inl refl, e)
place_is (x ∷ xs) n (inr h) = let m = place_is xs n h in (m.0, inr m.1, m.2)

left_out : (keep : Region → Bool) (xs : List Region) (r : Region) → Rises (λ (a b : Region). a.place < b.place) xs → Has xs r → keep r ≡ false → Has (places (filter keep xs)) r.place → ⊥
left_out keep xs r rises h gone m =
    let s = place_is (filter keep xs) r.place m in
    let same : s.0 ≡ r = only_one xs s.0 r rises (has_filtered keep xs s.0 s.1) h s.2 in
    let stays : keep r ≡ true = subst (λ z. keep z ≡ true) same (is_kept keep xs s.0 s.1) in
    cc (sym stays ∙ gone)

-- the runs of a ray are of places of the regions
place_has : (rs : List Region) (r : Region) → Has rs r → Has (places rs) r.place
place_has [] r h = absurd h
place_has (x ∷ xs) r (inl e) = inl (ap (λ (z : Region). z.place) e)
place_has (x ∷ xs) r (inr h) = inr (place_has xs r h)

numbered : (rs : List Region) (n : ℕ) → n < length rs → Has (places rs) (place_of (slice_get rs n))
numbered rs n lt = let m = region_at rs n lt in subst (λ o. Has (places rs) (place_of o)) (sym m.2) (place_has rs m.0 m.1)

run_is : (rs : List Region) (runs : List OverlapRun) (run : OverlapRun) → Has (map (by_place rs) runs) run → (x : OverlapRun) × Has runs x × (by_place rs x ≡ run)
run_is rs [] run h = absurd h
run_is rs (x ∷ xs) run (inl e) = (x, inl refl, e)
run_is rs (x ∷ xs) run (inr h) = let m = run_is rs xs run h in (m.0, inr m.1, m.2)

named_runs : (rs : List Region) (ray : Ray) (run : OverlapRun) → Has (overlaps_by_place rs ray) run → Has (places rs) run.one × Has (places rs) run.two
named_runs rs ray run h =
    let m = run_is rs (overlaps_on rs ray) run h in
    let w = all_member (λ (x : OverlapRun). (x.one < x.two) × (x.two < length rs)) (overlaps_on rs ray) m.0 (in_order_on rs ray).pairs m.1 in
    subst (λ z. Has (places rs) z.one × Has (places rs) z.two) m.2 (numbered rs m.0.one (omega (arith, w.0, w.1)), numbered rs m.0.two w.1)

other_one : (p : PlacePair) (run : OverlapRun) → (run.one ≡ p.one → ⊥) → is_of_pair p run ≡ false
other_one p run h = elim (cases_Bool (is_of_pair p run)) [ inl so ↦ absurd (h (grind (arith, nat_tests))) | inr differs ↦ differs ]

other_two : (p : PlacePair) (run : OverlapRun) → (run.two ≡ p.two → ⊥) → is_of_pair p run ≡ false
other_two p run h = elim (cases_Bool (is_of_pair p run)) [ inl so ↦ absurd (h (grind (arith, nat_tests))) | inr differs ↦ differs ]

no_rays_of : (p : PlacePair) (rays : List CheckedRay) → ((ray : CheckedRay) → Has rays ray → run_of p ray ≡ None) → pair_of p (rays_of p rays) ≡ None
no_rays_of p rays h = ap (pair_of p) (filter_none (λ ray. is_some (run_of p ray)) rays (λ ray m. ap is_some (h ray m)))

ray_is : (rs : List Region) (view : View) (spots : List Spot) (ray : CheckedRay) → Has (map (checked_ray rs view) spots) ray → (s : Spot) × (checked_ray rs view s ≡ ray)
ray_is rs view [] ray h = absurd h
ray_is rs view (s ∷ spots) ray (inl e) = (s, e)
ray_is rs view (s ∷ spots) ray (inr h) = ray_is rs view spots ray h

module _ (rs : List Region) (view : View) (spots : List Spot) (x : ℕ) (none : Has (places rs) x → ⊥) where
  none_as_one : (y : ℕ) → pair_of (two_places x y) (rays_of (two_places x y) (map (checked_ray rs view) spots)) ≡ None
  none_as_one y =
      no_rays_of (two_places x y) (map (checked_ray rs view) spots) (λ ray h.
      let m = ray_is rs view spots ray h in
      subst (λ z. run_of (two_places x y) z ≡ None) m.1 (find_none (is_of_pair (two_places x y)) (overlaps_by_place rs (pixel_ray view m.0.column m.0.row))
      (λ run k. other_one (two_places x y) run (λ e. none (subst (Has (places rs)) e (named_runs rs (pixel_ray view m.0.column m.0.row) run k).0)))))

  none_as_two : (y : ℕ) → pair_of (two_places y x) (rays_of (two_places y x) (map (checked_ray rs view) spots)) ≡ None
  none_as_two y =
      no_rays_of (two_places y x) (map (checked_ray rs view) spots) (λ ray h.
      let m = ray_is rs view spots ray h in
      subst (λ z. run_of (two_places y x) z ≡ None) m.1 (find_none (is_of_pair (two_places y x)) (overlaps_by_place rs (pixel_ray view m.0.column m.0.row))
      (λ run k. other_two (two_places y x) run (λ e. none (subst (Has (places rs)) e (named_runs rs (pixel_ray view m.0.column m.0.row) run k).1)))))

map_alike : {X Y : Type 0} (f g : X → Y) (xs : List X) → ((x : X) → Has xs x → f x ≡ g x) → map f xs ≡ map g xs
map_alike f g [] h = refl
map_alike f g (x ∷ xs) h = ap (λ y. y ∷ map f xs) (h x (inl refl)) ∙ ap (λ l. g x ∷ l) (map_alike f g xs (λ y m. h y (inr m)))

-- where those that are kept overlap as all do, they have the same report
pub kept_report : (keep : Region → Bool) (regions : List Region) (view : View) (spots : List Spot) → HaveRisingPlaces regions
    → ((s : Spot) → Has spots s → overlaps_by_place (filter keep regions) (pixel_ray view s.column s.row) ≡ overlaps_by_place regions (pixel_ray view s.column s.row))
    → report_of (filter keep regions) view spots ≡ report_of regions view spots
kept_report keep regions view spots rising overlaps =
    let kept = filter keep regions in
    let rays = map (checked_ray kept view) spots in
    let rises = rises_from_pairs (λ (r s : Region). r.place < s.place) regions rising in
    let same : rays ≡ map (checked_ray regions view) spots =
    map_alike (checked_ray kept view) (checked_ray regions view) spots (λ s h. ap (λ runs. let ray : CheckedRay = record { spot = s; runs = runs } in ray) (overlaps s h)) in
    pairs_kept (λ p. pair_of p (rays_of p rays)) keep regions (λ r h gone y. (
      none_as_one kept view spots r.place (left_out keep regions r rises h gone) y,
      none_as_two kept view spots r.place (left_out keep regions r rises h gone) y,
    ))
    ∙ ap (report_on (places regions)) same

pub kept_have_the_same : KeptOverlapTheSame → KeptHaveTheSameReport
kept_have_the_same overlaps regions view tile instances placed rising checked there =
    kept_report (λ r. meets_tile (region_box r.body) view tile) regions view (spots_of (span_of view tile)) rising (λ s h.
    let m = in_span (span_of view tile) s h in
    overlaps regions view tile s.column s.row (record {
      instances = instances;
      placed = placed;
      checked = checked;
      in_view = there;
      in_tile = record { from_column = m.2; to_column = m.3; from_row = m.0; to_row = m.1 };
    }))

pub candidates_have_the_same : CandidatesOverlapTheSame → CandidatesHaveTheSameReport
candidates_have_the_same overlaps regions view spots scene instances placed =
    kept_report (is_candidate regions) regions view spots scene.rising (λ s h. overlaps regions (pixel_ray view s.column s.row) scene instances placed)

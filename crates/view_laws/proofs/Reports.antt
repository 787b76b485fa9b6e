-- A report tells which regions overlap at points of the rays, on how many, and on which first.
use Rattle.std.proofs.Common.{◌≡◌, ◌<◌, ◌↔◌, ℕ, suc, List, [], ◌∷◌, length, get_or, slice_get, map, filter, find, Bool, true, false, cond, ◌==◌, Option, Some, None, is_some, ap, sym, ◌∙◌, subst, refl, inl, inr, arith}
use Rattle.std.proofs.lemmas.Bool.{cases_Bool, cases_lt, cond-true, cond-false, true≢false, and_from, eq-eqb}
use Rattle.std.proofs.lemmas.Option.{slice_get_within, get_or_from_slice_get}
use Rattle.lattice_core.specs.declared.ray.Ray.{Ray}
use Rattle.lattice_core.specs.declared.view.View.{View}
use Rattle.lattice_core.specs.Views.{pixel_ray}
use Rattle.surd_order.specs.Spelling.{IsSpelled}
use Rattle.bool_weave.proofs.Cutting.{place_from}
use Rattle.bool_weave.proofs.Sorted.{Has, has_from_contains, contains_from_has, has_append_left, has_append_right}
use Rattle.overlap_list.specs.declared.overlap.OverlapRun.{OverlapRun}
use Rattle.overlap_list.proofs.FirstRuns.{overlaps_are_first}
use Rattle.overlap_list.proofs.Ordered.{Rises, all_from_has, pairs_from_rises, has_chosen, chosen_has, rises_chosen}
use Rattle.shot_core.specs.declared.pair.Pair.{Pair}
use Rattle.shot_core.specs.OverlapPoints.{IsTrueOverlap}
use Rattle.shot_core.specs.Pruned.{place_of, by_place, overlaps_by_place}
use Rattle.shot_core.specs.Regions.{Region, HaveInstances}
use Rattle.shot_core.specs.Shots.{woven_of, claims_on, overlaps_on}
use Rattle.shot_core.specs.Steps.{no_region}
use Rattle.shot_core.proofs.ResultLaws.{rows_from}
use Rattle.shot_core.proofs.OverlapTruth.{overlaps_tell_points}
use Rattle.shot_core.proofs.Pointing.{any_from, any_to, has_mapped, on_ray as on_cut}
use Rattle.tile_shot.specs.Merges.{HasLowerPair}
use Rattle.tile_shot.specs.Reports.{Spot, CheckedRay, checked_ray, PlacePair, place_pairs, is_of_pair, run_of, pair_of, report_of, HaveRisingPlaces}
use Rattle.tile_shot.proofs.Listing.{told_of, pairs_lower}
use Rattle.tile_shot.proofs.Merging.{IsLower}
use Rattle.tile_shot.proofs.Reporting.{run_keys, at_spot, rays_at, pair_on, made, skipped, taken, taken_pair, pairs_rise, places_rise}
use Rattle.view_laws.specs.ReportPoints.{OverlapSomewhere, IsWhereFirst, IsTruePair, IsTrueReport}
use Rattle.view_laws.proofs.Free.{free_between}
use Rattle.view_laws.proofs.LeftOut.{mapped_has}
use Rattle.view_laws.proofs.Pixels.{found_has}

-- lists and what is found in them
some_found : {X : Type 0} (test : X → Bool) (xs : List X) (x : X) → Has xs x → test x ≡ true → is_some (find test xs) ≡ true
some_found test [] x there is = absurd there
some_found test (y ∷ ys) x (inl e) is = ap is_some (cond-true (test y) (Some y) (find test ys) (ap test e ∙ is))
some_found test (y ∷ ys) x (inr there) is = elim (cases_Bool (test y)) [
  | inl yes_ ↦ ap is_some (cond-true (test y) (Some y) (find test ys) yes_)
  | inr no_ ↦ ap is_some (cond-false (test y) (Some y) (find test ys) no_) ∙ some_found test ys x there is
]

one_of : {X : Type 0} (o : Option X) → is_some o ≡ true → (x : X) × (o ≡ Some x)
one_of None e = absurd (true≢false (sym e))
one_of (Some x) e = (x, refl)

counted_step : {X Y : Type 0} (b : Bool) (x : X) (y : Y) (xs : List X) (ys : List Y) → length ys ≡ length xs → length (cond b (y ∷ ys) ys) ≡ length (cond b (x ∷ xs) xs)
counted_step true x y xs ys e = ap (λ n. suc n) e
counted_step false x y xs ys e = e

counted : {X Y : Type 0} (test : Y → Bool) (f : X → Y) (xs : List X) → length (filter test (map f xs)) ≡ length (filter (λ x. test (f x)) xs)
counted test f [] = refl
counted test f (x ∷ xs) = counted_step (test (f x)) x (f x) (filter (λ z. test (f z)) xs) (filter test (map f xs)) (counted test f xs)

same_some : {X : Type 0} (x y : X) → ◌≡◌ {A = Option X} (Some x) (Some y) → x ≡ y
same_some x y e = cc

no_some : {X : Type 0} (x : X) → ◌≡◌ {A = Option X} None (Some x) → ⊥
no_some x e = cc

-- pairs of places
second_has : (one two : ℕ) (ps : List ℕ) → Has ps two → Has (map (λ q. let p : PlacePair = record { one = one; two = q } in p) ps) (record { one = one; two = two })
second_has one two [] h = absurd h
second_has one two (p ∷ ps) (inl e) = inl (ap (λ q. let p : PlacePair = record { one = one; two = q } in p) e)
second_has one two (p ∷ ps) (inr h) = inr (second_has one two ps h)

pair_has : (ps : List ℕ) (one two : ℕ) → Rises (λ x y. x < y) ps → Has ps one → Has ps two → one < two → Has (place_pairs ps) (record { one = one; two = two })
pair_has [] one two rises h k lt = absurd h
pair_has (p ∷ ps) one two rises (inl e) (inl d) lt = absurd (omega (arith, e, d, lt))
pair_has (p ∷ ps) one two rises (inl e) (inr k) lt =
    has_append_left (map (λ q. record { one = p; two = q }) ps) (place_pairs ps) (record { one = one; two = two })
    (subst (λ n. Has (map (λ q. let r : PlacePair = record { one = n; two = q } in r) ps) (record { one = one; two = two })) (sym e) (second_has one two ps k))
pair_has (p ∷ ps) one two rises (inr h) (inl d) lt = let above = rises.0 one h in absurd (omega (arith, above, d, lt))
pair_has (p ∷ ps) one two rises (inr h) (inr k) lt = has_append_right (map (λ q. record { one = p; two = q }) ps) (place_pairs ps) (record { one = one; two = two }) (pair_has ps one two rises.1 h k lt)

-- a region of a higher number has a higher place, and the other way round
pub place_rises : (regions : List Region) (i j : ℕ) (r s : Region) → HaveRisingPlaces regions → slice_get regions i ≡ Some r → slice_get regions j ≡ Some s → i < j → r.place < s.place
place_rises regions i j r s rising at at' lt =
    let back = rising i j no_region lt (slice_get_within regions j s at') in
    let one : get_or regions i no_region ≡ r = get_or_from_slice_get regions i r no_region at in
    let two : get_or regions j no_region ≡ s = get_or_from_slice_get regions j s no_region at' in
    subst (λ (q : Region). r.place < q.place) two (subst (λ (q : Region). q.place < (get_or regions j no_region).place) one back)

number_rises : (regions : List Region) (i j : ℕ) (r s : Region) → HaveRisingPlaces regions → slice_get regions i ≡ Some r → slice_get regions j ≡ Some s → r.place < s.place → i < j
number_rises regions i j r s rising at at' lt =
    elim (cases_lt i j) [
      | inl less ↦ less
      | inr ge ↦ elim (cases_lt j i) [
        | inl more ↦ let back = place_rises regions j i s r rising at' at more in absurd (omega (arith, lt, back))
        | inr le ↦
            let e : i ≡ j = omega (arith, ge, le) in
            let same : r ≡ s = same_some r s (sym at ∙ ap (slice_get regions) e ∙ at') in
            absurd (omega (arith, subst (λ (q : Region). r.place < q.place) (sym same) lt))
      ]
    ]

pub number_same : (regions : List Region) (i j : ℕ) (r s : Region) → HaveRisingPlaces regions → slice_get regions i ≡ Some r → slice_get regions j ≡ Some s → r.place ≡ s.place → i ≡ j
number_same regions i j r s rising at at' same =
    elim (cases_lt i j) [
      | inl less ↦ let up = place_rises regions i j r s rising at at' less in absurd (omega (arith, same, up))
      | inr ge ↦ elim (cases_lt j i) [
        | inl more ↦ let up = place_rises regions j i s r rising at' at more in absurd (omega (arith, same, up))
        | inr le ↦ omega (arith, ge, le)
      ]
    ]

told_place : (regions : List Region) (n : ℕ) (r : Region) (place : ℕ) → slice_get regions n ≡ Some r → place_of (slice_get regions n) ≡ place → r.place ≡ place
told_place regions n r place at is = sym (ap place_of at) ∙ is

module _ (regions : List Region) (view : View) (rising : HaveRisingPlaces regions) (below : HaveInstances regions) where
  abbrev ray_at : Spot → Ray
  ray_at s = pixel_ray view s.column s.row

  -- a pair that is found on a ray
  module _ (pair : PlacePair) (s : Spot) where
    abbrev ray : Ray
    ray = ray_at s

    record IsFoundOn (run : OverlapRun) : Type 0 where
      own : OverlapRun
      first : IsTrueOverlap regions (ray_at s) own
      start : IsSpelled own.start
      end : IsSpelled own.end
      is : by_place regions own ≡ run

    found_on : (run : OverlapRun) → at_spot regions view pair s ≡ Some run → IsFoundOn run
    found_on run e =
        let there = found_has (is_of_pair pair) (overlaps_by_place regions ray) run e in
        let own = has_mapped (by_place regions) (overlaps_on regions ray) run there in
        let c = contains_from_has (overlaps_on regions ray) own.0 own.1 in
        let woven = woven_of regions ray in
        let part = (overlaps_are_first woven (claims_on regions ray) (rows_from woven 0 regions) own.0).0 c in
        record {
          own = own.0;
          first = subst (IsTrueOverlap regions ray) c.2 ((overlaps_tell_points regions ray below).each c.0 own.0 c.1);
          start = subst IsSpelled (sym part.start) (on_cut regions ray below part.run.from (omega (arith, part.some, part.within))).spelled;
          end = subst IsSpelled (sym part.end) (on_cut regions ray below part.run.to part.within).spelled;
          is = own.2;
        }

    tells_from : (run : OverlapRun) → at_spot regions view pair s ≡ Some run → OverlapSomewhere regions ray pair.one pair.two
    tells_from run e =
        let f = found_on run e in
        let keys = run_keys pair (checked_ray regions view s) run e in
        let x = free_between regions ray f.own.start f.own.end (place_from f.own.start f.start) (place_from f.own.end f.end) f.first.begun f.first.not_ended f.first.forward in
        let both = f.first.between x.p x.q x.on x.free x.after x.before in
        record {
          p = x.p;
          q = x.q;
          on_ray = x.on;
          free = x.free;
          first_number = f.own.one;
          second_number = f.own.two;
          both = both;
          first_place = told_place regions f.own.one both.first pair.one both.first_there (ap (λ (r : OverlapRun). r.one) f.is ∙ keys.0);
          second_place = told_place regions f.own.two both.second pair.two both.second_there (ap (λ (r : OverlapRun). r.two) f.is ∙ keys.1);
        }

    tells_to : pair.one < pair.two → OverlapSomewhere regions ray pair.one pair.two → is_some (at_spot regions view pair s) ≡ true
    tells_to lt h =
        let order : h.first_number < h.second_number =
        number_rises regions h.first_number h.second_number h.both.first h.both.second rising h.both.first_there h.both.second_there (omega (arith, lt, h.first_place, h.second_place)) in
        let run = any_to (λ (o : OverlapRun). (o.one ≡ h.first_number) × (o.two ≡ h.second_number)) (overlaps_on regions ray)
        ((overlaps_tell_points regions ray below).all h.p h.q h.first_number h.second_number h.on_ray h.free order h.both) in
        let one : place_of (slice_get regions run.0.one) ≡ pair.one = ap (λ n. place_of (slice_get regions n)) run.2.0 ∙ ap place_of h.both.first_there ∙ h.first_place in
        let two : place_of (slice_get regions run.0.two) ≡ pair.two = ap (λ n. place_of (slice_get regions n)) run.2.1 ∙ ap place_of h.both.second_there ∙ h.second_place in
        some_found (is_of_pair pair) (overlaps_by_place regions ray) (by_place regions run.0) (mapped_has (by_place regions) (overlaps_on regions ray) run.0 run.1)
        (and_from (place_of (slice_get regions run.0.one) == pair.one) (place_of (slice_get regions run.0.two) == pair.two) (eq-eqb _ _ one) (eq-eqb _ _ two))

    tells : pair.one < pair.two → (is_some (at_spot regions view pair s) ≡ true) ↔ OverlapSomewhere regions ray pair.one pair.two
    tells lt = (λ is. let run = one_of (at_spot regions view pair s) is in tells_from run.0 run.1, λ h. tells_to lt h)

  -- the first of some pixels on whose rays a pair is found
  module _ (pair : PlacePair) where
    abbrev overlap : Spot → Bool
    overlap s = is_some (at_spot regions view pair s)

    record IsMadeAt (spots : List Spot) (x : Pair) : Type 0 where
      spot : Spot
      run : OverlapRun
      found : find overlap spots ≡ Some spot
      at : at_spot regions view pair spot ≡ Some run
      is : x ≡ made regions view pair spot run (length (rays_at regions view pair spots))

    made_step : (s : Spot) (spots : List Spot) (x : Pair) (o : Option OverlapRun) → at_spot regions view pair s ≡ o → (pair_on regions view pair spots ≡ Some x → IsMadeAt spots x)
        → pair_on regions view pair (s ∷ spots) ≡ Some x → IsMadeAt (s ∷ spots) x
    made_step s spots x None none rest e =
        let m = rest (sym (ap (pair_of pair) (skipped regions view pair s spots none)) ∙ e) in
        record {
          spot = m.spot;
          run = m.run;
          found = cond-false (overlap s) (Some s) (find overlap spots) (ap is_some none) ∙ m.found;
          at = m.at;
          is = m.is ∙ ap (λ (l : List CheckedRay). made regions view pair m.spot m.run (length l)) (sym (skipped regions view pair s spots none));
        }
    made_step s spots x (Some run) some rest e = record {
      spot = s;
      run = run;
      found = cond-true (overlap s) (Some s) (find overlap spots) (ap is_some some);
      at = some;
      is = same_some x _ (sym e ∙ taken_pair regions view pair s spots run some) ∙ ap (λ (l : List CheckedRay). made regions view pair s run (length l)) (sym (taken regions view pair s spots run some));
    }

    made_at : (spots : List Spot) (x : Pair) → pair_on regions view pair spots ≡ Some x → IsMadeAt spots x
    made_at [] x e = absurd (no_some x e)
    made_at (s ∷ spots) x e = made_step s spots x (at_spot regions view pair s) refl (λ h. made_at spots x h) e

    -- a pair that is found on the ray of some pixel is in the report
    some_step : (s t : Spot) (spots : List Spot) (o : Option OverlapRun) → at_spot regions view pair s ≡ o → overlap t ≡ true → Has (s ∷ spots) t
        → (Has spots t → (x : Pair) × (pair_on regions view pair spots ≡ Some x)) → (x : Pair) × (pair_on regions view pair (s ∷ spots) ≡ Some x)
    some_step s t spots (Some run) e is has rest = (made regions view pair s run (suc (length (rays_at regions view pair spots))), taken_pair regions view pair s spots run e)
    some_step s t spots None e is (inl same) rest = absurd (true≢false (sym is ∙ ap overlap (sym same) ∙ ap is_some e))
    some_step s t spots None e is (inr has) rest = let x = rest has in (x.0, ap (pair_of pair) (skipped regions view pair s spots e) ∙ x.1)

    some_pair : (t : Spot) (spots : List Spot) → overlap t ≡ true → Has spots t → (x : Pair) × (pair_on regions view pair spots ≡ Some x)
    some_pair t [] is has = absurd has
    some_pair t (s ∷ spots) is has = some_step s t spots (at_spot regions view pair s) refl is has (λ h. some_pair t spots is h)

    true_pair : (spots : List Spot) (x : Pair) → pair.one < pair.two → pair_on regions view pair spots ≡ Some x → IsTruePair regions view spots x
    true_pair spots x lt e =
        let m = made_at spots x e in
        let keys = run_keys pair (checked_ray regions view m.spot) m.run m.at in
        let one : x.one ≡ pair.one = ap (λ (y : Pair). y.one) m.is ∙ keys.0 in
        let two : x.two ≡ pair.two = ap (λ (y : Pair). y.two) m.is ∙ keys.1 in
        let f = found_on pair m.spot m.run m.at in
        record {
          order = omega (arith, lt, one, two);
          overlap = overlap;
          tells = λ s. subst (λ n. (overlap s ≡ true) ↔ OverlapSomewhere regions (ray_at s) n x.two) (sym one)
              (subst (λ n. (overlap s ≡ true) ↔ OverlapSomewhere regions (ray_at s) pair.one n) (sym two) (tells pair s lt));
          rays = ap (λ (y : Pair). y.rays) m.is ∙ counted (λ (r : CheckedRay). is_some (run_of pair r)) (checked_ray regions view) spots;
          first = m.found ∙ ap (λ (y : Pair). Some (record { column = y.column; row = y.row })) (sym m.is);
          there = subst (λ (y : Pair). IsWhereFirst regions (pixel_ray view y.column y.row) y) (sym m.is) (record {
            run = f.own;
            first = f.first;
            is = f.is;
            start_spelled = subst IsSpelled (ap (λ (r : OverlapRun). r.start) f.is) f.start;
            end_spelled = subst IsSpelled (ap (λ (r : OverlapRun). r.end) f.is) f.end;
          });
        }

  abbrev places : List ℕ
  places = map (λ r. r.place) regions

  abbrev chosen : List Spot → PlacePair → Option Pair
  chosen spots pair = pair_on regions view pair spots

  place_there : (n : ℕ) (r : Region) → slice_get regions n ≡ Some r → Has places r.place
  place_there n r at = mapped_has (λ (r : Region). r.place) regions r (has_from_contains regions r (n, slice_get_within regions n r at, get_or_from_slice_get regions n r r at))

  lower_keys : (spots : List Spot) (p q : PlacePair) (x y : Pair) → IsLower p q → chosen spots p ≡ Some x → chosen spots q ≡ Some y → HasLowerPair x y
  lower_keys spots p q x y lower e d =
      let t = told_of regions view p spots x e in
      let u = told_of regions view q spots y d in
      elim lower [ inl lt ↦ inl (omega (arith, lt, t.one, u.one)) | inr h ↦ inr (omega (arith, h.0, t.one, u.one), omega (arith, h.1, t.two, u.two)) ]

  pub report_told : (spots : List Spot) → IsTrueReport regions view spots (report_of regions view spots)
  report_told spots = record {
    each = all_from_has (IsTruePair regions view spots) (report_of regions view spots) (λ x h.
        let c = has_chosen (chosen spots) (place_pairs places) x h in
        true_pair c.0 spots x (pairs_lower places c.0 (places_rise regions rising) c.1) c.2);
    rising = pairs_from_rises HasLowerPair (report_of regions view spots) (rises_chosen IsLower HasLowerPair (chosen spots) (place_pairs places) (lower_keys spots) (pairs_rise places (places_rise regions rising)));
    all = λ one two s lt there h.
        let pair : PlacePair = record { one = one; two = two } in
        let some = some_pair pair s spots (tells_to pair s lt h) (has_from_contains spots s there) in
        let told = told_of regions view pair spots some.0 some.1 in
        any_from (λ (x : Pair). (x.one ≡ one) × (x.two ≡ two)) (report_of regions view spots) some.0
        (chosen_has (chosen spots) (place_pairs places) pair some.0 some.1 (pair_has places one two (places_rise regions rising)
        (subst (Has places) h.first_place (place_there h.first_number h.both.first h.both.first_there))
        (subst (Has places) h.second_place (place_there h.second_number h.both.second h.both.second_there)) lt))
        (told.one, told.two);
  }

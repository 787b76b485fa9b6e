-- Regions whose boxes share no point overlap nowhere, so those that touch no other one may be left out.
use Rattle.std.proofs.Common.{◌≡◌, ◌≢◌, ◌<◌, ℕ, zero, suc, List, [], ◌∷◌, length, get_or, Bool, true, false, not, ◌&&◌, ◌||◌, ◌==◌, nat_lt, None, ap, sym, ◌∙◌, subst, refl, arith}
use Rattle.std.proofs.lemmas.Bool.{and_parts, and_from, ne_eqb, true≢false, false_from_ne_true}
use Rattle.std.proofs.lemmas.List.{get_or_default}
use Rattle.std.proofs.lemmas.List.Folds.{list_any_at}
use Rattle.lattice_core.specs.declared.boxes.Box3.{Box3}
use Rattle.lattice_core.specs.declared.ray.Ray.{Ray}
use Rattle.lattice_core.specs.Boxes.{Meets}
use Rattle.lattice_core.specs.Rays.{scaled_point}
use Rattle.bool_weave.proofs.Sorted.{contains_from_has}
use Rattle.overlap_list.specs.declared.region.RegionClaims.{RegionClaims}
use Rattle.overlap_list.specs.Winners.{claims_at}
use Rattle.overlap_list.specs.Overlaps.{first_overlap}
use Rattle.overlap_list.specs.Steps.{do_overlap}
use Rattle.overlap_list.proofs.Ordered.{Rises}
use Rattle.overlap_list.proofs.Overlapping.{pair_of, no_overlap}
use Rattle.shot_core.specs.declared.kept.TheConstants.{MOST_COMPARED}
use Rattle.shot_core.specs.Regions.{Region, HaveInstances, HavePlacedSolids, IsScene, has_air}
use Rattle.shot_core.specs.RegionBoxes.{region_box}
use Rattle.shot_core.specs.Shots.{woven_of, claims_on}
use Rattle.shot_core.specs.Steps.{no_region}
use Rattle.shot_core.specs.Pruned.{share_points}
use Rattle.shot_core.specs.Candidates.{do_touch, is_candidate, CandidatesOverlapTheSame}
use Rattle.shot_core.proofs.Claiming.{claims_length, claims_number}
use Rattle.shot_core.proofs.FirstShots.{claims_by_trees}
use Rattle.shot_core.proofs.InBoxes.{boxes_hold_claims}
use Rattle.shot_core.proofs.TileMeeting.{sharing_tells}
use Rattle.shot_core.proofs.KeptOverlaps.{over, GivesNone, none_at, overlaps_left}

-- what holds of each value and each later one, by their numbers
rises_at : {X : Type 0} (R : X → X → Type 0) (d : X) (xs : List X) → ((i j : ℕ) → i < j → j < length xs → R (get_or xs i d) (get_or xs j d)) → Rises R xs
rises_at R d [] h = tt
rises_at R d (x ∷ xs) h = (
  λ y m.
      let c = contains_from_has xs y m in
      subst (R x) (get_or_default xs c.0 d y c.1 ∙ c.2) (h zero (suc c.0) (omega arith) (omega (arith, c.1))),
  rises_at R d xs (λ i j lt within. h (suc i) (suc j) (omega (arith, lt)) (omega (arith, within))),
)

turn : (a b : Box3) → Meets a b → Meets b a
turn a b m = record { v = m.v; w = m.w; positive = m.positive; in_first = m.in_second; in_second = m.in_first }

touch_turned : (r s : Region) → do_touch r s ≡ true → do_touch s r ≡ true
touch_turned r s h =
    let parts = and_parts (not (has_air r.body) && not (has_air s.body)) (share_points (region_box r.body) (region_box s.body)) h in
    let airs = and_parts (not (has_air r.body)) (not (has_air s.body)) parts.0 in
    and_from _ _ (and_from _ _ airs.1 airs.0) ((sharing_tells (region_box s.body) (region_box r.body)).1 (turn (region_box r.body) (region_box s.body) ((sharing_tells (region_box r.body) (region_box s.body)).0 parts.1)))

or_true : (b : Bool) → (b || true) ≡ true
or_true true = refl
or_true false = refl

no_claims : RegionClaims
no_claims = record { air = false; first = 0; count = 0; claims = [] }

module _ (regions : List Region) (ray : Ray) (scene : IsScene regions) (leaves : HaveInstances regions) (placed : HavePlacedSolids regions) where
  abbrev region_no : ℕ → Region
  region_no n = get_or regions n no_region

  abbrev claims_no : ℕ → RegionClaims
  claims_no n = get_or (claims_on regions ray) n no_claims

  air_no : (n : ℕ) → n < length regions → not (claims_no n).air ≡ true → not (has_air (region_no n).body) ≡ true
  air_no n lt h = ap (λ (c : RegionClaims). not c.air) (sym (claims_number (woven_of regions ray) 0 regions n no_claims lt)) ∙ h

  -- two that both claim an interval touch
  touch_from : (i j k : ℕ) → i < length regions → j < length regions → do_overlap (claims_no i) (claims_no j) k ≡ true → do_touch (region_no i) (region_no j) ≡ true
  touch_from i j k li lj is =
      let both = and_parts (not (claims_no i).air && claims_at (claims_no i) k) (not (claims_no j).air && claims_at (claims_no j) k) is in
      let one = and_parts (not (claims_no i).air) (claims_at (claims_no i) k) both.0 in
      let two = and_parts (not (claims_no j).air) (claims_at (claims_no j) k) both.1 in
      let a = boxes_hold_claims regions ray i k no_claims no_region leaves placed li one.1 in
      let b = boxes_hold_claims regions ray j k no_claims no_region leaves placed lj two.1 in
      let f = a.between in
      let meets : Meets (region_box (region_no i).body) (region_box (region_no j).body) = record {
        v = scaled_point ray f.p f.q;
        w = f.q;
        positive = f.positive;
        in_first = a.points f.p f.q f.positive f.after f.before;
        in_second = b.points f.p f.q f.positive f.after f.before;
      } in
      and_from _ _ (and_from _ _ (air_no i li one.0) (air_no j lj two.0)) ((sharing_tells (region_box (region_no i).body) (region_box (region_no j).body)).1 meets)

  -- so each of them is a candidate
  candidate_by : (i j : ℕ) → j < length regions → (region_no i).place ≢ (region_no j).place → do_touch (region_no i) (region_no j) ≡ true → is_candidate regions (region_no i) ≡ true
  candidate_by i j lj apart touch =
      ap (λ b. nat_lt MOST_COMPARED (length regions) || b)
      (list_any_at (λ s. not ((region_no i).place == s.place) && do_touch (region_no i) s) regions j no_region lj
      (and_from _ _ (ap not (ne_eqb (region_no i).place (region_no j).place apart)) touch))
      ∙ or_true (nat_lt MOST_COMPARED (length regions))

  none_over : (i j : ℕ) → i < length regions → j < length regions → ((k : ℕ) → do_overlap (claims_no i) (claims_no j) k ≡ false) → over ray (region_no i, region_no j) ≡ None
  none_over i j li lj none =
      let in_one : i < length (claims_on regions ray) = omega (arith, li, claims_length (woven_of regions ray) 0 regions) in
      let in_two : j < length (claims_on regions ray) = omega (arith, lj, claims_length (woven_of regions ray) 0 regions) in
      none_at regions ray leaves i j li lj
      (ap (λ l. first_overlap (woven_of regions ray) l (pair_of i j)) (sym (claims_by_trees (woven_of regions ray) 0 regions))
      ∙ no_overlap (woven_of regions ray) (claims_on regions ray) i j (claims_no i) (claims_no j) in_one in_two
      (get_or_default (claims_on regions ray) i no_claims (claims_no i) in_one) (get_or_default (claims_on regions ray) j no_claims (claims_no j) in_two) none)

  apart : Rises (GivesNone (over ray) (is_candidate regions)) regions
  apart =
      rises_at (GivesNone (over ray) (is_candidate regions)) no_region regions
      (λ i j lt lj.
      let li : i < length regions = omega (arith, lt, lj) in
      let places : (region_no i).place < (region_no j).place = scene.rising i j no_region lt lj in (
        λ off. none_over i j li lj (λ k. false_from_ne_true _ (λ is.
            true≢false (sym (candidate_by i j lj (λ e. omega (arith, places, e)) (touch_from i j k li lj is)) ∙ off))),
        λ off. none_over i j li lj (λ k. false_from_ne_true _ (λ is.
            true≢false (sym (candidate_by j i li (λ e. omega (arith, places, e)) (touch_turned (region_no i) (region_no j) (touch_from i j k li lj is))) ∙ off))),
      ))

pub candidates_overlap_the_same : CandidatesOverlapTheSame
candidates_overlap_the_same regions ray scene leaves placed = overlaps_left regions ray leaves (is_candidate regions) (apart regions ray scene leaves placed)

-- A region that a ray may pass over claims nothing up to the best place so far, and its claim doesn't change there.
use Rattle.std.proofs.Common.{◌≡◌, ◌<◌, ◌+◌, ◌-◌, ◌⊎◌, ℕ, pos, zero, suc, ℤ, List, length, get_or, Bool, true, false, not, ◌&&◌, Some, None, Contains, ap, sym, ◌∙◌, subst, refl, inl, inr, arith}
use Rattle.std.specs.Ordering.{is_lt}
use Rattle.std.specs.declared.cmp.Ordering.{Ordering}
use Rattle.std.specs.declared.cmp.Ordering.TheVariants.{Less, Equal, Greater}
use Rattle.std.proofs.lemmas.Bool.{cases_lt, true≢false, false_from_ne_true}
use Rattle.std.proofs.lemmas.Int.{ints}
use Rattle.std.proofs.lemmas.List.{get_or_default, get_or-map}
use Rattle.lattice_core.specs.declared.boxes.Side.{Side}
use Rattle.lattice_core.specs.declared.boxes.Side.TheVariants.{Open, At}
use Rattle.lattice_core.specs.declared.ray.Ray.{Ray}
use Rattle.lattice_core.specs.Boxes.{MeetsRay}
use Rattle.surd_order.specs.declared.position.Pos.{Pos}
use Rattle.surd_order.specs.declared.position.Pos.TheVariants.{Frac}
use Rattle.surd_order.specs.Order.{Precedes}
use Rattle.surd_order.specs.PlaceOrder.{place_cmp}
use Rattle.surd_order.specs.Spelling.{IsSpelled}
use Rattle.surd_order.proofs.OrderLaws.{asymmetric, transitive}
use Rattle.bool_weave.specs.declared.woven.Woven.{Woven}
use Rattle.bool_weave.specs.Cuts.{ray_start, places_of, cuts_of}
use Rattle.bool_weave.specs.Claims.{intervals_of, is_before, claims_interval}
use Rattle.bool_weave.specs.Tables.{interval_at}
use Rattle.bool_weave.specs.Behind.{claims_behind, claims_before, AreSpelled}
use Rattle.bool_weave.proofs.Sorted.{Has, has_from_contains}
use Rattle.bool_weave.proofs.Cutting.{turned, tied_same, place_from, precedes_from, start_is_place, end_is_place}
use Rattle.bool_weave.proofs.Behind.{among_cuts, places_spelled, claimed_behind, claimed_before, before_first, behind_last, before_through, claims_begin_at_ends}
use Rattle.bool_weave.proofs.Claimed.{intervals_length, intervals_at}
use Rattle.overlap_list.specs.declared.region.RegionClaims.{RegionClaims}
use Rattle.overlap_list.specs.Hits.{differ, cut_at}
use Rattle.first_hit.specs.declared.front.Front.{Front}
use Rattle.shot_core.specs.Regions.{Region, HaveInstances, HavePlacedSolids, has_air}
use Rattle.shot_core.specs.RegionBoxes.{IsNotBefore, IsBehind, HoldsPart, near_side}
use Rattle.shot_core.specs.Shots.{woven_of}
use Rattle.shot_core.specs.Steps.{no_region}
use Rattle.first_hit.specs.FirstSteps.{first_no, body_no, box_no, own_no, solid_no, changes_beside, IsBeforeSide, IsPassed}
use Rattle.shot_core.proofs.Claiming.{claims_number, no_claims}
use Rattle.shot_core.proofs.FirstShots.{woven_spelled, own_segments_tell}
use Rattle.shot_core.proofs.InBoxes.{boxes_hold_claims}

-- a place that is not behind one that lies before a side lies before it too
up_to_side : (near : ℤ) (r : Ordering) (x z : Pos) → place_cmp x z ≡ r → IsSpelled x → IsSpelled z → Precedes x (Frac near (pos 1)) → is_before x z ≡ false → Precedes z (Frac near (pos 1))
up_to_side near Less x z e sx sz before up = absurd (true≢false (sym (ap is_lt e) ∙ up))
up_to_side near Equal x z e sx sz before up = subst (λ y. Precedes y (Frac near (pos 1))) (tied_same x z sx sz e) before
up_to_side near Greater x z e sx sz before up = transitive z x (Frac near (pos 1)) (place_from x sx) (omega (arith, ints)) (precedes_from z x sz sx (turned x z Greater e)) before

pub not_behind : (side : Side) (x z : Pos) → IsSpelled x → IsSpelled z → IsBeforeSide side x → is_before x z ≡ false → IsBeforeSide side z
not_behind Open x z sx sz before up = before
not_behind (At near) x z sx sz before up = up_to_side near (place_cmp x z) x z refl sx sz before up

-- a place before a side is not one that the box has
never_begun : (side : Side) (z : Pos) → IsBeforeSide side z → IsNotBefore side z → ⊥
never_begun Open z before begun = before
never_begun (At near) z before begun = begun before

never_entered : (side : Side) (x : Pos) → IsSpelled x → IsBeforeSide side x → IsBehind side x → ⊥
never_entered Open x sx before behind = before
never_entered (At near) x sx before behind = asymmetric x (Frac near (pos 1)) (place_from x sx) (omega (arith, ints)) before behind

none_of : (b : Bool) → (b && false) ≡ false
none_of true = refl
none_of false = refl

module _ (regions : List Region) (ray : Ray) (n : ℕ) (below : HaveInstances regions) (placed : HavePlacedSolids regions) (lt : n < length regions) where
  abbrev woven : List Woven
  woven = woven_of regions ray

  spelled : AreSpelled (woven_of regions ray)
  spelled = woven_spelled regions ray

  -- what the region claims behind or before a place, by its own segments
  abbrev behind : Pos → Bool
  behind x = claims_behind (own_no regions ray n) (body_no regions n).tree (first_no regions n) x

  abbrev before : Pos → Bool
  before x = claims_before (own_no regions ray n) (body_no regions n).tree (first_no regions n) x

  -- an interval that it claims lies in its box
  held : (k : ℕ) → k + 1 < length (cuts_of (woven_of regions ray)) → claims_interval (woven_of regions ray) (body_no regions n).tree (first_no regions n) (interval_at (cuts_of (woven_of regions ray)) k) ≡ true
      → HoldsPart (box_no regions n) ray (cut_at (woven_of regions ray) k) (cut_at (woven_of regions ray) (k + 1))
  held k within is =
      let f = claims_interval (woven_of regions ray) (body_no regions n).tree (first_no regions n) in
      let d = interval_at (cuts_of (woven_of regions ray)) k in
      let inside : k < length (intervals_of (woven_of regions ray)) = omega (arith, within, intervals_length (cuts_of (woven_of regions ray))) in
      boxes_hold_claims regions ray n k no_claims no_region below placed lt
      (ap (λ (r : RegionClaims). get_or r.claims k false) (claims_number (woven_of regions ray) 0 regions n no_claims lt)
      ∙ get_or-map f (intervals_of (woven_of regions ray)) k d false inside ∙ ap f (intervals_at (cuts_of (woven_of regions ray)) k d within) ∙ is)

  -- a part of the ray that the box holds, from a place that is not behind x
  record IsHeldFrom (x : Pos) : Type 0 where
    start : Pos
    end : Pos
    reached : is_before x start ≡ false
    start_spelled : IsSpelled start
    part : HoldsPart (box_no regions n) ray start end

  held_at : (x z : Pos) (k : ℕ) → cut_at (woven_of regions ray) k ≡ z → k < length (cuts_of (woven_of regions ray)) → is_before x z ≡ false → IsSpelled z
      → claims_behind (woven_of regions ray) (body_no regions n).tree (first_no regions n) z ≡ true → IsHeldFrom x
  held_at x z k at inside up sz is =
      let tree = (body_no regions n).tree in
      let first = first_no regions n in
      let here : claims_behind (woven_of regions ray) (body_no regions n).tree (first_no regions n) (cut_at (woven_of regions ray) k) ≡ true = ap (claims_behind (woven_of regions ray) tree first) at ∙ is in
      elim (cases_lt (k + 1) (length (cuts_of (woven_of regions ray)))) [
        | inl within ↦ record {
          start = cut_at (woven_of regions ray) k;
          end = cut_at (woven_of regions ray) (k + 1);
          reached = ap (is_before x) at ∙ up;
          start_spelled = subst IsSpelled (sym at) sz;
          part = held k within (claimed_behind (woven_of regions ray) spelled tree first k within ∙ here);
        }
        | inr past ↦
            let last : k ≡ length (cuts_of (woven_of regions ray)) - 1 = omega (arith, inside, past) in
            absurd (true≢false (sym here ∙ ap (λ m. claims_behind (woven_of regions ray) tree first (cut_at (woven_of regions ray) m)) last ∙ behind_last (woven_of regions ray) spelled tree first))
      ]

  held_from : (x : Pos) → behind x ≡ true → IsHeldFrom x
  held_from x is =
      let tree = (body_no regions n).tree in
      let first = first_no regions n in
      let tell : claims_behind (woven_of regions ray) tree first x ≡ behind x = sym (own_segments_tell regions ray n no_region x below lt).behind in
      let c = claims_begin_at_ends (woven_of regions ray) tree first x (tell ∙ is) in
      let w = c.there in
      let there : Has (woven_of regions ray) w.1 = has_from_contains (woven_of regions ray) w.1 (w.0, w.2, w.3) in
      let place : Has (places_of (woven_of regions ray)) c.end = elim w.4 [
        | inl e ↦ subst (Has (places_of (woven_of regions ray))) e (inr (inr (start_is_place (woven_of regions ray) w.1 there)))
        | inr e ↦ subst (Has (places_of (woven_of regions ray))) e (inr (inr (end_is_place (woven_of regions ray) w.1 there)))
      ] in
      let cut : Contains (cuts_of (woven_of regions ray)) c.end = among_cuts (woven_of regions ray) c.end spelled place in
      let at : cut_at (woven_of regions ray) cut.0 ≡ c.end = get_or_default (cuts_of (woven_of regions ray)) cut.0 ray_start c.end cut.1 ∙ cut.2 in
      held_at x c.end cut.0 at cut.1 c.reached (places_spelled (woven_of regions ray) c.end spelled place) c.claimed

  -- a part that the box holds, up to a cut
  held_to : (k : ℕ) → k < length (cuts_of (woven_of regions ray)) → claims_before (woven_of regions ray) (body_no regions n).tree (first_no regions n) (cut_at (woven_of regions ray) k) ≡ true
      → (start : Pos) × HoldsPart (box_no regions n) ray start (cut_at (woven_of regions ray) k)
  held_to zero inside is = absurd (true≢false (sym is ∙ before_first (woven_of regions ray) spelled (body_no regions n).tree (first_no regions n)))
  held_to (suc k) inside is =
      let e : suc k ≡ k + 1 = omega arith in
      let within : k + 1 < length (cuts_of (woven_of regions ray)) = omega (arith, inside) in
      let here : claims_before (woven_of regions ray) (body_no regions n).tree (first_no regions n) (cut_at (woven_of regions ray) (k + 1)) ≡ true =
      ap (λ m. claims_before (woven_of regions ray) (body_no regions n).tree (first_no regions n) (cut_at (woven_of regions ray) m)) (sym e) ∙ is in (
        cut_at (woven_of regions ray) k,
        subst (λ m. HoldsPart (box_no regions n) ray (cut_at (woven_of regions ray) k) (cut_at (woven_of regions ray) m)) (sym e)
            (held k within (claimed_before (woven_of regions ray) spelled (body_no regions n).tree (first_no regions n) k within ∙ here)),
      )

  held_up_to : (x : Pos) → Has (places_of (woven_of regions ray)) x → before x ≡ true → (start : Pos) × HoldsPart (box_no regions n) ray start x
  held_up_to x place is =
      let cut : Contains (cuts_of (woven_of regions ray)) x = among_cuts (woven_of regions ray) x spelled place in
      let at : cut_at (woven_of regions ray) cut.0 ≡ x = get_or_default (cuts_of (woven_of regions ray)) cut.0 ray_start x cut.1 ∙ cut.2 in
      let here : claims_before (woven_of regions ray) (body_no regions n).tree (first_no regions n) (cut_at (woven_of regions ray) cut.0) ≡ true =
      ap (claims_before (woven_of regions ray) (body_no regions n).tree (first_no regions n)) at ∙ sym (own_segments_tell regions ray n no_region x below lt).before ∙ is in
      let h = held_to cut.0 cut.1 here in
      (h.0, subst (HoldsPart (box_no regions n) ray h.0) at h.1)

  -- where the ray misses the box, or where the box begins behind a place
  module _ (x : Pos) (sx : IsSpelled x) (passed : (¬ (MeetsRay (box_no regions n) ray)) ⊎ IsBeforeSide (near_side (box_no regions n) ray) x) where
    none_behind : (y : Pos) → is_before x y ≡ false → behind y ≡ false
    none_behind y up =
        false_from_ne_true (behind y) (λ is.
        let h = held_from y is in
        let before_it : is_before x h.start ≡ false = false_from_ne_true (is_before x h.start) (λ late. true≢false (sym (before_through x h.start y up late) ∙ h.reached)) in
        elim passed [
          | inl away ↦ away h.part.meets
          | inr early ↦ never_begun (near_side (box_no regions n) ray) h.start (not_behind (near_side (box_no regions n) ray) x h.start sx h.start_spelled early before_it) h.part.begun
        ])

    none_before : Has (places_of (woven_of regions ray)) x → before x ≡ false
    none_before place =
        false_from_ne_true (before x) (λ is.
        let h = held_up_to x place is in
        elim passed [ inl away ↦ away h.1.meets | inr early ↦ never_entered (near_side (box_no regions n) ray) x sx early h.1.entered ])

  not_solid : (y : Pos) → behind y ≡ false → solid_no regions ray n y ≡ false
  not_solid y e = ap (λ b. not (has_air (body_no regions n)) && b) e ∙ none_of (not (has_air (body_no regions n)))

  -- a region that is passed over where nothing was found
  pub silent_none : IsPassed (box_no regions n) ray None → (y : Pos) → solid_no regions ray n y ≡ false
  silent_none passed y =
      not_solid y (false_from_ne_true (behind y) (λ is. elim passed [ inl away ↦ away (held_from y is).part.meets | inr never ↦ never ]))

  -- one that is passed over behind the best place so far
  pub silent_some : (b : Front) → IsSpelled b.start → IsPassed (box_no regions n) ray (Some b) → (y : Pos) → is_before b.start y ≡ false → solid_no regions ray n y ≡ false
  silent_some b sx passed y up = not_solid y (none_behind b.start sx passed y up)

  pub unchanged : (b : Front) → IsSpelled b.start → IsPassed (box_no regions n) ray (Some b) → is_before b.start b.start ≡ false → Has (places_of (woven_of regions ray)) b.start
      → changes_beside (own_no regions ray n) (body_no regions n).tree (first_no regions n) b.start ≡ false
  unchanged b sx passed itself place = ap (λ a. differ a (behind b.start)) (none_before b.start sx passed place) ∙ none_behind b.start sx passed b.start itself

-- A region that claims no interval of a ray is silent on it, and so is one whose box the ray misses.
use Rattle.std.proofs.Common.{◌≡◌, ◌<◌, ◌-◌, ℕ, List, [], length, get_or, Bool, true, false, not, ◌&&◌, ap, sym, ◌∙◌, subst, refl, inl, inr, arith}
use Rattle.std.proofs.lemmas.Bool.{cases_lt, and_left, true≢false, false_from_ne_true}
use Rattle.std.proofs.lemmas.List.{get_or_default}
use Rattle.lattice_core.specs.declared.ray.Ray.{Ray}
use Rattle.lattice_core.specs.declared.view.View.{View}
use Rattle.lattice_core.specs.Boxes.{MeetsRay}
use Rattle.lattice_core.specs.Views.{pixel_ray}
use Rattle.surd_order.specs.declared.position.Pos.{Pos}
use Rattle.bool_weave.specs.declared.woven.Woven.{Woven}
use Rattle.bool_weave.specs.Cuts.{ray_start, places_of, cuts_of}
use Rattle.bool_weave.specs.Claims.{intervals_of}
use Rattle.bool_weave.specs.Behind.{claims_behind}
use Rattle.bool_weave.proofs.Sorted.{Has, has_from_contains, contains_from_has}
use Rattle.bool_weave.proofs.Cutting.{start_is_place, end_is_place}
use Rattle.bool_weave.proofs.Claimed.{intervals_length}
use Rattle.bool_weave.proofs.Behind as beside
use Rattle.overlap_list.specs.declared.region.RegionClaims.{RegionClaims}
use Rattle.overlap_list.specs.Winners.{claims_at}
use Rattle.overlap_list.specs.Hits.{cut_at}
use Rattle.overlap_list.proofs.Firsts.{claim_behind}
use Rattle.shot_core.specs.Regions.{RegionBody, Region, HaveInstances, HavePlacedSolids, has_air, firsts_from}
use Rattle.shot_core.specs.RegionBoxes.{region_box}
use Rattle.shot_core.specs.Shots.{woven_of, claims_on}
use Rattle.shot_core.specs.Steps.{no_region}
use Rattle.shot_core.specs.FirstShots.{tree_region}
use Rattle.shot_core.specs.Pruned.{meets_tile, seen_region, overlaps_by_place, kept_for, IsPixelOf, KeptSeeTheSame, KeptOverlapTheSame}
use Rattle.shot_core.proofs.Claiming.{claims_number}
use Rattle.shot_core.proofs.Missing.{missed_claim_nothing}
use Rattle.shot_core.proofs.FirstShots.{woven_spelled}
use Rattle.shot_core.proofs.OwnClaims.{solid_on, IsSilent, scene_behind}
use Rattle.shot_core.proofs.TileMeeting.{ray_met}
use Rattle.shot_core.proofs.KeptSeen.{LeftOut, seen_left}
use Rattle.shot_core.proofs.KeptOverlaps.{both_on, over, none_over, GivesNone, rises_all, has_instances, overlaps_left}

abbrev no_claims : RegionClaims
no_claims = record { air = false; first = 0; count = 0; claims = [] }

module _ (regions : List Region) (ray : Ray) (leaves : HaveInstances regions) where
  abbrev woven : List Woven
  woven = woven_of regions ray

  abbrev first_no : ℕ → ℕ
  first_no n = get_or (firsts_from 0 regions) n 0

  abbrev body_no : ℕ → RegionBody
  body_no n = (get_or regions n no_region).body

  cut_claim : (n k : ℕ) → n < length regions → k < length (intervals_of woven)
      → claims_at (get_or (claims_on regions ray) n no_claims) k ≡ claims_behind woven (body_no n).tree (first_no n) (cut_at woven k)
  cut_claim n k lt within =
      ap (λ (c : RegionClaims). claims_at c k) (claims_number woven 0 regions n no_claims lt) ∙ claim_behind woven [] (woven_spelled regions ray) (tree_region (first_no n) (body_no n)) k within

  -- a claim behind any place is one of some interval
  pub silent_from_claims : (n : ℕ) → n < length regions → ((k : ℕ) → claims_at (get_or (claims_on regions ray) n no_claims) k ≡ false) → IsSilent ray (get_or regions n no_region)
  silent_from_claims n lt none = λ x.
      false_from_ne_true _ (λ is.
      let s = woven_spelled regions ray in
      let end = beside.claims_begin_at_ends woven (body_no n).tree (first_no n) x (scene_behind regions ray leaves x n lt ∙ is) in
      let w = end.there in
      let h : Has woven w.1 = has_from_contains woven w.1 (w.0, w.2, w.3) in
      let place : Has (places_of woven) end.end = inr (inr (elim w.4 [
        | inl e ↦ subst (λ z. Has (beside.ends_of woven) z) e (start_is_place woven w.1 h)
        | inr e ↦ subst (λ z. Has (beside.ends_of woven) z) e (end_is_place woven w.1 h)
      ])) in
      let c = beside.among_cuts woven end.end s place in
      let at : cut_at woven c.0 ≡ end.end = get_or_default (cuts_of woven) c.0 ray_start end.end c.1 ∙ c.2 in
      let claimed : claims_behind woven (body_no n).tree (first_no n) (cut_at woven c.0) ≡ true = ap (claims_behind woven (body_no n).tree (first_no n)) at ∙ end.claimed in
      elim (cases_lt c.0 (length (intervals_of woven))) [
        | inl within ↦ true≢false (sym claimed ∙ sym (cut_claim n c.0 lt within) ∙ none c.0)
        | inr ge ↦
            let last : c.0 ≡ length (cuts_of woven) - 1 = omega (arith, ge, c.1, intervals_length (cuts_of woven)) in
            true≢false (sym claimed ∙ ap (λ k. claims_behind woven (body_no n).tree (first_no n) (cut_at woven k)) last ∙ beside.behind_last woven s (body_no n).tree (first_no n))
      ])

  -- a region whose box the ray misses is silent
  pub missed_silent : HavePlacedSolids regions → (r : Region) → Has regions r → ¬ (MeetsRay (region_box r.body) ray) → IsSilent ray r
  missed_silent solids r h away =
      let c = contains_from_has regions r h in
      let is : get_or regions c.0 no_region ≡ r = get_or_default regions c.0 no_region r c.1 ∙ c.2 in
      subst (IsSilent ray) is
      (silent_from_claims c.0 c.1 (λ k. missed_claim_nothing regions ray c.0 k no_claims no_region leaves solids c.1 (λ m. away (subst (λ (q : Region). MeetsRay (region_box q.body) ray) is m))))

none_of : (b : Bool) → (b && false) ≡ false
none_of true = refl
none_of false = refl

and_turned : (a b : Bool) → (a && b) ≡ (b && a)
and_turned true true = refl
and_turned true false = refl
and_turned false true = refl
and_turned false false = refl

silent_apart : (ray : Ray) (r s : Region) → IsSilent ray r → (x : Pos) → both_on ray r s x ≡ false
silent_apart ray r s silent x =
    and_left (solid_on ray x r) (solid_on ray x s) (ap (λ b. not (has_air r.body) && b) (silent x) ∙ none_of (not (has_air r.body)))

module _ (regions : List Region) (view : View) (tile column row : ℕ) (p : IsPixelOf regions view tile column row) where
  left_silent : LeftOut (λ r. meets_tile (region_box r.body) view tile) (IsSilent (pixel_ray view column row)) regions
  left_silent = λ r h off.
      missed_silent regions (pixel_ray view column row) p.instances p.placed r h (λ m. true≢false (sym (ray_met view tile p.checked p.in_view (region_box r.body) column row p.in_tile m) ∙ off))

  see_the_same : seen_region (kept_for regions view tile) (pixel_ray view column row) ≡ seen_region regions (pixel_ray view column row)
  see_the_same = seen_left regions (pixel_ray view column row) p.instances (λ r. meets_tile (region_box r.body) view tile) left_silent

  no_overlap : (r s : Region) → Has regions r → Has regions s → GivesNone (over (pixel_ray view column row)) (λ q. meets_tile (region_box q.body) view tile) r s
  no_overlap r s m n =
      let one = has_instances regions p.instances r m in
      let two = has_instances regions p.instances s n in (
        λ off. none_over (pixel_ray view column row) r s one two (silent_apart (pixel_ray view column row) r s (left_silent r m off)),
        λ off. none_over (pixel_ray view column row) r s one two (λ x.
            and_turned (solid_on (pixel_ray view column row) x r) (solid_on (pixel_ray view column row) x s) ∙ silent_apart (pixel_ray view column row) s r (left_silent s n off) x),
      )

  overlap_the_same : overlaps_by_place (kept_for regions view tile) (pixel_ray view column row) ≡ overlaps_by_place regions (pixel_ray view column row)
  overlap_the_same =
      overlaps_left regions (pixel_ray view column row) p.instances (λ r. meets_tile (region_box r.body) view tile)
      (rises_all (GivesNone (over (pixel_ray view column row)) (λ q. meets_tile (region_box q.body) view tile)) regions no_overlap)

pub kept_see_the_same : KeptSeeTheSame
kept_see_the_same regions view tile column row p = see_the_same regions view tile column row p

pub kept_overlap_the_same : KeptOverlapTheSame
kept_overlap_the_same regions view tile column row p = overlap_the_same regions view tile column row p

-- Regions whose boxes a ray misses claim nothing on it, so their claims may be left out; and what is left of a scene is one.
use Rattle.std.proofs.Common.{◌≡◌, ◌<◌, ◌≤◌, ◌⊎◌, ℕ, zero, suc, List, [], ◌∷◌, length, map, filter, get_or, Bool, true, false, ap, refl, inl, inr, arith}
use Rattle.std.proofs.lemmas.Bool.{cases_Bool, cond-true, cond-false, false_from_ne_true}
use Rattle.std.proofs.lemmas.List.{length-append}
use Rattle.std.proofs.lemmas.List.Elements.{All-filter}
use Rattle.std.proofs.lemmas.List.Kept.{AllPairs-filter}
use Rattle.lattice_core.specs.declared.ray.Ray.{Ray}
use Rattle.lattice_core.specs.Boxes.{MeetsRay}
use Rattle.overlap_list.specs.declared.region.RegionClaims.{RegionClaims}
use Rattle.overlap_list.specs.Partitions.{partitions_of}
use Rattle.overlap_list.specs.Overlaps.{overlaps_of}
use Rattle.shot_core.specs.Regions.{Region, HaveInstances, HavePlacedSolids, IsScene, instances_of, size_of_all}
use Rattle.shot_core.specs.RegionBoxes.{region_box, MissedRegionsClaimNothing}
use Rattle.shot_core.specs.Shots.{woven_of, claims_on}
use Rattle.shot_core.specs.Steps.{marked_from, no_region, renumbered, renumbered_run}
use Rattle.shot_core.proofs.Claiming.{claims_length}
use Rattle.shot_core.proofs.InBoxes.{boxes_hold_claims}
use Rattle.shot_core.proofs.Picking.{kept, LeavesOut, ClaimsNothing, partitions_kept}
use Rattle.shot_core.proofs.PickingOverlaps.{overlaps_kept}

pub missed_claim_nothing : MissedRegionsClaimNothing
missed_claim_nothing regions ray n k claims region below placed lt away =
    false_from_ne_true _ (λ is. away (boxes_hold_claims regions ray n k claims region below placed lt is).meets)

one_out : (b : Bool) (ms : List Bool) (x : RegionClaims) (xs : List RegionClaims) → (b ≡ false → ClaimsNothing x) → LeavesOut ClaimsNothing ms xs → LeavesOut ClaimsNothing (b ∷ ms) (x ∷ xs)
one_out true ms x xs f h = h
one_out false ms x xs f h = (f refl, h)

no_claims : RegionClaims
no_claims = record { air = false; first = 0; count = 0; claims = [] }

out_at : (keep : Region → Bool) (rs : List Region) (xs : List RegionClaims) → length xs ≡ length rs
    → ((n : ℕ) → n < length rs → keep (get_or rs n no_region) ≡ false → ClaimsNothing (get_or xs n no_claims)) → LeavesOut ClaimsNothing (map keep rs) xs
out_at keep [] [] e h = tt
out_at keep [] (x ∷ xs) e h = absurd (omega (arith, e))
out_at keep (r ∷ rs) [] e h = absurd (omega (arith, e))
out_at keep (r ∷ rs) (x ∷ xs) e h =
    one_out (keep r) (map keep rs) x xs (λ gone. h zero (omega arith) gone) (out_at keep rs xs (omega (arith, e)) (λ n lt gone. h (suc n) (omega (arith, lt)) gone))

-- where each region is kept whose box meets a ray, those that are left out claim nothing on it
module _ (regions : List Region) (ray : Ray) (keep : Region → Bool) (below : HaveInstances regions) (placed : HavePlacedSolids regions)
    (met : (r : Region) → keep r ≡ false → ¬ (MeetsRay (region_box r.body) ray)) where
  pub left_out : LeavesOut ClaimsNothing (map keep regions) (claims_on regions ray)
  left_out =
      out_at keep regions (claims_on regions ray) (claims_length (woven_of regions ray) 0 regions)
      (λ n lt gone k. missed_claim_nothing regions ray n k no_claims no_region below placed lt (met (get_or regions n no_region) gone))

  -- so partitions and overlaps are those of the regions that are kept, but for the regions' numbers
  pub partitions_left : partitions_of (woven_of regions ray) (claims_on regions ray)
      ≡ map (renumbered (marked_from 0 (map keep regions))) (partitions_of (woven_of regions ray) (kept (map keep regions) (claims_on regions ray)))
  partitions_left = partitions_kept (map keep regions) (claims_on regions ray) left_out (woven_of regions ray)

  pub overlaps_left : overlaps_of (woven_of regions ray) (claims_on regions ray)
      ≡ map (renumbered_run (marked_from 0 (map keep regions))) (overlaps_of (woven_of regions ray) (kept (map keep regions) (claims_on regions ray)))
  overlaps_left = overlaps_kept (woven_of regions ray) (map keep regions) (claims_on regions ray) left_out

module _ (keep : Region → Bool) where
  filter_at : (r : Region) (rs : List Region) → (filter keep (r ∷ rs) ≡ r ∷ filter keep rs) ⊎ (filter keep (r ∷ rs) ≡ filter keep rs)
  filter_at r rs = elim (cases_Bool (keep r)) [
    | inl kept ↦ inl (cond-true (keep r) (r ∷ filter keep rs) (filter keep rs) kept)
    | inr gone ↦ inr (cond-false (keep r) (r ∷ filter keep rs) (filter keep rs) gone)
  ]

  size_left : (rs : List Region) → size_of_all (filter keep rs) ≤ size_of_all rs
  size_left [] = omega arith
  size_left (r ∷ rs) = elim (filter_at r rs) [
    | inl e ↦ omega (arith, ap size_of_all e, size_left rs)
    | inr e ↦ omega (arith, ap size_of_all e, size_left rs)
  ]

  instances_left : (rs : List Region) → length (instances_of (filter keep rs)) ≤ length (instances_of rs)
  instances_left [] = omega arith
  instances_left (r ∷ rs) =
      let all = length-append r.body.instances (instances_of rs) in
      elim (filter_at r rs) [
        | inl e ↦ omega (arith, ap (λ l. length (instances_of l)) e, length-append r.body.instances (instances_of (filter keep rs)), all, instances_left rs)
        | inr e ↦ omega (arith, ap (λ l. length (instances_of l)) e, all, instances_left rs)
      ]

  pub scene_left : (rs : List Region) → IsScene rs → IsScene (filter keep rs)
  scene_left rs scene = record {
    rising = AllPairs-filter (λ (r : Region) (s : Region). r.place < s.place) keep rs scene.rising;
    begun = All-filter keep (λ (r : Region). 1 ≤ r.place) rs scene.begun;
    size = omega (arith, scene.size, size_left rs);
    instances = omega (arith, scene.instances, instances_left rs);
  }

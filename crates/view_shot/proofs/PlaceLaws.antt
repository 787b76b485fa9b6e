-- The report of a tile is known by the bodies and the places of its regions.
use Rattle.std.proofs.Common.{◌≡◌, ◌∙◌, ◌<◌, ◌+◌, ◌++◌, ℕ, zero, suc, List, [], ◌∷◌, Option, None, Some, length, map, refl, sym, ap, ap₂, subst}
use Rattle.std.specs.Prelude.{slice_get}
use Rattle.lattice_core.specs.declared.ray.Ray.{Ray}
use Rattle.lattice_core.specs.declared.view.View.{View}
use Rattle.lattice_core.specs.Views.{pixel_ray}
use Rattle.bool_weave.specs.declared.woven.Woven.{Woven}
use Rattle.overlap_list.specs.declared.overlap.OverlapRun.{OverlapRun}
use Rattle.overlap_list.specs.declared.region.RegionClaims.{RegionClaims}
use Rattle.overlap_list.specs.Overlaps.{overlaps_of}
use Rattle.shot_core.specs.declared.pair.Pair.{Pair}
use Rattle.shot_core.specs.Regions.{Instance, Region, instances_of}
use Rattle.shot_core.specs.Pruned.{by_place, overlaps_by_place, place_of}
use Rattle.shot_core.specs.Shots.{body_claims, claims_from, overlaps_on, woven_from, woven_of}
use Rattle.tile_shot.specs.Pixels.{bodies_of}
use Rattle.tile_shot.specs.Reports.{CheckedRay, Spot, checked_ray, report_on, spots_of, tile_report}
use Rattle.lattice_core.specs.Tiles.{span_of}
use Rattle.tile_shot.specs.Named.{TileName, name_of}
use Rattle.shot_core.specs.Pruned.{kept_for}
use Rattle.view_shot.specs.Kept.{tile_name}
use Rattle.view_shot.specs.Named.{IsNamedReport, places_of, regions_at}
use Rattle.view_shot.specs.Steps.{IsTileReport}

-- regions of the same bodies at the same places, without paths
abbrev pub without_paths : List Region → List Region
without_paths regions = regions_at (places_of regions) (bodies_of regions)

pub same_places : (rs : List Region) → places_of (without_paths rs) ≡ places_of rs
same_places [] = refl
same_places (r ∷ rs) = ap (λ (l : List ℕ). r.place ∷ l) (same_places rs)

pub same_instances : (rs : List Region) → instances_of (without_paths rs) ≡ instances_of rs
same_instances [] = refl
same_instances (r ∷ rs) = ap (λ (l : List Instance). r.body.instances ++ l) (same_instances rs)

pub same_claims : (woven : List Woven) (first : ℕ) (rs : List Region) → claims_from woven first (without_paths rs) ≡ claims_from woven first rs
same_claims woven first [] = refl
same_claims woven first (r ∷ rs) = ap (λ (l : List RegionClaims). body_claims woven first r.body ∷ l) (same_claims woven (first + length r.body.instances) rs)

pub same_place : (rs : List Region) (i : ℕ) → place_of (slice_get (without_paths rs) i) ≡ place_of (slice_get rs i)
same_place [] i = refl
same_place (r ∷ rs) zero = refl
same_place (r ∷ rs) (suc i) = same_place rs i

same_overlaps : (rs : List Region) (ray : Ray) → overlaps_on (without_paths rs) ray ≡ overlaps_on rs ray
same_overlaps rs ray =
    let woven : woven_of (without_paths rs) ray ≡ woven_of rs ray = ap (woven_from ray 0) (same_instances rs) in
    ap (λ (w : List Woven). overlaps_of w (claims_from w 0 (without_paths rs))) woven ∙ ap (overlaps_of (woven_of rs ray)) (same_claims (woven_of rs ray) 0 rs)

same_runs : (rs : List Region) (runs : List OverlapRun) → map (by_place (without_paths rs)) runs ≡ map (by_place rs) runs
same_runs rs [] = refl
same_runs rs (run ∷ runs) =
    ap₂ (λ (r : OverlapRun) (l : List OverlapRun). r ∷ l)
    (ap₂ (λ (one two : ℕ). record run { one = one; two = two }) (same_place rs run.one) (same_place rs run.two)) (same_runs rs runs)

same_ray : (rs : List Region) (ray : Ray) → overlaps_by_place (without_paths rs) ray ≡ overlaps_by_place rs ray
same_ray rs ray = ap (map (by_place (without_paths rs))) (same_overlaps rs ray) ∙ same_runs rs (overlaps_on rs ray)

same_rays : (rs : List Region) (view : View) (spots : List Spot) → map (checked_ray (without_paths rs) view) spots ≡ map (checked_ray rs view) spots
same_rays rs view [] = refl
same_rays rs view (s ∷ spots) =
    ap₂ (λ (runs : List OverlapRun) (l : List CheckedRay). record { spot = s; runs = runs } ∷ l) (same_ray rs (pixel_ray view s.column s.row)) (same_rays rs view spots)

-- paths are no part of a report
pub same_report : (rs : List Region) (view : View) (tile : ℕ) → tile_report (without_paths rs) view tile ≡ tile_report rs view tile
same_report rs view tile = ap₂ report_on (same_places rs) (same_rays rs view (spots_of (span_of view tile)))

-- regions with the same report
pub report_as : (a b : List Region) (view : View) (tile : ℕ) → tile_report a view tile ≡ tile_report b view tile → (pairs : Option (List Pair)) → IsTileReport a view tile pairs → IsTileReport b view tile pairs
report_as a b view tile same None many = subst (λ (l : List Pair). 2097152 < length l) same many
report_as a b view tile same (Some pairs) is = is ∙ same

-- the pairs of a tile of regions, by what names them
pub named_report : (rs : List Region) (view : View) (tile : ℕ) (key : TileName) (places : List ℕ) (pairs : Option (List Pair)) → key ≡ name_of rs view tile → places ≡ places_of rs → IsTileReport rs view tile pairs
    → IsNamedReport key places pairs
named_report rs view tile key places pairs key_is places_is h =
    subst (λ (k : TileName). IsNamedReport k places pairs) (sym key_is)
    (subst (λ (ps : List ℕ). IsNamedReport (name_of rs view tile) ps pairs) (sym places_is) (report_as rs (without_paths rs) view tile (sym (same_report rs view tile)) pairs h))

-- and back, where the name is that of the regions that are kept for a tile
pub report_of_name : (scene : List Region) (view : View) (tile : ℕ) (key : TileName) (places : List ℕ) (pairs : Option (List Pair)) → tile_report (kept_for scene view tile) view tile ≡ tile_report scene view tile
    → key ≡ tile_name scene view tile → places ≡ places_of (kept_for scene view tile) → IsNamedReport key places pairs → IsTileReport scene view tile pairs
report_of_name scene view tile key places pairs kept key_is places_is h =
    report_as (without_paths (kept_for scene view tile)) scene view tile (same_report (kept_for scene view tile) view tile ∙ kept) pairs
    (subst (λ (ps : List ℕ). IsNamedReport (tile_name scene view tile) ps pairs) places_is (subst (λ (k : TileName). IsNamedReport k places pairs) key_is h))

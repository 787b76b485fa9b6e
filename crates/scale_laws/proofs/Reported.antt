-- Reports of larger views of larger scenes.
use Rattle.std.proofs.Common.{◌≡◌, ◌∙◌, ◌+◌, ℕ, zero, suc, ℤ, ◌*ℤ◌, List, [], ◌∷◌, length, map, refl, ap, sym}
use Rattle.std.specs.Prelude.{None, Some, Option, is_some, slice_get}
use Rattle.std.specs.Option.{option_map}
use Rattle.lattice_core.specs.declared.limit.TheConstants.{FAR, MILLIMETRE}
use Rattle.lattice_core.specs.declared.view.View.{View}
use Rattle.lattice_core.specs.Views.{pixel_ray}
use Rattle.surd_order.specs.declared.position.Pos.{Pos}
use Rattle.name_core.specs.declared.name.Name.{Name}
use Rattle.directory.specs.Walks.{Entries}
use Rattle.overlap_list.specs.declared.overlap.OverlapRun.{OverlapRun}
use Rattle.ppm_write.specs.Pictures.{whole_span}
use Rattle.shot_core.specs.Regions.{Region}
use Rattle.shot_core.specs.Pruned.{place_of, by_place}
use Rattle.shot_core.specs.Shots.{overlaps_on, overlaps_on_up_to}
use Rattle.tile_shot.specs.Reports.{Spot, CheckedRay, spots_of, checked_ray, PlacePair, place_pairs, is_of_pair, run_of, rays_of, pair_at, pair_of, report_on}
use Rattle.scene_prep.specs.Regions.{NamedRegion, regions_of}
use Rattle.scene_prep.specs.Scenes.{scene_of}
use Rattle.solid_set.specs.Times.{enlarged}
use Rattle.order_laws.specs.RaysMoved.{moved_overlap}
use Rattle.order_laws.proofs.Listed.{filter_moved, filter_map_moved, length_moved, map_same, map_twice}
use Rattle.scale_laws.specs.Scenes.{larger_view}
use Rattle.scale_laws.specs.SceneLaws.{millimetre}
use Rattle.scale_laws.specs.Models.{larger_directory}
use Rattle.scale_laws.specs.ModelLaws.{checked_ray_up_to, moved_pair, ReportsOfModelsScaleToTenths}
use Rattle.scale_laws.proofs.Seen.{find_moved, ray_larger}
use Rattle.scale_laws.proofs.Expanded.{larger_named, names_larger}
use Rattle.scale_laws.proofs.Models.{scene_from, is_there, rays_of_models}

-- ---- places
places_stay : (m place : ℕ) (regions : List NamedRegion) → map (λ r. r.place) (scene_from place (map (larger_named m) regions)) ≡ map (λ r. r.place) (scene_from place regions)
places_stay m place [] = refl
places_stay m place (region ∷ regions) = ap (λ (ps : List ℕ). place ∷ ps) (places_stay m (place + 1) regions)

place_stays : (m place k : ℕ) (regions : List NamedRegion) → place_of (slice_get (scene_from place (map (larger_named m) regions)) k) ≡ place_of (slice_get (scene_from place regions) k)
place_stays m place k [] = refl
place_stays m place zero (region ∷ regions) = refl
place_stays m place (suc k) (region ∷ regions) = place_stays m (place + 1) k regions

places_same : (m : ℕ) (directory : Entries) (names : List Name) → map (λ r. r.place) (scene_of (larger_directory m directory) names) ≡ map (λ r. r.place) (scene_of directory names)
places_same m directory names = ap (λ (regions : List NamedRegion). map (λ r. r.place) (scene_from 1 regions)) (names_larger m directory names) ∙ places_stay m 1 (regions_of directory names)

place_same : (m : ℕ) (directory : Entries) (names : List Name) (k : ℕ) → place_of (slice_get (scene_of (larger_directory m directory) names) k) ≡ place_of (slice_get (scene_of directory names) k)
place_same m directory names k = ap (λ (regions : List NamedRegion). place_of (slice_get (scene_from 1 regions) k)) (names_larger m directory names) ∙ place_stays m 1 k (regions_of directory names)

-- ---- reports of rays whose overlaps are moved
abbrev moved_ray : (Pos → Pos) → CheckedRay → CheckedRay
moved_ray move ray = record { spot = ray.spot; runs = map (moved_overlap move) ray.runs }

run_moved : (move : Pos → Pos) (pair : PlacePair) (ray : CheckedRay) → run_of pair (moved_ray move ray) ≡ option_map (moved_overlap move) (run_of pair ray)
run_moved move pair ray = find_moved (is_of_pair pair) (is_of_pair pair) (moved_overlap move) ray.runs (λ run. refl)

rays_moved : (move : Pos → Pos) (pair : PlacePair) (rays : List CheckedRay) → rays_of pair (map (moved_ray move) rays) ≡ map (moved_ray move) (rays_of pair rays)
rays_moved move pair rays =
    filter_moved (λ ray. is_some (run_of pair ray)) (λ ray. is_some (run_of pair ray)) (moved_ray move) rays
    (λ ray there. ap is_some (run_moved move pair ray) ∙ is_there (moved_overlap move) (run_of pair ray))

pair_there : (move : Pos → Pos) (count : ℕ) (spot : Spot) (run : Option OverlapRun) → pair_at count spot (option_map (moved_overlap move) run) ≡ option_map (moved_pair move) (pair_at count spot run)
pair_there move count spot None = refl
pair_there move count spot (Some run) = refl

pair_moved : (move : Pos → Pos) (pair : PlacePair) (rays : List CheckedRay) → pair_of pair (map (moved_ray move) rays) ≡ option_map (moved_pair move) (pair_of pair rays)
pair_moved move pair [] = refl
pair_moved move pair (ray ∷ rest) =
    ap (λ n. pair_at n ray.spot (run_of pair (moved_ray move ray))) (length_moved (moved_ray move) (ray ∷ rest))
    ∙ (ap (pair_at (length (ray ∷ rest)) ray.spot) (run_moved move pair ray) ∙ pair_there move (length (ray ∷ rest)) ray.spot (run_of pair ray))

report_moved : (move : Pos → Pos) (places : List ℕ) (rays : List CheckedRay) → report_on places (map (moved_ray move) rays) ≡ map (moved_pair move) (report_on places rays)
report_moved move places rays =
    filter_map_moved (λ pair. pair_of pair (rays_of pair (map (moved_ray move) rays))) (λ pair. pair_of pair (rays_of pair rays)) (moved_pair move) (place_pairs places)
    (λ pair. ap (pair_of pair) (rays_moved move pair rays) ∙ pair_moved move pair (rays_of pair rays))

-- ---- reports of models
module _ (far : ℤ) (directory : Entries) (names : List Name) (view : View) (end : FAR ≡ MILLIMETRE *ℤ far) where
  abbrev regions : List Region
  regions = scene_of directory names

  abbrev larger : List Region
  larger = scene_of (larger_directory millimetre directory) names

  abbrev move : Pos → Pos
  move = enlarged millimetre

  abbrev run_at : ℕ → ℕ → OverlapRun → OverlapRun
  run_at one two run = record { one = one; two = two; start = move run.start; end = move run.end }

  run_placed : (run : OverlapRun) → by_place larger (moved_overlap move run) ≡ moved_overlap move (by_place regions run)
  run_placed run =
      ap (λ n. run_at n (place_of (slice_get larger run.two)) run) (place_same millimetre directory names run.one)
      ∙ ap (λ n. run_at (place_of (slice_get regions run.one)) n run) (place_same millimetre directory names run.two)

  runs_moved : (column row : ℕ)
      → map (by_place larger) (overlaps_on larger (pixel_ray (larger_view millimetre view) column row)) ≡ map (moved_overlap move) (map (by_place regions) (overlaps_on_up_to far regions (pixel_ray view column row)))
  runs_moved column row =
      let runs = overlaps_on_up_to far regions (pixel_ray view column row) in
      ap (λ ray. map (by_place larger) (overlaps_on larger ray)) (ray_larger millimetre view column row)
      ∙ (ap (map (by_place larger)) (rays_of_models far directory names (pixel_ray view column row) end).overlaps
      ∙ (map_twice (by_place larger) (moved_overlap move) runs
      ∙ (map_same (λ run. by_place larger (moved_overlap move run)) (λ run. moved_overlap move (by_place regions run)) runs (λ run there. run_placed run)
      ∙ sym (map_twice (moved_overlap move) (by_place regions) runs))))

  abbrev ray_with : Spot → List OverlapRun → CheckedRay
  ray_with spot runs = record { spot = spot; runs = runs }

  ray_checked : (spot : Spot) → checked_ray larger (larger_view millimetre view) spot ≡ moved_ray move (checked_ray_up_to far regions view spot)
  ray_checked spot = ap (ray_with spot) (runs_moved spot.column spot.row)

  pub reported : report_on (map (λ r. r.place) larger) (map (checked_ray larger (larger_view millimetre view)) (spots_of (whole_span view)))
      ≡ map (moved_pair move) (report_on (map (λ r. r.place) regions) (map (checked_ray_up_to far regions view) (spots_of (whole_span view))))
  reported =
      let spots = spots_of (whole_span view) in
      let rays : map (checked_ray larger (larger_view millimetre view)) spots ≡ map (moved_ray move) (map (checked_ray_up_to far regions view) spots) =
      map_same (checked_ray larger (larger_view millimetre view)) (λ spot. moved_ray move (checked_ray_up_to far regions view spot)) spots (λ spot there. ray_checked spot)
      ∙ sym (map_twice (moved_ray move) (checked_ray_up_to far regions view) spots) in
      ap (λ (places : List ℕ). report_on places (map (checked_ray larger (larger_view millimetre view)) spots)) (places_same millimetre directory names)
      ∙ (ap (report_on (map (λ r. r.place) regions)) rays ∙ report_moved move (map (λ r. r.place) regions) (map (checked_ray_up_to far regions view) spots))

pub reports_of_models : ReportsOfModelsScaleToTenths
reports_of_models far directory names view end = reported far directory names view end

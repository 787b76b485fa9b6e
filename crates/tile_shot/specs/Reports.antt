-- Which regions overlap in a view, on how many of its rays, and where first.
use Rattle.std.specs.Prelude.{◌≡◌, ◌<◌, ◌+◌, ℕ, zero, suc, List, [], ◌∷◌, ◌++◌, ◌==◌, nat_le, nat_lt, Option, Some, None, Bool, ◌&&◌, ◌||◌, false, is_some, AllPairs, map, filter, find, length, flat_map}
use Rattle.std.specs.List.{filter_map, range_with_len}
use Rattle.lattice_core.specs.declared.view.View.{View}
use Rattle.lattice_core.specs.declared.tile.TileSpan.{TileSpan}
use Rattle.lattice_core.specs.Views.{pixel_ray}
use Rattle.lattice_core.specs.Tiles.{span_of}
use Rattle.ppm_write.specs.Pictures.{whole_span}
use Rattle.overlap_list.specs.declared.overlap.OverlapRun.{OverlapRun}
use Rattle.shot_core.specs.declared.pair.Pair.{Pair}
use Rattle.shot_core.specs.Regions.{Region}
use Rattle.shot_core.specs.Pruned.{overlaps_by_place}

-- the column and the row of a pixel
pub record Spot : Type 0 where
  pub column : ℕ
  pub row : ℕ

abbrev pub row_spots : ℕ → ℕ → ℕ → List Spot
row_spots column w row = map (λ c. record { column = c; row = row }) (range_with_len column w)

-- the pixels of a span, row by row
abbrev pub spots_of : TileSpan → List Spot
spots_of span = flat_map (row_spots span.column span.w) (range_with_len span.row span.h)

-- a ray of a view, and the overlaps on it by the places of their regions
pub record CheckedRay : Type 0 where
  pub spot : Spot
  pub runs : List OverlapRun

abbrev pub checked_ray : List Region → View → Spot → CheckedRay
checked_ray regions view spot = record { spot = spot; runs = overlaps_by_place regions (pixel_ray view spot.column spot.row) }

-- two places, the lower one first
pub record PlacePair : Type 0 where
  pub one : ℕ
  pub two : ℕ

-- each place with each later one, by the first and then the second
abbrev pub place_pairs : List ℕ → List PlacePair
place_pairs [] = []
place_pairs (p ∷ ps) = map (λ q. record { one = p; two = q }) ps ++ place_pairs ps

abbrev pub is_of_pair : PlacePair → OverlapRun → Bool
is_of_pair pair run = (run.one == pair.one) && (run.two == pair.two)

-- the overlap of a pair on a ray
abbrev pub run_of : PlacePair → CheckedRay → Option OverlapRun
run_of pair ray = find (is_of_pair pair) ray.runs

-- the rays on which a pair overlaps
abbrev pub rays_of : PlacePair → List CheckedRay → List CheckedRay
rays_of pair rays = filter (λ ray. is_some (run_of pair ray)) rays

abbrev pub pair_at : ℕ → Spot → Option OverlapRun → Option Pair
pair_at count spot None = None
pair_at count spot (Some run) = Some (record { one = run.one; two = run.two; rays = count; column = spot.column; row = spot.row; start = run.start; end = run.end })

-- a pair with the number of these rays, the first of them, and its overlap there
abbrev pub pair_of : PlacePair → List CheckedRay → Option Pair
pair_of pair [] = None
pair_of pair (ray ∷ rest) = pair_at (length (ray ∷ rest)) ray.spot (run_of pair ray)

-- for each pair of places that overlaps on some of the rays
abbrev pub report_on : List ℕ → List CheckedRay → List Pair
report_on places rays = filter_map (λ pair. pair_of pair (rays_of pair rays)) (place_pairs places)

-- the report of these pixels of a view
abbrev pub report_of : List Region → View → List Spot → List Pair
report_of regions view spots = report_on (map (λ r. r.place) regions) (map (checked_ray regions view) spots)

-- the report of a whole view
abbrev pub view_report : List Region → View → List Pair
view_report regions view = report_of regions view (spots_of (whole_span view))

-- the report of a tile
abbrev pub tile_report : List Region → View → ℕ → List Pair
tile_report regions view tile = report_of regions view (spots_of (span_of view tile))

-- the pixels of a view of some kind, row by row
abbrev pub spots_where : View → (Spot → Bool) → List Spot
spots_where view of_kind = filter of_kind (spots_of (whole_span view))

-- no pixel of the view is of both kinds
abbrev pub AreApart : View → (Spot → Bool) → (Spot → Bool) → Type 0
AreApart view a b = (column row : ℕ) → column < view.w → row < view.h → a (record { column = column; row = row }) && b (record { column = column; row = row }) ≡ false

abbrev pub either : (Spot → Bool) → (Spot → Bool) → Spot → Bool
either a b spot = a spot || b spot

abbrev pub HaveRisingPlaces : List Region → Type 0
HaveRisingPlaces regions = AllPairs (λ r s. r.place < s.place) regions

-- the reports of two kinds of pixels that are apart, of regions whose places rise, make that of both
abbrev pub AddUp : List Pair → List Pair → List Pair → Type 0
AddUp first second both =
    (regions : List Region) (view : View) (a b : Spot → Bool) → HaveRisingPlaces regions → AreApart view a b
    → first ≡ report_of regions view (spots_where view a) → second ≡ report_of regions view (spots_where view b)
    → both ≡ report_of regions view (spots_where view (either a b))

-- whether a pixel is one of a span
abbrev pub is_in_span : TileSpan → Spot → Bool
is_in_span span spot =
    (nat_le span.column spot.column && nat_lt spot.column (span.column + span.w)) && (nat_le span.row spot.row && nat_lt spot.row (span.row + span.h))

-- whether a pixel is one of a tile
abbrev pub is_in_tile : View → ℕ → Spot → Bool
is_in_tile view tile = is_in_span (span_of view tile)

-- whether a pixel is one of the first so many tiles
abbrev pub is_in_tiles : View → ℕ → Spot → Bool
is_in_tiles view zero spot = false
is_in_tiles view (suc n) spot = either (is_in_tiles view n) (is_in_tile view n) spot

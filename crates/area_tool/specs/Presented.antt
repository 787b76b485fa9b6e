-- Which region a pixel presents, told by the region's place.
use Rattle.std.specs.Prelude.{◌≡◌, ◌<◌, ◌≤◌, ℕ, List, Option, Some, None, All, slice_get}
use Rattle.lattice_core.specs.declared.ray.Ray.{Ray}
use Rattle.lattice_core.specs.declared.view.View.{View}
use Rattle.lattice_core.specs.Views.{pixel_ray, IsChecked}
use Rattle.lattice_core.specs.Tiles.{tiles_of, span_of}
use Rattle.shot_core.specs.declared.shot.Lit.{Lit}
use Rattle.shot_core.specs.declared.first.Seen.{Seen}
use Rattle.shot_core.specs.Regions.{Region, HaveInstances, HavePlacedSolids}
use Rattle.shot_core.specs.FirstShots.{first_seen}
use Rattle.shot_core.specs.Pruned.{place_of, kept_for}
use Rattle.area_tool.specs.Numbers.{block_numbers, whole_span, IsOnePerPixel, AreCopiedInTurn}

-- the place of the region that a partition is of, and 0 where there is none
abbrev pub place_by : List Region → Option Lit → ℕ
place_by regions None = 0
place_by regions (Some lit) = place_of (slice_get regions lit.region)

-- the place of the region that a ray presents: that of the first of its partitions whose region has no air, and 0 where there is none
abbrev pub presented : List Region → Ray → ℕ
presented regions ray = place_by regions (first_seen regions ray)

-- the place of the region that the pixel in a column and a row of a view presents
abbrev pub presented_in : List Region → View → ℕ → ℕ → ℕ
presented_in regions view column row = presented regions (pixel_ray view column row)

-- what the pixels of a tile present, row by row
abbrev pub tile_presents : List Region → View → ℕ → List ℕ
tile_presents regions view tile = block_numbers (presented_in regions view) (span_of view tile)

-- what all pixels of a view present, row by row
abbrev pub view_presents : List Region → View → List ℕ
view_presents regions view = block_numbers (presented_in regions view) (whole_span view)

-- a scene with a view without a fault
pub record IsInView (regions : List Region) (view : View) : Type 0 where
  pub instances : HaveInstances regions
  pub placed : HavePlacedSolids regions
  pub checked : IsChecked view

-- the regions that are kept for a tile present on it what all regions do
abbrev pub KeptPresentTheSame : Type 0
KeptPresentTheSame =
    (regions : List Region) (view : View) (tile : ℕ) → IsInView regions view → tile < tiles_of view → tile_presents (kept_for regions view tile) view tile ≡ tile_presents regions view tile

-- a list into which all tiles of kept regions are put, one after the other, is what all pixels of the view present
abbrev pub IsMadeOfKeptTiles : Type 0
IsMadeOfKeptTiles =
    (regions : List Region) (view : View) (lists : ℕ → List ℕ) → IsInView regions view → IsOnePerPixel view.w view.h (lists 0)
    → AreCopiedInTurn view (λ tile. tile_presents (kept_for regions view tile) view tile) lists → lists (tiles_of view) ≡ view_presents regions view

-- no pixel presents a place over all those of the regions
abbrev pub PresentsPlacesOfRegions : Type 0
PresentsPlacesOfRegions = (regions : List Region) (view : View) (most : ℕ) → All (λ r. r.place ≤ most) regions → All (λ place. place ≤ most) (view_presents regions view)

-- the place of the region that a ray met, and 0 where it met none
abbrev pub seen_place : List Region → Option Seen → ℕ
seen_place regions None = 0
seen_place regions (Some seen) = place_of (slice_get regions seen.region)

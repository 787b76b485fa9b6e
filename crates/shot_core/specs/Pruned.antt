-- The regions that are kept for a tile, and what its rays meet of them.
use Rattle.std.specs.Prelude.{◌≡◌, ◌↔◌, ◌<◌, ◌+◌, ◌-◌, ℕ, List, Option, Some, None, Bool, IsTrue, map, filter, slice_get}
use Rattle.std.specs.Option.{option_map}
use Rattle.lattice_core.specs.declared.boxes.Box3.{Box3}
use Rattle.lattice_core.specs.declared.ray.Ray.{Ray}
use Rattle.lattice_core.specs.declared.view.View.{View}
use Rattle.lattice_core.specs.Boxes.{Meets}
use Rattle.lattice_core.specs.Spans.{meet_span, reach_span}
use Rattle.lattice_core.specs.Units.{unit_of}
use Rattle.lattice_core.specs.Views.{pixel_ray, IsChecked}
use Rattle.lattice_core.specs.Tiles.{tiles_of, span_of, IsIn, MeetsTile}
use Rattle.surd_order.specs.declared.position.Pos.{Pos}
use Rattle.overlap_list.specs.declared.overlap.OverlapRun.{OverlapRun}
use Rattle.shot_core.specs.declared.shot.Lit.{Lit}
use Rattle.shot_core.specs.Regions.{Region, HaveInstances, HavePlacedSolids}
use Rattle.shot_core.specs.RegionBoxes.{region_box}
use Rattle.shot_core.specs.TreeBoxes.{has_points, hull_of}
use Rattle.shot_core.specs.Shots.{overlaps_on}
use Rattle.shot_core.specs.FirstShots.{first_seen}

-- what a ray meets first, with the region itself in place of its number
pub record SeenRegion : Type 0 where
  pub region : Option Region
  pub start : Pos
  pub face : ℕ
  pub level : ℕ

abbrev pub seen_region_of : List Region → Lit → SeenRegion
seen_region_of regions lit = record { region = slice_get regions lit.region; start = lit.start; face = lit.hit.face; level = lit.level }

abbrev pub seen_region : List Region → Ray → Option SeenRegion
seen_region regions ray = option_map (seen_region_of regions) (first_seen regions ray)

abbrev pub place_of : Option Region → ℕ
place_of None = 0
place_of (Some r) = r.place

-- an overlap with the places of its regions in place of their numbers
abbrev pub by_place : List Region → OverlapRun → OverlapRun
by_place regions run = record run { one = place_of (slice_get regions run.one); two = place_of (slice_get regions run.two) }

abbrev pub overlaps_by_place : List Region → Ray → List OverlapRun
overlaps_by_place regions ray = map (by_place regions) (overlaps_on regions ray)

-- the box of a ray's points
abbrev pub ray_reach : Ray → Box3
ray_reach ray = reach_span ray.origin (unit_of ray.dir)

-- the box of a tile's rays, from its first and its last one
abbrev pub tile_reach : View → ℕ → Box3
tile_reach view tile =
    hull_of (ray_reach (pixel_ray view (span_of view tile).column (span_of view tile).row))
    (ray_reach (pixel_ray view ((span_of view tile).column + ((span_of view tile).w - 1)) ((span_of view tile).row + ((span_of view tile).h - 1))))

-- whether some point lies in both boxes
abbrev pub share_points : Box3 → Box3 → Bool
share_points a b = has_points (meet_span a b)

-- the computation says whether some point lies in both
abbrev pub TellsWhetherShared : Type 0
TellsWhetherShared = (a b : Box3) → IsTrue (share_points a b) ↔ Meets a b

abbrev pub meets_tile : Box3 → View → ℕ → Bool
meets_tile b view tile = share_points b (tile_reach view tile)

-- the computation says whether some point lies in the box and in the box of the tile's rays
abbrev pub TellsWhetherTileMet : Type 0
TellsWhetherTileMet = (b : Box3) (view : View) (tile : ℕ) → IsChecked view → tile < tiles_of view → IsTrue (meets_tile b view tile) ↔ MeetsTile b view tile

-- the regions that are kept for a tile, in order: those whose box meets the box of the tile's rays
abbrev pub kept_for : List Region → View → ℕ → List Region
kept_for regions view tile = filter (λ r. meets_tile (region_box r.body) view tile) regions

-- a pixel of a tile of a view, whose regions are those of a scene
pub record IsPixelOf (regions : List Region) (view : View) (tile column row : ℕ) : Type 0 where
  pub instances : HaveInstances regions
  pub placed : HavePlacedSolids regions
  pub checked : IsChecked view
  pub in_view : tile < tiles_of view
  pub in_tile : IsIn (span_of view tile) column row

-- on a ray of the tile they show first what all regions show first
abbrev pub KeptSeeTheSame : Type 0
KeptSeeTheSame = (regions : List Region) (view : View) (tile column row : ℕ) → IsPixelOf regions view tile column row
    → seen_region (kept_for regions view tile) (pixel_ray view column row) ≡ seen_region regions (pixel_ray view column row)

-- and they overlap there as all regions do
abbrev pub KeptOverlapTheSame : Type 0
KeptOverlapTheSame = (regions : List Region) (view : View) (tile column row : ℕ) → IsPixelOf regions view tile column row
    → overlaps_by_place (kept_for regions view tile) (pixel_ray view column row) ≡ overlaps_by_place regions (pixel_ray view column row)

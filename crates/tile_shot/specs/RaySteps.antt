-- Words of the code, over the rays of a tile that are done.
use Rattle.std.specs.Prelude.{ℕ, ◌-◌, List, ◌++◌, flat_map}
use Rattle.std.specs.List.{range_with_len}
use Rattle.lattice_core.specs.declared.tile.TileSpan.{TileSpan}
use Rattle.overlap_list.specs.declared.overlap.OverlapRun.{OverlapRun}
use Rattle.shot_core.specs.declared.pair.Pair.{Pair}
use Rattle.shot_core.specs.Regions.{Region}
use Rattle.shot_core.specs.Pruned.{by_place}
use Rattle.tile_shot.specs.Reports.{Spot, row_spots}

-- the pixels of a span that lie above a row
abbrev pub spots_above : TileSpan → ℕ → List Spot
spots_above span row = flat_map (row_spots span.column span.w) (range_with_len span.row (row - span.row))

-- and those of the row that lie before a column
abbrev pub spots_before : TileSpan → ℕ → ℕ → List Spot
spots_before span column row = spots_above span row ++ row_spots span.column (column - span.column) row

-- an overlap on one ray
abbrev pub pair_on_ray : Spot → OverlapRun → Pair
pair_on_ray spot run = record { one = run.one; two = run.two; rays = 1; column = spot.column; row = spot.row; start = run.start; end = run.end }

abbrev pub pair_by_place : List Region → ℕ → ℕ → OverlapRun → Pair
pair_by_place regions column row run = pair_on_ray (record { column = column; row = row }) (by_place regions run)

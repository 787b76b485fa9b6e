-- What reports are, and how those of tiles make that of a view.
use Rattle.std.specs.Prelude.{◌≡◌, ◌≢◌, ◌<◌, ◌≤◌, ◌+◌, ℕ, List, [], Bool, All, Any, length}
use Rattle.lattice_core.specs.declared.view.View.{View}
use Rattle.lattice_core.specs.Views.{IsChecked}
use Rattle.lattice_core.specs.Tiles.{tiles_of}
use Rattle.shot_core.specs.declared.pair.Pair.{Pair}
use Rattle.shot_core.specs.Regions.{Region, HaveInstances, HavePlacedSolids, IsScene}
use Rattle.shot_core.specs.Pruned.{kept_for}
use Rattle.shot_core.specs.Candidates.{candidates_of}
use Rattle.tile_shot.specs.Reports.{Spot, report_of, view_report, tile_report, spots_where, is_in_tile, is_in_tiles, AreApart, AddUp, HaveRisingPlaces}
use Rattle.tile_shot.specs.Merges.{ArePairs}

-- the places of two regions, the lower one first, and from 1 to so many rays
pub record IsReported (regions : List Region) (count : ℕ) (pair : Pair) : Type 0 where
  pub one : Any (λ r. r.place ≡ pair.one) regions
  pub two : Any (λ r. r.place ≡ pair.two) regions
  pub order : pair.one < pair.two
  pub some : 1 ≤ pair.rays
  pub most : pair.rays ≤ count

-- each pair of a report is of two of the regions, on some of the rays
abbrev pub ReportsAreOfRegions : Type 0
ReportsAreOfRegions = (regions : List Region) (view : View) (spots : List Spot) → HaveRisingPlaces regions → All (IsReported regions (length spots)) (report_of regions view spots)

-- the pairs of a report are in order, and their rays are no more than a view has
abbrev pub ReportsArePairs : Type 0
ReportsArePairs = (regions : List Region) (view : View) (a : Spot → Bool) → HaveRisingPlaces regions → IsChecked view → ArePairs (report_of regions view (spots_where view a))

-- a report of some pixels has at most as many pairs as that of the whole view
abbrev pub PartsHaveFewerPairs : Type 0
PartsHaveFewerPairs = (regions : List Region) (view : View) (a : Spot → Bool) → HaveRisingPlaces regions
    → length (report_of regions view (spots_where view a)) ≤ length (view_report regions view)

-- the report of a tile is that of the view's pixels that are in the tile
abbrev pub TilesAreParts : Type 0
TilesAreParts = (regions : List Region) (view : View) (tile : ℕ) → tile < tiles_of view → tile_report regions view tile ≡ report_of regions view (spots_where view (is_in_tile view tile))

-- no pixel is in two tiles
abbrev pub TilesAreApart : Type 0
TilesAreApart = (view : View) (one two : ℕ) → one < tiles_of view → two < tiles_of view → one ≢ two → AreApart view (is_in_tile view one) (is_in_tile view two)

-- nor in a tile and in one before it
abbrev pub TilesFollow : Type 0
TilesFollow = (view : View) (tile : ℕ) → tile < tiles_of view → AreApart view (is_in_tiles view tile) (is_in_tile view tile)

-- all tiles together are the view
abbrev pub TilesAreAll : Type 0
TilesAreAll = (regions : List Region) (view : View) → report_of regions view (spots_where view (is_in_tiles view (tiles_of view))) ≡ view_report regions view

-- each tile's report is added to those before it
abbrev pub AreAddedInTurn : List Region → View → (ℕ → List Pair) → Type 0
AreAddedInTurn regions view reports = (tile : ℕ) → tile < tiles_of view → AddUp (reports tile) (tile_report regions view tile) (reports (tile + 1))

-- where the reports of all tiles of a view are added, one after the other, they make that of the view
abbrev pub TilesMakeReports : Type 0
TilesMakeReports = (regions : List Region) (view : View) (reports : ℕ → List Pair) → HaveRisingPlaces regions
    → reports 0 ≡ [] → AreAddedInTurn regions view reports → reports (tiles_of view) ≡ view_report regions view

-- the regions that are kept for a tile have the tile's report of all regions
abbrev pub KeptHaveTheSameReport : Type 0
KeptHaveTheSameReport = (regions : List Region) (view : View) (tile : ℕ) → HaveInstances regions → HavePlacedSolids regions → HaveRisingPlaces regions → IsChecked view → tile < tiles_of view
    → tile_report (kept_for regions view tile) view tile ≡ tile_report regions view tile

-- and so have the regions that may overlap another one
abbrev pub CandidatesHaveTheSameReport : Type 0
CandidatesHaveTheSameReport = (regions : List Region) (view : View) (spots : List Spot) → IsScene regions → HaveInstances regions → HavePlacedSolids regions
    → report_of (candidates_of regions) view spots ≡ report_of regions view spots

-- What the pieces of jobs in flight give, and what their results name.
use Rattle.std.specs.Prelude.{◌≡◌, ◌+◌, ℕ, List, Option, min, slice_index_or, vec_len}
use Rattle.std.specs.Arc.{arc_value}
use Rattle.std.proofs.Props.{props}
use Rattle.lattice_core.specs.contracts.view.View as views
use Rattle.shot_core.specs.Prepared.{region_code}
use Rattle.lattice_core.specs.declared.view.View.{View}
use Rattle.lattice_core.specs.Tiles.{tiles_of}
use Rattle.shot_core.specs.Regions.{Region}
use Rattle.tile_shot.specs.Named.{TileName}
use Rattle.view_shot.specs.Jobs.{GivesTile, IsCheckOf, IsShotOf, NamesCheck}
use Rattle.view_shot.specs.Steps.{lacking}
use Rattle.view_shot.specs.declared.work.Shot.{Shot}
use Rattle.view_shot.specs.declared.work.Shot.TheVariants.{Tile, Pairs}
use Rattle.view_shot.specs.declared.work.Work.{Work}
use Rattle.view_shot.specs.declared.work.Work.TheVariants.{Picture, Check}

-- how many pieces there are
abbrev pub pieces_of : Work → ℕ
pieces_of (Picture job) = vec_len job.tiles
pieces_of (Check job) = job.count

-- the number of the tile that a piece is about
abbrev pub tile_of : Work → ℕ → ℕ
tile_of (Picture job) i = slice_index_or job.tiles.items i 0
tile_of (Check job) i = job.first + i

-- what is shot is the tile of that piece, with its bytes, or the pairs of that tile
abbrev pub GivesShot : Work → ℕ → Shot → Type 0
GivesShot (Picture job) i (Tile tile) = GivesTile job i tile
GivesShot (Picture job) i (Pairs pairs) = ⊥
GivesShot (Check job) i (Tile tile) = ⊥
GivesShot (Check job) i (Pairs pairs) = IsCheckOf job i (arc_value pairs.named).pairs

-- it names the work of that piece
abbrev pub NamesShot : Work → ℕ → Shot → Type 0
NamesShot (Picture job) i (Tile tile) = IsShotOf job i tile
NamesShot (Picture job) i (Pairs pairs) = ⊥
NamesShot (Check job) i (Tile tile) = ⊥
NamesShot (Check job) i (Pairs pairs) = NamesCheck job i (arc_value pairs.named)

-- a tile is shot
abbrev pub IsTile : Shot → Type 0
IsTile (Tile tile) = Unit {0}
IsTile (Pairs pairs) = ⊥

-- or pairs
abbrev pub HasPairs : Shot → Type 0
HasPairs (Tile tile) = ⊥
HasPairs (Pairs pairs) = Unit {0}

-- how many tiles of a view's check are posted: all of them, or the first 1,024
abbrev pub posted_of : View → ℕ
posted_of view = min (tiles_of view) 1024

-- the job is that of the tiles of a view that were not found
abbrev pub IsOfPicture : List Region → View → List (Option TileName) → Work → Type 0
IsOfPicture scene view names (Picture job) = (arc_value job.scene ≡ scene) × (job.view ≡ view) × (job.tiles.items ≡ lacking names 0)
IsOfPicture scene view names (Check job) = ⊥

-- the job is that of the first so many tiles of a view
abbrev pub IsOfCheck : List Region → View → ℕ → Work → Type 0
IsOfCheck scene view count (Picture job) = ⊥
IsOfCheck scene view count (Check job) = (arc_value job.scene ≡ scene) × (job.view ≡ view) × (job.first ≡ 0) × (job.count ≡ count)

-- both hold in one way at most, so a type can keep them
pub of_picture_prop : (scene : List Region) (view : View) (names : List (Option TileName)) (work : Work) → IsProp (IsOfPicture scene view names work)
of_picture_prop scene view names (Picture job) = hlevel (props, region_code, views.the_row.coded)
of_picture_prop scene view names (Check job) = hlevel props

-- and this one
pub of_check_prop : (scene : List Region) (view : View) (count : ℕ) (work : Work) → IsProp (IsOfCheck scene view count work)
of_check_prop scene view count (Picture job) = hlevel props
of_check_prop scene view count (Check job) = hlevel (props, region_code, views.the_row.coded)

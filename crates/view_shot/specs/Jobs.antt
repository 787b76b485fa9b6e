-- What the pieces of a view's jobs give, and what their results name.
use Rattle.std.specs.Prelude.{◌≡◌, ◌+◌, ℕ, List, slice_index_or}
use Rattle.std.specs.Arc.{arc_value}
use Rattle.shot_core.specs.Pruned.{kept_for}
use Rattle.shot_core.specs.Regions.{Region}
use Rattle.lattice_core.specs.declared.view.View.{View}
use Rattle.area_tool.specs.Presented.{tile_presents}
use Rattle.tile_shot.specs.Named.{IsShot, NamedTile}
use Rattle.tile_workers.specs.Results.{AreResults}
use Rattle.view_shot.specs.Kept.{tile_name}
use Rattle.view_shot.specs.Named.{places_of}
use Rattle.view_shot.specs.Steps.{IsTileReport}
use Rattle.view_shot.specs.declared.job.TileJob.{TileJob}
use Rattle.view_shot.specs.declared.job.CheckJob.{CheckJob}
use Rattle.view_shot.specs.declared.named.NamedPairs.{NamedPairs}
use Rattle.view_shot.specs.declared.named.SharedPairs.{SharedPairs}
use Rattle.view_shot.specs.declared.named.TilePairs.{TilePairs}
use Rattle.view_shot.specs.declared.present_job.NamedPresents.{NamedPresents}
use Rattle.view_shot.specs.declared.present_job.PresentJob.{PresentJob}
use Rattle.view_shot.specs.declared.present_job.SharedPresents.{SharedPresents}

-- the tile is named as that of the number that stands at this place of the job's list
abbrev pub IsShotOf : TileJob → ℕ → NamedTile → Type 0
IsShotOf job i out = out.key ≡ tile_name (arc_value job.scene) job.view (slice_index_or job.tiles.items i 0)

-- it is the tile of that number: it is named so, and has the bytes of the tile of that name
abbrev pub GivesTile : TileJob → ℕ → NamedTile → Type 0
GivesTile job i out = IsShotOf job i out × IsShot out.key out.bytes

-- the report of a tile so far from the job's first
abbrev pub IsCheckOf : CheckJob → ℕ → TilePairs → Type 0
IsCheckOf job i out = IsTileReport (arc_value job.scene) job.view (job.first + i) out.pairs

-- the pairs are named as those of that tile: by the tile's name, and the places of the regions that are kept for it
abbrev pub NamesCheck : CheckJob → ℕ → NamedPairs → Type 0
NamesCheck job i named =
    (named.key ≡ tile_name (arc_value job.scene) job.view (job.first + i)) × (named.places ≡ places_of (kept_for (arc_value job.scene) job.view (job.first + i)))

-- these are the pairs of so many tiles of a view, from a first one on, in the order of the tiles
abbrev pub AreReports : List Region → View → ℕ → ℕ → List SharedPairs → Type 0
AreReports scene view first n shots = AreResults (λ (i : ℕ) (shared : SharedPairs). IsTileReport scene view (first + i) (arc_value shared.named).pairs.pairs) n shots

-- what the pixels of the tile of that number present
abbrev pub IsPresentedBy : PresentJob → ℕ → List ℕ → Type 0
IsPresentedBy job i presents = presents ≡ tile_presents (arc_value job.scene) job.view i

-- it is named as what that tile presents: by the tile's name, and the places of the regions that are kept for it
abbrev pub NamesPresents : PresentJob → ℕ → NamedPresents → Type 0
NamesPresents job i named = (named.key ≡ tile_name (arc_value job.scene) job.view i) × (named.places ≡ places_of (kept_for (arc_value job.scene) job.view i))

-- this is what the first so many tiles of a view present, in the order of the tiles
abbrev pub ArePresented : List Region → View → ℕ → List SharedPresents → Type 0
ArePresented scene view n shots = AreResults (λ (i : ℕ) (shared : SharedPresents). (arc_value shared.named).presents ≡ tile_presents scene view i) n shots

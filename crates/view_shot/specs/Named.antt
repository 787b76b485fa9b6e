-- The pairs of a tile and what it presents, by what names them.
use Rattle.std.specs.Prelude.{◌≡◌, ℕ, List, [], ◌∷◌, Option, None, Some, map}
use Rattle.std.proofs.Props.{props}
use Rattle.lattice_core.specs.declared.view.View.{View}
use Rattle.shot_core.specs.Regions.{Region, RegionBody}
use Rattle.shot_core.specs.declared.pair.Pair.{Pair}
use Rattle.area_tool.specs.Presented.{tile_presents}
use Rattle.tile_shot.specs.Named.{TileName}
use Rattle.view_shot.specs.Steps.{IsTileReport}

abbrev pub places_of : List Region → List ℕ
places_of regions = map (λ (r : Region). r.place) regions

-- regions of these bodies at these places, without paths
abbrev pub regions_at : List ℕ → List RegionBody → List Region
regions_at [] bodies = []
regions_at (place ∷ places) [] = []
regions_at (place ∷ places) (body ∷ bodies) = record { place = place; path = []; body = body } ∷ regions_at places bodies

-- the pairs are those of the tile of that name, where its regions stand at these places
abbrev pub IsNamedReport : TileName → List ℕ → Option (List Pair) → Type 0
IsNamedReport key places pairs = IsTileReport (regions_at places key.bodies) key.view key.tile pairs

-- each of these facts holds in one way at most
report_prop : (scene : List Region) (view : View) (tile : ℕ) (pairs : Option (List Pair)) → IsProp (IsTileReport scene view tile pairs)
report_prop scene view tile None = hlevel props
report_prop scene view tile (Some pairs) = hlevel props

-- so a type can keep it
pub named_prop : (key : TileName) (places : List ℕ) (pairs : Option (List Pair)) → IsProp (IsNamedReport key places pairs)
named_prop key places pairs = report_prop (regions_at places key.bodies) key.view key.tile pairs

-- these are the places that the pixels of the tile of that name present, where its regions stand at these places
abbrev pub IsNamedPresents : TileName → List ℕ → List ℕ → Type 0
IsNamedPresents key places presents = presents ≡ tile_presents (regions_at places key.bodies) key.view key.tile

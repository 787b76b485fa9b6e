-- Words of the code: the tiles of a picture by what was found of them, and the picture after some of them.
use Rattle.std.specs.Prelude.{ℕ, suc, ◌+◌, ◌≡◌, true, false, cond, List, [], ◌∷◌, Option, None, Some, map, length, slice_get}
use Rattle.std.specs.List.{AllByRecursion}
use Rattle.std.specs.Option.{option_map}
use Rattle.lattice_core.specs.declared.view.View.{View}
use Rattle.overlap_list.specs.Overlaps.{IsTooMany}
use Rattle.overlap_list.specs.declared.overlap.CheckFault.TheVariants.{TooMany}
use Rattle.shot_core.specs.Regions.{Region}
use Rattle.shot_core.specs.declared.pair.Pair.{Pair}
use Rattle.ppm_write.specs.Pictures.{IsCopied}
use Rattle.tile_shot.specs.Named.{TileName, NamedTile, IsShot, is_small_name}
use Rattle.tile_shot.specs.Reports.{tile_report}
use Rattle.view_shot.specs.Kept.{is_kept, put_in, tile_name}

-- all kept tiles have small bodies
abbrev pub AreSmall : List TileName → Type 0
AreSmall kept = AllByRecursion (λ name. is_small_name name ≡ true) kept

-- the name, where it is kept
abbrev pub if_kept : List TileName → TileName → Option TileName
if_kept kept name = cond (is_kept kept name) (Some name) None

-- the names that were found, in their order
abbrev pub found : List (Option TileName) → List TileName
found [] = []
found (None ∷ rest) = found rest
found (Some name ∷ rest) = name ∷ found rest

-- all these names are kept
abbrev pub AreKept : List TileName → List TileName → Type 0
AreKept kept names = AllByRecursion (λ name. is_kept kept name ≡ true) names

-- and none of these
abbrev pub AreFresh : List TileName → List TileName → Type 0
AreFresh kept names = AllByRecursion (λ name. is_kept kept name ≡ false) names

-- the numbers of those that were not found, where the first has this number
abbrev pub lacking : List (Option TileName) → ℕ → List ℕ
lacking [] from = []
lacking (None ∷ rest) from = from ∷ lacking rest (from + 1)
lacking (Some name ∷ rest) from = lacking rest (from + 1)

-- these are the tiles whose names were not found, in the order of their numbers
abbrev pub AreLacking : List Region → View → List (Option TileName) → List NamedTile → Type 0
AreLacking scene view names shot = map (λ (t : NamedTile). t.key) shot ≡ map (tile_name scene view) (lacking names 0)

-- the names of tiles that are there
abbrev pub names_of : List (Option NamedTile) → List (Option TileName)
names_of slots = map (option_map (λ (t : NamedTile). t.key)) slots

-- what is kept after one more tile was shot
abbrev pub with_small : List TileName → TileName → List TileName
with_small kept name = cond (is_small_name name) (put_in kept name) kept

-- a tile is put into a picture of its view
pub record IsPut (view : View) (tile : ℕ) (one : NamedTile) (old new : List ℕ) : Type 0 where
  pub copied : IsCopied view tile one.bytes old new
  pub shot : IsShot one.key one.bytes

-- what names the tile is of this view, and has this number
pub record IsTileOf (view : View) (tile : ℕ) (one : NamedTile) : Type 0 where
  pub view_is : one.key.view ≡ view
  pub tile_is : one.key.tile ≡ tile

-- the tile of this number is there, or is the next of those that were shot, and of a name that is not kept
abbrev pub CanPut : View → ℕ → Option NamedTile → List NamedTile → ℕ → List TileName → Type 0
CanPut view tile (Some reused) shot next kept = IsTileOf view tile reused
CanPut view tile None shot next kept = (one : NamedTile) × (slice_get shot next ≡ Some one) × IsTileOf view tile one × (is_kept kept one.key ≡ false)

-- it was put into the picture; one that was shot is kept from now on, where it is small
abbrev pub HasPut : View → ℕ → Option NamedTile → List NamedTile → ℕ → ℕ → List TileName → List TileName → List ℕ → List ℕ → Type 0
HasPut view tile (Some reused) shot next next' kept kept' old new = IsPut view tile reused old new × (next' ≡ next) × (kept' ≡ kept)
HasPut view tile None shot next next' kept kept' old new = (one : NamedTile) × (slice_get shot next ≡ Some one) × IsPut view tile one old new × (next' ≡ suc next) × (kept' ≡ with_small kept one.key)

-- there was no memory to keep the tile of this number: it is the next of those that were shot, and small, and all is kept as before
abbrev pub IsNotKept : Option NamedTile → List NamedTile → ℕ → List TileName → List TileName → Type 0
IsNotKept (Some reused) shot next kept kept' = ⊥
IsNotKept None shot next kept kept' = (one : NamedTile) × (slice_get shot next ≡ Some one) × (is_small_name one.key ≡ true) × (kept' ≡ kept)

-- the report of a tile, or none where the view's has more pairs than a report may have
abbrev pub IsTileReport : List Region → View → ℕ → Option (List Pair) → Type 0
IsTileReport scene view tile None = IsTooMany (length (tile_report scene view tile)) TooMany
IsTileReport scene view tile (Some pairs) = pairs ≡ tile_report scene view tile

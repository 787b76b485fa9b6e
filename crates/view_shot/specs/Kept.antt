-- Tiles that are kept, by their names, the last used first: what a picture reuses of them, what it shoots, and what is kept after it.
use Rattle.std.specs.Prelude.{◌≡◌, ◌≤◌, ◌<◌, ◌⊎◌, ℕ, Bool, not, List, [], ◌∷◌, ◌++◌, filter, map, take, length}
use Rattle.std.specs.List.{list_any, range_with_len}
use Rattle.lattice_core.specs.declared.view.View.{View}
use Rattle.lattice_core.specs.Tiles.{tiles_of}
use Rattle.shot_core.specs.Regions.{Region}
use Rattle.shot_core.specs.Pruned.{kept_for}
use Rattle.tile_cache.specs.Kept.{most_kept}
use Rattle.tile_shot.specs.Named.{TileName, name_of, is_small_name}
use Rattle.tile_shot.specs.Same.{same_name}

-- what names a tile of a view of a scene: the view, its number, and the bodies of the regions that are kept for it
abbrev pub tile_name : List Region → View → ℕ → TileName
tile_name scene view tile = name_of (kept_for scene view tile) view tile

-- the names of all tiles of a view, in the order of the tiles
abbrev pub tile_names : List Region → View → List TileName
tile_names scene view = map (tile_name scene view) (range_with_len 0 (tiles_of view))

-- whether a tile of this name is kept
abbrev pub is_kept : List TileName → TileName → Bool
is_kept kept name = list_any (same_name name) kept

-- those of the tiles that are kept, which are reused
abbrev pub reused : List TileName → List TileName → List TileName
reused kept names = filter (is_kept kept) names

-- and those that are not, which are shot
abbrev pub shot : List TileName → List TileName → List TileName
shot kept names = filter (λ name. not (is_kept kept name)) names

-- a tile that is reused goes to the front, and the others follow in their order
abbrev pub moved : List TileName → TileName → List TileName
moved kept name = filter (same_name name) kept ++ filter (λ other. not (same_name name other)) kept

-- a tile that was shot is put at the front, and the list is cut to its first 4,096
abbrev pub put_in : List TileName → TileName → List TileName
put_in kept name = take most_kept (name ∷ kept)

-- one tile after the other
abbrev pub in_turn : (List TileName → TileName → List TileName) → List TileName → List TileName → List TileName
in_turn step kept [] = kept
in_turn step kept (name ∷ names) = in_turn step (step kept name) names

-- What is kept after a picture of these tiles: the reused ones go to the front, in the order of the tiles, and then those that
-- were shot are put in, but for the ones whose bodies have a size over 128.
abbrev pub after_picture : List TileName → List TileName → List TileName
after_picture kept names = in_turn put_in (in_turn moved kept (reused kept names)) (filter is_small_name (shot kept names))

-- the first so many of these tiles went to the front, one after the other
abbrev pub AreMovedInPart : List TileName → List TileName → List TileName → Type 0
AreMovedInPart kept names left = (n : ℕ) × (n ≤ length names) × (left ≡ in_turn moved kept (take n names))

-- the first so many of these tiles were put in, one after the other, but not all
abbrev pub ArePutInPart : List TileName → List TileName → List TileName → Type 0
ArePutInPart kept names left = (n : ℕ) × (n < length names) × (left ≡ in_turn put_in kept (take n names))

-- What is kept where the memory for a picture of these tiles ran out: some of the reused ones went to the front, in the order of
-- the tiles; or all of them did, and then some of those that are to be put in were, in their order, but not the last.
abbrev pub IsPartWay : List TileName → List TileName → List TileName → Type 0
IsPartWay kept names left = AreMovedInPart kept (reused kept names) left ⊎ ArePutInPart (in_turn moved kept (reused kept names)) (filter is_small_name (shot kept names)) left

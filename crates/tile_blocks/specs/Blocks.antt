-- Blocks of pixels: lists of so many samples a pixel, row by row from the top, and those of the tiles of a view put into that of
-- the view. How many samples a pixel has is the depth: 3 for bytes of red, green and blue, 1 for one number a pixel. What is read
-- past the end of a list is a sample z, whichever.
use Rattle.std.specs.Prelude.{◌≡◌, ◌↔◌, ◌+◌, ◌*◌, ◌<◌, ℕ, List, length, map, flat_map, slice_index_or}
use Rattle.std.specs.List.{range_with_len}
use Rattle.lattice_core.specs.declared.view.View.{View}
use Rattle.lattice_core.specs.declared.tile.TileSpan.{TileSpan}
use Rattle.lattice_core.specs.Tiles.{tiles_of, span_of, IsIn}

-- the list has as many samples as the depth says for each pixel of w columns and h rows
abbrev pub IsRaster : {A : Type 0} → ℕ → ℕ → ℕ → List A → Type 0
IsRaster depth w h list = length list ≡ depth * (w * h)

-- a sample, counted from 0, of the pixel in a column and a row of w columns
abbrev pub sample_at : {A : Type 0} → A → ℕ → ℕ → List A → ℕ → ℕ → ℕ → A
sample_at z depth w list column row sample = slice_index_or list (depth * (row * w + column) + sample) z

-- the tile's pixels are set to those of the tile's own list, and the others are as they were
pub record IsCopied {A : Type 0} (z : A) (depth : ℕ) (view : View) (tile : ℕ) (part old new : List A) : Type 0 where
  pub size : length new ≡ length old
  pub inside : (across down sample : ℕ) → across < (span_of view tile).w → down < (span_of view tile).h → sample < depth
      → sample_at z depth view.w new ((span_of view tile).column + across) ((span_of view tile).row + down) sample ≡ sample_at z depth (span_of view tile).w part across down sample
  pub outside : (column row sample : ℕ) → column < view.w → row < view.h → sample < depth → (¬ IsIn (span_of view tile) column row)
      → sample_at z depth view.w new column row sample ≡ sample_at z depth view.w old column row sample

-- a list of w columns and h rows, whose pixels have these samples
pub record HasSamples {A : Type 0} (z : A) (depth w h : ℕ) (samples : ℕ → ℕ → ℕ → A) (list : List A) : Type 0 where
  pub size : IsRaster depth w h list
  pub each : (column row sample : ℕ) → column < w → row < h → sample < depth → sample_at z depth w list column row sample ≡ samples column row sample

-- the tile of a view, whose pixels have these samples, by their columns and rows in the view
abbrev pub HasTileSamples : {A : Type 0} → A → ℕ → View → ℕ → (ℕ → ℕ → ℕ → A) → List A → Type 0
HasTileSamples z depth view tile samples part =
    (across down sample : ℕ) → across < (span_of view tile).w → down < (span_of view tile).h → sample < depth
    → sample_at z depth (span_of view tile).w part across down sample ≡ samples ((span_of view tile).column + across) ((span_of view tile).row + down) sample

-- each tile is put into the list that those before it left
abbrev pub AreCopiedInTurn : {A : Type 0} → A → ℕ → View → (ℕ → List A) → (ℕ → List A) → Type 0
AreCopiedInTurn z depth view parts lists = (tile : ℕ) → tile < tiles_of view → IsCopied z depth view tile (parts tile) (lists tile) (lists (tile + 1))

-- where all tiles of a view are put in, one after the other, the list has the samples of the view
abbrev pub IsMadeOfTiles : {A : Type 0} → A → ℕ → View → Type 0
IsMadeOfTiles {A} z depth view =
    (samples : ℕ → ℕ → ℕ → A) (parts lists : ℕ → List A) → IsRaster depth view.w view.h (lists 0) → AreCopiedInTurn z depth view parts lists
    → ((tile : ℕ) → tile < tiles_of view → HasTileSamples z depth view tile samples (parts tile)) → HasSamples z depth view.w view.h samples (lists (tiles_of view))

-- the samples of a pixel
abbrev pub pixel_samples : {A : Type 0} → ℕ → (ℕ → ℕ → ℕ → A) → ℕ → ℕ → List A
pixel_samples depth samples column row = map (samples column row) (range_with_len 0 depth)

-- the samples of a row of pixels, from a column on
abbrev pub row_samples : {A : Type 0} → ℕ → (ℕ → ℕ → ℕ → A) → ℕ → ℕ → ℕ → List A
row_samples depth samples column w row = flat_map (λ c. pixel_samples depth samples c row) (range_with_len column w)

-- the samples of some rows and columns of pixels, row by row
abbrev pub block_samples : {A : Type 0} → ℕ → (ℕ → ℕ → ℕ → A) → TileSpan → List A
block_samples depth samples span = flat_map (row_samples depth samples span.column span.w) (range_with_len span.row span.h)

-- all columns and rows of a view
abbrev pub whole_span : View → TileSpan
whole_span view = record { column = 0; row = 0; w = view.w; h = view.h }

-- the block of a tile has as many samples as its columns and rows want, and those of its pixels
abbrev pub AreTilesOfBlocks : {A : Type 0} → A → ℕ → View → Type 0
AreTilesOfBlocks {A} z depth view =
    (samples : ℕ → ℕ → ℕ → A) (tile : ℕ)
    → IsRaster depth (span_of view tile).w (span_of view tile).h (block_samples depth samples (span_of view tile))
    × HasTileSamples z depth view tile samples (block_samples depth samples (span_of view tile))

-- a list has these samples of a view exactly where it is the block of them
abbrev pub AreBlocks : {A : Type 0} → A → ℕ → View → Type 0
AreBlocks {A} z depth view = (samples : ℕ → ℕ → ℕ → A) (list : List A) → HasSamples z depth view.w view.h samples list ↔ list ≡ block_samples depth samples (whole_span view)

-- where the blocks of all tiles of a view are put in, one after the other, the list is the block of the view
abbrev pub IsMadeOfBlocks : {A : Type 0} → A → ℕ → View → Type 0
IsMadeOfBlocks {A} z depth view =
    (samples : ℕ → ℕ → ℕ → A) (lists : ℕ → List A) → IsRaster depth view.w view.h (lists 0) → AreCopiedInTurn z depth view (λ tile. block_samples depth samples (span_of view tile)) lists
    → lists (tiles_of view) ≡ block_samples depth samples (whole_span view)

-- Lists of one number a pixel, row by row from the top: those of the tiles of a view, put into that of the view.
use Rattle.std.specs.Prelude.{◌≡◌, ◌↔◌, ◌+◌, ◌*◌, ◌<◌, ℕ, List, length, slice_index_or}
use Rattle.lattice_core.specs.declared.view.View.{View}
use Rattle.lattice_core.specs.declared.tile.TileSpan.{TileSpan}
use Rattle.lattice_core.specs.Tiles.{tiles_of, span_of}
use Rattle.tile_blocks.specs.Blocks as blocks
pub use Rattle.tile_blocks.specs.Blocks.{whole_span}

-- the list has one number for each pixel of so many columns and rows
abbrev pub IsOnePerPixel : ℕ → ℕ → List ℕ → Type 0
IsOnePerPixel w h numbers = length numbers ≡ w * h

-- the number of the pixel in a column and a row, of w columns
abbrev pub number_at : ℕ → List ℕ → ℕ → ℕ → ℕ
number_at w numbers column row = slice_index_or numbers (row * w + column) 0

-- the tile's pixels are set to the numbers of its own list, and the others are as they were
abbrev pub IsCopied : View → ℕ → List ℕ → List ℕ → List ℕ → Type 0
IsCopied view tile part old new = blocks.IsCopied 0 1 view tile part old new

-- each tile is put into the list that those before it left
abbrev pub AreCopiedInTurn : View → (ℕ → List ℕ) → (ℕ → List ℕ) → Type 0
AreCopiedInTurn view parts lists = blocks.AreCopiedInTurn 0 1 view parts lists

-- the pixels of so many columns and rows have these numbers
pub record HasNumbers (w h : ℕ) (values : ℕ → ℕ → ℕ) (numbers : List ℕ) : Type 0 where
  pub size : IsOnePerPixel w h numbers
  pub each : (column row : ℕ) → column < w → row < h → number_at w numbers column row ≡ values column row

-- the numbers of a row, from a column on
abbrev pub row_numbers : (ℕ → ℕ → ℕ) → ℕ → ℕ → ℕ → List ℕ
row_numbers values column w row = blocks.row_samples 1 (λ c r sample. values c r) column w row

-- the numbers of some columns and rows, row by row
abbrev pub block_numbers : (ℕ → ℕ → ℕ) → TileSpan → List ℕ
block_numbers values span = blocks.block_samples 1 (λ c r sample. values c r) span

-- a list has these numbers for the pixels of a view exactly where it is the block of them
abbrev pub AreBlocks : View → Type 0
AreBlocks view = (values : ℕ → ℕ → ℕ) (numbers : List ℕ) → HasNumbers view.w view.h values numbers ↔ numbers ≡ block_numbers values (whole_span view)

-- where the blocks of all tiles of a view are put in, one after the other, the list is the block of the view
abbrev pub IsMadeOfBlocks : View → Type 0
IsMadeOfBlocks view =
    (values : ℕ → ℕ → ℕ) (lists : ℕ → List ℕ) → IsOnePerPixel view.w view.h (lists 0) → AreCopiedInTurn view (λ tile. block_numbers values (span_of view tile)) lists
    → lists (tiles_of view) ≡ block_numbers values (whole_span view)

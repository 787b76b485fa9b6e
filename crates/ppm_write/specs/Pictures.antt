-- Pictures: lists of three bytes a pixel, red, green and blue, row by row from the top.
use Rattle.std.specs.Prelude.{ℕ, List, ◌++◌, codes, decimal}
use Rattle.lattice_core.specs.declared.view.View.{View}
use Rattle.lattice_core.specs.declared.tile.TileSpan.{TileSpan}
use Rattle.tile_blocks.specs.Blocks as blocks
pub use Rattle.tile_blocks.specs.Blocks.{whole_span}

-- the head of a picture's file
abbrev pub header_text : ℕ → ℕ → List ℕ
header_text w h = codes "P6\n" ++ (decimal w ++ (codes " " ++ (decimal h ++ codes "\n255\n")))

-- the list has three bytes for each pixel
abbrev pub IsPictureOf : ℕ → ℕ → List ℕ → Type 0
IsPictureOf w h bytes = blocks.IsRaster 3 w h bytes

-- the part, 0 to 2, of the pixel in a column and a row of a picture of w columns
abbrev pub part_of : ℕ → List ℕ → ℕ → ℕ → ℕ → ℕ
part_of w bytes column row part = blocks.sample_at 0 3 w bytes column row part

-- the tile's pixels are set to those of the tile's bytes, and the others are as they were
abbrev pub IsCopied : View → ℕ → List ℕ → List ℕ → List ℕ → Type 0
IsCopied view tile bytes old new = blocks.IsCopied 0 3 view tile bytes old new

-- a picture of w columns and h rows, whose pixels have these parts
abbrev pub HasPixels : ℕ → ℕ → (ℕ → ℕ → ℕ → ℕ) → List ℕ → Type 0
HasPixels w h parts picture = blocks.HasSamples 0 3 w h parts picture

-- the tile of a view, whose pixels have these parts
abbrev pub HasTilePixels : View → ℕ → (ℕ → ℕ → ℕ → ℕ) → List ℕ → Type 0
HasTilePixels view tile parts bytes = blocks.HasTileSamples 0 3 view tile parts bytes

-- each tile is put into the picture that those before it left
abbrev pub AreCopiedInTurn : View → (ℕ → List ℕ) → (ℕ → List ℕ) → Type 0
AreCopiedInTurn view tiles pictures = blocks.AreCopiedInTurn 0 3 view tiles pictures

-- where all tiles of a view are put in, one after the other, the picture has the pixels of the view
abbrev pub IsMadeOfTiles : View → Type 0
IsMadeOfTiles view = blocks.IsMadeOfTiles {A = ℕ} 0 3 view

-- the bytes of a row of pixels, from a column on
abbrev pub row_bytes : (ℕ → ℕ → ℕ → ℕ) → ℕ → ℕ → ℕ → List ℕ
row_bytes parts column w row = blocks.row_samples 3 parts column w row

-- the bytes of some rows and columns of pixels, row by row
abbrev pub block_bytes : (ℕ → ℕ → ℕ → ℕ) → TileSpan → List ℕ
block_bytes parts span = blocks.block_samples 3 parts span

-- the block of a tile is a picture of its columns and rows, and has its pixels
abbrev pub AreTilesOfBlocks : View → Type 0
AreTilesOfBlocks view = blocks.AreTilesOfBlocks {A = ℕ} 0 3 view

-- a list is a picture of a view with such pixels exactly where it is their block
abbrev pub AreBlocks : View → Type 0
AreBlocks view = blocks.AreBlocks {A = ℕ} 0 3 view

-- where the blocks of all tiles of a view are put in, one after the other, the picture is the block of the view
abbrev pub IsMadeOfBlocks : View → Type 0
IsMadeOfBlocks view = blocks.IsMadeOfBlocks {A = ℕ} 0 3 view

-- The steps in which a tile is put into the list of a view.
use Rattle.std.specs.Prelude.{◌≡◌, ◌⊎◌, ◌+◌, ◌<◌, ◌≤◌, ℕ, List, ◌++◌, length, take, drop}
use Rattle.lattice_core.specs.declared.tile.TileSpan.{TileSpan}
use Rattle.tile_blocks.specs.Blocks.{sample_at}

-- the list with so many samples of another, from a place on, put at a place
abbrev pub with_samples : {A : Type 0} → List A → ℕ → List A → ℕ → ℕ → List A
with_samples part from old to count = take to old ++ (take count (drop from part) ++ drop (to + count) old)

-- a pixel is above or below such rows, or beside the tile's columns
abbrev pub IsBeside : TileSpan → ℕ → ℕ → ℕ → ℕ → Type 0
IsBeside span first end column row = ((row < first) ⊎ (end ≤ row)) ⊎ ((column < span.column) ⊎ (span.column + span.w ≤ column))

-- a row of a tile is put into a list of w columns
pub record IsRowCopied {A : Type 0} (z : A) (depth w : ℕ) (span : TileSpan) (down : ℕ) (part old new : List A) : Type 0 where
  pub size : length new ≡ length old
  pub inside : (across sample : ℕ) → across < span.w → sample < depth
      → sample_at z depth w new (span.column + across) (span.row + down) sample ≡ sample_at z depth span.w part across down sample
  pub outside : (column row sample : ℕ) → column < w → sample < depth → IsBeside span (span.row + down) (span.row + down + 1) column row
      → sample_at z depth w new column row sample ≡ sample_at z depth w old column row sample

-- the first rows of a tile are put into a list of w columns
pub record AreRowsCopied {A : Type 0} (z : A) (depth w : ℕ) (span : TileSpan) (count : ℕ) (part old new : List A) : Type 0 where
  pub size : length new ≡ length old
  pub inside : (across down sample : ℕ) → across < span.w → down < count → sample < depth
      → sample_at z depth w new (span.column + across) (span.row + down) sample ≡ sample_at z depth span.w part across down sample
  pub outside : (column row sample : ℕ) → column < w → sample < depth → IsBeside span span.row (span.row + count) column row
      → sample_at z depth w new column row sample ≡ sample_at z depth w old column row sample

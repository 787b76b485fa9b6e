-- Blocks of one number a pixel.
use Rattle.std.proofs.Common.{◌≡◌, ◌∙◌, ◌<◌, ◌+◌, ◌*◌, ℕ, zero, suc, List, ap, sym, arith, get_or}
use Rattle.lattice_core.specs.declared.view.View.{View}
use Rattle.lattice_core.specs.declared.tile.TileSpan.{TileSpan}
use Rattle.tile_blocks.specs.Blocks.{sample_at, HasSamples}
use Rattle.tile_blocks.proofs.BlockLaws as blocks
use Rattle.tile_blocks.proofs.WholeLaws.{made_of_tiles}
use Rattle.lattice_core.proofs.Tiling.{tiled}
use Rattle.area_tool.specs.Numbers.{IsOnePerPixel, number_at, block_numbers, HasNumbers, AreBlocks, IsMadeOfBlocks}

-- a pixel's only sample is its number
only_sample : (w : ℕ) (numbers : List ℕ) (column row : ℕ) → sample_at 0 1 w numbers column row 0 ≡ number_at w numbers column row
only_sample w numbers column row = let index : 1 * (row * w + column) + 0 ≡ row * w + column = omega arith in ap (λ (n : ℕ). get_or numbers n 0) index

pub has_samples : (w h : ℕ) (values : ℕ → ℕ → ℕ) (numbers : List ℕ) → HasNumbers w h values numbers → HasSamples 0 1 w h (λ column row sample. values column row) numbers
has_samples w h values numbers has = record { size = omega (arith, has.size); each = each }
  where
    each : (column row sample : ℕ) → column < w → row < h → sample < 1 → sample_at 0 1 w numbers column row sample ≡ values column row
    each column row zero c r small = only_sample w numbers column row ∙ has.each column row c r
    each column row (suc sample) c r small = absurd (omega (arith, small))

pub has_numbers : (w h : ℕ) (values : ℕ → ℕ → ℕ) (numbers : List ℕ) → HasSamples 0 1 w h (λ column row sample. values column row) numbers → HasNumbers w h values numbers
has_numbers w h values numbers has = record {
  size = omega (arith, has.size);
  each = λ column row c r. sym (only_sample w numbers column row) ∙ has.each column row 0 c r (omega arith);
}

pub block_size : (values : ℕ → ℕ → ℕ) (span : TileSpan) → IsOnePerPixel span.w span.h (block_numbers values span)
block_size values span = omega (arith, blocks.block_length 1 (λ column row sample. values column row) span)

pub are_blocks : (view : View) → AreBlocks view
are_blocks view = λ values numbers.
    let told = (blocks.are_blocks 0 1 view) (λ column row sample. values column row) numbers in
    (λ has. told.0 (has_samples view.w view.h values numbers has), λ is. has_numbers view.w view.h values numbers (told.1 is))

pub made_of_blocks : (view : View) → IsMadeOfBlocks view
made_of_blocks view = λ values lists size copies.
    (blocks.made_of_blocks 0 1 view (made_of_tiles 0 1 view (tiled view))) (λ column row sample. values column row) lists (omega (arith, size)) copies

-- The bytes of a block of pixels, of three bytes each.
use Rattle.std.proofs.Common.{◌≡◌, ◌<◌, ◌*◌, ℕ, length}
use Rattle.lattice_core.specs.declared.tile.TileSpan.{TileSpan}
use Rattle.lattice_core.specs.Tiles.{IsIn}
use Rattle.tile_blocks.proofs.BlockLaws as blocks
use Rattle.ppm_write.specs.Pictures.{block_bytes}

pub block_length : (parts : ℕ → ℕ → ℕ → ℕ) (span : TileSpan) → length (block_bytes parts span) ≡ 3 * (span.w * span.h)
block_length parts span = blocks.block_length 3 parts span

-- blocks are the same where their pixels are
pub block_same : (p q : ℕ → ℕ → ℕ → ℕ) (span : TileSpan) → ((column row part : ℕ) → IsIn span column row → part < 3 → p column row part ≡ q column row part) → block_bytes p span ≡ block_bytes q span
block_same p q span same = blocks.block_same 0 3 p q span same

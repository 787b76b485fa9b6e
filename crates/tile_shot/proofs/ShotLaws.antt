-- A tile that was shot has the bytes of its name.
use Rattle.std.proofs.Common.{◌≡◌, ◌∙◌, ℕ, List, ap, sym, subst, length}
use Rattle.lattice_core.specs.declared.view.View.{View}
use Rattle.lattice_core.specs.declared.tile.TileSpan.{TileSpan}
use Rattle.lattice_core.specs.Tiles.{span_of}
use Rattle.ppm_write.specs.Pictures.{block_bytes, IsPictureOf}
use Rattle.ppm_write.proofs.BlockLaws.{block_length}
use Rattle.shot_core.specs.Regions.{Region}
use Rattle.tile_shot.specs.Pixels.{parts_of, regions_from}
use Rattle.tile_shot.specs.Named.{TileName, name_of, IsShot}
use Rattle.tile_shot.proofs.BodyLaws.{block_by_bodies}

pub shot_by : (regions : List Region) (view : View) (tile : ℕ) (key : TileName) (span : TileSpan) (bytes : List ℕ)
    → key ≡ name_of regions view tile → span ≡ span_of view tile → bytes ≡ block_bytes (parts_of regions view) span → IsShot key bytes
shot_by regions view tile key span bytes named there is =
    subst (λ (k : TileName). IsShot k bytes) (sym named)
    (is ∙ ap (λ (s : TileSpan). block_bytes (parts_of regions view) s) there ∙ sym (block_by_bodies 1 regions view (span_of view tile)))

pub shot_size : (key : TileName) (bytes : List ℕ) → IsShot key bytes → IsPictureOf (span_of key.view key.tile).w (span_of key.view key.tile).h bytes
shot_size key bytes is = ap length is ∙ block_length (parts_of (regions_from 1 key.bodies) key.view) (span_of key.view key.tile)

-- Tiles: the parts of a view, and the box of a tile's rays.
use Rattle.std.specs.Prelude.{◌≡◌, ◌+◌, ◌-◌, ◌*◌, ◌/◌, ◌%◌, ◌<◌, ◌≤◌, min, ℕ, ℤ}
use Rattle.lattice_core.specs.declared.view.View.{View}
use Rattle.lattice_core.specs.declared.tile.TileSpan.{TileSpan}
use Rattle.lattice_core.specs.declared.boxes.Box3.{Box3}
use Rattle.lattice_core.specs.declared.limit.TheConstants.{TILE_SIDE}
use Rattle.lattice_core.specs.Rays.{IsOnRay, scaled_point}
use Rattle.lattice_core.specs.Boxes.{HasPoint, IsInside, Meets}
use Rattle.lattice_core.specs.Views.{pixel_ray}

-- how many tiles so many columns or rows take, the last of which may be cut off
abbrev pub tiles_along : ℕ → ℕ
tiles_along side = (side + (TILE_SIDE - 1)) / TILE_SIDE

-- how many tiles a view has
abbrev pub tiles_of : View → ℕ
tiles_of view = tiles_along view.w * tiles_along view.h

-- how many of so many columns or rows a tile has that starts at one of them
abbrev pub part_from : ℕ → ℕ → ℕ
part_from start side = min TILE_SIDE (side - start)

-- the pixels of a tile. Tiles are numbered from 0, row by row from the top left.
abbrev pub span_of : View → ℕ → TileSpan
span_of view tile = record {
  column = tile % tiles_along view.w * TILE_SIDE;
  row = tile / tiles_along view.w * TILE_SIDE;
  w = part_from (tile % tiles_along view.w * TILE_SIDE) view.w;
  h = part_from (tile / tiles_along view.w * TILE_SIDE) view.h;
}

-- a span has 1 to 16 columns and rows, all of them the view's
pub record IsPartOf (span : TileSpan) (view : View) : Type 0 where
  pub columns : (1 ≤ span.w) × (span.w ≤ TILE_SIDE)
  pub rows : (1 ≤ span.h) × (span.h ≤ TILE_SIDE)
  pub in_columns : span.column + span.w ≤ view.w
  pub in_rows : span.row + span.h ≤ view.h

-- the span has the pixel in a column and a row
pub record IsIn (span : TileSpan) (column row : ℕ) : Type 0 where
  pub from_column : span.column ≤ column
  pub to_column : column < span.column + span.w
  pub from_row : span.row ≤ row
  pub to_row : row < span.row + span.h

-- the pixel in a column and a row of a view is in a tile, so far across and down from the tile's first
pub record IsAt (view : View) (tile across down column row : ℕ) : Type 0 where
  pub in_view : tile < tiles_of view
  pub in_columns : across < (span_of view tile).w
  pub in_rows : down < (span_of view tile).h
  pub column_is : column ≡ (span_of view tile).column + across
  pub row_is : row ≡ (span_of view tile).row + down

pub record Place (view : View) (column row : ℕ) : Type 0 where
  pub tile : ℕ
  pub across : ℕ
  pub down : ℕ
  pub is_at : IsAt view tile across down column row

-- every pixel of the view is in exactly one tile, at exactly one place
pub record IsTiled (view : View) : Type 0 where
  pub some : (column row : ℕ) → column < view.w → row < view.h → Place view column row
  pub one : (column row : ℕ) (a b : Place view column row) → (a.tile ≡ b.tile) × (a.across ≡ b.across) × (a.down ≡ b.down)

-- the box has every point of the rays of a tile's pixels
abbrev pub HasRaysOf : Box3 → View → ℕ → Type 0
HasRaysOf b view tile =
    (column row : ℕ) (p q : ℤ) → IsIn (span_of view tile) column row → IsOnRay p q → HasPoint b (scaled_point (pixel_ray view column row) p q) q

-- the least of the boxes that have every point of the tile's rays
pub record IsTileBox (b : Box3) (view : View) (tile : ℕ) : Type 0 where
  pub rays : HasRaysOf b view tile
  pub least : (other : Box3) → HasRaysOf other view tile → IsInside b other

-- some point lies in the box and in the box of the tile's rays
pub record MeetsTile (b : Box3) (view : View) (tile : ℕ) : Type 0 where
  pub of_rays : Box3
  pub is_tile_box : IsTileBox of_rays view tile
  pub meets : Meets b of_rays

-- Each pixel of a view is in one tile.
use Rattle.std.proofs.Common.{◌≡◌, ◌∙◌, ◌<◌, ◌≤◌, ◌+◌, ◌*◌, ◌/◌, ◌%◌, ℕ, zero, suc, ap, sym, arith, div-add-mod'}
use Rattle.std.proofs.lemmas.Nat.{div-mul-add, mod-mul-add, div_below, mod_below, mul-le}
use Rattle.lattice_core.specs.declared.view.View.{View}
use Rattle.lattice_core.specs.declared.limit.TheConstants.{TILE_SIDE, PICTURE_SIDE}
use Rattle.lattice_core.specs.Views.{IsChecked}
use Rattle.lattice_core.specs.Tiles.{tiles_along, tiles_of, part_from, span_of, IsPartOf, Place, IsTiled}

-- the tile that starts at a number of tiles begins in the side
along_starts : (i side : ℕ) → i < tiles_along side → i * TILE_SIDE < side
along_starts i side h = omega (arith, h)

along_some : (n side : ℕ) → n < side → n / TILE_SIDE < tiles_along side
along_some n side h = omega (arith, h)

-- the first column of a tile, and the last one that it may have
part_ends : (start side : ℕ) → start < side → (1 ≤ part_from start side) × (part_from start side ≤ TILE_SIDE) × (start + part_from start side ≤ side)
part_ends start side h = (omega (arith, h), omega (arith, h), omega (arith, h))

some_along : (a b n : ℕ) → n < a * b → 0 < a
some_along zero b n less = absurd (omega (arith, less))
some_along (suc a) b n less = omega arith

columns_in : (view : View) (tile : ℕ) → tile < tiles_of view → tile % tiles_along view.w < tiles_along view.w
columns_in view tile h = mod_below tile (tiles_along view.w) (some_along (tiles_along view.w) (tiles_along view.h) tile h)

below_turned : (a b n : ℕ) → n < a * b → n / a < b
below_turned a b n h = div_below n a b (some_along a b n h) (omega (arith, h))

rows_in : (view : View) (tile : ℕ) → tile < tiles_of view → tile / tiles_along view.w < tiles_along view.h
rows_in view tile h = below_turned (tiles_along view.w) (tiles_along view.h) tile h

-- a span has 1 to 16 columns and rows of the view
pub span_part : (view : View) (tile : ℕ) → tile < tiles_of view → IsPartOf (span_of view tile) view
span_part view tile h =
    let c = part_ends (tile % tiles_along view.w * TILE_SIDE) view.w (along_starts _ view.w (columns_in view tile h)) in
    let r = part_ends (tile / tiles_along view.w * TILE_SIDE) view.h (along_starts _ view.h (rows_in view tile h)) in
    record { columns = (c.0, c.1); rows = (r.0, r.1); in_columns = c.2; in_rows = r.2 }

-- the place of a pixel along one side
part_has : (n side i : ℕ) → n < side → i ≡ n / TILE_SIDE → (n % TILE_SIDE < part_from (i * TILE_SIDE) side) × (n ≡ i * TILE_SIDE + n % TILE_SIDE)
part_has n side i less is = (omega (arith, less, is), omega (arith, is))

part_only : (n side i x : ℕ) → n ≡ i * TILE_SIDE + x → x < part_from (i * TILE_SIDE) side → (i ≡ n / TILE_SIDE) × (x ≡ n % TILE_SIDE)
part_only n side i x is less = (omega (arith, less, is), omega (arith, less, is))

row_by_row : (a b i j : ℕ) → i < a → j < b → j * a + i < a * b
row_by_row a b i j p q =
    let step : (j + 1) * a ≤ b * a = mul-le (j + 1) a b a (omega arith) (omega arith) in
    omega (arith, step, p)

place_of : (view : View) (column row : ℕ) → column < view.w → row < view.h → Place view column row
place_of view column row c r =
    let a : ℕ = tiles_along view.w in
    let i : ℕ = column / TILE_SIDE in
    let j : ℕ = row / TILE_SIDE in
    let in_a : i < a = along_some column view.w c in
    let in_b : j < tiles_along view.h = along_some row view.h r in
    let cs = part_has column view.w ((j * a + i) % a) c (mod-mul-add j a i in_a) in
    let rs = part_has row view.h ((j * a + i) / a) r (div-mul-add j a i in_a) in
    record {
      tile = j * a + i;
      across = column % TILE_SIDE;
      down = row % TILE_SIDE;
      is_at = record { in_view = row_by_row a (tiles_along view.h) i j in_a in_b; in_columns = cs.0; in_rows = rs.0; column_is = cs.1; row_is = rs.1 };
    }

place_only : (view : View) (column row : ℕ) (p q : Place view column row) → (p.tile ≡ q.tile) × (p.across ≡ q.across) × (p.down ≡ q.down)
place_only view column row p q =
    let a : ℕ = tiles_along view.w in
    let pc = part_only column view.w (p.tile % a) p.across p.is_at.column_is p.is_at.in_columns in
    let qc = part_only column view.w (q.tile % a) q.across q.is_at.column_is q.is_at.in_columns in
    let pr = part_only row view.h (p.tile / a) p.down p.is_at.row_is p.is_at.in_rows in
    let qr = part_only row view.h (q.tile / a) q.down q.is_at.row_is q.is_at.in_rows in
    let same_row : p.tile / a ≡ q.tile / a = pr.0 ∙ sym qr.0 in
    let same_column : p.tile % a ≡ q.tile % a = pc.0 ∙ sym qc.0 in (
      sym (div-add-mod' p.tile a) ∙ ap (λ n. n * a + p.tile % a) same_row ∙ ap (λ n. q.tile / a * a + n) same_column ∙ div-add-mod' q.tile a,
      pc.1 ∙ sym qc.1,
      pr.1 ∙ sym qr.1,
    )

pub tiled : (view : View) → IsTiled view
tiled view = record { some = place_of view; one = place_only view }

-- the numbers of tiles and of their columns and rows are small
pub along_small : (side : ℕ) → side ≤ PICTURE_SIDE → tiles_along side ≤ 128
along_small side h = omega (arith, h)

pub tiles_small : (view : View) → IsChecked view → tiles_of view ≤ 16384
tiles_small view h = mul-le (tiles_along view.w) (tiles_along view.h) 128 128 (along_small view.w h.columns.1) (along_small view.h h.rows.1)

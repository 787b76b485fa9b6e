-- The samples of a block of pixels: how many they are, and where each pixel's stand.
use Rattle.std.proofs.Common.{◌≡◌, ◌<◌, ◌+◌, ◌*◌, ◌/◌, ◌%◌, ◌++◌, ◌∙◌, ℕ, zero, suc, List, All, ap, sym, subst, arith, length, get_or, div-add-mod'}
use Rattle.std.proofs.Math.Nat.{div-add-mod, mul_assoc}
use Rattle.std.proofs.lemmas.Nat.{div_below, mod_below, mul-add-lt}
use Rattle.std.proofs.lemmas.List.{ext_get_or}
use Rattle.std.proofs.lemmas.List.FromFn.{length-map-range_with_len, get_or-map-range_with_len}
use Rattle.lattice_core.specs.declared.view.View.{View}
use Rattle.lattice_core.specs.declared.tile.TileSpan.{TileSpan}
use Rattle.lattice_core.specs.Tiles.{tiles_of, span_of, IsIn}
use Rattle.tile_blocks.specs.Blocks.{pixel_samples, row_samples, block_samples, whole_span, sample_at, IsMadeOfTiles, AreTilesOfBlocks, AreBlocks, IsMadeOfBlocks}
use Rattle.tile_blocks.proofs.Chunks.{all_length, all_at, pieces_more}

-- a sample of a pixel among those of its row, and of all rows
among_rows : (depth w down across sample : ℕ) → depth * (down * w + across) + sample ≡ down * (depth * w) + (across * depth + sample)
among_rows depth w down across sample = omega arith

module _ {A : Type 0} (depth : ℕ) (samples : ℕ → ℕ → ℕ → A) where
  pixel_length : (column row : ℕ) → length (pixel_samples depth samples column row) ≡ depth
  pixel_length column row = length-map-range_with_len (samples column row) 0 depth

  pub row_length : (column w row : ℕ) → length (row_samples depth samples column w row) ≡ depth * w
  row_length column w row = all_length (λ c. pixel_samples depth samples c row) depth (λ c. pixel_length c row) column w

  row_at : (z : A) (column w row across sample : ℕ) → across < w → sample < depth
      → get_or (row_samples depth samples column w row) (across * depth + sample) z ≡ samples (column + across) row sample
  row_at z column w row across sample lt small =
      all_at (λ c. pixel_samples depth samples c row) depth (λ c. pixel_length c row) z column w across sample lt small
      ∙ get_or-map-range_with_len (samples (column + across) row) 0 depth sample sample z small (omega arith)

  pub block_length : (span : TileSpan) → length (block_samples depth samples span) ≡ depth * (span.w * span.h)
  block_length span =
      all_length (row_samples depth samples span.column span.w) (depth * span.w) (row_length span.column span.w) span.row span.h ∙ mul_assoc depth span.w span.h

  pub block_at : (z : A) (span : TileSpan) (across down sample : ℕ) → across < span.w → down < span.h → sample < depth
      → get_or (block_samples depth samples span) (depth * (down * span.w + across) + sample) z ≡ samples (span.column + across) (span.row + down) sample
  block_at z span across down sample a d small =
      ap (λ (n : ℕ). get_or (block_samples depth samples span) n z) (among_rows depth span.w down across sample)
      ∙ all_at (row_samples depth samples span.column span.w) (depth * span.w) (row_length span.column span.w) z span.row span.h down (across * depth + sample) d
      (mul-add-lt across depth sample span.w a small)
      ∙ row_at z span.column span.w (span.row + down) across sample a small

  -- a row with one pixel more, and a block with one row more
  pub row_more : (column w row : ℕ) → row_samples depth samples column (w + 1) row ≡ row_samples depth samples column w row ++ pixel_samples depth samples (column + w) row
  row_more column w row = pieces_more (λ c. pixel_samples depth samples c row) column w

  pub block_more : (column row w h : ℕ)
      → block_samples depth samples (record { column = column; row = row; w = w; h = h + 1 })
      ≡ block_samples depth samples (record { column = column; row = row; w = w; h = h }) ++ row_samples depth samples column w (row + h)
  block_more column row w h = pieces_more (row_samples depth samples column w) row h

some_wide : (a b n : ℕ) → n < a * b → 0 < a
some_wide zero b n less = absurd (omega (arith, less))
some_wide (suc a) b n less = omega arith

-- a place in a list of pixels is a sample of a pixel
pub record Spot (depth w h k : ℕ) : Type 0 where
  pub across : ℕ
  pub down : ℕ
  pub sample : ℕ
  pub in_columns : across < w
  pub in_rows : down < h
  pub small : sample < depth
  pub is : k ≡ depth * (down * w + across) + sample

pub spot_at : (depth w h k : ℕ) → k < depth * (w * h) → Spot depth w h k
spot_at depth w h k lt =
    let deep : 0 < depth = some_wide depth (w * h) k lt in
    let less : k / depth < w * h = div_below k depth (w * h) deep (omega (arith, lt)) in
    let wide : 0 < w = some_wide w h (k / depth) less in
    record {
      across = k / depth % w;
      down = k / depth / w;
      sample = k % depth;
      in_columns = mod_below (k / depth) w wide;
      in_rows = div_below (k / depth) w h wide (omega (arith, less));
      small = mod_below k depth deep;
      is = sym (div-add-mod k depth) ∙ ap (λ (n : ℕ). depth * n + k % depth) (sym (div-add-mod' (k / depth) w));
    }

-- a list that has the samples at their places is the block
pub block_only : {A : Type 0} (z : A) (depth : ℕ) (samples : ℕ → ℕ → ℕ → A) (span : TileSpan) (list : List A) → length list ≡ depth * (span.w * span.h)
    → ((across down sample : ℕ) → across < span.w → down < span.h → sample < depth
    → get_or list (depth * (down * span.w + across) + sample) z ≡ samples (span.column + across) (span.row + down) sample)
    → list ≡ block_samples depth samples span
block_only z depth samples span list size each =
    ext_get_or z list (block_samples depth samples span) (size ∙ sym (block_length depth samples span))
    (λ k lt.
    let s : Spot depth span.w span.h k = spot_at depth span.w span.h k (subst (λ (n : ℕ). k < n) size lt) in
    ap (λ (n : ℕ). get_or list n z) s.is
    ∙ each s.across s.down s.sample s.in_columns s.in_rows s.small
    ∙ sym (block_at depth samples z span s.across s.down s.sample s.in_columns s.in_rows s.small)
    ∙ ap (λ (n : ℕ). get_or (block_samples depth samples span) n z) (sym s.is))

-- what holds of each sample holds of those of a block
pub all_in_block : {A : Type 0} (depth : ℕ) (samples : ℕ → ℕ → ℕ → A) (span : TileSpan) (P : A → Type 0) → ((column row sample : ℕ) → sample < depth → P (samples column row sample))
    → All P (block_samples depth samples span)
all_in_block depth samples span P each = λ k d lt.
    let s : Spot depth span.w span.h k = spot_at depth span.w span.h k (subst (λ (n : ℕ). k < n) (block_length depth samples span) lt) in
    subst P
    (sym
    (ap (λ (n : ℕ). get_or (block_samples depth samples span) n d) s.is
    ∙ block_at depth samples d span s.across s.down s.sample s.in_columns s.in_rows s.small))
    (each (span.column + s.across) (span.row + s.down) s.sample s.small)

-- blocks are the same where their pixels are
pub block_same : {A : Type 0} (z : A) (depth : ℕ) (p q : ℕ → ℕ → ℕ → A) (span : TileSpan)
    → ((column row sample : ℕ) → IsIn span column row → sample < depth → p column row sample ≡ q column row sample) → block_samples depth p span ≡ block_samples depth q span
block_same z depth p q span same =
    block_only z depth q span (block_samples depth p span) (block_length depth p span)
    (λ across down sample a d small.
    block_at depth p z span across down sample a d small
    ∙ same (span.column + across) (span.row + down) sample
    (record { from_column = omega arith; to_column = omega (arith, a); from_row = omega arith; to_row = omega (arith, d) }) small)

pub tiles_of_blocks : {A : Type 0} (z : A) (depth : ℕ) (view : View) → AreTilesOfBlocks z depth view
tiles_of_blocks z depth view = λ samples tile. (
  block_length depth samples (span_of view tile),
  λ across down sample a d small. block_at depth samples z (span_of view tile) across down sample a d small,
)

-- the pixels of a view are counted from 0
from_corner : {A : Type 0} (samples : ℕ → ℕ → ℕ → A) (column row sample : ℕ) → samples (0 + column) (0 + row) sample ≡ samples column row sample
from_corner samples column row sample =
    let c : 0 + column ≡ column = omega arith in
    let r : 0 + row ≡ row = omega arith in
    ap (λ (n : ℕ). samples n (0 + row) sample) c ∙ ap (λ (n : ℕ). samples column n sample) r

pub are_blocks : {A : Type 0} (z : A) (depth : ℕ) (view : View) → AreBlocks z depth view
are_blocks {A} z depth view = λ samples list. (
  λ has. block_only z depth samples (whole_span view) list has.size (λ across down sample a d small. has.each across down sample a d small ∙ sym (from_corner samples across down sample)),
  λ is. record {
    size = ap length is ∙ block_length depth samples (whole_span view);
    each = λ column row sample c r small.
        ap (λ (l : List A). sample_at z depth view.w l column row sample) is
        ∙ block_at depth samples z (whole_span view) column row sample c r small
        ∙ from_corner samples column row sample;
  },
)

pub made_of_blocks : {A : Type 0} (z : A) (depth : ℕ) (view : View) → IsMadeOfTiles z depth view → IsMadeOfBlocks z depth view
made_of_blocks z depth view made = λ samples lists size copies.
    ((are_blocks z depth view) samples (lists (tiles_of view))).0
    (made samples (λ tile. block_samples depth samples (span_of view tile)) lists size copies (λ tile _. (tiles_of_blocks z depth view samples tile).1))

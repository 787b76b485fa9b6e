-- The tiles of a view, put into a list one after the other.
use Rattle.std.proofs.Common.{◌≡◌, ◌<◌, ◌≤◌, ◌+◌, ◌-◌, ◌∙◌, ℕ, zero, suc, List, inl, inr, refl, ap, sym, subst, arith, add-one, length}
use Rattle.std.proofs.lemmas.Bool.{cases_lt}
use Rattle.lattice_core.specs.declared.view.View.{View}
use Rattle.lattice_core.specs.Tiles.{tiles_of, span_of, IsIn, IsAt, Place, IsTiled}
use Rattle.tile_blocks.specs.Blocks.{sample_at, HasTileSamples, AreCopiedInTurn, IsMadeOfTiles}

-- a pixel that a span has is in its tile
place_in : (view : View) (tile column row : ℕ) → tile < tiles_of view → IsIn (span_of view tile) column row → Place view column row
place_in view tile column row there is = record {
  tile = tile;
  across = column - (span_of view tile).column;
  down = row - (span_of view tile).row;
  is_at = record {
    in_view = there;
    in_columns = omega (arith, is.from_column, is.to_column);
    in_rows = omega (arith, is.from_row, is.to_row);
    column_is = omega (arith, is.from_column);
    row_is = omega (arith, is.from_row);
  };
}

-- the pixel at its place has its samples, after so many tiles, one of which is its own
abbrev IsSet : {A : Type 0} → A → ℕ → View → (ℕ → ℕ → ℕ → A) → List A → (column row : ℕ) → Type 0
IsSet z depth view samples list column row = (sample : ℕ) → sample < depth → sample_at z depth view.w list column row sample ≡ samples column row sample

module _ {A : Type 0} (z : A) (depth : ℕ) (view : View) (tiled : IsTiled view) (samples : ℕ → ℕ → ℕ → A) (parts lists : ℕ → List A)
    (copies : AreCopiedInTurn z depth view parts lists) (right : (tile : ℕ) → tile < tiles_of view → HasTileSamples z depth view tile samples (parts tile)) where
  set_by : (tile column row : ℕ) → tile < tiles_of view → (p : Place view column row) → p.tile ≡ tile → IsSet z depth view samples (lists (tile + 1)) column row
  set_by tile column row there p same sample small =
      let at : IsAt view tile p.across p.down column row = subst (λ (t : ℕ). IsAt view t p.across p.down column row) same p.is_at in
      ap (λ (c : ℕ). sample_at z depth view.w (lists (tile + 1)) c row sample) at.column_is
      ∙ ap (λ (r : ℕ). sample_at z depth view.w (lists (tile + 1)) ((span_of view tile).column + p.across) r sample) at.row_is
      ∙ (copies tile there).inside p.across p.down sample at.in_columns at.in_rows small
      ∙ right tile there p.across p.down sample at.in_columns at.in_rows small
      ∙ ap (λ (c : ℕ). samples c ((span_of view tile).row + p.down) sample) (sym at.column_is)
      ∙ ap (λ (r : ℕ). samples column r sample) (sym at.row_is)

  kept_by : (tile column row : ℕ) → column < view.w → row < view.h → tile < tiles_of view → (p : Place view column row) → p.tile < tile
      → IsSet z depth view samples (lists tile) column row → IsSet z depth view samples (lists (tile + 1)) column row
  unfolding place_in
  kept_by tile column row c r there p before set sample small =
      let other : ¬ IsIn (span_of view tile) column row = λ is.
      let same : p.tile ≡ tile = (tiled.one column row p (place_in view tile column row there is)).0 in
      omega (arith, before, same) in
      (copies tile there).outside column row sample c r small other ∙ set sample small

  set_in : (count column row : ℕ) → column < view.w → row < view.h → count ≤ tiles_of view → (p : Place view column row) → p.tile < count → IsSet z depth view samples (lists count) column row
  set_in zero column row c r le p lt = absurd (omega (arith, lt))
  set_in (suc count) column row c r le p lt =
      subst (λ (n : ℕ). IsSet z depth view samples (lists n) column row) (add-one count)
      (elim (cases_lt p.tile count) [
        | inl before ↦ kept_by count column row c r (omega (arith, le)) p before (set_in count column row c r (omega (arith, le)) p before)
        | inr from_it ↦ set_by count column row (omega (arith, le)) p (omega (arith, lt, from_it))
      ])

  same_size : (count : ℕ) → count ≤ tiles_of view → length (lists count) ≡ length (lists 0)
  same_size zero le = refl
  same_size (suc count) le =
      let step : length (lists (count + 1)) ≡ length (lists count) = (copies count (omega (arith, le))).size in
      ap (λ (n : ℕ). length (lists n)) (sym (add-one count)) ∙ step ∙ same_size count (omega (arith, le))

pub made_of_tiles : {A : Type 0} (z : A) (depth : ℕ) (view : View) → IsTiled view → IsMadeOfTiles z depth view
made_of_tiles z depth view tiled = λ samples parts lists size copies right. record {
  size = same_size z depth view tiled samples parts lists copies right (tiles_of view) (omega arith) ∙ size;
  each = λ column row sample c r small.
      let p : Place view column row = tiled.some column row c r in
      set_in z depth view tiled samples parts lists copies right (tiles_of view) column row c r (omega arith) p p.is_at.in_view sample small;
}

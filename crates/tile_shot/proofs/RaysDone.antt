-- The rays of a tile that are done.
use Rattle.std.proofs.Common.{◌≡◌, ◌<◌, ◌≤◌, ◌+◌, ◌-◌, ◌*◌, ℕ, zero, suc, List, [], ◌∷◌, ◌++◌, length, map, flat_map, ap, sym, ◌∙◌, subst, inl, inr, arith}
use Rattle.std.specs.List.{range_with_len}
use Rattle.std.proofs.lemmas.Nat.{mul-le}
use Rattle.std.proofs.lemmas.List.{append-nil, append_assoc, length-append, map-append}
use Rattle.std.proofs.lemmas.List.Concat.{flat_map-append}
use Rattle.bool_weave.proofs.Sorted.{Has, has_append_cases}
use Rattle.lattice_core.specs.declared.view.View.{View}
use Rattle.lattice_core.specs.declared.tile.TileSpan.{TileSpan}
use Rattle.shot_core.specs.Regions.{Region}
use Rattle.tile_shot.specs.Reports.{Spot, row_spots, spots_of, report_of, HaveRisingPlaces}
use Rattle.tile_shot.specs.Merges.{ArePairs, merged}
use Rattle.tile_shot.specs.RaySteps.{spots_above, spots_before}
use Rattle.tile_shot.proofs.Spotting.{IsBefore, in_row, in_rows, length_row, length_flat}
use Rattle.tile_shot.proofs.Reporting.{reports_behind}
use Rattle.tile_shot.proofs.Listing.{fewer_in_front, are_pairs}

range_split : (a n m : ℕ) → range_with_len a (n + m) ≡ range_with_len a n ++ range_with_len (a + n) m
range_split a zero m = let e : zero + m ≡ m = omega arith in let f : a ≡ a + 0 = omega arith in ap (range_with_len a) e ∙ ap (λ b. range_with_len b m) f
range_split a (suc n) m =
    let e : suc n + m ≡ suc (n + m) = omega arith in
    let f : a + 1 + n ≡ a + suc n = omega arith in
    ap (range_with_len a) e ∙ ap (λ l. a ∷ l) (range_split (a + 1) n m ∙ ap (λ b. range_with_len (a + 1) n ++ range_with_len b m) f)

abbrev pub spot_at : ℕ → ℕ → Spot
spot_at column row = record { column = column; row = row }

pub row_split : (c n m row : ℕ) → row_spots c (n + m) row ≡ row_spots c n row ++ row_spots (c + n) m row
row_split c n m row = ap (map (λ k. spot_at k row)) (range_split c n m) ∙ map-append (λ k. spot_at k row) (range_with_len c n) (range_with_len (c + n) m)

pub rows_split : (c w a n m : ℕ) → flat_map (row_spots c w) (range_with_len a (n + m)) ≡ flat_map (row_spots c w) (range_with_len a n) ++ flat_map (row_spots c w) (range_with_len (a + n) m)
rows_split c w a n m = ap (flat_map (row_spots c w)) (range_split a n m) ∙ flat_map-append (row_spots c w) (range_with_len a n) (range_with_len (a + n) m)

module _ (span : TileSpan) where
  -- one more pixel of a row
  pub one_before : (column row : ℕ) → span.column ≤ column → spots_before span (column + 1) row ≡ spots_before span column row ++ spot_at column row ∷ []
  one_before column row le =
      let e : column + 1 - span.column ≡ (column - span.column) + 1 = omega (arith, le) in
      let f : span.column + (column - span.column) ≡ column = omega (arith, le) in
      ap (λ n. spots_above span row ++ row_spots span.column n row) e
      ∙ ap (λ l. spots_above span row ++ l) (row_split span.column (column - span.column) 1 row ∙ ap (λ k. row_spots span.column (column - span.column) row ++ spot_at k row ∷ []) f)
      ∙ sym (append_assoc (spots_above span row) (row_spots span.column (column - span.column) row) (spot_at column row ∷ []))

  pub none_before : (row : ℕ) → spots_before span span.column row ≡ spots_above span row
  none_before row = let e : span.column - span.column ≡ 0 = omega arith in ap (λ n. spots_above span row ++ row_spots span.column n row) e ∙ append-nil (spots_above span row)

  pub all_before : (row : ℕ) → span.row ≤ row → spots_before span (span.column + span.w) row ≡ spots_above span (row + 1)
  all_before row le =
      let e : span.column + span.w - span.column ≡ span.w = omega arith in
      let f : row + 1 - span.row ≡ (row - span.row) + 1 = omega (arith, le) in
      let g : span.row + (row - span.row) ≡ row = omega (arith, le) in
      ap (λ n. spots_above span row ++ row_spots span.column n row) e
      ∙ sym (ap (λ n. flat_map (row_spots span.column span.w) (range_with_len span.row n)) f ∙ rows_split span.column span.w span.row (row - span.row) 1
      ∙ ap (λ k. spots_above span row ++ (row_spots span.column span.w k ++ [])) g ∙ ap (λ l. spots_above span row ++ l) (append-nil (row_spots span.column span.w row)))

  pub none_above : spots_above span span.row ≡ []
  none_above = let e : span.row - span.row ≡ 0 = omega arith in ap (λ n. flat_map (row_spots span.column span.w) (range_with_len span.row n)) e

  pub all_above : spots_above span (span.row + span.h) ≡ spots_of span
  all_above = let e : span.row + span.h - span.row ≡ span.h = omega arith in ap (λ n. flat_map (row_spots span.column span.w) (range_with_len span.row n)) e

  -- what is done is the front of all
  rows_left : (row : ℕ) → span.row ≤ row → row ≤ span.row + span.h → spots_of span ≡ spots_above span row ++ flat_map (row_spots span.column span.w) (range_with_len row (span.row + span.h - row))
  rows_left row low high =
      let e : span.h ≡ (row - span.row) + (span.row + span.h - row) = omega (arith, low, high) in
      let f : span.row + (row - span.row) ≡ row = omega (arith, low) in
      ap (λ n. flat_map (row_spots span.column span.w) (range_with_len span.row n)) e ∙ rows_split span.column span.w span.row (row - span.row) (span.row + span.h - row)
      ∙ ap (λ k. spots_above span row ++ flat_map (row_spots span.column span.w) (range_with_len k (span.row + span.h - row))) f

  columns_left : (column row : ℕ) → span.column ≤ column → column ≤ span.column + span.w → row_spots span.column span.w row ≡ row_spots span.column (column - span.column) row ++ row_spots (span.column + (column - span.column)) (span.column + span.w - column) row
  columns_left column row low high =
      let e : span.w ≡ (column - span.column) + (span.column + span.w - column) = omega (arith, low, high) in
      ap (λ n. row_spots span.column n row) e ∙ row_split span.column (column - span.column) (span.column + span.w - column) row

  pub fewer_done : (regions : List Region) (view : View) (column row : ℕ) → span.column ≤ column → column ≤ span.column + span.w → span.row ≤ row → row < span.row + span.h
      → length (report_of regions view (spots_before span column row)) ≤ length (report_of regions view (spots_of span))
  fewer_done regions view column row left right low high =
      let rest = row_spots (span.column + (column - span.column)) (span.column + span.w - column) row in
      let under = flat_map (row_spots span.column span.w) (range_with_len (row + 1) (span.row + span.h - (row + 1))) in
      let whole : spots_of span ≡ (spots_before span column row ++ rest) ++ under =
      rows_left (row + 1) (omega (arith, low)) (omega (arith, high))
      ∙ ap (λ l. l ++ under) (sym (all_before row low) ∙ ap (λ n. spots_above span row ++ row_spots span.column n row) (omega arith) ∙ ap (λ l. spots_above span row ++ l) (columns_left column row left right)
      ∙ sym (append_assoc (spots_above span row) (row_spots span.column (column - span.column) row) rest)) in
      omega (arith, ap (λ l. length (report_of regions view l)) whole, fewer_in_front regions view (spots_before span column row) rest, fewer_in_front regions view (spots_before span column row ++ rest) under)

  done_before : (column row : ℕ) → span.column ≤ column → span.row ≤ row → (s t : Spot) → Has (spots_before span column row) s → Has (spot_at column row ∷ []) t → IsBefore s t
  done_before column row left low s t h (inr k) = absurd k
  done_before column row left low s t h (inl e) =
      subst (λ u. IsBefore s u) e (elim (has_append_cases (spots_above span row) (row_spots span.column (column - span.column) row) s h) [
        | inl m ↦ let r = in_rows span.column span.w span.row (row - span.row) s m in inl (omega (arith, r.1, low))
        | inr m ↦ let r = in_row span.column (column - span.column) row s m in inr (r.0, omega (arith, r.2, left))
      ])

  pub next_done : (regions : List Region) (view : View) (column row : ℕ) → HaveRisingPlaces regions → span.column ≤ column → span.row ≤ row
      → merged (report_of regions view (spots_before span column row)) (report_of regions view (spot_at column row ∷ [])) ≡ report_of regions view (spots_before span (column + 1) row)
  next_done regions view column row rising left low =
      reports_behind regions view (spots_before span column row) (spot_at column row ∷ []) rising (done_before column row left low) ∙ ap (report_of regions view) (sym (one_before column row left))

  length_before : (column row : ℕ) → column ≤ span.column + span.w → length (spots_before span column row) ≤ (row - span.row) * span.w + span.w
  length_before column row right =
      omega (arith, right, length-append (spots_above span row) (row_spots span.column (column - span.column) row), length_flat span.column span.w span.row (row - span.row), length_row span.column (column - span.column) row)

  pub done_are_pairs : (regions : List Region) (view : View) (column row : ℕ) → HaveRisingPlaces regions → span.w ≤ 16 → span.h ≤ 16 → column ≤ span.column + span.w → row < span.row + span.h
      → ArePairs (report_of regions view (spots_before span column row))
  done_are_pairs regions view column row rising w h right high =
      are_pairs regions view (spots_before span column row) rising (omega (arith, length_before column row right, mul-le (row - span.row) span.w 16 16 (omega (arith, h, high)) w, w))

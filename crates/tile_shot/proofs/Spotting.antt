-- Pixels row by row.
use Rattle.std.proofs.Common.{◌≡◌, ◌<◌, ◌≤◌, ◌+◌, ◌*◌, ◌⊎◌, ℕ, zero, suc, length, flat_map, ap, sym, ◌∙◌, inl, inr, arith}
use Rattle.std.specs.List.{range_with_len}
use Rattle.std.proofs.lemmas.List.{length-append}
use Rattle.std.proofs.lemmas.List.FromFn.{length-map-range_with_len}
use Rattle.bool_weave.proofs.Sorted.{Has, has_append_cases}
use Rattle.overlap_list.proofs.Ordered.{Rises, rises_append}
use Rattle.lattice_core.specs.declared.tile.TileSpan.{TileSpan}
use Rattle.tile_shot.specs.Reports.{Spot, row_spots, spots_of}

-- row by row
abbrev pub IsBefore : Spot → Spot → Type 0
IsBefore s t = (s.row < t.row) ⊎ ((s.row ≡ t.row) × (s.column < t.column))

-- the columns from one on, so many
pub in_row : (c n row : ℕ) (s : Spot) → Has (row_spots c n row) s → (s.row ≡ row) × (c ≤ s.column) × (s.column < c + n)
in_row c zero row s h = absurd h
in_row c (suc n) row s (inl e) = (sym (ap (λ (t : Spot). t.row) e), omega (arith, ap (λ (t : Spot). t.column) e), omega (arith, ap (λ (t : Spot). t.column) e))
in_row c (suc n) row s (inr h) = let m = in_row (c + 1) n row s h in (m.0, omega (arith, m.1), omega (arith, m.2))

row_rises : (c n row : ℕ) → Rises IsBefore (row_spots c n row)
row_rises c zero row = tt
row_rises c (suc n) row = (λ t h. let m = in_row (c + 1) n row t h in inr (sym m.0, omega (arith, m.1)), row_rises (c + 1) n row)

pub in_rows : (c w a n : ℕ) (s : Spot) → Has (flat_map (row_spots c w) (range_with_len a n)) s → (a ≤ s.row) × (s.row < a + n) × (c ≤ s.column) × (s.column < c + w)
in_rows c w a zero s h = absurd h
in_rows c w a (suc n) s h =
    elim (has_append_cases (row_spots c w a) (flat_map (row_spots c w) (range_with_len (a + 1) n)) s h) [
      | inl m ↦ let r = in_row c w a s m in (omega (arith, r.0), omega (arith, r.0), r.1, r.2)
      | inr m ↦ let r = in_rows c w (a + 1) n s m in (omega (arith, r.0), omega (arith, r.1), r.2, r.3)
    ]

rows_rise : (c w a n : ℕ) → Rises IsBefore (flat_map (row_spots c w) (range_with_len a n))
rows_rise c w a zero = tt
rows_rise c w a (suc n) =
    rises_append IsBefore (row_spots c w a) (flat_map (row_spots c w) (range_with_len (a + 1) n)) (row_rises c w a) (rows_rise c w (a + 1) n)
    (λ s t m o. let r = in_row c w a s m in let q = in_rows c w (a + 1) n t o in inl (omega (arith, r.0, q.0)))

pub spots_rise : (span : TileSpan) → Rises IsBefore (spots_of span)
spots_rise span = rows_rise span.column span.w span.row span.h

pub in_span : (span : TileSpan) (s : Spot) → Has (spots_of span) s → (span.row ≤ s.row) × (s.row < span.row + span.h) × (span.column ≤ s.column) × (s.column < span.column + span.w)
in_span span s h = in_rows span.column span.w span.row span.h s h

pub length_row : (c w row : ℕ) → length (row_spots c w row) ≡ w
length_row c w row = length-map-range_with_len {X = Spot} (λ k. record { column = k; row = row }) c w

pub length_flat : (c w a n : ℕ) → length (flat_map (row_spots c w) (range_with_len a n)) ≡ n * w
length_flat c w a zero = omega arith
length_flat c w a (suc n) = length-append (row_spots c w a) (flat_map (row_spots c w) (range_with_len (a + 1) n)) ∙ omega (arith, length_flat c w (a + 1) n, length-map-range_with_len {X = Spot} (λ k. record { column = k; row = a }) c w)

pub length_spots : (span : TileSpan) → length (spots_of span) ≡ span.h * span.w
length_spots span = length_flat span.column span.w span.row span.h

-- The rows of a tile, put into a list one after the other.
use Rattle.std.proofs.Common.{◌≡◌, ◌≤◌, ◌+◌, ◌∙◌, ℕ, List, inl, inr, refl, ap, sym, arith}
use Rattle.std.proofs.lemmas.Bool.{cases_lt}
use Rattle.lattice_core.specs.declared.tile.TileSpan.{TileSpan}
use Rattle.lattice_core.specs.declared.view.View.{View}
use Rattle.lattice_core.specs.Tiles.{span_of, IsIn}
use Rattle.tile_blocks.specs.Blocks.{sample_at, IsCopied}
use Rattle.tile_blocks.specs.Steps.{IsBeside, IsRowCopied, AreRowsCopied}

pub no_rows : {A : Type 0} (z : A) (depth w : ℕ) (span : TileSpan) (part all : List A) → AreRowsCopied z depth w span 0 part all all
no_rows z depth w span part all = record { size = refl; inside = λ across down sample a d p. absurd (omega (arith, d)); outside = λ column row sample c p beside. refl }

beside_row : (span : TileSpan) (count column row : ℕ) → IsBeside span span.row (span.row + (count + 1)) column row → IsBeside span (span.row + count) (span.row + count + 1) column row
beside_row span count column row (inl (inl less)) = inl (inl (omega (arith, less)))
beside_row span count column row (inl (inr more)) = inl (inr (omega (arith, more)))
beside_row span count column row (inr side) = inr side

beside_rows : (span : TileSpan) (count column row : ℕ) → IsBeside span span.row (span.row + (count + 1)) column row → IsBeside span span.row (span.row + count) column row
beside_rows span count column row (inl (inl less)) = inl (inl less)
beside_rows span count column row (inl (inr more)) = inl (inr (omega (arith, more)))
beside_rows span count column row (inr side) = inr side

pub rows_more : {A : Type 0} (z : A) (depth w : ℕ) (span : TileSpan) (count : ℕ) (part old middle new : List A) → span.column + span.w ≤ w
    → AreRowsCopied z depth w span count part old middle → IsRowCopied z depth w span count part middle new → AreRowsCopied z depth w span (count + 1) part old new
rows_more z depth w span count part old middle new columns rows row = record {
  size = row.size ∙ rows.size;
  inside = λ across down sample a d p.
      elim (cases_lt down count) [
        | inl less ↦ row.outside (span.column + across) (span.row + down) sample (omega (arith, a, columns)) p (inl (inl (omega (arith, less)))) ∙ rows.inside across down sample a less p
        | inr ge ↦
            let last : down ≡ count = omega (arith, d, ge) in
            ap (λ (n : ℕ). sample_at z depth w new (span.column + across) (span.row + n) sample) last
            ∙ row.inside across sample a p
            ∙ ap (λ (n : ℕ). sample_at z depth span.w part across n sample) (sym last)
      ];
  outside = λ column r sample c p beside.
      row.outside column r sample c p (beside_row span count column r beside) ∙ rows.outside column r sample c p (beside_rows span count column r beside);
}

not_in : (span : TileSpan) (column row : ℕ) → (¬ IsIn span column row) → IsBeside span span.row (span.row + span.h) column row
not_in span column row out =
    elim (cases_lt row span.row) [
      | inl above ↦ inl (inl above)
      | inr from_row ↦
          elim (cases_lt row (span.row + span.h)) [
            | inr below ↦ inl (inr below)
            | inl to_row ↦
                elim (cases_lt column span.column) [
                  | inl left ↦ inr (inl left)
                  | inr from_column ↦
                      elim (cases_lt column (span.column + span.w)) [
                        | inr right ↦ inr (inr right)
                        | inl to_column ↦ absurd (out (record { from_column = from_column; to_column = to_column; from_row = from_row; to_row = to_row }))
                      ]
                ]
          ]
    ]

pub copied : {A : Type 0} (z : A) (depth : ℕ) (view : View) (tile : ℕ) (part old new : List A)
    → AreRowsCopied z depth view.w (span_of view tile) (span_of view tile).h part old new → IsCopied z depth view tile part old new
copied z depth view tile part old new rows = record {
  size = rows.size;
  inside = rows.inside;
  outside = λ column row sample c r p out. rows.outside column row sample c p (not_in (span_of view tile) column row out);
}

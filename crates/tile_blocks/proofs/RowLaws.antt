-- Samples that are put into a list, and a row of a tile that is put into a list of rows so.
use Rattle.std.proofs.Common.{◌≡◌, ◌<◌, ◌≤◌, ◌+◌, ◌-◌, ◌*◌, ◌++◌, ◌∙◌, ℕ, List, inl, inr, ap, sym, arith, length, get_or, take, drop, length-append, length-take, length-drop}
use Rattle.std.proofs.Math.Nat.{mul-add, mul-le-mul_left}
use Rattle.std.proofs.lemmas.Bool.{cases_lt}
use Rattle.std.proofs.lemmas.List.{get_or_append_left, get_or-append-add, get_or-take, get_or-drop}
use Rattle.lattice_core.specs.declared.tile.TileSpan.{TileSpan}
use Rattle.tile_blocks.specs.Blocks.{sample_at}
use Rattle.tile_blocks.specs.Steps.{with_samples, IsBeside, IsRowCopied}
use Rattle.tile_blocks.proofs.Chunks.{rows_apart}

module _ {A : Type 0} (z : A) (part old : List A) (from to count : ℕ) (within : from + count ≤ length part) (room : to + count ≤ length old) where
  front : length (take to old) ≡ to
  front = omega (arith, length-take to old)

  middle : length (take count (drop from part)) ≡ count
  middle = omega (arith, length-take count (drop from part), length-drop from part)

  pub put_size : length (with_samples part from old to count) ≡ length old
  put_size =
      omega (
        arith,
        front,
        middle,
        length-append (take to old) (take count (drop from part) ++ drop (to + count) old),
        length-append (take count (drop from part)) (drop (to + count) old),
        length-drop (to + count) old,
      )

  pub put_there : (k : ℕ) → k < count → get_or (with_samples part from old to count) (to + k) z ≡ get_or part (from + k) z
  put_there k lt =
      let at : to + k ≡ length (take to old) + k = omega (arith, front) in
      ap (λ (n : ℕ). get_or (with_samples part from old to count) n z) at
      ∙ get_or-append-add (take to old) (take count (drop from part) ++ drop (to + count) old) k z
      ∙ get_or_append_left (take count (drop from part)) (drop (to + count) old) z k (omega (arith, middle, lt))
      ∙ get_or-take count (drop from part) k z lt
      ∙ get_or-drop from part k z

  pub put_before : (k : ℕ) → k < to → get_or (with_samples part from old to count) k z ≡ get_or old k z
  put_before k lt = get_or_append_left (take to old) (take count (drop from part) ++ drop (to + count) old) z k (omega (arith, front, lt)) ∙ get_or-take to old k z lt

  pub put_behind : (k : ℕ) → to + count ≤ k → get_or (with_samples part from old to count) k z ≡ get_or old k z
  put_behind k le =
      let at : k ≡ length (take to old) + (length (take count (drop from part)) + (k - (to + count))) = omega (arith, front, middle, le) in
      let back : to + count + (k - (to + count)) ≡ k = omega (arith, le) in
      ap (λ (n : ℕ). get_or (with_samples part from old to count) n z) at
      ∙ get_or-append-add (take to old) (take count (drop from part) ++ drop (to + count) old) (length (take count (drop from part)) + (k - (to + count))) z
      ∙ get_or-append-add (take count (drop from part)) (drop (to + count) old) (k - (to + count)) z
      ∙ get_or-drop (to + count) old (k - (to + count)) z
      ∙ ap (λ (n : ℕ). get_or old n z) back

-- the samples of pixels stand in the order of the pixels
samples_before : (depth a b sample : ℕ) → a < b → sample < depth → depth * a + sample < depth * b
samples_before depth a b sample lt small = let step : depth * (a + 1) ≤ depth * b = mul-le-mul_left depth (omega (arith, lt)) in omega (arith, step, small)

samples_behind : (depth a b sample : ℕ) → a ≤ b → depth * a ≤ depth * b + sample
samples_behind depth a b sample le = let step : depth * a ≤ depth * b = mul-le-mul_left depth le in omega (arith, step)

-- a sample of a pixel so many pixels behind another
samples_on : (depth a b sample : ℕ) → depth * (a + b) + sample ≡ depth * a + (depth * b + sample)
samples_on depth a b sample = omega arith

module _ {A : Type 0} (z : A) (depth w : ℕ) (span : TileSpan) (down : ℕ) (part old : List A) (columns : span.column + span.w ≤ w)
    (within : depth * (down * span.w) + depth * span.w ≤ length part) (room : depth * ((span.row + down) * w + span.column) + depth * span.w ≤ length old) where
  from : ℕ
  from = depth * (down * span.w)

  to : ℕ
  to = depth * ((span.row + down) * w + span.column)

  new : List A
  new = with_samples part from old to (depth * span.w)

  row_inside : (across sample : ℕ) → across < span.w → sample < depth → sample_at z depth w new (span.column + across) (span.row + down) sample ≡ sample_at z depth span.w part across down sample
  unfolding from to new
  row_inside across sample lt small =
      let pixel : (span.row + down) * w + (span.column + across) ≡ (span.row + down) * w + span.column + across = omega arith in
      ap (λ (n : ℕ). get_or new (depth * n + sample) z) pixel
      ∙ ap (λ (n : ℕ). get_or new n z) (samples_on depth ((span.row + down) * w + span.column) across sample)
      ∙ put_there z part old from to (depth * span.w) within room (depth * across + sample) (samples_before depth across span.w sample lt small)
      ∙ ap (λ (n : ℕ). get_or part n z) (sym (samples_on depth (down * span.w) across sample))

  IsKept : ℕ → ℕ → ℕ → Type 0
  IsKept column row sample = sample_at z depth w new column row sample ≡ sample_at z depth w old column row sample

  kept_before : (column row sample : ℕ) → sample < depth → row * w + column < (span.row + down) * w + span.column → IsKept column row sample
  unfolding from to new IsKept
  kept_before column row sample small less =
      put_before z part old from to (depth * span.w) within room (depth * (row * w + column) + sample) (samples_before depth (row * w + column) ((span.row + down) * w + span.column) sample less small)

  kept_behind : (column row sample : ℕ) → (span.row + down) * w + span.column + span.w ≤ row * w + column → IsKept column row sample
  unfolding from to new IsKept
  kept_behind column row sample le =
      let end : depth * ((span.row + down) * w + span.column + span.w) ≡ to + depth * span.w = mul-add depth ((span.row + down) * w + span.column) span.w in
      put_behind z part old from to (depth * span.w) within room (depth * (row * w + column) + sample)
      (omega (arith, end, samples_behind depth ((span.row + down) * w + span.column + span.w) (row * w + column) sample le))

  above : (column row sample : ℕ) → column < w → sample < depth → row < span.row + down → IsKept column row sample
  above column row sample lt small less = kept_before column row sample small (omega (arith, lt, rows_apart row (span.row + down) w less))

  below : (column row sample : ℕ) → span.row + down < row → IsKept column row sample
  below column row sample more = kept_behind column row sample (omega (arith, columns, rows_apart (span.row + down) row w more))

  left : (column row sample : ℕ) → sample < depth → row ≡ span.row + down → column < span.column → IsKept column row sample
  left column row sample small same lt =
      let there : row * w ≡ (span.row + down) * w = ap (λ (n : ℕ). n * w) same in
      kept_before column row sample small (omega (arith, lt, there))

  right : (column row sample : ℕ) → row ≡ span.row + down → span.column + span.w ≤ column → IsKept column row sample
  right column row sample same le =
      let there : row * w ≡ (span.row + down) * w = ap (λ (n : ℕ). n * w) same in
      kept_behind column row sample (omega (arith, le, there))

  beside : (column row sample : ℕ) → column < w → sample < depth → (row ≡ span.row + down → IsKept column row sample) → IsKept column row sample
  beside column row sample lt small same =
      elim (cases_lt row (span.row + down)) [
        | inl less ↦ above column row sample lt small less
        | inr le ↦ elim (cases_lt (span.row + down) row) [ inl more ↦ below column row sample more | inr ge ↦ same (omega (arith, le, ge)) ]
      ]

  row_outside : (column row sample : ℕ) → column < w → sample < depth → IsBeside span (span.row + down) (span.row + down + 1) column row → IsKept column row sample
  row_outside column row sample lt small (inl (inl less)) = above column row sample lt small less
  row_outside column row sample lt small (inl (inr more)) = below column row sample (omega (arith, more))
  row_outside column row sample lt small (inr (inl less)) = beside column row sample lt small (λ same. left column row sample small same less)
  row_outside column row sample lt small (inr (inr more)) = beside column row sample lt small (λ same. right column row sample same more)

  pub row_copied : IsRowCopied z depth w span down part old (with_samples part (depth * (down * span.w)) old (depth * ((span.row + down) * w + span.column)) (depth * span.w))
  unfolding from to new IsKept
  row_copied = record { size = put_size z part old from to (depth * span.w) within room; inside = row_inside; outside = row_outside }

-- a row lies in the list of its tile, and its place in that of the view
pub row_within : {A : Type 0} (depth : ℕ) (span : TileSpan) (down : ℕ) (part : List A) → length part ≡ depth * (span.w * span.h) → down < span.h
    → depth * (down * span.w) + depth * span.w ≤ length part
row_within depth span down part size lt =
    let pixels : down * span.w + span.w ≤ span.w * span.h = omega (arith, rows_apart down span.h span.w lt) in
    let samples : depth * (down * span.w + span.w) ≤ depth * (span.w * span.h) = mul-le-mul_left depth pixels in
    omega (arith, size, samples, mul-add depth (down * span.w) span.w)

pub row_room : {A : Type 0} (depth w : ℕ) (span : TileSpan) (down : ℕ) (all : List A) → span.column + span.w ≤ w → down < span.h
    → depth * (w * (span.row + span.h)) ≤ length all → depth * ((span.row + down) * w + span.column) + depth * span.w ≤ length all
row_room depth w span down all columns lt size =
    let pixels : (span.row + down) * w + span.column + span.w ≤ w * (span.row + span.h) = omega (arith, columns, rows_apart (span.row + down) (span.row + span.h) w (omega (arith, lt))) in
    let samples : depth * ((span.row + down) * w + span.column + span.w) ≤ depth * (w * (span.row + span.h)) = mul-le-mul_left depth pixels in
    omega (arith, size, samples, mul-add depth ((span.row + down) * w + span.column) span.w)

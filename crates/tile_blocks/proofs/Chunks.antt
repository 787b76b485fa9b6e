-- Lists of pieces that are equally long, one behind the other.
use Rattle.std.proofs.Common.{◌≡◌, ◌<◌, ◌≤◌, ◌+◌, ◌*◌, ◌++◌, ◌∷◌, [], ◌∙◌, ℕ, zero, suc, List, ap, arith, length, get_or, length-append, flat_map}
use Rattle.std.specs.List.{range_with_len}
use Rattle.std.proofs.lemmas.Nat.{mul-le}
use Rattle.std.proofs.lemmas.Grind.{flat_map-append}
use Rattle.std.proofs.lemmas.List.{get_or_append_left, get_or-append-add, append-nil}

-- a row's pixels stand before those of the next row
pub rows_apart : (a b w : ℕ) → a < b → a * w + w ≤ b * w
rows_apart a b w lt = let step : (a + 1) * w ≤ b * w = mul-le (a + 1) w b w (omega (arith, lt)) (omega arith) in omega (arith, step)

-- a number of the first ones, with one more
one_more : (a n : ℕ) → range_with_len a (suc n) ≡ range_with_len a n ++ (a + n) ∷ []
one_more a zero = let at : a ≡ a + 0 = omega arith in ap (λ (k : ℕ). k ∷ []) at
one_more a (suc n) =
    let at : a + 1 + n ≡ a + suc n = omega arith in
    ap (λ (l : List ℕ). a ∷ l) (one_more (a + 1) n ∙ ap (λ (k : ℕ). range_with_len (a + 1) n ++ k ∷ []) at)

pub range_more : (a n : ℕ) → range_with_len a (n + 1) ≡ range_with_len a n ++ (a + n) ∷ []
range_more a n = let next : n + 1 ≡ suc n = omega arith in ap (range_with_len a) next ∙ one_more a n

module _ {A : Type 0} (f : ℕ → List A) where
  pub pieces : ℕ → ℕ → List A
  pieces a m = flat_map f (range_with_len a m)

  -- one piece more
  pub pieces_more : (a m : ℕ) → flat_map f (range_with_len a (m + 1)) ≡ flat_map f (range_with_len a m) ++ f (a + m)
  pieces_more a m =
      ap (flat_map f) (range_more a m)
      ∙ flat_map-append f (range_with_len a m) ((a + m) ∷ [])
      ∙ ap (λ (l : List A). flat_map f (range_with_len a m) ++ l) (append-nil (f (a + m)))

  module _ (n : ℕ) (each : (k : ℕ) → length (f k) ≡ n) where
    pieces_length : (a m : ℕ) → length (pieces a m) ≡ n * m
    unfolding pieces
    pieces_length a zero = omega arith
    pieces_length a (suc m) = omega (arith, length-append (f a) (pieces (a + 1) m), each a, pieces_length (a + 1) m)

    piece_at : (z : A) (a m i j : ℕ) → i < m → j < n → get_or (pieces a m) (i * n + j) z ≡ get_or (f (a + i)) j z
    unfolding pieces
    piece_at z a zero i j i_in j_in = absurd (omega (arith, i_in))
    piece_at z a (suc m) zero j i_in j_in =
        let index : 0 * n + j ≡ j = omega arith in
        let at : a ≡ a + 0 = omega arith in
        ap (λ (k : ℕ). get_or (pieces a (suc m)) k z) index
        ∙ get_or_append_left (f a) (pieces (a + 1) m) z j (omega (arith, each a, j_in))
        ∙ ap (λ (k : ℕ). get_or (f k) j z) at
    piece_at z a (suc m) (suc i) j i_in j_in =
        let index : suc i * n + j ≡ length (f a) + (i * n + j) = omega (arith, each a) in
        let at : a + 1 + i ≡ a + suc i = omega arith in
        ap (λ (k : ℕ). get_or (pieces a (suc m)) k z) index
        ∙ get_or-append-add (f a) (pieces (a + 1) m) (i * n + j) z
        ∙ piece_at z (a + 1) m i j (omega (arith, i_in)) j_in
        ∙ ap (λ (k : ℕ). get_or (f k) j z) at

    pub all_length : (a m : ℕ) → length (flat_map f (range_with_len a m)) ≡ n * m
    unfolding pieces
    all_length = pieces_length

    pub all_at : (z : A) (a m i j : ℕ) → i < m → j < n → get_or (flat_map f (range_with_len a m)) (i * n + j) z ≡ get_or (f (a + i)) j z
    unfolding pieces
    all_at = piece_at

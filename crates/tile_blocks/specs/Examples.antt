-- Examples, proved by computation.
use Rattle.std.specs.Prelude.{◌≡◌, ◌+◌, ◌*◌, ℕ, List, [], ◌∷◌, refl}
use Rattle.tile_blocks.specs.Blocks.{sample_at, block_samples}

-- the second sample of the second pixel of the second row, of two columns
four_pixels : List ℕ
four_pixels = 0 ∷ 1 ∷ 2 ∷ 10 ∷ 11 ∷ 12 ∷ 20 ∷ 21 ∷ 22 ∷ 30 ∷ 31 ∷ 32 ∷ []

a_sample : sample_at 0 3 2 four_pixels 1 1 1 ≡ 31
unfolding four_pixels
a_sample = refl

-- with one number a pixel, the last one of the first row of three, and the first one of the second
numbers : List ℕ
numbers = 1 ∷ 0 ∷ 2 ∷ 0 ∷ 2 ∷ 2 ∷ []

last_of_a_row : sample_at 0 1 3 numbers 2 0 0 ≡ 2
unfolding numbers
last_of_a_row = refl

first_of_a_row : sample_at 0 1 3 numbers 0 1 0 ≡ 0
unfolding numbers
first_of_a_row = refl

-- the block of two columns from 1 on and two rows from 3 on
a_block : block_samples 1 (λ column row sample. 10 * row + column) (record { column = 1; row = 3; w = 2; h = 2 }) ≡ 31 ∷ 32 ∷ 41 ∷ 42 ∷ []
a_block = refl

-- and a row of it with two samples a pixel
a_deep_block : block_samples 2 (λ column row sample. 100 * row + 10 * column + sample) (record { column = 1; row = 3; w = 2; h = 1 }) ≡ 310 ∷ 311 ∷ 320 ∷ 321 ∷ []
a_deep_block = refl

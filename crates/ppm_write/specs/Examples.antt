-- What the definitions come to at small pictures, proved by computation.
use Rattle.std.specs.Prelude.{◌≡◌, refl, [], ◌∷◌, codes}
use Rattle.std.specs.Fmt.{digits}
use Rattle.ppm_write.specs.Pictures.{header_text, part_of}

head_of_a_picture : header_text 640 48 ≡ codes "P6\n640 48\n255\n"
unfolding digits
head_of_a_picture = refl

-- the green byte of the second pixel of the second row, of two columns
a_part : part_of 2 (0 ∷ 1 ∷ 2 ∷ 10 ∷ 11 ∷ 12 ∷ 20 ∷ 21 ∷ 22 ∷ 30 ∷ 31 ∷ 32 ∷ []) 1 1 1 ≡ 31
a_part = refl

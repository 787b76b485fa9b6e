-- Rows of pixels, and blocks of rows, one more at the end.
use Rattle.std.proofs.Common.{◌≡◌, ◌∙◌, ◌+◌, ◌++◌, ◌∷◌, [], ℕ, zero, suc, List, ap, sym, arith, flat_map}
use Rattle.std.specs.List.{range_with_len}
use Rattle.std.proofs.lemmas.Grind.{flat_map-append}
use Rattle.std.proofs.lemmas.List.{append-nil, append_assoc}
use Rattle.region_attr.specs.declared.attr.Rgb.{Rgb}
use Rattle.lattice_core.specs.declared.ray.Ray.{Ray}
use Rattle.lattice_core.specs.declared.view.View.{View}
use Rattle.lattice_core.specs.Views.{pixel_ray}
use Rattle.tile_blocks.proofs.BlockLaws.{row_more, block_more}
use Rattle.ppm_write.specs.Pictures.{row_bytes, block_bytes}
use Rattle.shot_core.specs.Regions.{Region}
use Rattle.tile_shot.specs.Pixels.{pixel_of, parts_of}

abbrev rows : (ℕ → ℕ → ℕ → ℕ) → ℕ → ℕ → ℕ → ℕ → List ℕ
rows parts column row w h = block_bytes parts (record { column = column; row = row; w = w; h = h })

abbrev bytes_of : Rgb → List ℕ
bytes_of c = c.r ∷ c.g ∷ c.b ∷ []

-- a row that grew by a pixel
pub pixel_put : (regions : List Region) (view : View) (column w row : ℕ) (old now new : List ℕ) (ray : Ray) (colour : Rgb)
    → now ≡ old ++ row_bytes (parts_of regions view) column w row → ray ≡ pixel_ray view (column + w) row → colour ≡ pixel_of regions ray → new ≡ now ++ bytes_of colour
    → new ≡ old ++ row_bytes (parts_of regions view) column (w + 1) row
pixel_put regions view column w row old now new ray colour before along is put =
    let before_it : List ℕ = row_bytes (parts_of regions view) column w row in
    put
    ∙ ap (λ (l : List ℕ). l ++ bytes_of colour) before
    ∙ ap (λ (c : Rgb). old ++ before_it ++ bytes_of c) (is ∙ ap (pixel_of regions) along)
    ∙ append_assoc old before_it (bytes_of (pixel_of regions (pixel_ray view (column + w) row)))
    ∙ ap (λ (l : List ℕ). old ++ l) (sym (row_more 3 (parts_of regions view) column w row))

-- a block that grew by a row
pub row_put : (parts : ℕ → ℕ → ℕ → ℕ) (column row w h : ℕ) (now new : List ℕ) → now ≡ rows parts column row w h → new ≡ now ++ row_bytes parts column w (row + h) → new ≡ rows parts column row w (h + 1)
row_put parts column row w h now new before put =
    put ∙ ap (λ (l : List ℕ). l ++ row_bytes parts column w (row + h)) before ∙ sym (block_more 3 parts column row w h)

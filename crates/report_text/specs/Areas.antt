-- The lines of how many pixels present each region.
use Rattle.std.specs.Prelude.{ℕ, ◌==◌, List, [], ◌∷◌, ◌++◌, flat_map, codes, decimal, if◌then◌else◌}
use Rattle.shot_core.specs.Regions.{Region}

-- a region's place and path, and how many pixels present it
abbrev pub area_line : Region → ℕ → List ℕ
area_line region pixels = codes "area " ++ (decimal region.place ++ (codes " " ++ (region.path ++ (codes " " ++ decimal pixels))))

-- a line for a region that some pixel presents
abbrev pub line_if : Region → ℕ → List (List ℕ)
line_if region pixels = if pixels == 0 then [] else area_line region pixels ∷ []

-- such lines of all regions, in order; `pixels_at` tells for each place how many pixels present it
abbrev pub area_lines : List Region → (ℕ → ℕ) → List (List ℕ)
area_lines regions pixels_at = flat_map (λ r. line_if r (pixels_at r.place)) regions

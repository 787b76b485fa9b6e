-- The lines of what a ray meets of a scene.
use Rattle.std.specs.Prelude.{ℕ, List, [], ◌++◌, map, codes, decimal, Option, None, Some, slice_get}
use Rattle.surd_order.specs.Text.{position_text}
use Rattle.shot_core.specs.Regions.{Region}
use Rattle.shot_core.specs.declared.shot.Lit.{Lit}

-- a region's place and path, and where the ray enters and leaves it
abbrev pub part_line : Region → Lit → List ℕ
part_line region lit = decimal region.place ++ (codes " " ++ (region.path ++ (codes " " ++ (position_text lit.start ++ (codes " " ++ position_text lit.end)))))

abbrev pub line_in : Option Region → Lit → List ℕ
line_in None lit = []
line_in (Some region) lit = part_line region lit

-- a line for each part of the ray, in order
abbrev pub shot_lines : List Region → List Lit → List (List ℕ)
shot_lines regions lit = map (λ l. line_in (slice_get regions l.region) l) lit

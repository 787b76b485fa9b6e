-- The lines of what a ray in a lattice direction meets of a scene.
use Rattle.std.specs.Prelude.{◌≡◌, ℕ, List, [], ◌++◌, map, codes, decimal, Option, None, Some, slice_get}
use Rattle.surd_quot.specs.Text.{quotient_text}
use Rattle.shot_core.specs.Regions.{Region}
use Rattle.shot_core.specs.declared.shot.Lit.{Lit}
use Rattle.oblique_ray.specs.declared.slab.Slab.{Slab}
use Rattle.oblique_ray.specs.Shots.{slab_of_lit}
use Rattle.report_text.specs.Shots.{shot_lines}

-- a region's place and path, and where the ray enters and leaves it
abbrev pub slab_line : Region → Slab → List ℕ
slab_line region slab = decimal region.place ++ (codes " " ++ (region.path ++ (codes " " ++ (quotient_text slab.start ++ (codes " " ++ quotient_text slab.end)))))

abbrev pub slab_line_in : Option Region → Slab → List ℕ
slab_line_in None slab = []
slab_line_in (Some region) slab = slab_line region slab

-- a line for each part of the ray, in order
abbrev pub slant_lines : List Region → List Slab → List (List ℕ)
slant_lines regions slabs = map (λ s. slab_line_in (slice_get regions s.region) s) slabs

-- along an axis the lines are those of the plain ray
abbrev pub LinesAlongAxes : Type 0
LinesAlongAxes = (regions : List Region) (lit : List Lit) → slant_lines regions (map slab_of_lit lit) ≡ shot_lines regions lit

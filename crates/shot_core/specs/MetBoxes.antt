-- Which boxes a ray meets.
use Rattle.std.specs.Prelude.{◌↔◌, Bool, IsTrue, List, ℕ, length, filter}
use Rattle.lattice_core.specs.declared.boxes.Box3.{Box3}
use Rattle.lattice_core.specs.declared.ray.Ray.{Ray}
use Rattle.lattice_core.specs.Boxes.{MeetsRay}
use Rattle.lattice_core.specs.Spans.{meet_span, reach_span}
use Rattle.lattice_core.specs.Units.{unit_of}
use Rattle.shot_core.specs.Regions.{Region, instances_of}
use Rattle.shot_core.specs.TreeBoxes.{has_points}

-- whether a box and the box of a ray's points share points
abbrev pub meets_ray : Box3 → Ray → Bool
meets_ray b ray = has_points (meet_span b (reach_span ray.origin (unit_of ray.dir)))

-- the computation says whether some point of the ray lies in the box
abbrev pub TellsWhetherMet : Type 0
TellsWhetherMet = (b : Box3) (ray : Ray) → IsTrue (meets_ray b ray) ↔ MeetsRay b ray

-- how many instances have a box that the ray meets
abbrev pub met_count : List Region → Ray → ℕ
met_count regions ray = length (filter (λ i. meets_ray i.bounds ray) (instances_of regions))

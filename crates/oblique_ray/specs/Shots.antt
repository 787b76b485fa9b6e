-- What a ray in a lattice direction meets in a scene: the segments of all instances, and the parts that regions have.
use Rattle.std.specs.Prelude.{◌≡◌, ℕ, ◌+◌, ℤ, List, [], ◌∷◌, ◌++◌, Option, Some, None, map}
use Rattle.lattice_core.specs.declared.limit.TheConstants.{FAR}
use Rattle.lattice_core.specs.declared.ray.Ray.{Ray}
use Rattle.lattice_core.specs.Units.{unit_of}
use Rattle.lattice_core.specs.declared.vector.V3.{V3}
use Rattle.order_laws.specs.Parts.{Part}
use Rattle.shot_core.specs.declared.shot.Lit.{Lit}
use Rattle.shot_core.specs.FirstShots.{trees_of}
use Rattle.shot_core.specs.Regions.{Instance, Region, instances_of}
use Rattle.shot_core.specs.Shots.{lit_of}
use Rattle.slant_ranks.specs.Slants.{SlantSegment, slant_parts}
use Rattle.surd_quot.specs.declared.position.QPos.{QPos}
use Rattle.surd_quot.specs.Positions.{as_quotient_position}
use Rattle.oblique_ray.specs.declared.slab.Slab.{Slab}
use Rattle.oblique_ray.specs.Laws.{segment_of_instance}
use Rattle.oblique_ray.specs.Segments.{Stretch, slant_segment}

-- the segment of the instance of that number, where it has one
abbrev pub segment_if : ℕ → Option Stretch → List SlantSegment
segment_if number None = []
segment_if number (Some stretch) = segment_of_instance number stretch ∷ []

-- the segments of the instances that have one, on a ray of so many steps, numbered from `first` on
abbrev pub segments_from : ℤ → V3 → V3 → ℕ → List Instance → List SlantSegment
segments_from far o e first [] = []
segments_from far o e first (i ∷ rest) = segment_if first (slant_segment far i.surface o e) ++ segments_from far o e (first + 1) rest

-- the segments of all instances
abbrev pub segments_up_to : ℤ → List Region → V3 → V3 → List SlantSegment
segments_up_to far regions o e = segments_from far o e 0 (instances_of regions)

abbrev pub segments_on : List Region → V3 → V3 → List SlantSegment
segments_on regions o e = segments_up_to FAR regions o e

-- a part of a ray that a region has
abbrev pub slab_of : Part QPos → Slab
slab_of part = record { region = part.region; start = part.start; end = part.end }

-- the partitions of a ray of so many steps: the maximal runs of intervals with one winner
abbrev pub slabs_up_to : ℤ → List Region → V3 → V3 → List Slab
slabs_up_to far regions o e = map slab_of (slant_parts far (segments_up_to far regions o e) (trees_of regions))

-- the partitions of a ray that is as many steps long as a plain ray is tenths of a millimetre
abbrev pub slabs_on : List Region → V3 → V3 → List Slab
slabs_on regions o e = slabs_up_to FAR regions o e

-- a partition of a ray along an axis, without its hit and its level
abbrev pub slab_of_lit : Lit → Slab
slab_of_lit lit = record { region = lit.region; start = as_quotient_position lit.start; end = as_quotient_position lit.end }

-- along an axis the partitions are those of the plain ray
abbrev pub PartitionsAlongAxes : Type 0
PartitionsAlongAxes = (regions : List Region) (ray : Ray) → slabs_on regions ray.origin (unit_of ray.dir) ≡ map slab_of_lit (lit_of regions ray)

-- Words of the code: the segments of instances by their numbers, the regions that have some, and partitions from rank to rank as
-- parts of a ray.
use Rattle.std.specs.Prelude.{ℕ, List, [], ◌∷◌, Option, Some, None, length, slice_get, slice_index_or}
use Rattle.lattice_core.specs.declared.limit.TheConstants.{FAR}
use Rattle.lattice_core.specs.declared.vector.V3.{V3}
use Rattle.overlap_list.specs.declared.partition.Partition.{Partition}
use Rattle.order_laws.specs.Parts.{number_of}
use Rattle.shot_core.specs.Regions.{Instance}
use Rattle.shot_core.specs.Steps.{noted}
use Rattle.slant_ranks.specs.Slants.{SlantSegment}
use Rattle.surd_quot.specs.declared.position.QPos.{QPos}
use Rattle.oblique_ray.specs.declared.slab.Slab.{Slab}
use Rattle.oblique_ray.specs.Segments.{slant_start, slant_segment}
use Rattle.oblique_ray.specs.Shots.{segment_if}

abbrev pub segment_if_there : Option Instance → V3 → V3 → ℕ → List SlantSegment
segment_if_there None o e number = []
segment_if_there (Some i) o e number = segment_if number (slant_segment FAR i.surface o e)

-- the segment of the instance of a number, where there is one that has one
abbrev pub numbered_segment : List Instance → V3 → V3 → ℕ → List SlantSegment
numbered_segment instances o e number = segment_if_there (slice_get instances number) o e number

-- the number of the region of an instance
abbrev pub owner_of : Option (ℕ × Instance) → ℕ
owner_of None = 0
owner_of (Some one) = one.0

-- the numbers of regions, with those of the instances of some segments noted one after another
abbrev pub owners_noted : List (ℕ × Instance) → List SlantSegment → List ℕ → List ℕ
owners_noted owned [] numbers = numbers
owners_noted owned (w ∷ ws) numbers = owners_noted owned ws (noted numbers (owner_of (slice_get owned w.instance)))

-- the part between the cuts that have the numbers of a partition's ends
abbrev pub slab_by_ranks : List QPos → Partition → Slab
slab_by_ranks cuts p = record {
  region = p.region;
  start = slice_index_or cuts (number_of (length cuts) p.start) slant_start;
  end = slice_index_or cuts (number_of (length cuts) p.end) slant_start;
}

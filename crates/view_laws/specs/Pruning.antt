-- The partitions of a ray, by the places of their regions, and which regions may be left out.
use Rattle.std.specs.Prelude.{◌≡◌, ◌<◌, ℕ, ℤ, List, Option, Bool, false, AllPairs, Contains, map, filter, slice_get}
use Rattle.lattice_core.specs.declared.ray.Ray.{Ray}
use Rattle.lattice_core.specs.declared.view.View.{View}
use Rattle.lattice_core.specs.Rays.{IsOnRay}
use Rattle.lattice_core.specs.Views.{pixel_ray}
use Rattle.surd_order.specs.declared.position.Pos.{Pos}
use Rattle.surd_order.specs.declared.position.Pos.TheVariants.{Frac}
use Rattle.shot_core.specs.declared.shot.Lit.{Lit}
use Rattle.shot_core.specs.Regions.{Instance, Region, HaveInstances, instances_of}
use Rattle.shot_core.specs.Shots.{lit_of}
use Rattle.shot_core.specs.Points.{IsRayHitPlace, HoldsPoint}
use Rattle.shot_core.specs.Pruned.{place_of, kept_for, IsPixelOf}

-- a partition with the place of its region and the instance that it hits in the place of their numbers, which change where regions are
-- left out
pub record PlacedPartition : Type 0 where
  pub place : ℕ
  pub start : Pos
  pub end : Pos
  pub instance : Option Instance
  pub face : ℕ
  pub level : ℕ

abbrev pub placed_partition : List Region → Lit → PlacedPartition
placed_partition regions lit = record { place = place_of (slice_get regions lit.region); start = lit.start; end = lit.end; instance = slice_get (instances_of regions) lit.hit.instance; face = lit.hit.face; level = lit.level }

-- the partitions of a ray, in order
abbrev pub partitions_by_place : List Region → Ray → List PlacedPartition
partitions_by_place regions ray = map (placed_partition regions) (lit_of regions ray)

-- the tree of a region holds at no fraction of the ray, hit places aside
abbrev pub HoldsNowhere : List Region → Ray → Region → Type 0
HoldsNowhere regions ray r = (p q : ℤ) → IsOnRay p q → ¬ (IsRayHitPlace regions ray (Frac p q)) → ¬ (HoldsPoint r.body ray p q)

-- without regions that hold nowhere on it a ray has the same partitions, whatever the regions are whose places rise and whose leaves stand
-- for their instances
abbrev pub PartitionsWithoutTheRest : Type 0
PartitionsWithoutTheRest = (regions : List Region) (ray : Ray) (keep : Region → Bool) → AllPairs (λ r s. r.place < s.place) regions → HaveInstances regions
    → ((r : Region) → Contains regions r → keep r ≡ false → HoldsNowhere regions ray r) → partitions_by_place (filter keep regions) ray ≡ partitions_by_place regions ray

-- on each ray of a tile of a view without a fault the regions that are kept for the tile have the partitions that all regions have, where
-- places rise and instances are placed solids with their boxes
abbrev pub KeptHaveTheSamePartitions : Type 0
KeptHaveTheSamePartitions = (regions : List Region) (view : View) (tile column row : ℕ) → AllPairs (λ r s. r.place < s.place) regions → IsPixelOf regions view tile column row
    → partitions_by_place (kept_for regions view tile) (pixel_ray view column row) ≡ partitions_by_place regions (pixel_ray view column row)

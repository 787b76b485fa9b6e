-- What a ray meets in a scene: all regions and all instances, without boxes.
use Rattle.std.specs.Prelude.{ℕ, ℤ, ◌+◌, List, [], ◌∷◌, ◌++◌, Option, Some, None, length, map, slice_get}
use Rattle.lattice_core.specs.declared.ray.Ray.{Ray}
use Rattle.surd_order.specs.declared.position.Seg.{Seg}
use Rattle.solid_set.specs.Segments.{segment_up_to}
use Rattle.solid_set.specs.Levels.{level_at}
use Rattle.bool_weave.specs.declared.woven.Woven.{Woven}
use Rattle.bool_weave.specs.Cuts.{ray_length}
use Rattle.bool_weave.specs.Claims.{claims_up_to}
use Rattle.overlap_list.specs.declared.hit.Hit.{Hit}
use Rattle.overlap_list.specs.declared.region.RegionClaims.{RegionClaims}
use Rattle.overlap_list.specs.declared.partition.Partition.{Partition}
use Rattle.overlap_list.specs.declared.overlap.OverlapRun.{OverlapRun}
use Rattle.overlap_list.specs.Partitions.{partitions_up_to}
use Rattle.overlap_list.specs.Overlaps.{overlaps_up_to}
use Rattle.shot_core.specs.declared.shot.Lit.{Lit}
use Rattle.shot_core.specs.Regions.{Instance, RegionBody, Region, has_air, instances_of}

abbrev pub woven_if : ℕ → Option Seg → List Woven
woven_if number None = []
woven_if number (Some seg) = record { instance = number; seg = seg } ∷ []

-- the segments of the instances that have one, on a ray that ends so far, numbered from `first` on
abbrev pub woven_from_up_to : ℤ → Ray → ℕ → List Instance → List Woven
woven_from_up_to far ray first [] = []
woven_from_up_to far ray first (i ∷ rest) = woven_if first (segment_up_to far i.surface ray) ++ woven_from_up_to far ray (first + 1) rest

abbrev pub woven_from : Ray → ℕ → List Instance → List Woven
woven_from ray first instances = woven_from_up_to ray_length ray first instances

-- the segments of all instances
abbrev pub woven_up_to : ℤ → List Region → Ray → List Woven
woven_up_to far regions ray = woven_from_up_to far ray 0 (instances_of regions)

abbrev pub woven_of : List Region → Ray → List Woven
woven_of regions ray = woven_up_to ray_length regions ray

-- what a region claims whose first instance has that number
abbrev pub body_claims_up_to : ℤ → List Woven → ℕ → RegionBody → RegionClaims
body_claims_up_to far woven first body = record {
  air = has_air body;
  first = first;
  count = length body.instances;
  claims = claims_up_to far woven body.tree first;
}

abbrev pub body_claims : List Woven → ℕ → RegionBody → RegionClaims
body_claims woven first body = body_claims_up_to ray_length woven first body

-- and the regions behind it: each one's first instance is numbered after all those before it
abbrev pub claims_from_up_to : ℤ → List Woven → ℕ → List Region → List RegionClaims
claims_from_up_to far woven first [] = []
claims_from_up_to far woven first (r ∷ rest) = body_claims_up_to far woven first r.body ∷ claims_from_up_to far woven (first + length r.body.instances) rest

abbrev pub claims_from : List Woven → ℕ → List Region → List RegionClaims
claims_from woven first regions = claims_from_up_to ray_length woven first regions

-- what all regions claim
abbrev pub claims_on_up_to : ℤ → List Region → Ray → List RegionClaims
claims_on_up_to far regions ray = claims_from_up_to far (woven_up_to far regions ray) 0 regions

abbrev pub claims_on : List Region → Ray → List RegionClaims
claims_on regions ray = claims_on_up_to ray_length regions ray

abbrev pub level_on : Option Instance → ℕ → Ray → ℕ
level_on None face ray = 255
level_on (Some i) face ray = level_at i.surface face ray

-- how bright the hit instance is at the face that is hit
abbrev pub level_of_hit : List Region → Ray → Hit → ℕ
level_of_hit regions ray hit = level_on (slice_get (instances_of regions) hit.instance) hit.face ray

abbrev pub lit_by : List Region → Ray → Partition → Lit
lit_by regions ray p = record { region = p.region; start = p.start; end = p.end; hit = p.hit; level = level_of_hit regions ray p.hit }

-- the partitions of a ray that ends so far, each with the level of its hit
abbrev pub lit_up_to : ℤ → List Region → Ray → List Lit
lit_up_to far regions ray = map (lit_by regions ray) (partitions_up_to far (woven_up_to far regions ray) (claims_on_up_to far regions ray))

abbrev pub lit_of : List Region → Ray → List Lit
lit_of regions ray = lit_up_to ray_length regions ray

-- the first run of each pair of regions that overlaps on such a ray
abbrev pub overlaps_on_up_to : ℤ → List Region → Ray → List OverlapRun
overlaps_on_up_to far regions ray = overlaps_up_to far (woven_up_to far regions ray) (claims_on_up_to far regions ray)

abbrev pub overlaps_on : List Region → Ray → List OverlapRun
overlaps_on regions ray = overlaps_on_up_to ray_length regions ray

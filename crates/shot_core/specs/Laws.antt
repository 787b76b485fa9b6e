-- What is known of the partitions and of the overlaps of a ray in a scene.
use Rattle.std.specs.Prelude.{◌≡◌, ◌↔◌, ◌⊎◌, ◌<◌, ℕ, List, true, Some, Any, Contains, length, map, slice_get}
use Rattle.lattice_core.specs.declared.ray.Ray.{Ray}
use Rattle.surd_order.specs.declared.position.Pos.{Pos}
use Rattle.surd_order.specs.declared.position.Seg.{Seg}
use Rattle.solid_set.specs.Segments.{segment_of}
use Rattle.solid_set.specs.Levels.{level_at}
use Rattle.bool_weave.specs.Claims.{intervals_of}
use Rattle.overlap_list.specs.declared.partition.Partition.{Partition}
use Rattle.overlap_list.specs.declared.overlap.OverlapRun.{OverlapRun}
use Rattle.overlap_list.specs.Winners.{claims_at}
use Rattle.overlap_list.specs.Laws.{LiesIn, IsFirstOverlap}
use Rattle.shot_core.specs.declared.shot.Lit.{Lit}
use Rattle.shot_core.specs.Regions.{Instance, Region, instances_of}
use Rattle.shot_core.specs.Shots.{woven_of, claims_on}

-- a partition without its level
abbrev pub part_of : Lit → Partition
part_of lit = record { region = lit.region; start = lit.start; end = lit.end; hit = lit.hit }

-- the partitions without their levels
abbrev pub parts_of : List Lit → List Partition
parts_of lit = map part_of lit

-- a segment starts or ends at a place, with that face
abbrev pub HasEndWith : Seg → Pos → ℕ → Type 0
HasEndWith seg place face = ((place ≡ seg.start) × (face ≡ seg.start_face)) ⊎ ((place ≡ seg.end) × (face ≡ seg.end_face))

-- what is hit is an instance of the scene that the ray enters or leaves at that very place, and the level is that of the face
-- which it has there
pub record IsHitInScene (regions : List Region) (ray : Ray) (lit : Lit) : Type 0 where
  pub one : Instance
  pub seg : Seg
  pub there : slice_get (instances_of regions) lit.hit.instance ≡ Some one
  pub segment : segment_of one.surface ray ≡ Some seg
  pub end : HasEndWith seg lit.start lit.hit.face
  pub level : lit.level ≡ level_at one.surface lit.hit.face ray

-- each interval that some region claims lies in one of the partitions
abbrev pub HoldsAllClaims : List Region → Ray → List Lit → Type 0
HoldsAllClaims regions ray lit =
    (k : ℕ) → k < length (intervals_of (woven_of regions ray)) → Any (λ r. claims_at r k ≡ true) (claims_on regions ray) → Any (LiesIn (woven_of regions ray) k) (parts_of lit)

-- these are the first runs of intervals that two regions without air both claim, and all of these
abbrev pub AreFirstOverlaps : List Region → Ray → List OverlapRun → Type 0
AreFirstOverlaps regions ray runs = (o : OverlapRun) → Contains runs o ↔ IsFirstOverlap (woven_of regions ray) (claims_on regions ray) o

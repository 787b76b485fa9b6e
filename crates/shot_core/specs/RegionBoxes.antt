-- Where the box of a region lies on a ray, and what it tells of the region's claims.
use Rattle.std.specs.Prelude.{◌≡◌, ◌<◌, ◌+◌, ℕ, ℤ, pos, ◌-ℤ◌, ◌<ℤ◌, List, true, false, length, slice_index_or}
use Rattle.lattice_core.specs.declared.vector.V3.{V3}
use Rattle.lattice_core.specs.declared.boxes.Side.{Side}
use Rattle.lattice_core.specs.declared.boxes.Side.TheVariants.{Open, At}
use Rattle.lattice_core.specs.declared.boxes.Box3.{Box3}
use Rattle.lattice_core.specs.declared.boxes.Box3.TheVariants.{Empty, Span}
use Rattle.lattice_core.specs.declared.ray.Ray.{Ray}
use Rattle.lattice_core.specs.declared.ray.Dir.{Dir}
use Rattle.lattice_core.specs.declared.ray.Dir.TheVariants.{PlusX, MinusX, PlusY, MinusY, PlusZ, MinusZ}
use Rattle.lattice_core.specs.Boxes.{HasPoint, MeetsRay}
use Rattle.lattice_core.specs.Rays.{scaled_point}
use Rattle.surd_order.specs.declared.position.Pos.{Pos}
use Rattle.surd_order.specs.declared.position.Pos.TheVariants.{Frac}
use Rattle.surd_order.specs.Order.{Precedes}
use Rattle.overlap_list.specs.declared.region.RegionClaims.{RegionClaims}
use Rattle.overlap_list.specs.Winners.{claims_at}
use Rattle.overlap_list.specs.Hits.{cut_at}
use Rattle.shot_core.specs.Regions.{RegionBody, Region, HaveInstances, HavePlacedSolids}
use Rattle.shot_core.specs.Prepared.{boxes_of}
use Rattle.shot_core.specs.TreeBoxes.{tree_box}
use Rattle.shot_core.specs.Shots.{woven_of, claims_on}

-- the box of a region is that of its tree
abbrev pub region_box : RegionBody → Box3
region_box body = tree_box (boxes_of body.instances) body.tree

-- a fraction strictly between two places
pub record HasFractionBetween (x y : Pos) : Type 0 where
  pub p : ℤ
  pub q : ℤ
  pub positive : pos 0 <ℤ q
  pub after : Precedes x (Frac p q)
  pub before : Precedes (Frac p q) y

-- how far a side lies ahead of a coordinate, where coordinates rise along a ray, and where they fall
abbrev pub ahead_rising : Side → ℤ → Side
ahead_rising Open origin = Open
ahead_rising (At side) origin = At (side -ℤ origin)

abbrev pub ahead_falling : Side → ℤ → Side
ahead_falling Open origin = Open
ahead_falling (At side) origin = At (origin -ℤ side)

-- how far from a ray's origin a box begins, in the ray's direction; Open where it has no side there
abbrev pub near_by : Dir → V3 → Box3 → Side
near_by dir origin Empty = Open
near_by PlusX origin (Span x y z) = ahead_rising x.low origin.x
near_by MinusX origin (Span x y z) = ahead_falling x.high origin.x
near_by PlusY origin (Span x y z) = ahead_rising y.low origin.y
near_by MinusY origin (Span x y z) = ahead_falling y.high origin.y
near_by PlusZ origin (Span x y z) = ahead_rising z.low origin.z
near_by MinusZ origin (Span x y z) = ahead_falling z.high origin.z

abbrev pub near_side : Box3 → Ray → Side
near_side b ray = near_by ray.dir ray.origin b

-- a place is not before a side
abbrev pub IsNotBefore : Side → Pos → Type 0
IsNotBefore Open x = Unit {0}
IsNotBefore (At near) x = ¬ (Precedes x (Frac near (pos 1)))

-- a place is behind a side
abbrev pub IsBehind : Side → Pos → Type 0
IsBehind Open x = Unit {0}
IsBehind (At near) x = Precedes (Frac near (pos 1)) x

-- a box holds what lies of a ray between two places: some fraction lies there, the points at all of them are the box's, so the
-- ray meets it, and it begins not behind the first place and before the second
pub record HoldsPart (b : Box3) (ray : Ray) (start end : Pos) : Type 0 where
  pub between : HasFractionBetween start end
  pub points : (p q : ℤ) → pos 0 <ℤ q → Precedes start (Frac p q) → Precedes (Frac p q) end → HasPoint b (scaled_point ray p q) q
  pub meets : MeetsRay b ray
  pub begun : IsNotBefore (near_side b ray) start
  pub entered : IsBehind (near_side b ray) end

-- an interval that a region claims lies in the region's box
abbrev pub BoxesHoldClaims : Type 0
BoxesHoldClaims = (regions : List Region) (ray : Ray) (n k : ℕ) (claims : RegionClaims) (region : Region) → HaveInstances regions → HavePlacedSolids regions → n < length regions
    → claims_at (slice_index_or (claims_on regions ray) n claims) k ≡ true
    → HoldsPart (region_box (slice_index_or regions n region).body) ray (cut_at (woven_of regions ray) k) (cut_at (woven_of regions ray) (k + 1))

-- a region whose box a ray misses claims nothing on it
abbrev pub MissedRegionsClaimNothing : Type 0
MissedRegionsClaimNothing = (regions : List Region) (ray : Ray) (n k : ℕ) (claims : RegionClaims) (region : Region) → HaveInstances regions → HavePlacedSolids regions → n < length regions
    → ¬ (MeetsRay (region_box (slice_index_or regions n region).body) ray) → claims_at (slice_index_or (claims_on regions ray) n claims) k ≡ false

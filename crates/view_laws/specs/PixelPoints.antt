-- What a pixel tells of the points of its ray, hit places aside. Its level alone is told at a hit place, by the ends of segments.
use Rattle.std.specs.Prelude.{◌≡◌, ◌⊎◌, ◌<◌, ◌≤◌, ℕ, ℤ, List, Some, None, slice_get}
use Rattle.lattice_core.specs.declared.ray.Ray.{Ray}
use Rattle.lattice_core.specs.Rays.{IsOnRay}
use Rattle.region_attr.specs.declared.attr.Rgb.{Rgb}
use Rattle.surd_order.specs.declared.position.Pos.{Pos}
use Rattle.surd_order.specs.declared.position.Pos.TheVariants.{Frac}
use Rattle.surd_order.specs.declared.position.Seg.{Seg}
use Rattle.surd_order.specs.Order.{IsPlace, Precedes}
use Rattle.surd_order.specs.Spelling.{IsSpelled}
use Rattle.solid_set.specs.Levels.{level_at}
use Rattle.solid_set.specs.Segments.{ray_start, ray_end, segment_of}
use Rattle.shot_core.specs.declared.shot.Lit.{Lit}
use Rattle.shot_core.specs.Laws.{HasEndWith}
use Rattle.shot_core.specs.Points.{IsRayHitPlace, HoldsPoint}
use Rattle.shot_core.specs.Regions.{Instance, RegionBody, Region, HaveInstances}
use Rattle.shot_core.specs.SeenPoints.{IsSeen, IsSeenFirst}
use Rattle.tile_shot.specs.Pixels.{black, pixel_of, shaded}
use Rattle.tile_shot.specs.Reports.{HaveRisingPlaces}

-- the tree of a region holds at each fraction of a ray between two positions
abbrev pub HoldsBetween : List Region → Ray → RegionBody → Pos → Pos → Type 0
HoldsBetween regions ray body x y = (p q : ℤ) → IsOnRay p q → ¬ (IsRayHitPlace regions ray (Frac p q)) → Precedes x (Frac p q) → Precedes (Frac p q) y → HoldsPoint body ray p q

-- or at none
abbrev pub HoldsNowhereBetween : List Region → Ray → RegionBody → Pos → Pos → Type 0
HoldsNowhereBetween regions ray body x y = (p q : ℤ) → IsOnRay p q → ¬ (IsRayHitPlace regions ray (Frac p q)) → Precedes x (Frac p q) → Precedes (Frac p q) y → ¬ (HoldsPoint body ray p q)

-- it begins to hold at a position, where nothing holds before the ray begins, or it ceases to hold there, on the ray
pub record TurnsAt (regions : List Region) (ray : Ray) (body : RegionBody) (x : Pos) : Type 0 where
  pub from : Pos
  pub to : Pos
  pub from_place : IsPlace from
  pub to_place : IsPlace to
  pub before : Precedes from x
  pub behind : Precedes x to
  pub not_ended : ¬ (Precedes ray_end to)
  pub turns : (HoldsNowhereBetween regions ray body from x × HoldsBetween regions ray body x to)
      ⊎ ((¬ (Precedes from ray_start)) × HoldsBetween regions ray body from x × HoldsNowhereBetween regions ray body x to)

-- the instance of a number, of the region of a number, whose segment has an end at a position at which that region begins or ceases to
-- hold, be it one of air
pub record TurnsWith (regions : List Region) (ray : Ray) (x : Pos) (number instance : ℕ) : Type 0 where
  pub region : Region
  pub listed : slice_get regions number ≡ Some region
  pub turns : TurnsAt regions ray region.body x
  pub one : Instance
  pub there : slice_get region.body.instances instance ≡ Some one
  pub seg : Seg
  pub segment : segment_of one.surface ray ≡ Some seg
  pub end : (x ≡ seg.start) ⊎ (x ≡ seg.end)

-- what begins on the ray has the level of the face which the first such instance has there, by the number of its region and then its own;
-- an instance in which the ray begins has face 0 there, and the highest level
pub record HasLevel (regions : List Region) (ray : Ray) (lit : Lit) : Type 0 where
  pub number : ℕ
  pub instance : ℕ
  pub at : TurnsWith regions ray lit.start number instance
  pub first : (n i : ℕ) → TurnsWith regions ray lit.start n i → (number < n) ⊎ ((number ≡ n) × (instance ≤ i))
  pub face : HasEndWith at.seg lit.start lit.hit.face
  pub level : lit.level ≡ level_at at.one.surface lit.hit.face ray

-- the region without air that lies first on the ray, and between which ends it does
pub record PresentsFirst (regions : List Region) (ray : Ray) : Type 0 where
  pub lit : Lit
  pub start_spelled : IsSpelled lit.start
  pub end_spelled : IsSpelled lit.end
  pub seen : IsSeen regions ray lit

-- the colour of that region, at the level there
pub record ShowsFirst (regions : List Region) (ray : Ray) (colour : Rgb) : Type 0 where
  pub first : PresentsFirst regions ray
  pub level : HasLevel regions ray first.lit
  pub is : colour ≡ shaded first.lit.level first.seen.region.body.rgb

-- a pixel shows that, or is black where no region without air holds at any fraction
abbrev pub IsTruePixel : List Region → Ray → Rgb → Type 0
IsTruePixel regions ray colour = ShowsFirst regions ray colour ⊎ ((colour ≡ black) × IsSeenFirst regions ray None)

-- such a colour, and the only one
pub record IsOnlyTruePixel (regions : List Region) (ray : Ray) (colour : Rgb) : Type 0 where
  pub told : IsTruePixel regions ray colour
  pub alone : (other : Rgb) → IsTruePixel regions ray other → other ≡ colour

-- the pixel of any ray is true of its points (`IsTruePixel`), and no other colour is, whatever the regions are whose places rise and whose
-- leaves stand for their instances
abbrev pub PixelsTellPoints : Type 0
PixelsTellPoints = (regions : List Region) (ray : Ray) → HaveRisingPlaces regions → HaveInstances regions → IsOnlyTruePixel regions ray (pixel_of regions ray)

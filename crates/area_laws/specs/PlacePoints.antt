-- What the presented region tells of the points of a ray, hit places aside.
use Rattle.std.specs.Prelude.{◌≡◌, ◌⊎◌, ℕ, List, None}
use Rattle.lattice_core.specs.declared.ray.Ray.{Ray}
use Rattle.shot_core.specs.Regions.{Region, HaveInstances}
use Rattle.shot_core.specs.SeenPoints.{IsSeenFirst}
use Rattle.tile_shot.specs.Reports.{HaveRisingPlaces}
use Rattle.view_laws.specs.PixelPoints.{PresentsFirst}
use Rattle.area_tool.specs.Presented.{presented}

-- the place of the region without air that lies first on the ray
pub record PresentsPlace (regions : List Region) (ray : Ray) (place : ℕ) : Type 0 where
  pub first : PresentsFirst regions ray
  pub is : place ≡ first.seen.region.place

-- that, or 0 where no region without air holds at any fraction
abbrev pub IsTruePlace : List Region → Ray → ℕ → Type 0
IsTruePlace regions ray place = PresentsPlace regions ray place ⊎ ((place ≡ 0) × IsSeenFirst regions ray None)

-- such a place, and the only one
pub record IsOnlyTruePlace (regions : List Region) (ray : Ray) (place : ℕ) : Type 0 where
  pub told : IsTruePlace regions ray place
  pub alone : (other : ℕ) → IsTruePlace regions ray other → other ≡ place

-- the region that any ray presents is true of its points, and no other place is, whatever the regions are whose places rise and whose
-- leaves stand for their instances
abbrev pub PlacesTellPoints : Type 0
PlacesTellPoints = (regions : List Region) (ray : Ray) → HaveRisingPlaces regions → HaveInstances regions → IsOnlyTruePlace regions ray (presented regions ray)

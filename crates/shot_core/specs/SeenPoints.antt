-- What a ray shows first, told by its points, hit places aside.
use Rattle.std.specs.Prelude.{◌≡◌, ◌<◌, ℕ, ℤ, List, Option, Some, None, false, AllPairs, slice_get}
use Rattle.lattice_core.specs.declared.ray.Ray.{Ray}
use Rattle.lattice_core.specs.Rays.{IsOnRay}
use Rattle.surd_order.specs.declared.position.Pos.TheVariants.{Frac}
use Rattle.surd_order.specs.Order.{Precedes}
use Rattle.solid_set.specs.Segments.{ray_start, ray_end}
use Rattle.shot_core.specs.declared.shot.Lit.{Lit}
use Rattle.shot_core.specs.FirstShots.{first_seen}
use Rattle.shot_core.specs.Points.{IsRayHitPlace, HoldsPoint, LiesAt}
use Rattle.shot_core.specs.Regions.{Region, HaveInstances, has_air}

-- the region of some number has no air, and its tree holds at the point of the ray at the fraction p / q
pub record SomeSolidHolds (regions : List Region) (ray : Ray) (p q : ℤ) : Type 0 where
  pub number : ℕ
  pub region : Region
  pub there : slice_get regions number ≡ Some region
  pub solid : has_air region.body ≡ false
  pub holds : HoldsPoint region.body ray p q

-- what is seen lies on the ray and starts before it ends; its region has no air, and lies at every fraction between its ends, and maybe
-- also behind them; and no region without air holds at any fraction before its start
pub record IsSeen (regions : List Region) (ray : Ray) (lit : Lit) : Type 0 where
  pub region : Region
  pub there : slice_get regions lit.region ≡ Some region
  pub solid : has_air region.body ≡ false
  pub forward : Precedes lit.start lit.end
  pub begun : ¬ (Precedes lit.start ray_start)
  pub not_ended : ¬ (Precedes ray_end lit.end)
  pub before : (p q : ℤ) → IsOnRay p q → ¬ (IsRayHitPlace regions ray (Frac p q)) → Precedes (Frac p q) lit.start → ¬ (SomeSolidHolds regions ray p q)
  pub behind : (p q : ℤ) → IsOnRay p q → ¬ (IsRayHitPlace regions ray (Frac p q)) → Precedes lit.start (Frac p q) → Precedes (Frac p q) lit.end → LiesAt regions ray p q lit.region

-- where something is seen it is such, and nothing is seen only where no region without air holds at any fraction
abbrev pub IsSeenFirst : List Region → Ray → Option Lit → Type 0
IsSeenFirst regions ray None = (p q : ℤ) → IsOnRay p q → ¬ (IsRayHitPlace regions ray (Frac p q)) → ¬ (SomeSolidHolds regions ray p q)
IsSeenFirst regions ray (Some lit) = IsSeen regions ray lit

-- what every ray shows first begins where first a region without air holds, whatever the regions are whose places rise and whose leaves
-- stand for their instances
abbrev pub SeenTellsPoints : Type 0
SeenTellsPoints = (regions : List Region) (ray : Ray) → AllPairs (λ r s. r.place < s.place) regions → HaveInstances regions → IsSeenFirst regions ray (first_seen regions ray)

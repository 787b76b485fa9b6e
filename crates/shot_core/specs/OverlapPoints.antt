-- What the overlaps of a ray tell of its points, hit places aside. Of two regions that overlap more than once only the first overlap
-- is told.
use Rattle.std.specs.Prelude.{◌≡◌, ◌⊎◌, ◌<◌, ℕ, ℤ, List, Some, false, All, Any, slice_get}
use Rattle.lattice_core.specs.declared.ray.Ray.{Ray}
use Rattle.lattice_core.specs.Rays.{IsOnRay}
use Rattle.surd_order.specs.declared.position.Pos.{Pos}
use Rattle.surd_order.specs.declared.position.Pos.TheVariants.{Frac}
use Rattle.surd_order.specs.Order.{Precedes}
use Rattle.solid_set.specs.Segments.{ray_start, ray_end}
use Rattle.overlap_list.specs.declared.overlap.OverlapRun.{OverlapRun}
use Rattle.shot_core.specs.Points.{IsRayHitPlace, HoldsPoint}
use Rattle.shot_core.specs.Regions.{Region, HaveInstances, has_air}
use Rattle.shot_core.specs.Shots.{overlaps_on}

-- neither of the regions of two numbers has air, and the trees of both hold at the point of the ray at the fraction p / q, whichever
-- of them wins there
pub record BothHoldSolid (regions : List Region) (ray : Ray) (p q : ℤ) (one two : ℕ) : Type 0 where
  pub first : Region
  pub second : Region
  pub first_there : slice_get regions one ≡ Some first
  pub second_there : slice_get regions two ≡ Some second
  pub first_solid : has_air first.body ≡ false
  pub second_solid : has_air second.body ≡ false
  pub first_holds : HoldsPoint first.body ray p q
  pub second_holds : HoldsPoint second.body ray p q

-- the trees of two regions do not both hold so at any fraction of some part of the line of the ray that begins at a place
pub record NotBothBehind (regions : List Region) (ray : Ray) (one two : ℕ) (x : Pos) : Type 0 where
  pub limit : Pos
  pub later : Precedes x limit
  pub apart : (p q : ℤ) → IsOnRay p q → ¬ (IsRayHitPlace regions ray (Frac p q)) → Precedes x (Frac p q) → Precedes (Frac p q) limit → ¬ (BothHoldSolid regions ray p q one two)

-- an overlap lies on the ray and starts before it ends; its two regions, neither with air, both hold at every fraction between its
-- ends, and at none before its start; and it ends where the ray does, or they do not both hold for some part of the ray behind it
pub record IsTrueOverlap (regions : List Region) (ray : Ray) (o : OverlapRun) : Type 0 where
  pub forward : Precedes o.start o.end
  pub begun : ¬ (Precedes o.start ray_start)
  pub not_ended : ¬ (Precedes ray_end o.end)
  pub between : (p q : ℤ) → IsOnRay p q → ¬ (IsRayHitPlace regions ray (Frac p q)) → Precedes o.start (Frac p q) → Precedes (Frac p q) o.end → BothHoldSolid regions ray p q o.one o.two
  pub before : (p q : ℤ) → IsOnRay p q → ¬ (IsRayHitPlace regions ray (Frac p q)) → Precedes (Frac p q) o.start → ¬ (BothHoldSolid regions ray p q o.one o.two)
  pub ended : (¬ (Precedes o.end ray_end)) ⊎ NotBothBehind regions ray o.one o.two o.end

-- each of some overlaps is where two regions without air first both hold, and where two of them do at some fraction there is one of
-- these two
pub record AreTrueOverlaps (regions : List Region) (ray : Ray) (overlaps : List OverlapRun) : Type 0 where
  pub each : All (IsTrueOverlap regions ray) overlaps
  pub all : (p q : ℤ) (one two : ℕ) → IsOnRay p q → ¬ (IsRayHitPlace regions ray (Frac p q)) → one < two → BothHoldSolid regions ray p q one two → Any (λ o. (o.one ≡ one) × (o.two ≡ two)) overlaps

-- the overlaps of every ray tell where two regions without air first both hold, whatever the regions are whose leaves stand for their
-- instances
abbrev pub OverlapsTellPoints : Type 0
OverlapsTellPoints = (regions : List Region) (ray : Ray) → HaveInstances regions → AreTrueOverlaps regions ray (overlaps_on regions ray)

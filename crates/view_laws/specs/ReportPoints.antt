-- What a report tells of the points of the rays of a view, hit places aside: which regions overlap there, on how many rays, and on
-- which first.
use Rattle.std.specs.Prelude.{◌≡◌, ◌↔◌, ◌<◌, ℕ, ℤ, List, Bool, IsTrue, Some, All, AllPairs, Any, Contains, length, filter, find}
use Rattle.lattice_core.specs.declared.ray.Ray.{Ray}
use Rattle.lattice_core.specs.declared.view.View.{View}
use Rattle.lattice_core.specs.Rays.{IsOnRay}
use Rattle.lattice_core.specs.Views.{pixel_ray}
use Rattle.surd_order.specs.declared.position.Pos.TheVariants.{Frac}
use Rattle.surd_order.specs.Spelling.{IsSpelled}
use Rattle.overlap_list.specs.declared.overlap.OverlapRun.{OverlapRun}
use Rattle.shot_core.specs.declared.pair.Pair.{Pair}
use Rattle.shot_core.specs.OverlapPoints.{BothHoldSolid, IsTrueOverlap}
use Rattle.shot_core.specs.Points.{IsRayHitPlace}
use Rattle.shot_core.specs.Pruned.{by_place}
use Rattle.shot_core.specs.Regions.{Region, HaveInstances}
use Rattle.tile_shot.specs.Merges.{HasLowerPair}
use Rattle.tile_shot.specs.Reports.{Spot, report_of, HaveRisingPlaces}

-- the regions of two places, neither with air, both hold at one fraction of a ray
pub record OverlapSomewhere (regions : List Region) (ray : Ray) (one two : ℕ) : Type 0 where
  pub p : ℤ
  pub q : ℤ
  pub on_ray : IsOnRay p q
  pub free : ¬ (IsRayHitPlace regions ray (Frac p q))
  pub first_number : ℕ
  pub second_number : ℕ
  pub both : BothHoldSolid regions ray p q first_number second_number
  pub first_place : both.first.place ≡ one
  pub second_place : both.second.place ≡ two

-- on a ray the two regions of a pair first both hold between the ends that it has, which are in their one spelling
pub record IsWhereFirst (regions : List Region) (ray : Ray) (pair : Pair) : Type 0 where
  pub run : OverlapRun
  pub first : IsTrueOverlap regions ray run
  pub is : by_place regions run ≡ record { one = pair.one; two = pair.two; start = pair.start; end = pair.end }
  pub start_spelled : IsSpelled pair.start
  pub end_spelled : IsSpelled pair.end

-- the regions of the two places of a pair, the lower one first, neither with air, both hold at one fraction of as many rays of a list of
-- pixels as the pair has, the first of these in the list is that of its pixel, and on it they first do between its ends
pub record IsTruePair (regions : List Region) (view : View) (spots : List Spot) (pair : Pair) : Type 0 where
  pub order : pair.one < pair.two
  pub overlap : Spot → Bool
  pub tells : (s : Spot) → IsTrue (overlap s) ↔ OverlapSomewhere regions (pixel_ray view s.column s.row) pair.one pair.two
  pub rays : pair.rays ≡ length (filter overlap spots)
  pub first : find overlap spots ≡ Some (record { column = pair.column; row = pair.row })
  pub there : IsWhereFirst regions (pixel_ray view pair.column pair.row) pair

-- each pair is such, they are in the order of the lower place and then the higher one, and there is one for any two regions without air
-- that both hold at one fraction of some ray
pub record IsTrueReport (regions : List Region) (view : View) (spots : List Spot) (pairs : List Pair) : Type 0 where
  pub each : All (IsTruePair regions view spots) pairs
  pub rising : AllPairs HasLowerPair pairs
  pub all : (one two : ℕ) (s : Spot) → one < two → Contains spots s → OverlapSomewhere regions (pixel_ray view s.column s.row) one two → Any (λ pair. (pair.one ≡ one) × (pair.two ≡ two)) pairs

-- such a list of pairs, and the only one
pub record IsOnlyTrueReport (regions : List Region) (view : View) (spots : List Spot) (pairs : List Pair) : Type 0 where
  pub told : IsTrueReport regions view spots pairs
  pub alone : (others : List Pair) → IsTrueReport regions view spots others → others ≡ pairs

-- the report of any list of pixels of a view is true of the points of their rays (`IsTrueReport`), and no other list of pairs is,
-- whatever the regions are whose places rise and whose leaves stand for their instances
abbrev pub ReportsTellPoints : Type 0
ReportsTellPoints = (regions : List Region) (view : View) (spots : List Spot) → HaveRisingPlaces regions → HaveInstances regions → IsOnlyTrueReport regions view spots (report_of regions view spots)

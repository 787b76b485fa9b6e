-- What is true of slanted rays: ranks tell their parts, the parts tell their places, and plain rays are among them.
use Rattle.std.specs.Prelude.{◌≡◌, ◌↔◌, Some, Any, Contains, ◌<◌, ℕ, ℤ, pos, ◌≤ℤ◌, ◌<ℤ◌, List, All, AllPairs, length, map}
use Rattle.std.specs.declared.cmp.Ordering.TheVariants.{Less, Equal}
use Rattle.surd_order.specs.Order.{IsPlace}
use Rattle.surd_quot.specs.declared.position.QPos.{QPos}
use Rattle.surd_quot.specs.PlaceOrder.{quotient_cmp}
use Rattle.bool_weave.specs.declared.woven.Woven.{Woven}
use Rattle.bool_weave.specs.Lines.{places_along, cuts_along, claims_along}
use Rattle.bool_weave.specs.Cuts.{ray_length, IsWoven}
use Rattle.bool_weave.specs.Claims.{claims_of, claims_up_to}
use Rattle.bool_weave.specs.Masks.{Mask}
use Rattle.overlap_list.specs.declared.region.RegionClaims.{RegionClaims}
use Rattle.overlap_list.specs.Firsts.{TreeRegion, partitions_by}
use Rattle.overlap_list.specs.Partitions.{partitions_of, partitions_up_to}
use Rattle.order_laws.specs.Ranks.{LiesAlong}
use Rattle.order_laws.specs.Parts.{parts_along}
use Rattle.order_laws.specs.Points.{winner_there, IsClear, HasPlace}
use Rattle.slant_ranks.specs.Slants.{SlantSegment, slant_up_to, slant_parts, woven_by_ranks, slant_part_by_ranks, slant_of, part_of_partition}

-- the segments are of rising instances and lie along the ray, and there are no more cuts than a plain ray is long
pub record CanBeWovenByRanks (far : ℤ) (segments : List SlantSegment) : Type 0 where
  pub rising : AllPairs (λ v w. v.instance < w.instance) segments
  pub along : All (LiesAlong (slant_up_to far)) segments
  pub room : pos (length (cuts_along (slant_up_to far) segments)) ≤ℤ ray_length

-- a cut at a place
pub record HasCutAt (cuts : List QPos) (x : QPos) : Type 0 where
  pub cut : QPos
  pub there : Contains cuts cut
  pub at : quotient_cmp cut x ≡ Equal

-- the cuts of a slanted ray: its two ends and the starts and ends of its segments, each place once and in order
pub record AreSlantCuts (far : ℤ) (segments : List SlantSegment) (cuts : List QPos) : Type 0 where
  pub rising : AllPairs (λ x y. quotient_cmp x y ≡ Less) cuts
  pub among : (x : QPos) → Contains cuts x → Contains (places_along (slant_up_to far) segments) x
  pub all : (x : QPos) → Contains (places_along (slant_up_to far) segments) x → HasCutAt cuts x

-- the cuts are in order; the segments from rank to rank can be woven; a tree claims of them what it claims of the segments; and
-- their partitions tell the parts of the ray, for any rows of claims, and so for those of trees
pub record AreToldByRanks (far : ℤ) (segments : List SlantSegment) : Type 0 where
  pub cuts : AreSlantCuts far segments (cuts_along (slant_up_to far) segments)
  pub woven : IsWoven (woven_by_ranks far segments)
  pub claims : (tree : Mask) (first : ℕ) → claims_of (woven_by_ranks far segments) tree first ≡ claims_along (slant_up_to far) segments tree first
  pub rows : (regions : List RegionClaims) → parts_along (slant_up_to far) segments regions ≡ map (slant_part_by_ranks far segments) (partitions_of (woven_by_ranks far segments) regions)
  pub parts : (regions : List TreeRegion) → slant_parts far segments regions ≡ map (slant_part_by_ranks far segments) (partitions_by (woven_by_ranks far segments) regions)

-- the cuts of any slanted ray are in order, its segments from rank to rank can be woven, a tree claims of them what it claims of
-- the ray, and their partitions tell its parts
abbrev pub SlantsAreToldByRanks : Type 0
SlantsAreToldByRanks = (far : ℤ) (segments : List SlantSegment) → pos 0 <ℤ far → CanBeWovenByRanks far segments → AreToldByRanks far segments

-- at each place of a slanted ray at which no segment starts or ends, its parts have just the region that wins there by the segments
-- that go through
abbrev pub SlantsTellPlaces : Type 0
SlantsTellPlaces = (far : ℤ) (segments : List SlantSegment) (regions : List TreeRegion) (x : QPos) (n : ℕ)
    → pos 0 <ℤ far → All (LiesAlong (slant_up_to far)) segments → IsClear (slant_up_to far) segments x
    → Any (HasPlace (slant_up_to far) x n) (slant_parts far segments regions) ↔ (winner_there (slant_up_to far) segments regions x ≡ Some n)

-- the segments of a plain ray start and end at places
abbrev pub HavePlaces : List Woven → Type 0
HavePlaces woven = All (λ w. IsPlace w.seg.start × IsPlace w.seg.end) woven

-- a slanted ray with the segments of a plain one: trees claim of it the same, and its parts are the partitions of the plain ray
pub record IsSlant (far : ℤ) (woven : List Woven) : Type 0 where
  pub claims : (tree : Mask) (first : ℕ) → claims_along (slant_up_to far) (map slant_of woven) tree first ≡ claims_up_to far woven tree first
  pub rows : (regions : List RegionClaims) → parts_along (slant_up_to far) (map slant_of woven) regions ≡ map part_of_partition (partitions_up_to far woven regions)

-- with the segments of a plain ray, which goes along an axis and ends as far, a slanted ray has as its parts the partitions of that
-- one, for any rows of claims, and trees claim the same of both
abbrev pub PlainRaysAreSlants : Type 0
PlainRaysAreSlants = (far : ℤ) (woven : List Woven) → HavePlaces woven → IsSlant far woven

-- and so, where it ends as far as all plain rays do, it has for all regions the partitions of the plain ray
abbrev pub PlainRaysHaveSlantParts : Type 0
PlainRaysHaveSlantParts = (woven : List Woven) (regions : List TreeRegion) → HavePlaces woven
    → slant_parts ray_length (map slant_of woven) regions ≡ map part_of_partition (partitions_by woven regions)

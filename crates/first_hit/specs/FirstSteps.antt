-- Words of the code: what lies beside a place, from the values of a region's leaves, and the first place that is found.
use Rattle.std.specs.Prelude.{◌≡◌, ◌<◌, ◌≤◌, ◌+◌, ◌-◌, ◌==◌, ◌⊎◌, ◌++◌, ℕ, ℤ, pos, List, [], ◌∷◌, Option, Some, None, Bool, true, false, cond, not, ◌&&◌, nat_lt, length, take, drop, All, Any, MatchOption, slice_index_or}
use Rattle.std.specs.List.{list_any, find}
use Rattle.std.specs.declared.cmp.Ordering.{Ordering}
use Rattle.std.specs.declared.cmp.Ordering.TheVariants.{Less, Equal, Greater}
use Rattle.lattice_core.specs.declared.boxes.Side.{Side}
use Rattle.lattice_core.specs.declared.boxes.Side.TheVariants.{Open, At}
use Rattle.lattice_core.specs.declared.boxes.Box3.{Box3}
use Rattle.lattice_core.specs.declared.ray.Ray.{Ray}
use Rattle.lattice_core.specs.Boxes.{MeetsRay}
use Rattle.surd_order.specs.declared.position.Pos.{Pos}
use Rattle.surd_order.specs.declared.position.Seg.{Seg}
use Rattle.surd_order.specs.declared.position.Pos.TheVariants.{Frac}
use Rattle.surd_order.specs.Order.{Precedes}
use Rattle.surd_order.specs.PlaceOrder.{place_cmp}
use Rattle.surd_order.specs.Range.{IsInRange}
use Rattle.surd_order.specs.Spelling.{IsSpelled}
use Rattle.tree_forms.specs.Trees.{Leaf}
use Rattle.bool_weave.specs.declared.woven.Woven.{Woven}
use Rattle.bool_weave.specs.Cuts.{IsSegment}
use Rattle.bool_weave.specs.Masks.{Mask, mask_holds}
use Rattle.bool_weave.specs.Claims.{is_before}
use Rattle.bool_weave.specs.Behind.{covers_behind, covers_before, claims_behind, claims_before}
use Rattle.overlap_list.specs.Hits.{has_end_at, differ}
use Rattle.first_hit.specs.declared.front.Front.{Front}
use Rattle.first_hit.specs.declared.front.Part.{Part}
use Rattle.shot_core.specs.RegionBoxes.{region_box, near_side}
use Rattle.shot_core.specs.Regions.{RegionBody, Region, has_air, firsts_from}
use Rattle.shot_core.specs.Shots.{woven_from}
use Rattle.shot_core.specs.Steps.{no_region}
use Rattle.first_hit.specs.declared.beside.Flank.{Flank}
use Rattle.first_hit.specs.declared.beside.Flank.TheVariants.{Before, Behind}

-- the value of a leaf; there is none past the last
abbrev pub value_at : List Bool → ℕ → Bool
value_at values i = slice_index_or values i false

abbrev pub covers_on : Flank → Pos → Seg → Bool
covers_on Before x seg = covers_before x seg
covers_on Behind x seg = covers_behind x seg

abbrev pub spans_on : Flank → List Woven → Pos → ℕ → Bool
spans_on flank woven x instance = list_any (λ w. (w.instance == instance) && covers_on flank x w.seg) woven

abbrev pub claims_beside : Flank → List Woven → Mask → ℕ → Pos → Bool
claims_beside flank woven tree first x = mask_holds tree (λ i. spans_on flank woven x (first + i))

-- a segment of one of so many instances, numbered from `first` on
pub record IsOfBody (first count : ℕ) (w : Woven) : Type 0 where
  pub low : first ≤ w.instance
  pub high : w.instance < first + count
  pub segment : IsSegment w.seg

-- the earlier of the best place so far and another that is claimed
abbrev pub earlier_of : (Pos → Bool) → Option Pos → Pos → Option Pos
earlier_of claims None x = cond (claims x) (Some x) None
earlier_of claims (Some best) x = cond (is_before x best && claims x) (Some x) (Some best)

-- over all ends of segments
abbrev pub earliest_of : (Pos → Bool) → Option Pos → List Woven → Option Pos
earliest_of claims best [] = best
earliest_of claims best (w ∷ ws) = earliest_of claims (earlier_of claims (earlier_of claims best w.seg.start) w.seg.end) ws

-- one segment, of a tree that is its first leaf alone
pub record IsOneAlone (own : List Woven) (first : ℕ) (tree : Mask) : Type 0 where
  pub one : Woven
  pub is : own ≡ one ∷ []
  pub number : one.instance ≡ first
  pub alone : tree ≡ Leaf (Some 0)

-- the first place behind which a region claims
pub record IsFirstClaimAt (woven : List Woven) (tree : Mask) (first : ℕ) (x : Pos) : Type 0 where
  pub claimed : claims_behind woven tree first x ≡ true
  pub early : (y : Pos) → is_before y x ≡ true → claims_behind woven tree first y ≡ false
  pub range : IsInRange x
  pub spelled : IsSpelled x

abbrev pub IsFirstClaim : List Woven → Mask → ℕ → Option Pos → Type 0
IsFirstClaim woven tree first result = MatchOption result ((x : Pos) → claims_behind woven tree first x ≡ false) (IsFirstClaimAt woven tree first)

abbrev pub front_at : Pos → ℕ → Option Front
front_at start region = Some (record { start = start; region = region })

-- the earlier one, and of two at one place the one of the lower number
abbrev pub better_by : Ordering → Front → Pos → ℕ → Option Front
better_by Less best start region = front_at start region
better_by Equal best start region = cond (nat_lt region best.region) (front_at start region) (Some best)
better_by Greater best start region = Some best

abbrev pub better_of : Option Front → Option Pos → ℕ → Option Front
better_of best None region = best
better_of None (Some start) region = front_at start region
better_of (Some best) (Some start) region = better_by (place_cmp start best.start) best start region

-- the regions of a scene by their numbers
abbrev pub first_no : List Region → ℕ → ℕ
first_no regions n = slice_index_or (firsts_from 0 regions) n 0

abbrev pub body_no : List Region → ℕ → RegionBody
body_no regions n = (slice_index_or regions n no_region).body

abbrev pub own_no : List Region → Ray → ℕ → List Woven
own_no regions ray n = woven_from ray (first_no regions n) (body_no regions n).instances

-- whether a region has no air and claims what lies just behind a place
abbrev pub solid_no : List Region → Ray → ℕ → Pos → Bool
solid_no regions ray n x = not (has_air (body_no regions n)) && claims_behind (own_no regions ray n) (body_no regions n).tree (first_no regions n) x

-- the first such place
pub record IsFirstSolidAt (regions : List Region) (ray : Ray) (n : ℕ) (x : Pos) : Type 0 where
  pub solid : solid_no regions ray n x ≡ true
  pub early : (y : Pos) → is_before y x ≡ true → solid_no regions ray n y ≡ false
  pub range : IsInRange x
  pub spelled : IsSpelled x

abbrev pub IsFirstSolid : List Region → Ray → ℕ → Option Pos → Type 0
IsFirstSolid regions ray n result = MatchOption result ((x : Pos) → solid_no regions ray n x ≡ false) (IsFirstSolidAt regions ray n)

-- the best so far and the first place of one more region
pub record IsTaken (regions : List Region) (ray : Ray) (n : ℕ) (best result : Option Front) : Type 0 where
  pub start : Option Pos
  pub first : IsFirstSolid regions ray n start
  pub is : result ≡ better_of best start n

-- the first place of the first so many regions of an order, and the lowest-numbered of these that has it
pub record IsFrontAt (regions : List Region) (ray : Ray) (order : List ℕ) (count : ℕ) (front : Front) : Type 0 where
  pub there : front.region < length regions
  pub solid : solid_no regions ray front.region front.start ≡ true
  pub early : (k : ℕ) (y : Pos) → k < count → is_before y front.start ≡ true → solid_no regions ray (slice_index_or order k 0) y ≡ false
  pub lowest : (k : ℕ) → k < count → slice_index_or order k 0 < front.region → solid_no regions ray (slice_index_or order k 0) front.start ≡ false
  pub range : IsInRange front.start
  pub spelled : IsSpelled front.start

abbrev pub IsFront : List Region → Ray → List ℕ → ℕ → Option Front → Type 0
IsFront regions ray order count front = MatchOption front ((k : ℕ) (x : Pos) → k < count → solid_no regions ray (slice_index_or order k 0) x ≡ false) (IsFrontAt regions ray order count)

-- a side, where there is one
abbrev pub side_of : Option ℤ → Side
side_of None = Open
side_of (Some at) = At at

-- a place lies before a side
abbrev pub IsBeforeSide : Side → Pos → Type 0
IsBeforeSide Open x = ⊥
IsBeforeSide (At near) x = Precedes x (Frac near (pos 1))

-- a box that begins behind the best place so far
abbrev pub BeginsBehind : Box3 → Ray → Option Front → Type 0
BeginsBehind b ray None = ⊥
BeginsBehind b ray (Some best) = IsBeforeSide (near_side b ray) best.start

-- a box that a ray misses, or enters only behind the best place so far
abbrev pub IsPassed : Box3 → Ray → Option Front → Type 0
IsPassed b ray best = (¬ (MeetsRay b ray)) ⊎ BeginsBehind b ray best

abbrev pub box_no : List Region → ℕ → Box3
box_no regions n = region_box (body_no regions n)

-- the segments of a part
abbrev pub part_in : List Woven → Part → List Woven
part_in segments p = take (p.to - p.from) (drop p.from segments)

-- a part that has the segments of its region
pub record IsPartOf (regions : List Region) (ray : Ray) (segments : List Woven) (p : Part) : Type 0 where
  pub there : p.region < length regions
  pub ordered : p.from ≤ p.to
  pub within : p.to ≤ length segments
  pub own : part_in segments p ≡ own_no regions ray p.region

-- one more region was taken, and its segments are the next part
pub record IsNextPart (regions : List Region) (ray : Ray) (n : ℕ) (best : Option Front) (before : List Part) (result : Option Front) (after : List Part) : Type 0 where
  pub taken : IsTaken regions ray n best result
  pub part : Part
  pub region : part.region ≡ n
  pub added : after ≡ before ++ part ∷ []

-- one more region was passed over
pub record IsPassedOver (regions : List Region) (ray : Ray) (n : ℕ) (best : Option Front) (before : List Part) (result : Option Front) (after : List Part) : Type 0 where
  pub passed : IsPassed (box_no regions n) ray best
  pub same : result ≡ best
  pub kept : after ≡ before

abbrev pub IsMet : List Region → Ray → ℕ → Option Front → List Part → Option Front → List Part → Type 0
IsMet regions ray n best before result after = IsNextPart regions ray n best before result after ⊎ IsPassedOver regions ray n best before result after

-- each of the first so many regions of an order is a part or can be passed over
abbrev pub IsThrough : List Region → Ray → List ℕ → ℕ → Option Front → List Part → Type 0
IsThrough regions ray order count best parts =
    (k : ℕ) → k < count → Any (λ part. part.region ≡ slice_index_or order k 0) parts ⊎ IsPassed (box_no regions (slice_index_or order k 0)) ray best

-- a part with segments of its region's instances
pub record IsPartIn (regions : List Region) (segments : List Woven) (p : Part) : Type 0 where
  pub there : p.region < length regions
  pub ordered : p.from ≤ p.to
  pub within : p.to ≤ length segments
  pub own : All (IsOfBody (first_no regions p.region) (length (body_no regions p.region).instances)) (part_in segments p)

-- whether a tree's claim changes at a place
abbrev pub changes_beside : List Woven → Mask → ℕ → Pos → Bool
changes_beside woven tree first x = differ (claims_before woven tree first x) (claims_behind woven tree first x)

-- where a part is that of the region in front, the region's claim changes there
abbrev pub TurnsInFront : List Region → List Woven → Front → Part → Type 0
TurnsInFront regions segments front p =
    p.region ≡ front.region → changes_beside (part_in segments p) (body_no regions p.region).tree (first_no regions p.region) front.start ≡ true

-- the first of a region's segments that ends at a place where the region's claim changes
abbrev pub own_hit : List Woven → Mask → ℕ → Pos → Option Woven
own_hit own tree first x = cond (changes_beside own tree first x) (find (has_end_at x) own) None

abbrev pub lower_hit : Option Woven → Option Woven → Option Woven
lower_hit best None = best
lower_hit None (Some w) = Some w
lower_hit (Some best) (Some w) = cond (nat_lt w.instance best.instance) (Some w) (Some best)

abbrev pub part_hit : List Region → List Woven → Pos → Part → Option Woven
part_hit regions segments x p = own_hit (part_in segments p) (body_no regions p.region).tree (first_no regions p.region) x

-- of all parts the lowest-numbered one
abbrev pub lowest_hit : List Region → List Woven → Pos → Option Woven → List Part → Option Woven
lowest_hit regions segments x best [] = best
lowest_hit regions segments x best (p ∷ ps) = lowest_hit regions segments x (lower_hit best (part_hit regions segments x p)) ps

-- Laws of winners, of the partitions that they win, of their hits, and of overlaps.
use Rattle.std.specs.Prelude.{◌≡◌, ◌≢◌, ◌↔◌, ◌⊎◌, ◌<◌, ◌≤◌, ◌+◌, ℕ, List, true, false, IsSome, IfSome, MatchOption, All, AllPairs, Any, Contains, length, slice_index_or}
use Rattle.surd_order.specs.declared.position.Pos.{Pos}
use Rattle.surd_order.specs.Order.{Precedes, SamePlace}
use Rattle.surd_order.specs.Range.{IsInRange}
use Rattle.surd_order.specs.Spelling.{IsSpelled}
use Rattle.tree_forms.specs.Trees.{leaves}
use Rattle.bool_weave.specs.declared.woven.Woven.{Woven}
use Rattle.bool_weave.specs.Cuts.{ray_start, ray_end, IsWoven}
use Rattle.bool_weave.specs.Masks.{Mask}
use Rattle.bool_weave.specs.Claims.{intervals_of, claims_of}
use Rattle.overlap_list.specs.declared.region.RegionClaims.{RegionClaims}
use Rattle.overlap_list.specs.declared.hit.Hit.{Hit}
use Rattle.overlap_list.specs.declared.partition.Partition.{Partition}
use Rattle.overlap_list.specs.declared.overlap.OverlapRun.{OverlapRun}
use Rattle.overlap_list.specs.Winners.{claims_at, winner_of}
use Rattle.overlap_list.specs.Runs.{IntervalRun, has_before}
use Rattle.overlap_list.specs.Hits.{cut_at}
use Rattle.overlap_list.specs.Partitions.{won_runs, partitions_of}
use Rattle.overlap_list.specs.Overlaps.{do_overlap_at, overlaps_of}

-- the region of that place claims the interval, it has no air where one without air claims it, and of those of its kind that
-- claim it it is the first
pub record IsWinner (regions : List RegionClaims) (k r : ℕ) : Type 0 where
  pub there : r < length regions
  pub claims : (d : RegionClaims) → claims_at (slice_index_or regions r d) k ≡ true
  pub no_air : (s : ℕ) (d : RegionClaims) → s < length regions → claims_at (slice_index_or regions s d) k ≡ true → (slice_index_or regions s d).air ≡ false → (slice_index_or regions r d).air ≡ false
  pub first : (s : ℕ) (d : RegionClaims) → s < length regions → claims_at (slice_index_or regions s d) k ≡ true → (slice_index_or regions s d).air ≡ (slice_index_or regions r d).air → r ≤ s

-- where there is no winner no region claims the interval
abbrev pub WinnersAreRight : Type 0
WinnersAreRight = (regions : List RegionClaims) (k : ℕ)
    → MatchOption (winner_of regions k) ((s : ℕ) (d : RegionClaims) → s < length regions → claims_at (slice_index_or regions s d) k ≡ false) (IsWinner regions k)

-- one region wins all intervals of the run, and neither the interval before it nor that behind it
pub record IsWonRun (regions : List RegionClaims) (run : IntervalRun) : Type 0 where
  pub some : run.from < run.to
  pub region : IsSome (winner_of regions run.from)
  pub won : (k : ℕ) → run.from ≤ k → k < run.to → winner_of regions k ≡ winner_of regions run.from
  pub begun : (k : ℕ) → k + 1 ≡ run.from → winner_of regions k ≢ winner_of regions run.from
  pub ended : winner_of regions run.to ≢ winner_of regions run.from

-- the runs of the partitions are the maximal runs of intervals that one region wins
abbrev pub RunsAreMaximal : Type 0
RunsAreMaximal = (regions : List RegionClaims) (count : ℕ) (run : IntervalRun) → Contains (won_runs regions count) run ↔ (IsWonRun regions run × (run.to ≤ count))

-- one partition lies before another: it ends before the other starts, or just there, and then their regions differ
abbrev pub LiesBefore : Partition → Partition → Type 0
LiesBefore p q = Precedes p.end q.start ⊎ (SamePlace p.end q.start × (p.region ≢ q.region))

-- each starts before it ends, and lies before all that follow
pub record AreInOrder (partitions : List Partition) : Type 0 where
  pub forward : All (λ p. Precedes p.start p.end) partitions
  pub apart : AllPairs LiesBefore partitions

-- partitions are in order and disjoint
abbrev pub PartitionsAreInOrder : Type 0
PartitionsAreInOrder = (woven : List Woven) (regions : List RegionClaims) → IsWoven woven → AreInOrder (partitions_of woven regions)

-- from a place to a later one, both on the ray, in range and in their one spelling
pub record IsPartOfRay (start end : Pos) : Type 0 where
  pub ordered : Precedes start end
  pub begun : ¬ (Precedes start ray_start)
  pub not_ended : ¬ (Precedes ray_end end)
  pub start_range : IsInRange start
  pub start_spelled : IsSpelled start
  pub end_range : IsInRange end
  pub end_spelled : IsSpelled end

-- each partition is a part of the ray, from a place to a later one
abbrev pub PartitionsAreOnTheRay : Type 0
PartitionsAreOnTheRay = (woven : List Woven) (regions : List RegionClaims) → IsWoven woven → All (λ p. IsPartOfRay p.start p.end) (partitions_of woven regions)

-- a partition is made of neighbouring intervals, and its region wins each of them
pub record IsWonPart (woven : List Woven) (regions : List RegionClaims) (p : Partition) : Type 0 where
  pub run : IntervalRun
  pub some : run.from < run.to
  pub within : run.to ≤ length (intervals_of woven)
  pub start : p.start ≡ cut_at woven run.from
  pub end : p.end ≡ cut_at woven run.to
  pub won : (k : ℕ) → run.from ≤ k → k < run.to → IsWinner regions k p.region

-- the region of a partition wins each of its intervals: it claims them, and nothing without air is hidden by air
abbrev pub PartitionsAreWon : Type 0
PartitionsAreWon = (woven : List Woven) (regions : List RegionClaims) → All (IsWonPart woven regions) (partitions_of woven regions)

-- interval k lies in a partition
pub record LiesIn (woven : List Woven) (k : ℕ) (p : Partition) : Type 0 where
  pub start : ¬ (Precedes (cut_at woven k) p.start)
  pub end : ¬ (Precedes p.end (cut_at woven (k + 1)))

-- each interval that a region claims lies in a partition
abbrev pub ClaimsArePartitioned : Type 0
ClaimsArePartitioned = (woven : List Woven) (regions : List RegionClaims) → IsWoven woven → All (λ r. length r.claims ≡ length (intervals_of woven)) regions
    → (k : ℕ) → k < length (intervals_of woven) → Any (λ r. claims_at r k ≡ true) regions → Any (LiesIn woven k) (partitions_of woven regions)

-- a region claims what a tree over its instances does, whose leaves are numbered below their count
pub record HasTree (woven : List Woven) (region : RegionClaims) : Type 0 where
  pub tree : Mask
  pub below : All (λ leaf. IfSome leaf (λ i. i < region.count)) (leaves tree)
  pub claims : region.claims ≡ claims_of woven tree region.first

-- an instance of the region, which claims just one of the two intervals beside the start of interval k; before the first
-- interval none is claimed
pub record IsOfChange (k instance : ℕ) (region : RegionClaims) : Type 0 where
  pub first : region.first ≤ instance
  pub last : instance < region.first + region.count
  pub change : has_before (claims_at region) k ≢ claims_at region k

-- a segment that starts or ends where interval k starts, of an instance of some region whose claim changes there
pub record IsCandidate (woven : List Woven) (regions : List RegionClaims) (k : ℕ) (w : Woven) : Type 0 where
  pub there : Contains woven w
  pub ends : SamePlace w.seg.start (cut_at woven k) ⊎ SamePlace w.seg.end (cut_at woven k)
  pub changes : Any (IsOfChange k w.instance) regions

-- what is hit where interval k starts: the lowest-numbered candidate, with the face of the end that it has there
pub record IsHit (woven : List Woven) (regions : List RegionClaims) (k : ℕ) (hit : Hit) : Type 0 where
  pub one : Woven
  pub candidate : IsCandidate woven regions k one
  pub lowest : (w : Woven) → IsCandidate woven regions k w → one.instance ≤ w.instance
  pub instance : hit.instance ≡ one.instance
  pub start_face : SamePlace one.seg.start (cut_at woven k) → hit.face ≡ one.seg.start_face
  pub end_face : SamePlace one.seg.end (cut_at woven k) → hit.face ≡ one.seg.end_face

-- a partition starts with some interval, and its hit is what is hit there
pub record HasHit (woven : List Woven) (regions : List RegionClaims) (p : Partition) : Type 0 where
  pub k : ℕ
  pub within : k < length (intervals_of woven)
  pub start : p.start ≡ cut_at woven k
  pub hit : IsHit woven regions k p.hit

-- where regions claim what trees do, each partition has a hit
abbrev pub HitsAreThere : Type 0
HitsAreThere = (woven : List Woven) (regions : List RegionClaims) → IsWoven woven → All (HasTree woven) regions → All (HasHit woven regions) (partitions_of woven regions)

-- by the lower place, and then the higher one
abbrev pub HasLowerPlaces : OverlapRun → OverlapRun → Type 0
HasLowerPlaces a b = (a.one < b.one) ⊎ ((a.one ≡ b.one) × (a.two < b.two))

-- each is of a region and a later one, and has lower places than all that follow, so each pair comes once
pub record AreByPlace (count : ℕ) (runs : List OverlapRun) : Type 0 where
  pub pairs : All (λ r. (r.one < r.two) × (r.two < count)) runs
  pub rising : AllPairs HasLowerPlaces runs

-- overlaps are in the order of their pairs
abbrev pub OverlapsAreInOrder : Type 0
OverlapsAreInOrder = (woven : List Woven) (regions : List RegionClaims) → AreByPlace (length regions) (overlaps_of woven regions)

-- a region and a later one, neither with air, and the first run of intervals that both claim
pub record IsFirstOverlap (woven : List Woven) (regions : List RegionClaims) (o : OverlapRun) : Type 0 where
  pub run : IntervalRun
  pub order : o.one < o.two
  pub there : o.two < length regions
  pub some : run.from < run.to
  pub within : run.to ≤ length (intervals_of woven)
  pub start : o.start ≡ cut_at woven run.from
  pub end : o.end ≡ cut_at woven run.to
  pub both : (k : ℕ) → run.from ≤ k → k < run.to → do_overlap_at regions (record { one = o.one; two = o.two }) k ≡ true
  pub first : (k : ℕ) → k < run.from → do_overlap_at regions (record { one = o.one; two = o.two }) k ≡ false
  pub ended : do_overlap_at regions (record { one = o.one; two = o.two }) run.to ≡ false

-- the overlaps are exactly the first runs of intervals that both regions of a pair claim
abbrev pub OverlapsAreFirst : Type 0
OverlapsAreFirst = (woven : List Woven) (regions : List RegionClaims) → All (λ r. length r.claims ≡ length (intervals_of woven)) regions
    → (o : OverlapRun) → Contains (overlaps_of woven regions) o ↔ IsFirstOverlap woven regions o

-- each overlap lies on the ray
abbrev pub OverlapsAreOnTheRay : Type 0
OverlapsAreOnTheRay = (woven : List Woven) (regions : List RegionClaims) → IsWoven woven → All (λ r. length r.claims ≡ length (intervals_of woven)) regions
    → All (λ o. IsPartOfRay o.start o.end) (overlaps_of woven regions)

-- The first overlap of two regions, from what they claim beside places.
use Rattle.std.specs.Prelude.{◌≡◌, ◌<◌, ℕ, List, Some, None, Bool, true, false, ◌&&◌, MatchOption, map, length, slice_index_or}
use Rattle.surd_order.specs.declared.position.Pos.{Pos}
use Rattle.surd_order.specs.Spelling.{IsSpelled}
use Rattle.bool_weave.specs.declared.woven.Woven.{Woven}
use Rattle.bool_weave.specs.Claims.{is_before}
use Rattle.bool_weave.specs.Behind.{AreSpelled}
use Rattle.overlap_list.specs.declared.overlap.OverlapRun.{OverlapRun}
use Rattle.overlap_list.specs.Overlaps.{first_overlap}
use Rattle.overlap_list.specs.Firsts.{TreeRegion, claims_by, is_solid_behind}

-- whether two regions, neither with air, both claim what lies just behind a place
abbrev pub do_both_behind : List Woven → TreeRegion → TreeRegion → Pos → Bool
do_both_behind woven one two x = is_solid_behind woven x one && is_solid_behind woven x two

-- from the first place behind which both claim, up to the first one after it behind which not both do
pub record IsFirstStretch (woven : List Woven) (one two : TreeRegion) (start end : Pos) : Type 0 where
  pub start_spelled : IsSpelled start
  pub end_spelled : IsSpelled end
  pub ordered : is_before start end ≡ true
  pub first : (x : Pos) → is_before x start ≡ true → do_both_behind woven one two x ≡ false
  pub both : (x : Pos) → is_before x start ≡ false → is_before x end ≡ true → do_both_behind woven one two x ≡ true
  pub ended : do_both_behind woven one two end ≡ false

-- an overlap of the regions of two numbers that is their first stretch
pub record IsFirstStretchOf (woven : List Woven) (one two : ℕ) (a b : TreeRegion) (o : OverlapRun) : Type 0 where
  pub one_is : o.one ≡ one
  pub two_is : o.two ≡ two
  pub stretch : IsFirstStretch woven a b o.start o.end

-- the first overlap of a pair is its first stretch, and there is none where nowhere both claim
abbrev pub OverlapsAreByPlaces : Type 0
OverlapsAreByPlaces = (woven : List Woven) (regions : List TreeRegion) (one two : ℕ) (d e : TreeRegion) → AreSpelled woven → one < length regions → two < length regions
    → MatchOption (first_overlap woven (map (claims_by woven) regions) (record { one = one; two = two }))
    ((x : Pos) → do_both_behind woven (slice_index_or regions one d) (slice_index_or regions two e) x ≡ false)
    (IsFirstStretchOf woven one two (slice_index_or regions one d) (slice_index_or regions two e))

-- a first stretch of a pair is its first overlap
abbrev pub FirstStretchIsOverlap : Type 0
FirstStretchIsOverlap = (woven : List Woven) (regions : List TreeRegion) (one two : ℕ) (d e : TreeRegion) (start end : Pos) → AreSpelled woven → one < length regions → two < length regions
    → IsFirstStretch woven (slice_index_or regions one d) (slice_index_or regions two e) start end
    → first_overlap woven (map (claims_by woven) regions) (record { one = one; two = two }) ≡ Some (record { one = one; two = two; start = start; end = end })

-- where nowhere both of a pair claim they have no overlap
abbrev pub NoOverlapWithoutStretch : Type 0
NoOverlapWithoutStretch = (woven : List Woven) (regions : List TreeRegion) (one two : ℕ) (d e : TreeRegion) → AreSpelled woven → one < length regions → two < length regions
    → ((x : Pos) → do_both_behind woven (slice_index_or regions one d) (slice_index_or regions two e) x ≡ false)
    → first_overlap woven (map (claims_by woven) regions) (record { one = one; two = two }) ≡ None

-- What a region claims just behind a place and just before it, from the segments of its own instances.
use Rattle.std.specs.Prelude.{◌≡◌, ◌⊎◌, ◌<◌, ℕ, ◌+◌, ◌-◌, ◌==◌, List, Bool, true, false, ◌&&◌, not, IfSome, All, Any, filter, length, slice_index_or}
use Rattle.std.specs.List.{list_any}
use Rattle.tree_forms.specs.Trees.{leaves}
use Rattle.surd_order.specs.declared.position.Pos.{Pos}
use Rattle.surd_order.specs.declared.position.Seg.{Seg}
use Rattle.surd_order.specs.Spelling.{IsSpelled}
use Rattle.bool_weave.specs.declared.woven.Woven.{Woven}
use Rattle.bool_weave.specs.Cuts.{ray_start, cuts_of}
use Rattle.bool_weave.specs.Masks.{Mask, mask_holds}
use Rattle.bool_weave.specs.Claims.{intervals_of, is_before, claims_interval}
use Rattle.bool_weave.specs.Tables.{is_from_to}

-- a segment covers what lies just behind a place where it starts there or before it, and ends behind it
abbrev pub covers_behind : Pos → Seg → Bool
covers_behind x seg = not (is_before x seg.start) && is_before x seg.end

-- and what lies just before a place where it starts before it, and ends there or behind it
abbrev pub covers_before : Pos → Seg → Bool
covers_before x seg = is_before seg.start x && not (is_before seg.end x)

abbrev pub spans_behind : List Woven → Pos → ℕ → Bool
spans_behind woven x instance = list_any (λ w. (w.instance == instance) && covers_behind x w.seg) woven

abbrev pub spans_before : List Woven → Pos → ℕ → Bool
spans_before woven x instance = list_any (λ w. (w.instance == instance) && covers_before x w.seg) woven

-- whether a region claims what lies just behind a place, with leaf i standing for instance `first + i`
abbrev pub claims_behind : List Woven → Mask → ℕ → Pos → Bool
claims_behind woven tree first x = mask_holds tree (λ i. spans_behind woven x (first + i))

-- and what lies just before it
abbrev pub claims_before : List Woven → Mask → ℕ → Pos → Bool
claims_before woven tree first x = mask_holds tree (λ i. spans_before woven x (first + i))

-- both ends of a segment are in their one spelling
pub record HasSpelledEnds (seg : Seg) : Type 0 where
  pub start : IsSpelled seg.start
  pub end : IsSpelled seg.end

abbrev pub AreSpelled : List Woven → Type 0
AreSpelled woven = All (λ w. HasSpelledEnds w.seg) woven

-- an interval is claimed where what lies just behind its start is, and where what lies just before its end is
abbrev pub ClaimsAreBesidePlaces : Type 0
ClaimsAreBesidePlaces = (woven : List Woven) (tree : Mask) (first : ℕ) → AreSpelled woven
    → All (λ i. (claims_interval woven tree first i ≡ claims_behind woven tree first i.start) × (claims_interval woven tree first i ≡ claims_before woven tree first i.end)) (intervals_of woven)

-- nothing is claimed before the first cut, and nothing behind the last
abbrev pub NothingBeyondTheCuts : Type 0
NothingBeyondTheCuts = (woven : List Woven) (tree : Mask) (first : ℕ) → AreSpelled woven
    → (claims_before woven tree first (slice_index_or (cuts_of woven) 0 ray_start) ≡ false)
    × (claims_behind woven tree first (slice_index_or (cuts_of woven) (length (cuts_of woven) - 1) ray_start) ≡ false)

-- of what is woven only the region's own instances tell
abbrev pub OwnInstancesTell : Type 0
OwnInstancesTell = (woven : List Woven) (tree : Mask) (first count : ℕ) (x : Pos) → All (λ leaf. IfSome leaf (λ i. i < count)) (leaves tree)
    → (claims_behind (filter (is_from_to first (first + count)) woven) tree first x ≡ claims_behind woven tree first x)
    × (claims_before (filter (is_from_to first (first + count)) woven) tree first x ≡ claims_before woven tree first x)

-- a segment starts or ends at a place
abbrev pub HasEnd : Pos → Woven → Type 0
HasEnd z w = (w.seg.start ≡ z) ⊎ (w.seg.end ≡ z)

-- what is claimed behind a place is claimed behind some end of a segment that comes up to there
pub record IsClaimedFromEnd (woven : List Woven) (tree : Mask) (first : ℕ) (x : Pos) : Type 0 where
  pub end : Pos
  pub there : Any (HasEnd end) woven
  pub reached : is_before x end ≡ false
  pub claimed : claims_behind woven tree first end ≡ true

-- a tree that is claimed just behind a place is so from an end of a segment on that does not lie behind the place
abbrev pub ClaimsBeginAtEnds : Type 0
ClaimsBeginAtEnds = (woven : List Woven) (tree : Mask) (first : ℕ) (x : Pos) → claims_behind woven tree first x ≡ true → IsClaimedFromEnd woven tree first x

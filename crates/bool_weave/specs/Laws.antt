-- Laws of cuts and claims.
use Rattle.std.specs.Prelude.{◌≡◌, ◌↔◌, ◌-◌, ℕ, IsTrue, Bool, false, List, length, slice_index_or}
use Rattle.surd_order.specs.declared.position.Pos.{Pos}
use Rattle.surd_order.specs.declared.position.Seg.{Seg}
use Rattle.surd_order.specs.Order.{Precedes, IsPlace}
use Rattle.bool_weave.specs.declared.woven.Woven.{Woven}
use Rattle.bool_weave.specs.Cuts.{ray_start, ray_end, IsWoven, AreCuts, cuts_of}
use Rattle.bool_weave.specs.Masks.{Mask, mask_holds}
use Rattle.bool_weave.specs.Claims.{Interval, covers}

-- the computed cuts are the cuts
abbrev pub CutsAreThere : Type 0
CutsAreThere = (woven : List Woven) → IsWoven woven → AreCuts woven (cuts_of woven)

-- there is no other list of cuts than the computed one
abbrev pub CutsAreAlone : Type 0
CutsAreAlone = (woven : List Woven) (cuts : List Pos) → IsWoven woven → AreCuts woven cuts → cuts ≡ cuts_of woven

-- the first cut is where the ray begins, and the last where it ends
pub record HasRayEnds (cuts : List Pos) : Type 0 where
  pub first : (d : Pos) → slice_index_or cuts 0 d ≡ ray_start
  pub last : (d : Pos) → slice_index_or cuts (length cuts - 1) d ≡ ray_end

-- so the cuts of each weave begin and end with the ray
abbrev pub CutsAreWithinTheRay : Type 0
CutsAreWithinTheRay = (woven : List Woven) → IsWoven woven → HasRayEnds (cuts_of woven)

-- a segment covers an interval exactly where no place of the interval lies before its start or after its end
abbrev pub CoversByPlaces : Type 0
CoversByPlaces = (seg : Seg) (interval : Interval) → IsPlace seg.start → IsPlace seg.end → IsPlace interval.start → IsPlace interval.end
    → IsTrue (covers seg interval) ↔ ((¬ (Precedes interval.start seg.start)) × (¬ (Precedes seg.end interval.end)))

-- a tree is false where none of its leaves is true
abbrev pub NothingFromNothing : Type 0
NothingFromNothing = (tree : Mask) (values : ℕ → Bool) → ((i : ℕ) → values i ≡ false) → mask_holds tree values ≡ false

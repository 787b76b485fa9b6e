-- Which intervals of a ray a region claims.
use Rattle.std.specs.Prelude.{ℕ, ℤ, List, Bool}
use Rattle.surd_order.specs.declared.position.Pos.{Pos}
use Rattle.surd_order.specs.declared.position.Seg.{Seg}
use Rattle.surd_order.specs.PlaceOrder.{place_cmp}
use Rattle.bool_weave.specs.declared.woven.Woven.{Woven}
use Rattle.bool_weave.specs.Cuts.{ray_length, ray_up_to}
use Rattle.bool_weave.specs.Lines.{Between, all_between, intervals_along, comes_before, covers_from_to, spans_along, claims_between, claims_along}
use Rattle.bool_weave.specs.Masks.{Mask}

-- what lies between two neighbouring cuts
abbrev pub Interval : Type 0
Interval = Between Pos

abbrev pub intervals_between : List Pos → List Interval
intervals_between cuts = all_between cuts

-- the intervals between the cuts of what was woven, on a ray that ends so far
abbrev pub intervals_up_to : ℤ → List Woven → List Interval
intervals_up_to far woven = intervals_along (ray_up_to far) woven

abbrev pub intervals_of : List Woven → List Interval
intervals_of woven = intervals_up_to ray_length woven

-- whether one place comes before another
abbrev pub is_before : Pos → Pos → Bool
is_before x y = comes_before place_cmp x y

-- a segment covers an interval where its start is not after the interval's start and its end not before the interval's end
abbrev pub covers : Seg → Interval → Bool
covers seg interval = covers_from_to place_cmp seg.start seg.end interval

-- an instance spans an interval where it has a segment that covers it
abbrev pub spans : List Woven → Interval → ℕ → Bool
spans woven interval instance = spans_along (ray_up_to ray_length) woven interval instance

-- a region claims an interval where its tree holds, with leaf i standing for whether instance `first + i` spans the interval
abbrev pub claims_interval : List Woven → Mask → ℕ → Interval → Bool
claims_interval woven tree first interval = claims_between (ray_up_to ray_length) woven tree first interval

-- which of the intervals a tree claims, in their order, on a ray that ends so far
abbrev pub claims_up_to : ℤ → List Woven → Mask → ℕ → List Bool
claims_up_to far woven tree first = claims_along (ray_up_to far) woven tree first

abbrev pub claims_of : List Woven → Mask → ℕ → List Bool
claims_of woven tree first = claims_up_to ray_length woven tree first

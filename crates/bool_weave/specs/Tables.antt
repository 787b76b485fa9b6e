-- Words of the code: the intervals that instances span, by their numbers.
use Rattle.std.specs.Prelude.{◌≡◌, ◌<◌, ◌≤◌, ◌+◌, ◌-◌, ◌^◌, ℕ, List, length, All, Contains, Bool, ◌&&◌, nat_le, nat_lt, slice_index_or}
use Rattle.std.specs.List.Sorted.{IsStrictlySortedBy}
use Rattle.surd_order.specs.declared.position.Pos.{Pos}
use Rattle.surd_order.specs.declared.position.Seg.{Seg}
use Rattle.surd_order.specs.PlaceOrder.{place_cmp}
use Rattle.surd_order.specs.Range.{IsInRange}
use Rattle.bool_weave.specs.declared.mask.MaskNode.{MaskNode}
use Rattle.bool_weave.specs.declared.mask.MaskNode.TheVariants as node
use Rattle.bool_weave.specs.declared.span.Span.{Span}
use Rattle.bool_weave.specs.declared.woven.Woven.{Woven}
use Rattle.bool_weave.specs.Cuts.{IsWoven, cuts_of, ray_start}
use Rattle.bool_weave.specs.Claims.{Interval}

-- what a weave keeps
pub record IsKept (woven : List Woven) (cuts : List Pos) : Type 0 where
  pub sound : IsWoven woven
  pub few : length woven < 2 ^ 31
  pub kept : cuts ≡ cuts_of woven

-- places that can be searched
pub record IsSearchable (places : List Pos) : Type 0 where
  pub rising : IsStrictlySortedBy place_cmp places
  pub ranges : All IsInRange places

-- the ends of the segment are among the cuts
pub record IsCutAt (cuts : List Pos) (seg : Seg) : Type 0 where
  pub searchable : IsSearchable cuts
  pub start_range : IsInRange seg.start
  pub end_range : IsInRange seg.end
  pub start : Contains cuts seg.start
  pub end : Contains cuts seg.end

abbrev pub interval_at : List Pos → ℕ → Interval
interval_at cuts k = record { start = slice_index_or cuts k ray_start; end = slice_index_or cuts (k + 1) ray_start }

-- whether an interval is among those from one number up to another
abbrev pub reaches : Span → ℕ → Bool
reaches span k = nat_le span.from k && nat_lt k span.to

abbrev pub no_span : Span
no_span = record { from = 2 ^ 64 - 1; to = 0 }

-- whether a leaf's instance spans an interval
abbrev pub at_leaf : List Span → ℕ → ℕ → Bool
at_leaf table k i = reaches (slice_index_or table i no_span) k

-- the number after a leaf's
abbrev pub leaf_end : MaskNode → ℕ
leaf_end (node.Leaf i) = i + 1
leaf_end node.Never = 0
leaf_end node.U = 0
leaf_end node.N = 0
leaf_end node.Minus = 0
leaf_end node.X = 0

-- each leaf's number is below a bound
abbrev pub AreLeavesBelow : ℕ → List MaskNode → Type 0
AreLeavesBelow bound nodes = All (λ n. leaf_end n ≤ bound) nodes

-- the woven instances of a range of numbers
abbrev pub is_from_to : ℕ → ℕ → Woven → Bool
is_from_to from to w = nat_le from w.instance && nat_lt w.instance to

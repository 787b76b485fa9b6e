-- The box of a tree, by its shape.
use Rattle.std.specs.Prelude.{ℕ, List, Bool, true, false, cond, ◌&&◌, not, Option, Some, None, slice_index_or}
use Rattle.std.specs.Ordering.{int_cmp, is_gt}
use Rattle.lattice_core.specs.declared.boxes.Side.{Side}
use Rattle.lattice_core.specs.declared.boxes.Side.TheVariants.{Open, At}
use Rattle.lattice_core.specs.declared.extent.Extent.{Extent}
use Rattle.lattice_core.specs.declared.boxes.Box3.{Box3}
use Rattle.lattice_core.specs.declared.boxes.Box3.TheVariants.{Empty, Span}
use Rattle.lattice_core.specs.Spans.{hull_span, meet_span}
use Rattle.lattice_core.specs.Boxes.{IsHull, IsMeet, IsTidy}
use Rattle.tree_forms.specs.declared.Op.{Op}
use Rattle.tree_forms.specs.declared.Op.TheVariants.{U, N, Minus, X}
use Rattle.tree_forms.specs.Trees.{fold}
use Rattle.bool_weave.specs.Masks.{Mask}

-- whether a low side is at most a high one
abbrev pub are_ordered : Side → Side → Bool
are_ordered Open high = true
are_ordered (At low) Open = true
are_ordered (At low) (At high) = not (is_gt (int_cmp low high))

-- whether some coordinate lies in an extent
abbrev pub is_ordered : Extent → Bool
is_ordered extent = are_ordered extent.low extent.high

abbrev pub has_points : Box3 → Bool
has_points Empty = false
has_points (Span x y z) = is_ordered x && (is_ordered y && is_ordered z)

-- the box, or the empty one where it has no points
abbrev pub tidy : Box3 → Box3
tidy b = cond (has_points b) b Empty

-- the least box that holds both
abbrev pub hull_of : Box3 → Box3 → Box3
hull_of a b = cond (has_points a) (cond (has_points b) (hull_span a b) a) (tidy b)

-- the box of what lies in both
abbrev pub meet_of : Box3 → Box3 → Box3
meet_of a b = tidy (meet_span a b)

-- the box of a leaf is that of its instance; a leaf without a number has none
abbrev pub leaf_box : List Box3 → Option ℕ → Box3
leaf_box boxes None = Empty
leaf_box boxes (Some i) = slice_index_or boxes i Empty

-- of a union and of an exclusive union the hull, of an intersection the meet, of a difference the box of its left side
abbrev pub joined_box : Op → Box3 → Box3 → Box3
joined_box U left right = hull_of left right
joined_box N left right = meet_of left right
joined_box Minus left right = left
joined_box X left right = hull_of left right

-- the box of a tree, from the boxes of its instances
abbrev pub tree_box : List Box3 → Mask → Box3
tree_box boxes tree = fold (leaf_box boxes) joined_box tree

-- these are the least box that holds both, and the box of the points that lie in both
pub record AreHullAndMeet : Type 0 where
  pub hull : (a b : Box3) → IsHull (hull_of a b) a b
  pub hull_tidy : (a b : Box3) → IsTidy (hull_of a b)
  pub meet : (a b : Box3) → IsMeet (meet_of a b) a b
  pub meet_tidy : (a b : Box3) → IsTidy (meet_of a b)

-- Where boxes lie by a cut.
use Rattle.std.specs.Prelude.{Bool, false, Option, Some, None, ℤ}
use Rattle.std.specs.Ordering.{int_cmp, is_lt, is_gt}
use Rattle.lattice_core.specs.declared.boxes.Side.{Side}
use Rattle.lattice_core.specs.declared.boxes.Side.TheVariants.{Open, At}
use Rattle.lattice_core.specs.declared.extent.Extent.{Extent}
use Rattle.lattice_core.specs.declared.boxes.Box3.{Box3}
use Rattle.lattice_core.specs.declared.boxes.Box3.TheVariants.{Empty, Span}
use Rattle.box_index.specs.declared.cut.Axis.{Axis}
use Rattle.box_index.specs.declared.cut.Axis.TheVariants.{X, Y, Z}
use Rattle.box_index.specs.declared.cut.Cut.{Cut}

-- the extent of a box along an axis
abbrev pub extent_on : Box3 → Axis → Option Extent
extent_on Empty axis = None
extent_on (Span x y z) X = Some x
extent_on (Span x y z) Y = Some y
extent_on (Span x y z) Z = Some z

-- a side at a coordinate below another, or above it
abbrev pub is_side_below : ℤ → Side → Bool
is_side_below at Open = false
is_side_below at (At s) = is_lt (int_cmp s at)

abbrev pub is_side_above : ℤ → Side → Bool
is_side_above at Open = false
is_side_above at (At s) = is_gt (int_cmp s at)

abbrev pub of_low : (Side → Bool) → Option Extent → Bool
of_low f None = false
of_low f (Some e) = f e.low

abbrev pub of_high : (Side → Bool) → Option Extent → Bool
of_high f None = false
of_high f (Some e) = f e.high

-- a box lies on one side of the cut, without touching it
abbrev pub is_below : Box3 → Cut → Bool
is_below b cut = of_high (is_side_below cut.at) (extent_on b cut.axis)

abbrev pub is_above : Box3 → Cut → Bool
is_above b cut = of_low (is_side_above cut.at) (extent_on b cut.axis)

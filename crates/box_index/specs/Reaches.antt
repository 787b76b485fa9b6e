-- Whether boxes have points, and whether two that have some share one.
use Rattle.std.specs.Prelude.{Bool, true, false, ◌&&◌, not}
use Rattle.std.specs.Ordering.{int_cmp, is_gt}
use Rattle.lattice_core.specs.declared.boxes.Side.{Side}
use Rattle.lattice_core.specs.declared.boxes.Side.TheVariants.{Open, At}
use Rattle.lattice_core.specs.declared.extent.Extent.{Extent}
use Rattle.lattice_core.specs.declared.boxes.Box3.{Box3}
use Rattle.lattice_core.specs.declared.boxes.Box3.TheVariants.{Empty, Span}

-- whether a low side is at most a high one
abbrev pub are_ordered : Side → Side → Bool
are_ordered Open high = true
are_ordered (At low) Open = true
are_ordered (At low) (At high) = not (is_gt (int_cmp low high))

-- whether two extents that have coordinates share one
abbrev pub do_overlap : Extent → Extent → Bool
do_overlap a b = are_ordered a.low b.high && are_ordered b.low a.high

-- whether two boxes that have points share one
abbrev pub do_touch : Box3 → Box3 → Bool
do_touch Empty b = false
do_touch (Span x y z) Empty = false
do_touch (Span x y z) (Span x' y' z') = do_overlap x x' && (do_overlap y y' && do_overlap z z')

abbrev pub has_points : Box3 → Bool
has_points Empty = false
has_points (Span x y z) = are_ordered x.low x.high && (are_ordered y.low y.high && are_ordered z.low z.high)

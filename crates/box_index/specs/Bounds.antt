-- Bounding boxes: boxes that hold others whole.
use Rattle.std.specs.Prelude.{◌≤ℤ◌}
use Rattle.lattice_core.specs.declared.boxes.Side.{Side}
use Rattle.lattice_core.specs.declared.boxes.Side.TheVariants.{Open, At}
use Rattle.lattice_core.specs.declared.extent.Extent.{Extent}
use Rattle.lattice_core.specs.declared.boxes.Box3.{Box3}
use Rattle.lattice_core.specs.declared.boxes.Box3.TheVariants.{Empty, Span}
use Rattle.lattice_core.specs.Extents.{hull_extent}

-- a low side is at most another, and a high side at least another
abbrev pub IsLower : Side → Side → Type 0
IsLower Open b = Unit {0}
IsLower (At a) Open = ⊥
IsLower (At a) (At b) = a ≤ℤ b

abbrev pub IsHigher : Side → Side → Type 0
IsHigher Open b = Unit {0}
IsHigher (At a) Open = ⊥
IsHigher (At a) (At b) = b ≤ℤ a

abbrev pub HoldsExtent : Extent → Extent → Type 0
HoldsExtent a b = IsLower a.low b.low × IsHigher a.high b.high

-- bounds hold a box whole
abbrev pub Holds : Box3 → Box3 → Type 0
Holds bounds Empty = Unit {0}
Holds Empty (Span x y z) = ⊥
Holds (Span x y z) (Span x' y' z') = HoldsExtent x x' × HoldsExtent y y' × HoldsExtent z z'

-- the least box that holds two
abbrev pub around : Box3 → Box3 → Box3
around Empty b = b
around (Span x y z) Empty = Span x y z
around (Span x y z) (Span x' y' z') = Span (hull_extent x x') (hull_extent y y') (hull_extent z z')

-- the bounds of all points
abbrev pub all_coordinates : Extent
all_coordinates = record { low = Open; high = Open }

abbrev pub all_points : Box3
all_points = Span all_coordinates all_coordinates all_coordinates

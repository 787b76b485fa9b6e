-- One axis of a box: extents from a low side to a high one, and what two of them hold and share.
use Rattle.std.specs.Prelude.{ℤ, pos, negsuc, ◌+ℤ◌, ◌*ℤ◌, ◌≤ℤ◌}
use Rattle.std.specs.Int.{int_min, int_max}
use Rattle.lattice_core.specs.declared.boxes.Side.{Side}
use Rattle.lattice_core.specs.declared.boxes.Side.TheVariants.{Open, At}
use Rattle.lattice_core.specs.declared.extent.Extent.{Extent}
use Rattle.lattice_core.specs.declared.limit.TheConstants.{FAR}

-- the extent with its sides at two coordinates
abbrev pub extent_between : ℤ → ℤ → Extent
extent_between low high = record { low = At low; high = At high }

-- the low side is at most the high one
abbrev pub AreOrdered : Side → Side → Type 0
AreOrdered (At low) (At high) = low ≤ℤ high
AreOrdered Open high = Unit {0}
AreOrdered (At low) Open = Unit {0}

-- some coordinate lies in the extent
abbrev pub IsOrdered : Extent → Type 0
IsOrdered extent = AreOrdered extent.low extent.high

-- the lesser of two low sides, or open where one of them is
abbrev pub hull_low : Side → Side → Side
hull_low (At a) (At b) = At (int_min a b)
hull_low Open b = Open
hull_low (At a) Open = Open

-- the greater of two high sides, or open where one of them is
abbrev pub hull_high : Side → Side → Side
hull_high (At a) (At b) = At (int_max a b)
hull_high Open b = Open
hull_high (At a) Open = Open

-- the least extent that holds two
abbrev pub hull_extent : Extent → Extent → Extent
hull_extent a b = record { low = hull_low a.low b.low; high = hull_high a.high b.high }

-- the greater of two low sides, where an open one counts as the least
abbrev pub meet_low : Side → Side → Side
meet_low (At a) (At b) = At (int_max a b)
meet_low Open b = b
meet_low (At a) Open = At a

-- the lesser of two high sides, where an open one counts as the greatest
abbrev pub meet_high : Side → Side → Side
meet_high (At a) (At b) = At (int_min a b)
meet_high Open b = b
meet_high (At a) Open = At a

-- what two extents share
abbrev pub meet_extent : Extent → Extent → Extent
meet_extent a b = record { low = meet_low a.low b.low; high = meet_high a.high b.high }

-- how a coordinate of a ray changes
abbrev pub IsStep : ℤ → Type 0
IsStep step = (negsuc 0 ≤ℤ step) × (step ≤ℤ pos 1)

-- the least and the greatest coordinate on a ray
abbrev pub reach_low : ℤ → ℤ → ℤ
reach_low origin step = int_min origin (origin +ℤ (step *ℤ FAR))

abbrev pub reach_high : ℤ → ℤ → ℤ
reach_high origin step = int_max origin (origin +ℤ (step *ℤ FAR))

-- from the least coordinate on a ray to the greatest
abbrev pub reach_extent : ℤ → ℤ → Extent
reach_extent origin step = extent_between (reach_low origin step) (reach_high origin step)

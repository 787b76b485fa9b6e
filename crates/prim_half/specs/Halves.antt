-- Half-spaces: the points p with normal · p at most distance.
use Rattle.std.specs.Prelude.{◌≢◌, ℤ}
use Rattle.lattice_core.specs.declared.limit.TheConstants.{COORD, HALF_NORMAL}
use Rattle.lattice_core.specs.declared.boxes.Box3.{Box3}
use Rattle.lattice_core.specs.declared.boxes.Box3.TheVariants.{Span}
use Rattle.lattice_core.specs.declared.boxes.Side.TheVariants.{Open}
use Rattle.lattice_core.specs.declared.extent.Extent.{Extent}
use Rattle.lattice_core.specs.declared.vector.V3.{V3}
use Rattle.lattice_core.specs.Boxes.{HasPoint}
use Rattle.lattice_core.specs.Limits.{IsAtMost, IsWithin}
use Rattle.lattice_core.specs.Vectors.{zero_vector}
use Rattle.plane_geom.specs.declared.plane.Plane.{Plane}

-- a half-space as contracts see it: its normal and its distance
pub record HalfSpace : Type 0 where
  pub normal : V3
  pub distance : ℤ

-- the normal is not zero and has plain numbers of at most HALF_NORMAL in size, and the distance is at most COORD
pub record IsHalf (normal : V3) (distance : ℤ) : Type 0 where
  pub normal_size : IsWithin HALF_NORMAL normal
  pub distance_size : IsAtMost COORD distance
  pub direction : normal ≢ zero_vector

-- the plane of the one face
abbrev pub plane_of_half : HalfSpace → Plane
plane_of_half half = record { n = half.normal; d = half.distance }

-- the extent without sides
abbrev pub all_of_axis : Extent
all_of_axis = record { low = Open; high = Open }

-- the box without sides
abbrev pub all_of_space : Box3
all_of_space = Span all_of_axis all_of_axis all_of_axis

-- the box holds every point
abbrev pub HoldsAll : Box3 → Type 0
HoldsAll b = (v : V3) (w : ℤ) → HasPoint b v w

-- Faults of rays, proved by computation.
use Rattle.std.specs.Prelude.{◌≡◌, refl, ℤ, pos, negsuc, ◌+ℤ◌, Some, None}
use Rattle.lattice_core.specs.declared.limit.TheConstants.{WORLD}
use Rattle.lattice_core.specs.declared.view.ViewFault.TheVariants.{Direction, World}
use Rattle.slant_ray.specs.declared.ray.SlantRay.{SlantRay}
use Rattle.slant_ray.specs.Rays.{slant_fault}

-- the ray from a point on the axis x along a vector
along : ℤ → ℤ → ℤ → ℤ → SlantRay
along from x y z = record { origin = record { x = from; y = pos 0; z = pos 0 }; x = x; y = y; z = z }

no_fault : slant_fault (along WORLD (pos 1) (negsuc 0) (pos 4)) ≡ None
unfolding along
no_fault = refl

common_divisor : slant_fault (along (pos 0) (pos 2) (pos 2) (pos 0)) ≡ Some Direction
unfolding along
common_divisor = refl

no_direction : slant_fault (along (pos 0) (pos 0) (pos 0) (pos 0)) ≡ Some Direction
unfolding along
no_direction = refl

divided_by_three : slant_fault (along (pos 0) (pos 3) (negsuc 2) (pos 0)) ≡ Some Direction
unfolding along
divided_by_three = refl

-- no number over 1 divides 2, 3 and 4, though one divides 2 and 4
three_components : slant_fault (along (pos 0) (pos 2) (pos 3) (pos 4)) ≡ None
unfolding along
three_components = refl

direction_before_world : slant_fault (along (WORLD +ℤ pos 1) (pos 2) (pos 2) (pos 0)) ≡ Some Direction
unfolding along
direction_before_world = refl

outside : slant_fault (along (WORLD +ℤ pos 1) (pos 1) (pos 0) (pos 0)) ≡ Some World
unfolding along
outside = refl

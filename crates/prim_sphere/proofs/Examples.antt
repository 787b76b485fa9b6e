-- Points of a sphere of radius 5 around the origin, and of a ray through it.
use Rattle.std.proofs.Common.{ℤ, pos, negsuc, arith}
use Rattle.std.proofs.lemmas.Int.{ints}
use Rattle.lattice_core.specs.declared.vector.V3.{V3}
use Rattle.lattice_core.specs.Vectors.{zero_vector}
use Rattle.prim_sphere.specs.Spheres.{HasWithin, SphereHolds, IsNear}
use Rattle.prim_sphere.specs.Examples.{ray_at}

abbrev point : ℤ → ℤ → ℤ → V3
point x y z = record { x = x; y = y; z = z }

on_the_surface : HasWithin zero_vector (pos 5) (point (pos 3) (pos 4) (pos 0)) (pos 1)
on_the_surface = omega (arith, ints)

halves_inside : HasWithin zero_vector (pos 5) (point (pos 7) (negsuc 6) (pos 0)) (pos 2)
halves_inside = omega (arith, ints)

corner_outside : ¬ HasWithin zero_vector (pos 5) (point (pos 4) (pos 4) (pos 0)) (pos 1)
corner_outside = λ h. omega (arith, ints, h)

-- 10 - √23 lies between 26/5 and 27/5
held_after_the_start : SphereHolds zero_vector (pos 5) (ray_at (pos 1) (pos 1)) (pos 27) (pos 5)
held_after_the_start = omega (arith, ints)

not_held_before_the_start : ¬ SphereHolds zero_vector (pos 5) (ray_at (pos 1) (pos 1)) (pos 26) (pos 5)
not_held_before_the_start = λ h. omega (arith, ints, h)

near_after_the_start : IsNear (pos 10) (pos 23) (pos 27) (pos 5)
near_after_the_start = omega (arith, ints)

not_near_before_the_start : ¬ IsNear (pos 10) (pos 23) (pos 26) (pos 5)
not_near_before_the_start = λ h. omega (arith, ints, h)

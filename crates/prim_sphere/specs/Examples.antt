-- A sphere of radius 5 around the origin, proved by computation.
use Rattle.std.specs.Prelude.{◌≡◌, refl, Some, None, ℤ, pos, negsuc}
use Rattle.lattice_core.specs.declared.ray.Ray.{Ray}
use Rattle.lattice_core.specs.declared.ray.Dir.TheVariants.{PlusX}
use Rattle.lattice_core.specs.declared.boxes.Box3.TheVariants.{Span}
use Rattle.lattice_core.specs.Extents.{extent_between}
use Rattle.lattice_core.specs.Vectors.{zero_vector}
use Rattle.prim_sphere.specs.Spheres.{nearest_on, distance_squared, half_chord_squared, chord_at, level_of, box_of}

-- from 10 to the left of the centre, to the right
abbrev pub ray_at : ℤ → ℤ → Ray
ray_at y z = record { origin = record { x = negsuc 9; y = y; z = z }; dir = PlusX }

nearest : nearest_on zero_vector (ray_at (pos 1) (pos 1)) ≡ pos 10
nearest = refl

distance : distance_squared zero_vector (ray_at (pos 1) (pos 1)) ≡ pos 2
distance = refl

half_of_the_chord : half_chord_squared zero_vector (pos 5) (ray_at (pos 1) (pos 1)) ≡ pos 23
half_of_the_chord = refl

beside_the_centre : chord_at zero_vector (pos 5) (ray_at (pos 1) (pos 1)) ≡ Some (record { a = pos 10; k = 23 })
beside_the_centre = refl

further_out : chord_at zero_vector (pos 5) (ray_at (pos 3) (pos 0)) ≡ Some (record { a = pos 10; k = 16 })
further_out = refl

touching : chord_at zero_vector (pos 5) (ray_at (pos 5) (pos 0)) ≡ None
touching = refl

outside : chord_at zero_vector (pos 5) (ray_at (pos 6) (pos 0)) ≡ None
outside = refl

level_beside_the_centre : level_of (record { a = pos 10; k = 23 }) (pos 5) ≡ 239
level_beside_the_centre = refl

level_through_the_centre : level_of (record { a = pos 10; k = 25 }) (pos 5) ≡ 255
level_through_the_centre = refl

box_around : box_of zero_vector (pos 5) ≡ Span (extent_between (negsuc 4) (pos 5)) (extent_between (negsuc 4) (pos 5)) (extent_between (negsuc 4) (pos 5))
box_around = refl

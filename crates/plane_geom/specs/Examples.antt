-- Examples, proved by computation.
use Rattle.std.specs.Prelude.{◌≡◌, Some, None, pos, negsuc, refl}
use Rattle.lattice_core.specs.declared.ray.Dir.TheVariants.{PlusX, MinusZ}
use Rattle.lattice_core.specs.Vectors.{vector}
use Rattle.plane_geom.specs.Planes.{plane_through, level_of}

-- the plane through the three unit points
through_units : plane_through (vector (pos 1) (pos 0) (pos 0)) (vector (pos 0) (pos 1) (pos 0)) (vector (pos 0) (pos 0) (pos 1)) ≡ Some (record { n = vector (pos 1) (pos 1) (pos 1); d = pos 1 })
through_units = refl

-- three points on one line
through_line : plane_through (vector (pos 0) (pos 0) (pos 0)) (vector (pos 2) (pos 4) (pos 6)) (vector (negsuc 2) (negsuc 5) (negsuc 8)) ≡ None
through_line = refl

level_front : level_of (vector (negsuc 2) (pos 0) (pos 0)) PlusX ≡ 255
level_front = refl

-- 55 + 200 / 3, rounded down
level_corner : level_of (vector (pos 1) (pos 1) (pos 1)) MinusZ ≡ 121
level_corner = refl

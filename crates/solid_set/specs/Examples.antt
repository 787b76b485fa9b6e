-- Segments of simple surfaces, proved by computation.
use Rattle.std.specs.Prelude.{◌≡◌, refl, true, false, ℤ, pos, negsuc, Some, None, [], ◌∷◌}
use Rattle.lattice_core.specs.declared.limit.TheConstants.{FAR}
use Rattle.lattice_core.specs.declared.ray.Ray.{Ray}
use Rattle.lattice_core.specs.declared.ray.Dir.{Dir}
use Rattle.lattice_core.specs.declared.ray.Dir.TheVariants.{PlusX, MinusX, PlusZ}
use Rattle.lattice_core.specs.Vectors.{vector, zero_vector}
use Rattle.plane_geom.specs.declared.plane.Plane.{Plane}
use Rattle.prim_rcc.specs.Cylinders.{base_plane, top_plane, round_side}
use Rattle.prim_rcc.specs.Examples.{upright}
use Rattle.solid_set.specs.declared.solid.Solid.TheVariants as solids
use Rattle.solid_set.specs.declared.surface.Surface.{Surface}
use Rattle.surd_order.specs.declared.position.Pos.TheVariants.{Frac, Surd}
use Rattle.surd_order.specs.PlaceOrder.{place_cmp}
use Rattle.solid_set.specs.declared.surface.Surface.TheVariants.{Planes, HalfSpace, Ball, Cylinder}
use Rattle.solid_set.specs.Segments.{segment_of}
use Rattle.solid_set.specs.Levels.{level_at}
use Rattle.solid_set.specs.HitPlaces.{hit_places}
use Rattle.solid_set.specs.Larger.{larger_solid}
use Rattle.solid_set.specs.Times.{enlarged}

abbrev ray_from : ℤ → ℤ → ℤ → Dir → Ray
ray_from x y z dir = record { origin = record { x = x; y = y; z = z }; dir = dir }

abbrev plane : ℤ → ℤ → ℤ → ℤ → Plane
plane x y z d = record { n = record { x = x; y = y; z = z }; d = d }

-- the points with 2 x + 3 y at most 7: the ray begins inside, on no face
out_of_a_half_space : segment_of (HalfSpace (plane (pos 2) (pos 3) (pos 0) (pos 7))) (ray_from (pos 0) (pos 0) (pos 0) PlusX)
    ≡ Some (record { start = Frac (pos 0) (pos 1); start_face = 0; end = Frac (pos 7) (pos 2); end_face = 1 })
unfolding place_cmp
out_of_a_half_space = refl

away_from_a_half_space : segment_of (HalfSpace (plane (negsuc 1) (pos 3) (pos 0) (negsuc 6))) (ray_from (pos 0) (pos 0) (pos 0) MinusX) ≡ None
unfolding place_cmp
away_from_a_half_space = refl

-- a start that is also a crossing has its face
from_the_edge : segment_of (HalfSpace (plane (negsuc 0) (pos 0) (pos 0) (pos 0))) (ray_from (pos 0) (pos 0) (pos 0) PlusX)
    ≡ Some (record { start = Frac (pos 0) (pos 1); start_face = 1; end = Frac FAR (pos 1); end_face = 0 })
unfolding place_cmp
from_the_edge = refl

-- of equal crossings the first face counts, and a degenerate face counts for nothing
first_of_two_faces : segment_of (Planes (None ∷ Some (plane (negsuc 0) (pos 0) (pos 0) (pos 0)) ∷ Some (plane (negsuc 1) (pos 0) (pos 0) (pos 0)) ∷ Some (plane (pos 1) (pos 0) (pos 0) (pos 4)) ∷ []))
    (ray_from (negsuc 2) (pos 0) (pos 0) PlusX)
    ≡ Some (record { start = Frac (pos 3) (pos 1); start_face = 2; end = Frac (pos 7) (pos 1); end_face = 4 })
unfolding place_cmp
first_of_two_faces = refl

through_a_ball : segment_of (Ball zero_vector (pos 5)) (ray_from (negsuc 9) (pos 1) (pos 1) PlusX)
    ≡ Some (record { start = Surd (pos 10) false 23; start_face = 1; end = Surd (pos 10) true 23; end_face = 1 })
unfolding place_cmp
through_a_ball = refl

through_a_ball_at_whole_places : segment_of (Ball zero_vector (pos 5)) (ray_from (negsuc 9) (pos 3) (pos 0) PlusX)
    ≡ Some (record { start = Frac (pos 6) (pos 1); start_face = 1; end = Frac (pos 14) (pos 1); end_face = 1 })
unfolding place_cmp
through_a_ball_at_whole_places = refl

touching_a_ball : segment_of (Ball zero_vector (pos 5)) (ray_from (negsuc 9) (pos 5) (pos 0) PlusX) ≡ None
unfolding place_cmp
touching_a_ball = refl

level_of_a_slanted_face : level_at (HalfSpace (plane (negsuc 0) (negsuc 0) (pos 0) (pos 0))) 1 (ray_from (negsuc 4) (pos 0) (pos 0) PlusX) ≡ 155
level_of_a_slanted_face = refl

level_of_no_face : level_at (HalfSpace (plane (negsuc 0) (negsuc 0) (pos 0) (pos 0))) 0 (ray_from (pos 5) (pos 0) (pos 0) PlusX) ≡ 255
level_of_no_face = refl

-- of two planes only the one that is crossed has a place, also where it is crossed before the ray begins
places_of_planes : hit_places (Planes (None ∷ Some (plane (pos 0) (pos 1) (pos 0) (pos 9)) ∷ Some (plane (negsuc 1) (pos 0) (pos 0) (pos 6)) ∷ [])) (ray_from (pos 2) (pos 0) (pos 0) PlusX)
    ≡ Frac (pos 0) (pos 1) ∷ Frac FAR (pos 1) ∷ Frac (negsuc 9) (pos 2) ∷ []
places_of_planes = refl

places_of_a_ball : hit_places (Ball zero_vector (pos 5)) (ray_from (negsuc 9) (pos 1) (pos 1) PlusX)
    ≡ Frac (pos 0) (pos 1) ∷ Frac FAR (pos 1) ∷ Surd (pos 10) false 23 ∷ Surd (pos 10) true 23 ∷ []
places_of_a_ball = refl

-- a ball that is touched has no segment, but a place where it is touched
places_of_a_touched_ball : hit_places (Ball zero_vector (pos 5)) (ray_from (negsuc 9) (pos 5) (pos 0) PlusX)
    ≡ Frac (pos 0) (pos 1) ∷ Frac FAR (pos 1) ∷ Surd (pos 10) false 0 ∷ Surd (pos 10) true 0 ∷ []
places_of_a_touched_ball = refl

places_of_a_missed_ball : hit_places (Ball zero_vector (pos 5)) (ray_from (negsuc 9) (pos 6) (pos 0) PlusX) ≡ Frac (pos 0) (pos 1) ∷ Frac FAR (pos 1) ∷ []
places_of_a_missed_ball = refl

-- the cylinder of radius 5 from the origin 20 up
abbrev pillar : Surface
pillar = Cylinder (record { base = base_plane upright; top = top_plane upright; side = round_side upright })

through_a_pillar : segment_of pillar (ray_from (negsuc 9) (pos 3) (pos 10) PlusX)
    ≡ Some (record { start = Frac (pos 6) (pos 1); start_face = 3; end = Frac (pos 14) (pos 1); end_face = 3 })
unfolding place_cmp
through_a_pillar = refl

beside_the_axis_of_a_pillar : segment_of pillar (ray_from (negsuc 9) (pos 1) (pos 10) PlusX)
    ≡ Some (record { start = Surd (pos 10) false 24; start_face = 3; end = Surd (pos 10) true 24; end_face = 3 })
unfolding place_cmp
beside_the_axis_of_a_pillar = refl

up_a_pillar : segment_of pillar (ray_from (pos 0) (pos 0) (negsuc 4) PlusZ)
    ≡ Some (record { start = Frac (pos 5) (pos 1); start_face = 1; end = Frac (pos 25) (pos 1); end_face = 2 })
unfolding place_cmp
up_a_pillar = refl

along_the_surface_of_a_pillar : segment_of pillar (ray_from (pos 5) (pos 0) (negsuc 4) PlusZ) ≡ None
unfolding place_cmp
along_the_surface_of_a_pillar = refl

-- of the rays in the planes of base and top it has those in the one of the base
across_the_base_of_a_pillar : segment_of pillar (ray_from (negsuc 9) (pos 0) (pos 0) PlusX)
    ≡ Some (record { start = Frac (pos 5) (pos 1); start_face = 3; end = Frac (pos 15) (pos 1); end_face = 3 })
unfolding place_cmp
across_the_base_of_a_pillar = refl

across_the_top_of_a_pillar : segment_of pillar (ray_from (negsuc 9) (pos 0) (pos 20) PlusX) ≡ None
unfolding place_cmp
across_the_top_of_a_pillar = refl

level_of_a_base : level_at pillar 1 (ray_from (pos 0) (pos 0) (negsuc 4) PlusZ) ≡ 255
level_of_a_base = refl

-- 55 + 200 · 16 / 25
level_of_a_round_side : level_at pillar 3 (ray_from (negsuc 9) (pos 3) (pos 10) PlusX) ≡ 183
level_of_a_round_side = refl

places_of_a_touched_pillar : hit_places pillar (ray_from (negsuc 9) (pos 5) (pos 10) PlusX)
    ≡ Frac (pos 0) (pos 1) ∷ Frac FAR (pos 1) ∷ Surd (pos 10) false 0 ∷ Surd (pos 10) true 0 ∷ []
places_of_a_touched_pillar = refl

places_up_a_pillar : hit_places pillar (ray_from (pos 5) (pos 0) (negsuc 4) PlusZ)
    ≡ Frac (pos 0) (pos 1) ∷ Frac FAR (pos 1) ∷ Frac (pos 5) (pos 1) ∷ Frac (pos 25) (pos 1) ∷ []
places_up_a_pillar = refl

-- from a cap, from the side and from inside
on_the_base : segment_of pillar (ray_from (pos 1) (pos 1) (pos 0) PlusZ) ≡ Some (record { start = Frac (pos 0) (pos 1); start_face = 1; end = Frac (pos 20) (pos 1); end_face = 2 })
unfolding place_cmp
on_the_base = refl

on_the_side : segment_of pillar (ray_from (negsuc 4) (pos 0) (pos 10) PlusX) ≡ Some (record { start = Frac (pos 0) (pos 1); start_face = 3; end = Frac (pos 10) (pos 1); end_face = 3 })
unfolding place_cmp
on_the_side = refl

inside_it : segment_of pillar (ray_from (pos 0) (pos 0) (pos 10) PlusX) ≡ Some (record { start = Frac (pos 0) (pos 1); start_face = 0; end = Frac (pos 5) (pos 1); end_face = 3 })
unfolding place_cmp
inside_it = refl

-- 10 - √23 becomes 100 - √2300
root_ten_times : enlarged 10 (Surd (pos 10) false 23) ≡ Surd (pos 100) false 2300
root_ten_times = refl

-- 5/2 becomes 25, which is in lowest terms again
fraction_ten_times : enlarged 10 (Frac (pos 5) (pos 2)) ≡ Frac (pos 25) (pos 1)
fraction_ten_times = refl

-- a cylinder down an axis
cylinder_ten_times : larger_solid 10 (solids.Rcc (record { base = vector (pos 1) (negsuc 1) (pos 0); height = vector (pos 0) (pos 0) (negsuc 19); radius = pos 5 }))
    ≡ solids.Rcc (record { base = vector (pos 10) (negsuc 19) (pos 0); height = vector (pos 0) (pos 0) (negsuc 199); radius = pos 50 })
cylinder_ten_times = refl

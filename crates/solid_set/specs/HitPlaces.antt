-- The places at which a ray may come into a surface or leave it, and which of the points between them lie inside. A hit place is a
-- place on the ray, and no hit in the sense of an instance and a face.
use Rattle.std.specs.Prelude.{◌↔◌, ◌⊎◌, ◌≤◌, ℤ, pos, negsuc, true, false, cond, List, [], ◌∷◌, ◌++◌, length, Option, Some, None}
use Rattle.std.specs.Option.{ForSome}
use Rattle.lattice_core.specs.declared.ray.Ray.{Ray}
use Rattle.lattice_core.specs.Rays.{IsOnRay}
use Rattle.plane_geom.specs.declared.plane.Plane.{Plane}
use Rattle.plane_geom.specs.declared.plane.Crossing.{Crossing}
use Rattle.plane_geom.specs.declared.plane.Crossing.TheVariants.{Enters, Leaves, Holds, Misses}
use Rattle.plane_geom.specs.Crossings.{side_crossing}
use Rattle.lattice_core.specs.Units.{unit_of}
use Rattle.prim_sphere.specs.Spheres.{nearest_on, half_chord_squared}
use Rattle.prim_rcc.specs.declared.side.RoundSide.{RoundSide}
use Rattle.prim_rcc.specs.Axes.{is_along}
use Rattle.prim_rcc.specs.Sides.{nearest_on as nearest_on_side, half_chord_on}
use Rattle.surd_order.specs.declared.position.Pos.{Pos}
use Rattle.surd_order.specs.declared.position.Pos.TheVariants.{Frac, Surd}
use Rattle.surd_order.specs.declared.position.Seg.{Seg}
use Rattle.surd_order.specs.Order.{Precedes, SamePlace}
use Rattle.solid_set.specs.declared.surface.Surface.{Surface}
use Rattle.solid_set.specs.declared.surface.Surface.TheVariants.{Planes, HalfSpace, Ball, Cylinder}
use Rattle.solid_set.specs.Laws.{IsSound}
use Rattle.solid_set.specs.Segments.{ray_start, ray_end, caps_of}
use Rattle.solid_set.specs.Surfaces.{IsInside}

-- where the line of a ray crosses a plane; one that holds or misses the ray is crossed nowhere
abbrev pub crossing_places : Crossing → List Pos
crossing_places (Enters p q) = Frac p q ∷ []
crossing_places (Leaves p q) = Frac p q ∷ []
crossing_places Holds = []
crossing_places Misses = []

-- where it crosses the planes of faces; a degenerate face has none
abbrev pub side_places : Ray → List (Option Plane) → List Pos
side_places ray [] = []
side_places ray (side ∷ sides) = crossing_places (side_crossing side ray) ++ side_places ray sides

-- a - √k and a + √k, where k is not negative; for 0 both are at a
abbrev pub root_places : ℤ → ℤ → List Pos
root_places a (pos k) = Surd a false k ∷ Surd a true k ∷ []
root_places a (negsuc k) = []

-- where the line of a ray crosses a round side; along its axis nowhere
abbrev pub round_places : RoundSide → Ray → List Pos
round_places side ray =
    cond (is_along side.axis (unit_of ray.dir)) []
    (root_places (nearest_on_side side ray.origin (unit_of ray.dir)) (half_chord_on side ray.origin (unit_of ray.dir)))

-- where the line of a ray crosses the planes of a surface, the ball or the round side, also where it only touches what is round, and
-- also before the ray begins and after it ends
abbrev pub surface_places : Surface → Ray → List Pos
surface_places (Planes sides) ray = side_places ray sides
surface_places (HalfSpace plane) ray = side_places ray (Some plane ∷ [])
surface_places (Ball centre radius) ray = root_places (nearest_on centre ray) (half_chord_squared centre radius ray)
surface_places (Cylinder faces) ray = side_places ray (caps_of faces) ++ round_places faces.side ray

-- these, and where the ray begins and ends
abbrev pub hit_places : Surface → Ray → List Pos
hit_places surface ray = ray_start ∷ ray_end ∷ surface_places surface ray

-- a position is at one place with one of a list
abbrev pub IsAtOneOf : List Pos → Pos → Type 0
IsAtOneOf [] x = ⊥
IsAtOneOf (y ∷ ys) x = SamePlace x y ⊎ IsAtOneOf ys x

-- a position is at a hit place of a surface
abbrev pub IsHitPlace : Surface → Ray → Pos → Type 0
IsHitPlace surface ray x = IsAtOneOf (hit_places surface ray) x

-- a position lies strictly between the ends of a segment, where there is one
abbrev pub LiesBetweenEnds : Option Seg → Pos → Type 0
LiesBetweenEnds None x = ⊥
LiesBetweenEnds (Some seg) x = Precedes seg.start x × Precedes x seg.end

-- both ends of a segment are at hit places
pub record EndsAreHitPlaces (surface : Surface) (ray : Ray) (seg : Seg) : Type 0 where
  pub start : IsHitPlace surface ray seg.start
  pub end : IsHitPlace surface ray seg.end

-- the list of hit places is no longer than 14, repeated ones counted; the segment lies on the ray and starts before it ends, both
-- ends are at hit places, and a fraction of the ray that is at none lies inside exactly where it lies strictly between the ends.
-- So this is all that need be known of a kind of solid
pub record TellsByHitPlaces (surface : Surface) (ray : Ray) (answer : Option Seg) : Type 0 where
  pub few : length (hit_places surface ray) ≤ 14
  pub sound : ForSome answer IsSound
  pub ends : ForSome answer (EndsAreHitPlaces surface ray)
  pub exact : (p q : ℤ) → IsOnRay p q → ¬ (IsHitPlace surface ray (Frac p q)) → IsInside surface ray p q ↔ LiesBetweenEnds answer (Frac p q)

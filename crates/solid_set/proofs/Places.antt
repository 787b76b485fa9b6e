-- The hit places of a surface are places.
use Rattle.std.proofs.Common.{ℤ, pos, negsuc, Bool, true, false, cond, List, [], ◌∷◌, ◌++◌, Option, Some, None}
use Rattle.lattice_core.specs.declared.ray.Ray.{Ray}
use Rattle.lattice_core.specs.Units.{unit_of}
use Rattle.plane_geom.specs.declared.plane.Plane.{Plane}
use Rattle.plane_geom.specs.declared.plane.Crossing.{Crossing}
use Rattle.plane_geom.specs.declared.plane.Crossing.TheVariants.{Enters, Leaves, Holds, Misses}
use Rattle.plane_geom.specs.Crossings.{crossing_of}
use Rattle.plane_geom.specs.Planes.{IsCrossing}
use Rattle.plane_geom.proofs.Unique.{crossing_is}
use Rattle.prim_rcc.specs.declared.side.RoundSide.{RoundSide}
use Rattle.prim_rcc.specs.Axes.{is_along}
use Rattle.prim_rcc.specs.Sides.{nearest_on as nearest_on_side, half_chord_on}
use Rattle.prim_sphere.specs.Spheres.{nearest_on, half_chord_squared}
use Rattle.surd_order.specs.declared.position.Pos.{Pos}
use Rattle.surd_order.specs.Order.{IsPlace}
use Rattle.solid_set.specs.declared.surface.Surface.{Surface}
use Rattle.solid_set.specs.declared.surface.Surface.TheVariants.{Planes, HalfSpace, Ball, Cylinder}
use Rattle.solid_set.specs.HitPlaces.{crossing_places, side_places, root_places, round_places, surface_places}
use Rattle.solid_set.specs.Segments.{caps_of}

-- positions that are all places
abbrev pub ArePlaces : List Pos → Type 0
ArePlaces [] = Unit {0}
ArePlaces (x ∷ xs) = IsPlace x × ArePlaces xs

pub places_append : (xs ys : List Pos) → ArePlaces xs → ArePlaces ys → ArePlaces (xs ++ ys)
places_append [] ys h g = g
places_append (x ∷ xs) ys h g = (h.0, places_append xs ys h.1 g)

crossing_is_place : (plane : Plane) (ray : Ray) (c : Crossing) → IsCrossing plane ray c → ArePlaces (crossing_places c)
crossing_is_place plane ray (Enters p q) h = (h.2, tt)
crossing_is_place plane ray (Leaves p q) h = (h.2, tt)
crossing_is_place plane ray Holds h = tt
crossing_is_place plane ray Misses h = tt

sides_are_places : (ray : Ray) (sides : List (Option Plane)) → ArePlaces (side_places ray sides)
sides_are_places ray [] = tt
sides_are_places ray (None ∷ sides) = sides_are_places ray sides
sides_are_places ray (Some plane ∷ sides) =
    places_append (crossing_places (crossing_of plane ray)) (side_places ray sides) (crossing_is_place plane ray (crossing_of plane ray) (crossing_is plane ray)) (sides_are_places ray sides)

roots_are_places : (a k : ℤ) → ArePlaces (root_places a k)
roots_are_places a (pos k) = (tt, (tt, tt))
roots_are_places a (negsuc k) = tt

round_is_placed : (side : RoundSide) (ray : Ray) (b : Bool) → ArePlaces (cond b [] (root_places (nearest_on_side side ray.origin (unit_of ray.dir)) (half_chord_on side ray.origin (unit_of ray.dir))))
round_is_placed side ray true = tt
round_is_placed side ray false = roots_are_places (nearest_on_side side ray.origin (unit_of ray.dir)) (half_chord_on side ray.origin (unit_of ray.dir))

-- of each kind of surface; rays and scenes need no more of a kind
pub surface_is_placed : (surface : Surface) (ray : Ray) → ArePlaces (surface_places surface ray)
surface_is_placed (Planes sides) ray = sides_are_places ray sides
surface_is_placed (HalfSpace plane) ray = sides_are_places ray (Some plane ∷ [])
surface_is_placed (Ball centre radius) ray = roots_are_places (nearest_on centre ray) (half_chord_squared centre radius ray)
surface_is_placed (Cylinder faces) ray =
    places_append (side_places ray (caps_of faces)) (round_places faces.side ray) (sides_are_places ray (caps_of faces)) (round_is_placed faces.side ray (is_along faces.side.axis (unit_of ray.dir)))

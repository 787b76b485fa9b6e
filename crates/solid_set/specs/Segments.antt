-- The segment between whole lists of crossings.
use Rattle.std.specs.Prelude.{ℕ, ℤ, pos, Bool, true, false, cond, not, ◌||◌, List, [], ◌∷◌, ◌++◌, map, Option, Some, None}
use Rattle.std.specs.List.{find, list_all}
use Rattle.std.specs.Ordering.{is_lt, is_eq, is_gt}
use Rattle.lattice_core.specs.declared.ray.Ray.{Ray}
use Rattle.lattice_core.specs.declared.limit.TheConstants.{FAR}
use Rattle.plane_geom.specs.declared.plane.Plane.{Plane}
use Rattle.surd_order.specs.declared.position.Pos.{Pos}
use Rattle.surd_order.specs.declared.position.Pos.TheVariants.{Frac, Surd}
use Rattle.surd_order.specs.declared.position.Seg.{Seg}
use Rattle.surd_order.specs.PlaceOrder.{place_cmp}
use Rattle.surd_order.specs.Spelled.{spelled}
use Rattle.plane_geom.specs.declared.chord.Chord.{Chord}
use Rattle.prim_sphere.specs.Spheres.{chord_at}
use Rattle.prim_rcc.specs.declared.rcc.RccFaces.{RccFaces}
use Rattle.prim_rcc.specs.declared.side.RoundCrossing.{RoundCrossing}
use Rattle.prim_rcc.specs.declared.side.RoundCrossing.TheVariants.{Through, Holds, Misses}
use Rattle.prim_rcc.specs.Sides.{round_crossing}
use Rattle.solid_set.specs.declared.crossed.Crossed.{Crossed}
use Rattle.solid_set.specs.declared.surface.Surface.{Surface}
use Rattle.solid_set.specs.declared.surface.Surface.TheVariants.{Planes, HalfSpace, Ball, Cylinder}
use Rattle.solid_set.specs.Crossings.{entering_from, leaving_from, is_missed_by}

-- where a ray begins and ends
abbrev pub ray_start : Pos
ray_start = Frac (pos 0) (pos 1)

abbrev pub end_at : ℤ → Pos
end_at far = Frac far (pos 1)

abbrev pub ray_end : Pos
ray_end = end_at FAR

abbrev pub comes_after : Pos → Pos → Bool
comes_after x y = is_gt (place_cmp x y)

abbrev pub comes_before : Pos → Pos → Bool
comes_before x y = is_gt (place_cmp y x)

-- whether no place is ahead of this one
abbrev pub is_unbeaten : (Pos → Pos → Bool) → List Pos → Pos → Bool
is_unbeaten is_ahead places x = list_all (λ y. not (is_ahead y x)) places

abbrev pub place_or : Option Pos → Pos → Pos
place_or None x = x
place_or (Some y) x = y

-- the first of the places that no other one is ahead of
abbrev pub foremost : (Pos → Pos → Bool) → Pos → List Pos → Pos
foremost is_ahead first rest = place_or (find (is_unbeaten is_ahead (first ∷ rest)) (first ∷ rest)) first

-- the greatest of places: no other comes after it
abbrev pub greatest : Pos → List Pos → Pos
greatest first rest = foremost comes_after first rest

-- the least of places: no other comes before it
abbrev pub least : Pos → List Pos → Pos
least first rest = foremost comes_before first rest

abbrev pub places_of : List Crossed → List Pos
places_of crossings = map (λ c. c.place) crossings

abbrev pub face_or_none : Option Crossed → ℕ
face_or_none None = 0
face_or_none (Some c) = c.face

-- the first face, which is the lowest-numbered one, that is crossed at a place; 0 where none is
abbrev pub face_at : Pos → List Crossed → ℕ
face_at x crossings = face_or_none (find (λ c. is_eq (place_cmp c.place x)) crossings)

abbrev pub start_of : List Crossed → Pos
start_of entering = greatest ray_start (places_of entering)

-- on a ray that ends so far
abbrev pub end_up_to : ℤ → List Crossed → Pos
end_up_to far leaving = least (end_at far) (places_of leaving)

abbrev pub end_of : List Crossed → Pos
end_of leaving = end_up_to FAR leaving

-- from the greatest of the ray's start and the entering crossings to the least of its end and the leaving ones
abbrev pub segment_between_up_to : ℤ → List Crossed → List Crossed → Option Seg
segment_between_up_to far entering leaving =
    cond (is_lt (place_cmp (start_of entering) (end_up_to far leaving)))
    (Some (record {
      start = spelled (start_of entering);
      start_face = face_at (start_of entering) entering;
      end = spelled (end_up_to far leaving);
      end_face = face_at (end_up_to far leaving) leaving;
    }))
    None

abbrev pub segment_between : List Crossed → List Crossed → Option Seg
segment_between entering leaving = segment_between_up_to FAR entering leaving

-- the part of a ray that planes hold, with the faces numbered from 1 on
abbrev pub segment_through : List (Option Plane) → Ray → Option Seg
segment_through sides ray = cond (is_missed_by ray sides) None (segment_between (entering_from ray 1 sides) (leaving_from ray 1 sides))

-- the planes of base and top
abbrev pub caps_of : RccFaces → List (Option Plane)
caps_of faces = Some faces.base ∷ Some faces.top ∷ []

-- the planes of the faces of a surface, from face 1 on; a ball has none, and the round side of a cylinder is none
abbrev pub sides_of : Surface → List (Option Plane)
sides_of (Planes sides) = sides
sides_of (HalfSpace plane) = Some plane ∷ []
sides_of (Ball centre radius) = []
sides_of (Cylinder faces) = caps_of faces

abbrev pub chord_end : Option Chord → Bool → List Crossed
chord_end None plus = []
chord_end (Some chord) plus = record { face = 1; place = Surd chord.a plus chord.k } ∷ []

abbrev pub is_no_chord : Option Chord → Bool
is_no_chord None = true
is_no_chord (Some chord) = false

-- a round side is face 3
abbrev pub round_end : RoundCrossing → Bool → List Crossed
round_end (Through chord) plus = record { face = 3; place = Surd chord.a plus chord.k } ∷ []
round_end Holds plus = []
round_end Misses plus = []

abbrev pub is_round_miss : RoundCrossing → Bool
is_round_miss (Through chord) = false
is_round_miss Holds = false
is_round_miss Misses = true

-- the entering crossings of a surface, in the order of its faces: a ball and a round side are entered at a - √k
abbrev pub entering : Surface → Ray → List Crossed
entering (Planes sides) ray = entering_from ray 1 sides
entering (HalfSpace plane) ray = entering_from ray 1 (Some plane ∷ [])
entering (Ball centre radius) ray = chord_end (chord_at centre radius ray) false
entering (Cylinder faces) ray = entering_from ray 1 (caps_of faces) ++ round_end (round_crossing faces.side ray) false

-- the leaving ones: a ball and a round side are left at a + √k
abbrev pub leaving : Surface → Ray → List Crossed
leaving (Planes sides) ray = leaving_from ray 1 sides
leaving (HalfSpace plane) ray = leaving_from ray 1 (Some plane ∷ [])
leaving (Ball centre radius) ray = chord_end (chord_at centre radius ray) true
leaving (Cylinder faces) ray = leaving_from ray 1 (caps_of faces) ++ round_end (round_crossing faces.side ray) true

-- whether some plane, the ball or the round side misses the ray
abbrev pub is_missed : Surface → Ray → Bool
is_missed (Planes sides) ray = is_missed_by ray sides
is_missed (HalfSpace plane) ray = is_missed_by ray (Some plane ∷ [])
is_missed (Ball centre radius) ray = is_no_chord (chord_at centre radius ray)
is_missed (Cylinder faces) ray = is_missed_by ray (caps_of faces) || is_round_miss (round_crossing faces.side ray)

-- the segment that a surface encloses of a ray that ends so far
abbrev pub segment_up_to : ℤ → Surface → Ray → Option Seg
segment_up_to far surface ray = cond (is_missed surface ray) None (segment_between_up_to far (entering surface ray) (leaving surface ray))

-- the segment of a ray that a surface encloses
abbrev pub segment_of : Surface → Ray → Option Seg
segment_of surface ray = segment_up_to FAR surface ray

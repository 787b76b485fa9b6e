-- The faces of placed solids, whatever their kinds: planes, and at most one round face.
use Rattle.std.specs.Prelude.{◌≡◌, ◌↔◌, ℤ, pos, ◌<ℤ◌, Bool, false, true, ◌||◌, List, [], ◌∷◌, ◌++◌, Option, Some, None, replicate}
use Rattle.lattice_core.specs.declared.limit.TheConstants.{PLACED}
use Rattle.lattice_core.specs.declared.boxes.Box3.{Box3}
use Rattle.lattice_core.specs.declared.ray.Ray.{Ray}
use Rattle.lattice_core.specs.declared.vector.V3.{V3}
use Rattle.lattice_core.specs.Boxes.{HasPoint}
use Rattle.lattice_core.specs.Limits.{IsWithin}
use Rattle.lattice_core.specs.Units.{unit_of}
use Rattle.plane_geom.specs.declared.plane.Plane.{Plane}
use Rattle.plane_geom.specs.Planes.{PlaneHoldsAlong}
use Rattle.plane_geom.specs.Chords.{IsRadius, point_along}
use Rattle.prim_sphere.specs.Spheres.{SphereHoldsAlong, chord_at}
use Rattle.prim_rcc.specs.declared.axis.Axis.{Axis}
use Rattle.prim_rcc.specs.declared.side.RoundSide.{RoundSide}
use Rattle.prim_rcc.specs.Sides.{RoundHolds, round_crossing}
use Rattle.solid_set.specs.declared.crossed.Crossed.{Crossed}
use Rattle.solid_set.specs.declared.surface.Round.{Round}
use Rattle.solid_set.specs.declared.surface.Surface.{Surface}
use Rattle.solid_set.specs.declared.surface.Surface.TheVariants.{Planes, HalfSpace, Ball, Cylinder}
use Rattle.solid_set.specs.Crossings.{entering_from, leaving_from, is_missed_by}
use Rattle.solid_set.specs.Segments.{chord_end, is_no_chord, round_end, is_round_miss, entering, leaving, is_missed}
use Rattle.solid_set.specs.Surfaces.{IsInside}

-- the planes of the faces, and none for the rest of twelve
abbrev pub planes_of_faces : Surface → List (Option Plane)
planes_of_faces (Planes sides) = sides
planes_of_faces (HalfSpace plane) = Some plane ∷ replicate 11 None
planes_of_faces (Ball centre radius) = replicate 12 None
planes_of_faces (Cylinder faces) = Some faces.base ∷ Some faces.top ∷ replicate 10 None

-- the round face, where there is one
abbrev pub round_of : Surface → Option Round
round_of (Planes sides) = None
round_of (HalfSpace plane) = None
round_of (Ball centre radius) = Some (record { centre = centre; radius = radius; axis = None })
round_of (Cylinder faces) = Some (record { centre = faces.side.centre; radius = faces.side.radius; axis = Some faces.side.axis })

-- the sizes of a placed round face
pub record IsRoundSized (round : Round) : Type 0 where
  pub centre : IsWithin PLACED round.centre
  pub radius : IsRadius round.radius

-- the round side of these numbers
abbrev pub side_around : V3 → ℤ → Axis → RoundSide
side_around centre radius axis = record { centre = centre; axis = axis; radius = radius }

-- every plane holds the point of a line o + t e at the fraction p / q
abbrev pub AllHoldAlong : List (Option Plane) → V3 → V3 → ℤ → ℤ → Type 0
AllHoldAlong [] o e p q = Unit {0}
AllHoldAlong (None ∷ sides) o e p q = AllHoldAlong sides o e p q
AllHoldAlong (Some plane ∷ sides) o e p q = PlaneHoldsAlong plane o e p q × AllHoldAlong sides o e p q

-- what is round holds it: as a ball does, or as a round side
abbrev pub HoldsAround : Option Axis → V3 → ℤ → V3 → V3 → ℤ → ℤ → Type 0
HoldsAround None centre radius o e p q = SphereHoldsAlong centre radius o e p q
HoldsAround (Some axis) centre radius o e p q = RoundHolds (side_around centre radius axis) o e p q

abbrev pub RoundHoldsAlong : Option Round → V3 → V3 → ℤ → ℤ → Type 0
RoundHoldsAlong None o e p q = Unit {0}
RoundHoldsAlong (Some round) o e p q = HoldsAround round.axis round.centre round.radius o e p q

-- the point of the line lies inside of a surface
abbrev pub IsInsideAlong : Surface → V3 → V3 → ℤ → ℤ → Type 0
IsInsideAlong surface o e p q = AllHoldAlong (planes_of_faces surface) o e p q × RoundHoldsAlong (round_of surface) o e p q

-- the box holds every point inside, along any line
abbrev pub HoldsInsideAlong : Surface → Box3 → Type 0
HoldsInsideAlong surface bounds = (o e : V3) (p q : ℤ) → pos 0 <ℤ q → IsInsideAlong surface o e p q → HasPoint bounds (point_along o e p q) q

-- where a ray enters or leaves what is round
abbrev pub crossed_around : Option Axis → V3 → ℤ → Ray → Bool → List Crossed
crossed_around None centre radius ray plus = chord_end (chord_at centre radius ray) plus
crossed_around (Some axis) centre radius ray plus = round_end (round_crossing (side_around centre radius axis) ray) plus

abbrev pub round_crossed : Option Round → Ray → Bool → List Crossed
round_crossed None ray plus = []
round_crossed (Some round) ray plus = crossed_around round.axis round.centre round.radius ray plus

-- whether what is round misses a ray
abbrev pub is_missed_around : Option Axis → V3 → ℤ → Ray → Bool
is_missed_around None centre radius ray = is_no_chord (chord_at centre radius ray)
is_missed_around (Some axis) centre radius ray = is_round_miss (round_crossing (side_around centre radius axis) ray)

abbrev pub is_round_missed : Option Round → Ray → Bool
is_round_missed None ray = false
is_round_missed (Some round) ray = is_missed_around round.axis round.centre round.radius ray

-- a ray has its crossings with a surface from these faces, in this order, and is missed where one of them misses it; and its points
-- lie inside where all of them hold
pub record IsOfFaces (surface : Surface) (ray : Ray) : Type 0 where
  pub enters : entering surface ray ≡ entering_from ray 1 (planes_of_faces surface) ++ round_crossed (round_of surface) ray false
  pub leaves : leaving surface ray ≡ leaving_from ray 1 (planes_of_faces surface) ++ round_crossed (round_of surface) ray true
  pub misses : is_missed surface ray ≡ (is_missed_by ray (planes_of_faces surface) || is_round_missed (round_of surface) ray)
  pub inside : (p q : ℤ) → IsInsideAlong surface ray.origin (unit_of ray.dir) p q ↔ IsInside surface ray p q

-- the faces of a placed solid tell all of a surface that a ray asks
abbrev pub SurfacesAreOfFaces : Type 0
SurfacesAreOfFaces = (surface : Surface) (ray : Ray) → IsOfFaces surface ray

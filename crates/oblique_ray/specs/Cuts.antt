-- Where a line o + t e is cut by the faces of a placed solid, with whole vectors o and e and t counted in steps of e.
use Rattle.std.specs.Prelude.{ℕ, zero, suc, ℤ, pos, negsuc, ◌-ℤ◌, Bool, true, false, cond, ◌||◌, List, [], ◌∷◌, ◌++◌, Option, Some, None}
use Rattle.std.specs.Int.RustNames.{unsigned_abs}
use Rattle.std.specs.Ordering.{int_cmp}
use Rattle.std.specs.declared.cmp.Ordering.{Ordering}
use Rattle.std.specs.declared.cmp.Ordering.TheVariants.{Less, Equal, Greater}
use Rattle.lattice_core.specs.declared.vector.V3.{V3}
use Rattle.lattice_core.specs.Vectors.{vector_difference}
use Rattle.plane_geom.specs.declared.plane.Plane.{Plane}
use Rattle.plane_geom.specs.Planes.{slope_along, start_at}
use Rattle.plane_geom.specs.Crossings.{holds_along}
use Rattle.plane_geom.specs.Chords.{squared, length_squared, nearest_along, half_chord_along}
use Rattle.prim_rcc.specs.declared.axis.Axis.{Axis}
use Rattle.prim_rcc.specs.declared.side.RoundSide.{RoundSide}
use Rattle.prim_rcc.specs.Axes.{across_squared, is_along}
use Rattle.prim_rcc.specs.Sides.{apart_on, nearest_on, half_chord_on}
use Rattle.solid_set.specs.declared.surface.Round.{Round}
use Rattle.solid_set.specs.declared.surface.Surface.{Surface}
use Rattle.solid_set.specs.PlacedFaces.{planes_of_faces, round_of, side_around}
use Rattle.surd_quot.specs.declared.position.QPos.{QPos}
use Rattle.surd_quot.specs.declared.position.QPos.TheVariants.{Frac, Quot}

-- what faces do to a line: at which places it comes in, at which it goes out, whether some face misses it, and at which places
-- it crosses or touches them
pub record LineCut : Type 0 where
  pub entered : List QPos
  pub left : List QPos
  pub missed : Bool
  pub met : List QPos

-- no face has a say
abbrev pub uncut : LineCut
uncut = record { entered = []; left = []; missed = false; met = [] }

-- no point is held
abbrev pub all_missed : LineCut
all_missed = record { entered = []; left = []; missed = true; met = [] }

-- what two faces do
abbrev pub both_cut : LineCut → LineCut → LineCut
both_cut c d = record { entered = c.entered ++ d.entered; left = c.left ++ d.left; missed = c.missed || d.missed; met = c.met ++ d.met }

abbrev pub held_or_missed : Bool → LineCut
held_or_missed true = uncut
held_or_missed false = all_missed

abbrev pub entered_at : QPos → LineCut
entered_at x = record { entered = x ∷ []; left = []; missed = false; met = x ∷ [] }

abbrev pub left_at : QPos → LineCut
left_at x = record { entered = []; left = x ∷ []; missed = false; met = x ∷ [] }

-- a plane is entered against its normal and left along it; a line in its direction is held where it runs below it, and one that
-- lies in it where the first component of the normal that is not zero is negative
abbrev pub plane_cut_by : Ordering → Plane → V3 → V3 → LineCut
plane_cut_by Less plane o e = entered_at (Frac (start_at plane o -ℤ plane.d) (pos 0 -ℤ slope_along plane e))
plane_cut_by Equal plane o e = held_or_missed (holds_along plane.n (plane.d -ℤ start_at plane o))
plane_cut_by Greater plane o e = left_at (Frac (plane.d -ℤ start_at plane o) (slope_along plane e))

abbrev pub plane_cut : Plane → V3 → V3 → LineCut
plane_cut plane o e = plane_cut_by (int_cmp (slope_along plane e) (pos 0)) plane o e

-- (b - √k) / E or (b + √k) / E
abbrev pub root_at : ℤ → ℤ → Bool → ℕ → QPos
root_at pace b plus k = Quot b plus k (unsigned_abs pace)

abbrev pub root_places : ℤ → ℤ → ℕ → List QPos
root_places pace b k = root_at pace b false k ∷ root_at pace b true k ∷ []

-- what is round is entered at (b - √k) / E and left at (b + √k) / E where k is over 0, and else misses the line; where k is 0
-- it is touched
abbrev pub chord_cut : ℤ → ℤ → ℤ → LineCut
chord_cut pace b (pos zero) = record { entered = []; left = []; missed = true; met = root_places pace b zero }
chord_cut pace b (pos (suc k)) = record { entered = root_at pace b false (suc k) ∷ []; left = root_at pace b true (suc k) ∷ []; missed = false; met = root_places pace b (suc k) }
chord_cut pace b (negsuc k) = all_missed

-- around a centre: E = e · e, b = (c - o) · e and k = E r² - |(c - o) × e|²
abbrev pub ball_cut : V3 → ℤ → V3 → V3 → LineCut
ball_cut centre radius o e =
    chord_cut (length_squared e) (nearest_along (vector_difference centre o) e) (half_chord_along (vector_difference centre o) radius e)

-- a line along an axis is held where it is nearer to it than the radius
abbrev pub is_over : ℤ → Bool
is_over (pos zero) = false
is_over (pos (suc n)) = true
is_over (negsuc n) = false

-- around an axis: the same of the vectors cut to the two axes across it; a line along it is held or missed
abbrev pub side_cut : RoundSide → V3 → V3 → LineCut
side_cut side o e =
    cond (is_along side.axis e)
    (held_or_missed (is_over (squared side.radius -ℤ length_squared (apart_on side o))))
    (chord_cut (across_squared side.axis e) (nearest_on side o e) (half_chord_on side o e))

abbrev pub cut_around : Option Axis → V3 → ℤ → V3 → V3 → LineCut
cut_around None centre radius o e = ball_cut centre radius o e
cut_around (Some axis) centre radius o e = side_cut (side_around centre radius axis) o e

-- the round face, where there is one
abbrev pub round_cut : Option Round → V3 → V3 → LineCut
round_cut None o e = uncut
round_cut (Some round) o e = cut_around round.axis round.centre round.radius o e

-- the planes of faces; a degenerate face has none
abbrev pub planes_cut : List (Option Plane) → V3 → V3 → LineCut
planes_cut [] o e = uncut
planes_cut (None ∷ planes) o e = planes_cut planes o e
planes_cut (Some plane ∷ planes) o e = both_cut (plane_cut plane o e) (planes_cut planes o e)

-- one face of these
abbrev pub face_cut : Option Plane → V3 → V3 → LineCut
face_cut None o e = uncut
face_cut (Some plane) o e = plane_cut plane o e

-- the faces of a surface: its planes, and then what is round
abbrev pub surface_cut : Surface → V3 → V3 → LineCut
surface_cut surface o e = both_cut (planes_cut (planes_of_faces surface) o e) (round_cut (round_of surface) o e)

-- A sphere holds the points whose distance from its centre is at most its radius. A point with rational coordinates is
-- v / w: whole numerators over one positive w.
use Rattle.std.specs.Prelude.{◌≡◌, ◌↔◌, ℕ, Option, Some, None, ℤ, pos, ◌+ℤ◌, ◌-ℤ◌, ◌*ℤ◌, ◌<ℤ◌, ◌≤ℤ◌}
use Rattle.lattice_core.specs.declared.limit.TheConstants.{COORD}
use Rattle.lattice_core.specs.declared.vector.V3.{V3}
use Rattle.lattice_core.specs.declared.ray.Ray.{Ray}
use Rattle.lattice_core.specs.declared.boxes.Box3.{Box3}
use Rattle.lattice_core.specs.declared.boxes.Box3.TheVariants.{Span}
use Rattle.lattice_core.specs.Boxes.{HasPoint}
use Rattle.lattice_core.specs.Extents.{extent_between}
use Rattle.lattice_core.specs.Limits.{IsWithin}
use Rattle.lattice_core.specs.Units.{unit_of}
use Rattle.lattice_core.specs.Vectors.{vector_difference}
use Rattle.plane_geom.specs.declared.chord.Chord.{Chord}
use Rattle.plane_geom.specs.Chords.{point_along, nearest_along}
pub use Rattle.plane_geom.specs.Chords.{IsRadius, squared, length_squared, scaled, IsNear, chord_of, IsSmallChord, level_of}

-- the points whose distance from the centre is at most the radius
pub record Ball : Type 0 where
  pub centre : V3
  pub radius : ℤ

-- the radius is that of a sphere, and the coordinates of the centre are at most COORD in size
pub record IsBall (centre : V3) (radius : ℤ) : Type 0 where
  pub centre_size : IsWithin COORD centre
  pub radius_size : IsRadius radius

-- the distance of v / w from the centre is at most the radius
abbrev pub HasWithin : V3 → ℤ → V3 → ℤ → Type 0
HasWithin centre radius v w = length_squared (vector_difference v (scaled centre w)) ≤ℤ squared (radius *ℤ w)

-- the sphere holds the point of the line o + t e at the fraction p / q
abbrev pub SphereHoldsAlong : V3 → ℤ → V3 → V3 → ℤ → ℤ → Type 0
SphereHoldsAlong centre radius o e p q = HasWithin centre radius (point_along o e p q) q

-- the sphere holds the point of the ray at the fraction p / q
abbrev pub SphereHolds : V3 → ℤ → Ray → ℤ → ℤ → Type 0
SphereHolds centre radius ray p q = SphereHoldsAlong centre radius ray.origin (unit_of ray.dir) p q

-- how far along the ray the centre lies
abbrev pub nearest_on : V3 → Ray → ℤ
nearest_on centre ray = nearest_along (vector_difference centre ray.origin) (unit_of ray.dir)

-- the square of the distance of the centre from the line of the ray
abbrev pub distance_squared : V3 → Ray → ℤ
distance_squared centre ray = length_squared (vector_difference centre ray.origin) -ℤ squared (nearest_on centre ray)

-- the square of half the length that a sphere cuts out of the line, where it is not negative
abbrev pub half_chord_squared : V3 → ℤ → Ray → ℤ
half_chord_squared centre radius ray = squared radius -ℤ distance_squared centre ray

-- the part of the line in a sphere, where it is longer than a point
abbrev pub chord_at : V3 → ℤ → Ray → Option Chord
chord_at centre radius ray = chord_of (nearest_on centre ray) (half_chord_squared centre radius ray)

-- the sphere holds the fractions of the ray from a - √k to a + √k
abbrev pub HoldsBetween : V3 → ℤ → Ray → Chord → Type 0
HoldsBetween centre radius ray chord = (p q : ℤ) → pos 0 <ℤ q → SphereHolds centre radius ray p q ↔ IsNear chord.a (pos chord.k) p q

-- two fractions that the sphere holds are one
abbrev pub HoldsOnceAtMost : V3 → ℤ → Ray → Type 0
HoldsOnceAtMost centre radius ray =
    (p q p' q' : ℤ) → pos 0 <ℤ q → pos 0 <ℤ q' → SphereHolds centre radius ray p q → SphereHolds centre radius ray p' q'
    → p *ℤ q' ≡ p' *ℤ q

-- the box from the centre less the radius to the centre and the radius
abbrev pub box_of : V3 → ℤ → Box3
box_of c r = Span (extent_between (c.x -ℤ r) (c.x +ℤ r)) (extent_between (c.y -ℤ r) (c.y +ℤ r)) (extent_between (c.z -ℤ r) (c.z +ℤ r))

-- the box holds every point of the sphere
abbrev pub HoldsPointsOf : V3 → ℤ → Box3 → Type 0
HoldsPointsOf centre radius b = (v : V3) (w : ℤ) → pos 0 <ℤ w → HasWithin centre radius v w → HasPoint b v w

-- the level where a ray runs through a sphere, and the highest where it does not
abbrev pub chord_level : Option Chord → ℤ → ℕ
chord_level None radius = 255
chord_level (Some chord) radius = level_of chord radius

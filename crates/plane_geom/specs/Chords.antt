-- Where a line runs through what is round. A line is o + t e with whole vectors o and e. On it a ball of centre c and
-- radius r is crossed at (b - √k) / E and (b + √k) / E, with E = e · e, b = (c - o) · e and k = E r² - |(c - o) × e|².
use Rattle.std.specs.Prelude.{ℕ, zero, suc, ◌+◌, ◌*◌, ◌/◌, ◌<◌, Option, Some, None, ℤ, pos, negsuc, ◌+ℤ◌, ◌-ℤ◌, ◌*ℤ◌, ◌≤ℤ◌}
use Rattle.std.specs.Int.RustNames.{unsigned_abs}
use Rattle.lattice_core.specs.declared.limit.TheConstants.{COORD}
use Rattle.lattice_core.specs.declared.vector.V3.{V3}
use Rattle.lattice_core.specs.Limits.{IsAtMost}
use Rattle.lattice_core.specs.Vectors.{dot_product}
use Rattle.plane_geom.specs.declared.limit.TheConstants.{REMOTE}
use Rattle.plane_geom.specs.declared.chord.Chord.{Chord}
use Rattle.plane_geom.specs.Vectors.{cross_product}

-- the radius of a solid
pub record IsRadius (radius : ℤ) : Type 0 where
  pub some : pos 1 ≤ℤ radius
  pub size : radius ≤ℤ COORD

-- the square of a number
abbrev pub squared : ℤ → ℤ
squared z = z *ℤ z

-- the square of the length of a vector
abbrev pub length_squared : V3 → ℤ
length_squared v = dot_product v v

-- a vector, component by component times a number
abbrev pub scaled : V3 → ℤ → V3
scaled v w = record { x = v.x *ℤ w; y = v.y *ℤ w; z = v.z *ℤ w }

-- q times the point at the fraction p / q of the line o + t e
abbrev pub point_along : V3 → V3 → ℤ → ℤ → V3
point_along o e p q = record {
  x = (o.x *ℤ q) +ℤ (e.x *ℤ p);
  y = (o.y *ℤ q) +ℤ (e.y *ℤ p);
  z = (o.z *ℤ q) +ℤ (e.z *ℤ p);
}

-- how far along a line a centre lies that is apart from its origin by a vector, times e · e
abbrev pub nearest_along : V3 → V3 → ℤ
nearest_along apart e = dot_product apart e

-- the square of half the length that a ball cuts out of the line, times e · e, where it is not negative
abbrev pub half_chord_along : V3 → ℤ → V3 → ℤ
half_chord_along apart radius e = (length_squared e *ℤ squared radius) -ℤ length_squared (cross_product apart e)

-- p / q is no further than √k / E from b / E
abbrev pub IsNearAlong : ℤ → ℤ → ℤ → ℤ → ℤ → Type 0
IsNearAlong pace b k p q = squared ((pace *ℤ p) -ℤ (b *ℤ q)) ≤ℤ (k *ℤ squared q)

-- p / q is no further than √k from a
abbrev pub IsNear : ℤ → ℤ → ℤ → ℤ → Type 0
IsNear a k p q = squared (p -ℤ (a *ℤ q)) ≤ℤ (k *ℤ squared q)

-- the chord of these numbers, where it is longer than a point
abbrev pub chord_of : ℤ → ℤ → Option Chord
chord_of a (pos zero) = None
chord_of a (pos (suc k)) = Some (record { a = a; k = suc k })
chord_of a (negsuc k) = None

-- the sizes of the numbers of a chord
pub record IsSmallChord (radius : ℤ) (chord : Chord) : Type 0 where
  pub whole : IsAtMost REMOTE chord.a
  pub some : 0 < chord.k
  pub within : pos chord.k ≤ℤ squared radius
  pub root : pos chord.k ≤ℤ squared COORD

-- 55 and 200 times the square of the cosine between ray and normal, which is k / r², rounded down
abbrev pub level_of : Chord → ℤ → ℕ
level_of chord radius = 55 + 200 * chord.k / (unsigned_abs radius * unsigned_abs radius)

-- What a segment tells of the points of a ray.
use Rattle.std.specs.Prelude.{ℤ, pos, ◌<ℤ◌, Option, Some, None}
use Rattle.lattice_core.specs.declared.ray.Ray.{Ray}
use Rattle.lattice_core.specs.Rays.{IsOnRay}
use Rattle.surd_order.specs.declared.position.Pos.{Pos}
use Rattle.surd_order.specs.declared.position.Pos.TheVariants.{Frac}
use Rattle.surd_order.specs.declared.position.Seg.{Seg}
use Rattle.surd_order.specs.Order.{Precedes, SamePlace}
use Rattle.surd_order.specs.Range.{IsInRange}
use Rattle.surd_order.specs.Spelling.{IsSpelled}
use Rattle.solid_set.specs.declared.surface.Surface.{Surface}
use Rattle.solid_set.specs.Segments.{ray_start, ray_end}
use Rattle.solid_set.specs.Surfaces.{IsInside}

-- neither before the position at which rays begin nor after the one at which they end
abbrev pub IsWithinRay : Pos → Type 0
IsWithinRay x = (¬ (Precedes x ray_start)) × (¬ (Precedes ray_end x))

-- the points between the ends are inside; those of the ray before the start or after the end are not
pub record Encloses (surface : Surface) (ray : Ray) (seg : Seg) : Type 0 where
  pub between : (p q : ℤ) → pos 0 <ℤ q → Precedes seg.start (Frac p q) → Precedes (Frac p q) seg.end → IsInside surface ray p q
  pub before : (p q : ℤ) → IsOnRay p q → Precedes (Frac p q) seg.start → ¬ (IsInside surface ray p q)
  pub after : (p q : ℤ) → IsOnRay p q → Precedes seg.end (Frac p q) → ¬ (IsInside surface ray p q)

-- at most one point of the ray is inside
abbrev pub HoldsAtMostOne : Surface → Ray → Type 0
HoldsAtMostOne surface ray =
    (p q p' q' : ℤ) → IsOnRay p q → IsOnRay p' q' → IsInside surface ray p q → IsInside surface ray p' q' → SamePlace (Frac p q) (Frac p' q')

-- what an answered segment tells of the fractions that are inside: all between its ends and none outside, or without one at most a single fraction
abbrev pub TellsInside : Surface → Ray → Option Seg → Type 0
TellsInside surface ray None = HoldsAtMostOne surface ray
TellsInside surface ray (Some seg) = Encloses surface ray seg

-- a segment lies on the ray, its start precedes its end, and both are in range and in their one spelling
pub record IsSound (seg : Seg) : Type 0 where
  pub ordered : Precedes seg.start seg.end
  pub begun : ¬ (Precedes seg.start ray_start)
  pub not_ended : ¬ (Precedes ray_end seg.end)
  pub start_range : IsInRange seg.start
  pub start_spelled : IsSpelled seg.start
  pub end_range : IsInRange seg.end
  pub end_spelled : IsSpelled seg.end

-- the ends are in range
pub record IsSegInRange (seg : Seg) : Type 0 where
  pub start : IsInRange seg.start
  pub end : IsInRange seg.end

-- Spans stay in range.
use Rattle.std.proofs.Common.{◌≡◌, Option, Some, None, sym, subst, ◌<◌, ℕ, ℤ, pos, ◌<ℤ◌, ◌≤ℤ◌, arith, FitsSigned, w64}
use Rattle.std.proofs.lemmas.Int.{ints, fits_signed_from_abs}
use mir.Syntax.{w128}
use Rattle.std.specs.Int.RustNames.{unsigned_abs}
use Rattle.lattice_core.specs.declared.ray.Ray.{Ray}
use Rattle.plane_geom.specs.declared.plane.Plane.{Plane}
use Rattle.plane_geom.specs.declared.plane.Crossing.{Crossing}
use Rattle.plane_geom.specs.declared.plane.Crossing.TheVariants.{Enters, Leaves, Holds, Misses}
use Rattle.plane_geom.specs.Crossings.{side_crossing}
use Rattle.plane_geom.specs.Planes.{IsCrossing, IsSmallCrossing}
use Rattle.plane_geom.proofs.Unique.{crossing_is}
use Rattle.solid_set.specs.Spans.{IsCrossingInRange, IsSpanInRange, whole_span}
use Rattle.lattice_core.specs.Limits.{IsAtMost}
use Rattle.plane_geom.specs.declared.limit.TheConstants.{GAP, NORMAL, REMOTE}
use Rattle.plane_geom.specs.Chords.{squared}
use Rattle.lattice_core.specs.declared.limit.TheConstants.{COORD}
use Rattle.plane_geom.proofs.Sizes.{abs_of}
use Rattle.surd_order.specs.declared.range.TheConstants.{OVER_LIMIT, UNDER_LIMIT, WHOLE_LIMIT, SQUARE_LIMIT}

pub fits_over : (z : ℤ) → unsigned_abs z < OVER_LIMIT → FitsSigned w128 z
fits_over z h = fits_signed_from_abs w128 z (omega arith)

pub fits_under : (q : ℤ) → pos 0 <ℤ q → q <ℤ UNDER_LIMIT → FitsSigned w128 q
fits_under q some h = fits_signed_from_abs w128 q (omega (arith, ints))

pub fits_whole : (z : ℤ) → unsigned_abs z < WHOLE_LIMIT → FitsSigned w64 z
fits_whole z h = fits_signed_from_abs w64 z (omega arith)

small_over : (r : ℤ) → IsAtMost GAP r → unsigned_abs r < OVER_LIMIT
small_over r h = omega (arith, abs_of GAP r h)

small_under : (s : ℤ) → IsAtMost NORMAL s → s <ℤ UNDER_LIMIT
small_under s h = omega (arith, ints, h.1)

pub small_whole : (z : ℤ) → IsAtMost REMOTE z → unsigned_abs z < WHOLE_LIMIT
small_whole z h = omega (arith, abs_of REMOTE z h)

pub small_square : (k : ℕ) → pos k ≤ℤ squared COORD → k < SQUARE_LIMIT
small_square k h = omega (arith, ints, h)

pub crossing_range : (plane : Plane) (ray : Ray) (c : Crossing) → IsCrossing plane ray c → IsSmallCrossing c → IsCrossingInRange c
crossing_range plane ray (Enters r s) h small = record { over = small_over r small.0; positive = h.2; under = small_under s small.1 }
crossing_range plane ray (Leaves r s) h small = record { over = small_over r small.0; positive = h.2; under = small_under s small.1 }
crossing_range plane ray Holds h small = tt
crossing_range plane ray Misses h small = tt

pub side_range : (side : Option Plane) (ray : Ray) (c : Crossing) → c ≡ side_crossing side ray → IsSmallCrossing c → IsCrossingInRange c
side_range None ray c e small = subst IsCrossingInRange (sym e) tt
side_range (Some plane) ray c e small = crossing_range plane ray c (subst (IsCrossing plane ray) (sym e) (crossing_is plane ray)) small

pub whole_range : IsSpanInRange whole_span
whole_range = record {
  start = record { over = omega arith; positive = omega (arith, ints); under = omega (arith, ints) };
  end = record { over = omega arith; positive = omega (arith, ints); under = omega (arith, ints) };
}

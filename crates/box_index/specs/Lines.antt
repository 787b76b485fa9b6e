-- Rays in lattice directions: which boxes they meet, and the part of one that lies in a box.
use Rattle.std.specs.Prelude.{◌⊎◌, ◌≡◌, ◌&&◌, ℤ, pos, ◌+ℤ◌, ◌-ℤ◌, ◌*ℤ◌, Bool, not, if◌then◌else◌}
use Rattle.std.specs.Int.{int_min, int_max}
use Rattle.std.specs.Int.Signed.{quot_z}
use Rattle.std.specs.Ordering.{int_cmp, int_eq, is_gt}
use Rattle.std.specs.declared.cmp.Ordering.{Ordering}
use Rattle.std.specs.declared.cmp.Ordering.TheVariants.{Less, Equal, Greater}
use Rattle.lattice_core.specs.declared.limit.TheConstants.{FAR}
use Rattle.lattice_core.specs.declared.vector.V3.{V3}
use Rattle.lattice_core.specs.declared.boxes.Side.{Side}
use Rattle.lattice_core.specs.declared.boxes.Side.TheVariants.{Open, At}
use Rattle.lattice_core.specs.declared.extent.Extent.{Extent}
use Rattle.lattice_core.specs.declared.boxes.Box3.{Box3}
use Rattle.lattice_core.specs.declared.boxes.Box3.TheVariants.{Empty, Span}
use Rattle.lattice_core.specs.Boxes.{HasPoint}
use Rattle.lattice_core.specs.Rays.{IsOnRay}
use Rattle.box_index.specs.declared.cut.Axis.{Axis}
use Rattle.box_index.specs.declared.cut.Axis.TheVariants.{X, Y, Z}
use Rattle.box_index.specs.declared.line.TheConstants.{PARTS}
use Rattle.box_index.specs.declared.line.Line.{Line}
use Rattle.box_index.specs.declared.line.Stretch.{Stretch}
use Rattle.box_index.specs.Cuts.{is_side_below, is_side_above}

-- q times the point after p / q steps along a vector
abbrev pub slant_point : V3 → V3 → ℤ → ℤ → V3
slant_point origin direction p q = record { x = (origin.x *ℤ q) +ℤ (direction.x *ℤ p); y = (origin.y *ℤ q) +ℤ (direction.y *ℤ p); z = (origin.z *ℤ q) +ℤ (direction.z *ℤ p) }

-- some point of the ray from a point along a vector lies in the box
pub record MeetsSlant (b : Box3) (origin direction : V3) : Type 0 where
  pub p : ℤ
  pub q : ℤ
  pub on_ray : IsOnRay p q
  pub inside : HasPoint b (slant_point origin direction p q) q

-- ---- by computation, in parts of a step
abbrev pub pace_of : ℤ → ℤ
pace_of component = if int_eq component (pos 0) then pos 0 else quot_z PARTS component

abbrev pub line_of : V3 → V3 → Line
line_of origin direction = record { origin = origin; pace = record { x = pace_of direction.x; y = pace_of direction.y; z = pace_of direction.z } }

abbrev pub whole_line : Stretch
whole_line = record { from = pos 0; to = PARTS *ℤ FAR }

abbrev pub empty_stretch : Stretch
empty_stretch = record { from = pos 1; to = pos 0 }

abbrev pub has_some : Stretch → Bool
has_some s = not (is_gt (int_cmp s.from s.to))

-- a coordinate lies in an extent
abbrev pub holds : Extent → ℤ → Bool
holds extent at = not (is_side_above at extent.low) && not (is_side_below at extent.high)

-- the first place where a ray has entered through a side, and the last where it has not left through one
abbrev pub begun : Side → ℤ → ℤ → ℤ → ℤ
begun Open origin pace from = from
begun (At at) origin pace from = int_max from ((at -ℤ origin) *ℤ pace)

abbrev pub ended : Side → ℤ → ℤ → ℤ → ℤ
ended Open origin pace to = to
ended (At at) origin pace to = int_min to ((at -ℤ origin) *ℤ pace)

abbrev pub through : Side → Side → ℤ → ℤ → Stretch → Stretch
through near far origin pace s = record { from = begun near origin pace s.from; to = ended far origin pace s.to }

-- where a coordinate lies in an extent, by whether it falls, stays or rises
abbrev pub clipped_by : Ordering → Extent → ℤ → ℤ → Stretch → Stretch
clipped_by Less extent origin pace s = through extent.high extent.low origin pace s
clipped_by Equal extent origin pace s = if holds extent origin then s else empty_stretch
clipped_by Greater extent origin pace s = through extent.low extent.high origin pace s

abbrev pub clipped : Extent → ℤ → ℤ → Stretch → Stretch
clipped extent origin pace s = clipped_by (int_cmp pace (pos 0)) extent origin pace s

abbrev pub in_extent : Line → Extent → Axis → Stretch → Stretch
in_extent line extent X s = clipped extent line.origin.x line.pace.x s
in_extent line extent Y s = clipped extent line.origin.y line.pace.y s
in_extent line extent Z s = clipped extent line.origin.z line.pace.z s

abbrev pub in_box : Line → Box3 → Stretch → Stretch
in_box line Empty s = empty_stretch
in_box line (Span x y z) s = in_extent line z Z (in_extent line y Y (in_extent line x X s))

-- a stretch has places in a box
abbrev pub is_crossed : Line → Stretch → Box3 → Bool
is_crossed line s b = has_some (in_box line b s)

-- the pace fits a component: both are 0, or their product is the number of parts
abbrev pub IsPace : ℤ → ℤ → Type 0
IsPace component pace = ((component *ℤ pace) ≡ PARTS) ⊎ ((component ≡ pos 0) × (pace ≡ pos 0))

-- the line is that of a ray along some vector
pub record IsLine (line : Line) : Type 0 where
  pub direction : V3
  pub x : IsPace direction.x line.pace.x
  pub y : IsPace direction.y line.pace.y
  pub z : IsPace direction.z line.pace.z

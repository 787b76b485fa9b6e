-- Boxes that share a point with a window, by their sides.
use Rattle.std.proofs.Common.{◌≡◌, ◌↔◌, ℤ, pos, ◌<ℤ◌, ◌≤ℤ◌, ◌&&◌, not, IsTrue, refl, subst, sym, arith, ℕ, ◌<◌}
use Rattle.std.proofs.lemmas.Bool.{and_parts, and_from, true≢false}
use Rattle.std.proofs.lemmas.Int.{ints, clamps}
use Rattle.std.proofs.lemmas.Cmp.{int_ranked}
use Rattle.std.specs.Ordering.{int_cmp, is_gt}
use Rattle.std.specs.declared.cmp.Ordering.{Ordering}
use Rattle.std.specs.declared.cmp.Ordering.TheVariants.{Less, Equal, Greater}
use Rattle.lattice_core.specs.declared.boxes.Side.{Side}
use Rattle.lattice_core.specs.declared.boxes.Side.TheVariants.{Open, At}
use Rattle.lattice_core.specs.declared.extent.Extent.{Extent}
use Rattle.lattice_core.specs.declared.boxes.Box3.{Box3}
use Rattle.lattice_core.specs.declared.boxes.Box3.TheVariants.{Empty, Span}
use Rattle.lattice_core.specs.declared.ray.Ray.{Ray}
use Rattle.lattice_core.specs.declared.view.View.{View}
use Rattle.lattice_core.specs.declared.vector.V3.{V3}
use Rattle.lattice_core.specs.Extents.{AreOrdered, IsOrdered, meet_low, meet_high, meet_extent}
use Rattle.lattice_core.specs.Spans.{IsNonEmpty, meet_span}
use Rattle.lattice_core.specs.Boxes.{HasPoint, Meets, MeetsRay, IsRayBox}
use Rattle.lattice_core.specs.Rays.{IsOnRay, scaled_point}
use Rattle.lattice_core.specs.Views.{pixel_ray}
use Rattle.lattice_core.specs.Tiles.{tiles_of, span_of, IsTileBox, MeetsTile}
use Rattle.lattice_core.proofs.Boxing as boxing
use Rattle.lattice_core.proofs.Tiling.{span_part}
use Rattle.lattice_core.proofs.TileBoxes as tiles
use Rattle.box_index.specs.Reaches.{are_ordered, do_overlap, do_touch, has_points}

pub not_over : (x y : ℤ) (r : Ordering) → r ≡ int_cmp x y → IsTrue (not (is_gt r)) ↔ (x ≤ℤ y)
not_over x y Less is = let lt : x <ℤ y = int_ranked x y Less is in (λ h. omega (arith, ints), λ h. refl)
not_over x y Equal is = let e : x ≡ y = int_ranked x y Equal is in (λ h. omega (arith, ints), λ h. refl)
not_over x y Greater is = let lt : y <ℤ x = int_ranked x y Greater is in (λ h. absurd (true≢false (sym h)), λ h. absurd (omega (arith, ints)))

pub sides_tell : (low high : Side) → IsTrue (are_ordered low high) ↔ AreOrdered low high
sides_tell Open high = (λ h. tt, λ h. refl)
sides_tell (At a) Open = (λ h. tt, λ h. refl)
sides_tell (At a) (At b) = not_over a b (int_cmp a b) refl

-- the greater of two low sides, and the lesser of two high ones
low_both : (l m high : Side) → AreOrdered (meet_low l m) high ↔ (AreOrdered l high × AreOrdered m high)
low_both Open m high = (λ h. (tt, h), λ h. h.1)
low_both (At a) Open high = (λ h. (h, tt), λ h. h.0)
low_both (At a) (At b) Open = (λ h. (tt, tt), λ h. tt)
low_both (At a) (At b) (At c) = (λ h. (omega (arith, ints, clamps), omega (arith, ints, clamps)), λ h. omega (arith, ints, clamps))

high_both : (low h k : Side) → AreOrdered low (meet_high h k) ↔ (AreOrdered low h × AreOrdered low k)
high_both Open h k = (λ e. (tt, tt), λ e. tt)
high_both (At a) Open k = (λ e. (tt, e), λ e. e.1)
high_both (At a) (At b) Open = (λ e. (e, tt), λ e. e.0)
high_both (At a) (At b) (At c) = (λ e. (omega (arith, ints, clamps), omega (arith, ints, clamps)), λ e. omega (arith, ints, clamps))

-- what two extents share has coordinates where both have, and they overlap
record Overlap (a b : Extent) : Type 0 where
  first : IsOrdered a
  second : IsOrdered b
  ahead : AreOrdered a.low b.high
  behind : AreOrdered b.low a.high

shared_parts : (a b : Extent) → IsOrdered (meet_extent a b) → Overlap a b
shared_parts a b h =
    let sides = (low_both a.low b.low (meet_high a.high b.high)).0 h in
    let low = (high_both a.low a.high b.high).0 sides.0 in
    let high = (high_both b.low a.high b.high).0 sides.1 in
    record { first = low.0; second = high.1; ahead = low.1; behind = high.0 }

shared_from : (a b : Extent) → Overlap a b → IsOrdered (meet_extent a b)
shared_from a b o =
    (low_both a.low b.low (meet_high a.high b.high)).1 ((high_both a.low a.high b.high).1 (o.first, o.ahead), (high_both b.low a.high b.high).1 (o.behind, o.second))

overlap_tells : (a b : Extent) → Overlap a b → IsTrue (do_overlap a b)
overlap_tells a b o = and_from _ _ ((sides_tell a.low b.high).1 o.ahead) ((sides_tell b.low a.high).1 o.behind)

overlap_from : (a b : Extent) → IsOrdered a → IsOrdered b → IsTrue (do_overlap a b) → Overlap a b
overlap_from a b p q h =
    let both = and_parts (are_ordered a.low b.high) (are_ordered b.low a.high) h in
    record { first = p; second = q; ahead = (sides_tell a.low b.high).0 both.0; behind = (sides_tell b.low a.high).0 both.1 }

pub points_tell : (b : Box3) → IsTrue (has_points b) ↔ IsNonEmpty b
points_tell Empty = (λ h. true≢false (sym h), λ h. absurd h)
points_tell (Span x y z) = (
  λ h.
      let a = and_parts (are_ordered x.low x.high) (are_ordered y.low y.high && are_ordered z.low z.high) h in
      let b = and_parts (are_ordered y.low y.high) (are_ordered z.low z.high) a.1 in
      ((sides_tell x.low x.high).0 a.0, (sides_tell y.low y.high).0 b.0, (sides_tell z.low z.high).0 b.1),
  λ h. and_from _ _ ((sides_tell x.low x.high).1 h.0) (and_from _ _ ((sides_tell y.low y.high).1 h.1) ((sides_tell z.low z.high).1 h.2)),
)

touch_tells : (b window : Box3) → IsNonEmpty window → IsTrue (has_points b && do_touch b window) ↔ IsNonEmpty (meet_span b window)
touch_tells Empty window some = (λ h. true≢false (sym h), λ h. absurd h)
touch_tells (Span x y z) Empty some = absurd some
touch_tells (Span x y z) (Span u v w) some = (
  λ h.
      let both = and_parts (has_points (Span x y z)) (do_touch (Span x y z) (Span u v w)) h in
      let own = (points_tell (Span x y z)).0 both.0 in
      let a = and_parts (do_overlap x u) (do_overlap y v && do_overlap z w) both.1 in
      let b = and_parts (do_overlap y v) (do_overlap z w) a.1 in
      (shared_from x u (overlap_from x u own.0 some.0 a.0), shared_from y v (overlap_from y v own.1 some.1 b.0), shared_from z w (overlap_from z w own.2 some.2 b.1)),
  λ h.
      let a = shared_parts x u h.0 in
      let b = shared_parts y v h.1 in
      let c = shared_parts z w h.2 in
      and_from _ _ ((points_tell (Span x y z)).1 (a.first, b.first, c.first)) (and_from _ _ (overlap_tells x u a) (and_from _ _ (overlap_tells y v b) (overlap_tells z w c))),
)

-- a box with points that touches a window with points is one that meets it
pub touch_meets : (b window : Box3) → IsNonEmpty window → IsTrue (has_points b && do_touch b window) ↔ Meets b window
touch_meets b window some =
    let one = touch_tells b window some in
    let two = boxing.meets_is b window in
    (λ h. two.0 (one.0 h), λ m. one.1 (two.1 m))

-- ---- rays
origin_on : IsOnRay (pos 0) (pos 1)
origin_on = record { positive = omega (arith, ints); begun = omega (arith, ints); not_ended = omega (arith, ints) }

ray_box_some : (window : Box3) (ray : Ray) → IsRayBox window ray → IsNonEmpty window
ray_box_some window ray is =
    boxing.point_ordered window (scaled_point ray (pos 0) (pos 1)) (pos 1) origin_on.positive
    ((is (scaled_point ray (pos 0) (pos 1)) (pos 1) origin_on.positive).1 (record { p = pos 0; on_ray = origin_on; is = refl }))

ray_box_meets : (b window : Box3) (ray : Ray) → IsRayBox window ray → Meets b window ↔ MeetsRay b ray
ray_box_meets b window ray is = (
  λ m.
      let r = (is m.v m.w m.positive).0 m.in_second in
      record { p = r.p; q = m.w; on_ray = r.on_ray; inside = subst (λ (v : V3). HasPoint b v m.w) r.is m.in_first },
  λ m. record {
    v = scaled_point ray m.p m.q;
    w = m.q;
    positive = m.on_ray.positive;
    in_first = m.inside;
    in_second = (is (scaled_point ray m.p m.q) m.q m.on_ray.positive).1 (record { p = m.p; on_ray = m.on_ray; is = refl });
  },
)

pub touch_meets_ray : (window : Box3) (ray : Ray) → IsRayBox window ray → (b : Box3) → IsTrue (has_points b && do_touch b window) ↔ MeetsRay b ray
touch_meets_ray window ray is b =
    let one = touch_meets b window (ray_box_some window ray is) in
    let two = ray_box_meets b window ray is in
    (λ h. two.0 (one.0 h), λ m. one.1 (two.1 m))

-- ---- tiles
tile_box_some : (window : Box3) (view : View) (tile : ℕ) → tile < tiles_of view → IsTileBox window view tile → IsNonEmpty window
tile_box_some window view tile lt is =
    let s = span_of view tile in
    let part = span_part view tile lt in
    let ray = pixel_ray view s.column s.row in
    boxing.point_ordered window (scaled_point ray (pos 0) (pos 1)) (pos 1) origin_on.positive
    (is.rays s.column s.row (pos 0) (pos 1) (record { from_column = omega arith; to_column = omega (arith, part.columns); from_row = omega arith; to_row = omega (arith, part.rows) }) origin_on)

pub touch_meets_tile : (window : Box3) (view : View) (tile : ℕ) → tile < tiles_of view → IsTileBox window view tile → (b : Box3) → IsTrue (has_points b && do_touch b window) ↔ MeetsTile b view tile
touch_meets_tile window view tile lt is b =
    let one = touch_meets b window (tile_box_some window view tile lt is) in
    let two = tiles.meets_tile view tile b window is in
    (λ h. two.0 (one.0 h), λ m. one.1 (two.1 m))

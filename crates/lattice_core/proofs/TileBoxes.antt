-- The box of a tile's rays is the hull of the boxes of its first and its last ray.
use Rattle.std.proofs.Common.{◌≡◌, ◌↔◌, ◌+◌, ◌-◌, ℕ, ℤ, pos, ◌+ℤ◌, ◌*ℤ◌, ◌<ℤ◌, ◌≤ℤ◌, refl, subst, sym, arith, inl, inr}
use Rattle.std.proofs.lemmas.Int.{ints}
use Rattle.lattice_core.specs.declared.vector.V3.{V3}
use Rattle.lattice_core.specs.declared.ray.Dir.{Dir}
use Rattle.lattice_core.specs.declared.ray.Ray.{Ray}
use Rattle.lattice_core.specs.declared.view.View.{View}
use Rattle.lattice_core.specs.declared.boxes.Side.{Side}
use Rattle.lattice_core.specs.declared.boxes.Side.TheVariants.{Open, At}
use Rattle.lattice_core.specs.declared.extent.Extent.{Extent}
use Rattle.lattice_core.specs.declared.boxes.Box3.{Box3}
use Rattle.lattice_core.specs.declared.boxes.Box3.TheVariants.{Empty, Span}
use Rattle.lattice_core.specs.Units.{unit_of}
use Rattle.lattice_core.specs.Rays.{scaled_point}
use Rattle.lattice_core.specs.Boxes.{IsFrom, IsUpTo, IsBetween, HasPoint, IsInside, IsHull, Meets, MeetsRay, IsRayBox}
use Rattle.lattice_core.specs.Views.{pixel_ray}
use Rattle.lattice_core.specs.Tiles.{span_of, IsPartOf, IsIn, HasRaysOf, IsTileBox, MeetsTile}
use Rattle.lattice_core.proofs.Products.{mul_at_most}
use Rattle.lattice_core.proofs.Viewing.{IsAmid, AreAmid, pixel_amid}

-- a box that has two points has those between them
from_amid : (side : Side) (a x b w : ℤ) → IsAmid a x b → IsFrom side a w → IsFrom side b w → IsFrom side x w
from_amid Open a x b w m p q = tt
from_amid (At l) a x b w m p q = omega (arith, ints, m, p, q)

up_to_amid : (side : Side) (a x b w : ℤ) → IsAmid a x b → IsUpTo side a w → IsUpTo side b w → IsUpTo side x w
up_to_amid Open a x b w m p q = tt
up_to_amid (At l) a x b w m p q = omega (arith, ints, m, p, q)

extent_amid : (e : Extent) (a x b w : ℤ) → IsAmid a x b → IsBetween e a w → IsBetween e b w → IsBetween e x w
extent_amid e a x b w m p q = (from_amid e.low a x b w m p.0 q.0, up_to_amid e.high a x b w m p.1 q.1)

point_amid : (b : Box3) (u v t : V3) (w : ℤ) → AreAmid u v t → HasPoint b u w → HasPoint b t w → HasPoint b v w
point_amid Empty u v t w m p q = p
point_amid (Span x y z) u v t w m p q = (
  extent_amid x u.x v.x t.x w m.x p.0 q.0,
  extent_amid y u.y v.y t.y w m.y p.1 q.1,
  extent_amid z u.z v.z t.z w m.z p.2 q.2,
)

-- points of three rays of one direction, at one fraction
moved_amid : (a x b q k : ℤ) → pos 0 <ℤ q → IsAmid a x b → IsAmid ((a *ℤ q) +ℤ k) ((x *ℤ q) +ℤ k) ((b *ℤ q) +ℤ k)
moved_amid a x b q k some m =
    elim m [
      | inl h ↦
          let one : (a *ℤ q) ≤ℤ (x *ℤ q) = mul_at_most a x q (omega (arith, ints)) h.0 in
          let two : (x *ℤ q) ≤ℤ (b *ℤ q) = mul_at_most x b q (omega (arith, ints)) h.1 in
          inl (omega (arith, ints, one), omega (arith, ints, two))
      | inr h ↦
          let one : (b *ℤ q) ≤ℤ (x *ℤ q) = mul_at_most b x q (omega (arith, ints)) h.0 in
          let two : (x *ℤ q) ≤ℤ (a *ℤ q) = mul_at_most x a q (omega (arith, ints)) h.1 in
          inr (omega (arith, ints, one), omega (arith, ints, two))
    ]

points_amid : (a o b : V3) (d : Dir) (p q : ℤ) → pos 0 <ℤ q → AreAmid a o b
    → AreAmid (scaled_point (record { origin = a; dir = d }) p q) (scaled_point (record { origin = o; dir = d }) p q) (scaled_point (record { origin = b; dir = d }) p q)
points_amid a o b d p q some m = record {
  x = moved_amid a.x o.x b.x q ((unit_of d).x *ℤ p) some m.x;
  y = moved_amid a.y o.y b.y q ((unit_of d).y *ℤ p) some m.y;
  z = moved_amid a.z o.z b.z q ((unit_of d).z *ℤ p) some m.z;
}

-- the first and the last pixel of a tile
abbrev pub first_ray : View → ℕ → Ray
first_ray view tile = pixel_ray view (span_of view tile).column (span_of view tile).row

abbrev pub last_ray : View → ℕ → Ray
last_ray view tile = pixel_ray view ((span_of view tile).column + ((span_of view tile).w - 1)) ((span_of view tile).row + ((span_of view tile).h - 1))

module _ (view : View) (tile : ℕ) (a b hull : Box3) where
  tile_rays : pos 1 ≤ℤ view.cell → IsRayBox a (first_ray view tile) → IsRayBox b (last_ray view tile) → IsHull hull a b → HasRaysOf hull view tile
  tile_rays some fa fb h = λ column row p q pixel on.
      let s = span_of view tile in
      let amid = points_amid _ _ _ view.dir p q on.positive
      (pixel_amid view s.column column (s.column + (s.w - 1)) s.row row (s.row + (s.h - 1)) some pixel.from_column (omega (arith, pixel.to_column)) pixel.from_row (omega (arith, pixel.to_row))) in
      point_amid hull _ _ _ q amid
      (h.first _ q on.positive ((fa _ q on.positive).1 (record { p = p; on_ray = on; is = refl })))
      (h.second _ q on.positive ((fb _ q on.positive).1 (record { p = p; on_ray = on; is = refl })))

  ray_inside : (ray : Ray) (c other : Box3) (column row : ℕ) → ray ≡ pixel_ray view column row → IsIn (span_of view tile) column row → IsRayBox c ray → HasRaysOf other view tile → IsInside c other
  ray_inside ray c other column row e pixel f rays = λ v w some h.
      let at = (f v w some).0 h in
      subst (λ (u : V3). HasPoint other u w) (sym at.is) (subst (λ (r : Ray). HasPoint other (scaled_point r at.p w) w) (sym e) (rays column row at.p w pixel at.on_ray))

  pub tile_box_is : pos 1 ≤ℤ view.cell → IsPartOf (span_of view tile) view → IsRayBox a (first_ray view tile) → IsRayBox b (last_ray view tile) → IsHull hull a b → IsTileBox hull view tile
  tile_box_is some part fa fb h =
      let s = span_of view tile in
      record {
        rays = tile_rays some fa fb h;
        least = λ other rays. h.least other
            (ray_inside (first_ray view tile) a other s.column s.row refl
            (record { from_column = omega arith; to_column = omega (arith, part.columns); from_row = omega arith; to_row = omega (arith, part.rows) }) fa rays)
            (ray_inside (last_ray view tile) b other (s.column + (s.w - 1)) (s.row + (s.h - 1)) refl
            (record { from_column = omega arith; to_column = omega (arith, part.columns); from_row = omega arith; to_row = omega (arith, part.rows) }) fb rays);
      }

-- meeting the one box of a tile is meeting the tile
pub meets_tile : (view : View) (tile : ℕ) (b rays : Box3) → IsTileBox rays view tile → Meets b rays ↔ MeetsTile b view tile
meets_tile view tile b rays is = (
  λ m. record { of_rays = rays; is_tile_box = is; meets = m },
  λ m.
      let inside : IsInside m.of_rays rays = m.is_tile_box.least rays is.rays in
      record {
        v = m.meets.v;
        w = m.meets.w;
        positive = m.meets.positive;
        in_first = m.meets.in_first;
        in_second = inside m.meets.v m.meets.w m.meets.positive m.meets.in_second;
      },
)

pub ray_meets_tile : (view : View) (tile : ℕ) (b rays : Box3) → IsTileBox rays view tile → (column row : ℕ) → IsIn (span_of view tile) column row → MeetsRay b (pixel_ray view column row) → Meets b rays
ray_meets_tile view tile b rays is column row pixel m = record {
  v = scaled_point (pixel_ray view column row) m.p m.q;
  w = m.q;
  positive = m.on_ray.positive;
  in_first = m.inside;
  in_second = is.rays column row m.p m.q pixel m.on_ray;
}

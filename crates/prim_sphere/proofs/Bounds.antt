-- The box of a sphere.
use Rattle.std.proofs.Common.{ℤ, pos, ◌+ℤ◌, ◌-ℤ◌, ◌*ℤ◌, ◌≤ℤ◌, inl, arith}
use Rattle.std.proofs.lemmas.Int.{ints}
use Rattle.lattice_core.specs.declared.vector.V3.{V3}
use Rattle.lattice_core.specs.Boxes.{IsTidy}
use Rattle.lattice_core.proofs.Products.{square_at_least}
use Rattle.prim_sphere.specs.Spheres.{squared, HoldsPointsOf, IsRadius, box_of}
use Rattle.plane_geom.proofs.Lines.{within_radius}

first_small : (x y z t : ℤ) → pos 0 ≤ℤ y → pos 0 ≤ℤ z → ((x +ℤ y) +ℤ z) ≤ℤ t → x ≤ℤ t
first_small x y z t low low' le = omega (arith, ints)

second_small : (x y z t : ℤ) → pos 0 ≤ℤ x → pos 0 ≤ℤ z → ((x +ℤ y) +ℤ z) ≤ℤ t → y ≤ℤ t
second_small x y z t low low' le = omega (arith, ints)

third_small : (x y z t : ℤ) → pos 0 ≤ℤ x → pos 0 ≤ℤ y → ((x +ℤ y) +ℤ z) ≤ℤ t → z ≤ℤ t
third_small x y z t low low' le = omega (arith, ints)

pub holds_points : (c : V3) (r : ℤ) → IsRadius r → HoldsPointsOf c r (box_of c r)
holds_points c r radius v w some h =
    let high : pos 0 ≤ℤ r = omega (arith, ints, radius.some) in
    let x : ℤ = v.x -ℤ (c.x *ℤ w) in
    let y : ℤ = v.y -ℤ (c.y *ℤ w) in
    let z : ℤ = v.z -ℤ (c.z *ℤ w) in (
      within_radius v.x c.x r w high some (first_small (squared x) (squared y) (squared z) _ (square_at_least y) (square_at_least z) h),
      within_radius v.y c.y r w high some (second_small (squared x) (squared y) (squared z) _ (square_at_least x) (square_at_least z) h),
      within_radius v.z c.z r w high some (third_small (squared x) (squared y) (squared z) _ (square_at_least x) (square_at_least y) h),
    )

pub box_tidy : (c : V3) (r : ℤ) → IsRadius r → IsTidy (box_of c r)
box_tidy c r radius = inl (record {
  v = c;
  w = pos 1;
  positive = omega (arith, ints);
  inside = (
    (omega (arith, ints, radius.some), omega (arith, ints, radius.some)),
    (omega (arith, ints, radius.some), omega (arith, ints, radius.some)),
    (omega (arith, ints, radius.some), omega (arith, ints, radius.some)),
  );
})

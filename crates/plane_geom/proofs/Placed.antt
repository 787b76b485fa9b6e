-- A plane and the plane that a placement takes it to.
use Rattle.std.proofs.Common.{◌≡◌, ◌∙◌, ◌<◌, ℤ, ◌+ℤ◌, ◌-ℤ◌, ap, arith}
use Rattle.std.proofs.lemmas.Int.{ints}
use Rattle.lattice_core.specs.declared.vector.V3.{V3}
use Rattle.lattice_core.specs.declared.placement.Placement.{Placement}
use Rattle.lattice_core.specs.Vectors.{dot_product, vector_sum}
use Rattle.lattice_core.specs.Turns.{turned}
use Rattle.plane_geom.specs.declared.plane.Plane.{Plane}
use Rattle.plane_geom.specs.Planes.{placed_plane, KeepsHeights}
use Rattle.lattice_core.proofs.Products.{mul_add}
use Rattle.lattice_core.proofs.Turning.{turned_dot}

same_height : (whole turned shift plain d : ℤ) → whole ≡ turned +ℤ shift → turned ≡ plain → whole -ℤ (d +ℤ shift) ≡ plain -ℤ d
same_height whole turned shift plain d p q = omega (arith, ints)

pub placed_is : (by : Placement) (plane : Plane) (n : V3) (d : ℤ) → n ≡ turned by.turn.number plane.n → d ≡ plane.d +ℤ dot_product n by.shift
    → (let p : Plane = record { n = n; d = d } in p) ≡ placed_plane by plane
placed_is by plane n d en ed =
    ap (λ (x : ℤ). let p : Plane = record { n = n; d = x } in p) ed
    ∙ ap (λ (m : V3). let p : Plane = record { n = m; d = plane.d +ℤ dot_product m by.shift } in p) en

dot_sum : (n a b : V3) → dot_product n (vector_sum a b) ≡ dot_product n a +ℤ dot_product n b
dot_sum n a b = omega (arith, ints, mul_add n.x a.x b.x, mul_add n.y a.y b.y, mul_add n.z a.z b.z)

pub keeps_heights : (by : Placement) (plane : Plane) → by.turn.number < 48 → KeepsHeights by plane (placed_plane by plane)
keeps_heights by plane small = λ p.
    let n : V3 = turned by.turn.number plane.n in
    let whole : dot_product (turned by.turn.number plane.n) (vector_sum (turned by.turn.number p) by.shift) ≡ dot_product (turned by.turn.number plane.n) (turned by.turn.number p) +ℤ dot_product (turned by.turn.number plane.n) by.shift =
    dot_sum (turned by.turn.number plane.n) (turned by.turn.number p) by.shift in
    let kept : dot_product (turned by.turn.number plane.n) (turned by.turn.number p) ≡ dot_product plane.n p = turned_dot by.turn.number plane.n p small in
    same_height (dot_product (turned by.turn.number plane.n) (vector_sum (turned by.turn.number p) by.shift)) (dot_product (turned by.turn.number plane.n) (turned by.turn.number p)) (dot_product (turned by.turn.number plane.n) by.shift) (dot_product plane.n p) plane.d whole kept

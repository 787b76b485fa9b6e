-- The box of a placed solid holds every point inside, along any line.
use Rattle.std.proofs.Common.{◌≡◌, ◌∙◌, ◌<◌, inl, inr, ℕ, ℤ, pos, ◌+ℤ◌, ◌-ℤ◌, ◌*ℤ◌, ◌<ℤ◌, ◌≤ℤ◌, List, [], ◌∷◌, fold, Option, Some, None, ap, sym, subst, arith}
use Rattle.std.specs.Int.{int_max}
use Rattle.std.specs.Option.{option_map}
use Rattle.std.proofs.lemmas.Int.{ints, clamps}
use Rattle.std.proofs.Math.IntN.{zero-*ℤ}
use Rattle.std.proofs.Math.Dec.{T_prop}
use Rattle.std.proofs.Math.Logic.{∥∥₁_elim}
use Rattle.lattice_core.specs.declared.boxes.Box3.{Box3}
use Rattle.lattice_core.specs.declared.boxes.Box3.TheVariants.{Empty, Span}
use Rattle.lattice_core.specs.declared.boxes.Side.{Side}
use Rattle.lattice_core.specs.declared.boxes.Side.TheVariants.{Open, At}
use Rattle.lattice_core.specs.declared.placement.Placement.{Placement}
use Rattle.lattice_core.specs.declared.ray.Dir.{Dir}
use Rattle.lattice_core.specs.declared.ray.Dir.TheVariants.{PlusX, MinusX, PlusY, MinusY, PlusZ, MinusZ}
use Rattle.lattice_core.specs.declared.vector.V3.{V3}
use Rattle.lattice_core.specs.Boxes.{HasPoint, IsFrom, IsUpTo}
use Rattle.lattice_core.specs.Extents.{extent_between}
use Rattle.lattice_core.specs.Placements.{placed}
use Rattle.lattice_core.specs.Turns.{turned}
use Rattle.lattice_core.specs.Units.{unit_of}
use Rattle.lattice_core.specs.Vectors.{dot_product, vector_sum}
use Rattle.lattice_core.proofs.Products.{mul_add, mul_at_most, mul_assoc, add_mul}
use Rattle.lattice_core.proofs.Turning.{turned_dot}
use Rattle.plane_geom.specs.declared.plane.Plane.{Plane}
use Rattle.plane_geom.specs.Chords.{point_along}
use Rattle.plane_geom.specs.Planes.{PlaneHoldsAlong, placed_plane, slope_along, start_at}
use Rattle.plane_geom.proofs.Cross.{sub_mul}
use Rattle.prim_arb8.specs.Faces.{box_plane, outward_face, vertex_at}
use Rattle.prim_sphere.proofs.Bounds.{holds_points}
use Rattle.prim_rcc.specs.declared.rcc.RccFaces.{RccFaces}
use Rattle.prim_rcc.specs.Cylinders.{base_plane, top_plane, placed_cylinder, round_side}
use Rattle.prim_rcc.proofs.Axial.{turned_has_one}
use Rattle.prim_rcc.proofs.Boxing.{holds_points as holds_cylinder}
use Rattle.prim_rcc.proofs.Planes.{faces_placed}
use Rattle.prim_rcc.proofs.Rounds.{held_around}
use Rattle.solid_set.specs.declared.solid.Solid.{Solid}
use Rattle.solid_set.specs.declared.solid.Solid.TheVariants as solids
use Rattle.solid_set.specs.declared.surface.Surface.TheVariants.{Cylinder}
use Rattle.solid_set.specs.declared.surface.Surface.{Surface}
use Rattle.prim_arb8.specs.Bounds.{reach_of, farthest, box_of}
use Rattle.solid_set.specs.PlacedFaces.{AllHoldAlong, IsInsideAlong, HoldsInsideAlong}
use Rattle.solid_set.specs.Surfaces.{IsMade, IsLawful, HoldsInside, surface_of, bounds_of}
use Rattle.solid_set.proofs.FacesAlong.{surfaces_are_of_faces}
use Rattle.solid_set.proofs.Landing.{LandsOn, lands}

-- the point of a line, along a normal
along_normal : (n o e : V3) (p q : ℤ) → dot_product n (point_along o e p q) ≡ (dot_product n o *ℤ q) +ℤ (dot_product n e *ℤ p)
along_normal n o e p q =
    omega (
      arith,
      ints,
      mul_add n.x (o.x *ℤ q) (e.x *ℤ p),
      mul_add n.y (o.y *ℤ q) (e.y *ℤ p),
      mul_add n.z (o.z *ℤ q) (e.z *ℤ p),
      mul_assoc n.x o.x q,
      mul_assoc n.y o.y q,
      mul_assoc n.z o.z q,
      mul_assoc n.x e.x p,
      mul_assoc n.y e.y p,
      mul_assoc n.z e.z p,
      add_mul ((n.x *ℤ o.x) +ℤ (n.y *ℤ o.y)) (n.z *ℤ o.z) q,
      add_mul (n.x *ℤ o.x) (n.y *ℤ o.y) q,
      add_mul ((n.x *ℤ e.x) +ℤ (n.y *ℤ e.y)) (n.z *ℤ e.z) p,
      add_mul (n.x *ℤ e.x) (n.y *ℤ e.y) p,
    )

-- a point that a plane holds is not beyond it
held_below : (plane : Plane) (o e : V3) (p q : ℤ) → pos 0 <ℤ q → PlaneHoldsAlong plane o e p q → dot_product plane.n (point_along o e p q) ≤ℤ (plane.d *ℤ q)
held_below plane o e p q some held =
    let at : dot_product plane.n (point_along o e p q) ≡ (start_at plane o *ℤ q) +ℤ (slope_along plane e *ℤ p) = along_normal plane.n o e p q in
    elim held [
      | inl steep ↦ omega (arith, ints, at, steep.1)
      | inr flat ↦
          let none : slope_along plane e *ℤ p ≡ pos 0 = ap (λ (z : ℤ). z *ℤ p) flat.0 ∙ zero-*ℤ p in
          let low : start_at plane o ≤ℤ plane.d = elim flat.1 [ inl under ↦ omega (arith, ints, under) | inr edge ↦ omega (arith, ints, edge.0) ] in
          let scaled : (start_at plane o *ℤ q) ≤ℤ (plane.d *ℤ q) = mul_at_most (start_at plane o) plane.d q (omega (arith, ints, some)) low in
          omega (arith, ints, at, none, scaled)
    ]

-- all planes hold a point, also those after the first
all_rest : (side : Option Plane) (sides : List (Option Plane)) (o e : V3) (p q : ℤ) → AllHoldAlong (side ∷ sides) o e p q → AllHoldAlong sides o e p q
all_rest None sides o e p q h = h
all_rest (Some plane) sides o e p q h = h.1

abbrev side_in : Placement → List V3 → ℕ → Option Plane
side_in by v face = option_map (placed_plane by) (outward_face v face)

abbrev box_in : Placement → List V3 → Dir → Plane
box_in by v dir = placed_plane by (box_plane v dir)

abbrev box_sides : Placement → List V3 → List (Option Plane)
box_sides by v =
    Some (box_in by v PlusX) ∷ Some (box_in by v MinusX) ∷ Some (box_in by v PlusY)
    ∷ Some (box_in by v MinusY) ∷ Some (box_in by v PlusZ) ∷ Some (box_in by v MinusZ) ∷ []

box_holds : (by : Placement) (v : List V3) (o e : V3) (p q : ℤ) → IsInsideAlong (surface_of (solids.Arb8 (record { vertices = v })) by) o e p q → AllHoldAlong (box_sides by v) o e p q
box_holds by v o e p q h =
    let six = all_rest (side_in by v 1) (side_in by v 2 ∷ side_in by v 3 ∷ side_in by v 4 ∷ side_in by v 5 ∷ side_in by v 6 ∷ box_sides by v) o e p q h.0 in
    let five = all_rest (side_in by v 2) (side_in by v 3 ∷ side_in by v 4 ∷ side_in by v 5 ∷ side_in by v 6 ∷ box_sides by v) o e p q six in
    let four = all_rest (side_in by v 3) (side_in by v 4 ∷ side_in by v 5 ∷ side_in by v 6 ∷ box_sides by v) o e p q five in
    let three = all_rest (side_in by v 4) (side_in by v 5 ∷ side_in by v 6 ∷ box_sides by v) o e p q four in
    let two = all_rest (side_in by v 5) (side_in by v 6 ∷ box_sides by v) o e p q three in
    all_rest (side_in by v 6) (box_sides by v) o e p q two

box_held : (by : Placement) (v : List V3) (o e : V3) (p q : ℤ) (dir : Dir) → AllHoldAlong (box_sides by v) o e p q → PlaneHoldsAlong (box_in by v dir) o e p q
box_held by v o e p q PlusX h = h.0
box_held by v o e p q MinusX h = h.1.0
box_held by v o e p q PlusY h = h.1.1.0
box_held by v o e p q MinusY h = h.1.1.1.0
box_held by v o e p q PlusZ h = h.1.1.1.1.0
box_held by v o e p q MinusZ h = h.1.1.1.1.1.0

-- the greatest of a function of points, moved by a number
abbrev most : (V3 → ℤ) → ℤ → List V3 → ℤ
most g start points = fold (λ m p. int_max m (g p)) start points

most_moved : (f g : V3 → ℤ) (k : ℤ) → ((p : V3) → f p ≡ g p +ℤ k) → (points : List V3) (start start' : ℤ) → start' ≡ start +ℤ k → most f start' points ≡ most g start points +ℤ k
most_moved f g k moved [] start start' e = e
most_moved f g k moved (p ∷ points) start start' e =
    most_moved f g k moved points (int_max start (g p)) (int_max start' (f p)) (omega (arith, ints, clamps, e, moved p))

dot_sum : (n a b : V3) → dot_product n (vector_sum a b) ≡ dot_product n a +ℤ dot_product n b
dot_sum n a b = omega (arith, ints, mul_add n.x a.x b.x, mul_add n.y a.y b.y, mul_add n.z a.z b.z)

-- how far a placed point lies in a direction that a turn takes another one to
reach_moved : (by : Placement) (from to : Dir) → by.turn.number < 48 → turned by.turn.number (unit_of from) ≡ unit_of to
    → (v : V3) → reach_of by to v ≡ dot_product (unit_of from) v +ℤ dot_product (unit_of to) by.shift
reach_moved by from to small lands_on v =
    let split : dot_product (unit_of to) (placed by v) ≡ dot_product (unit_of to) (turned by.turn.number v) +ℤ dot_product (unit_of to) by.shift = dot_sum (unit_of to) (turned by.turn.number v) by.shift in
    let kept : dot_product (unit_of to) (turned by.turn.number v) ≡ dot_product (unit_of from) v =
    ap (λ (n : V3). dot_product n (turned by.turn.number v)) (sym lands_on) ∙ turned_dot by.turn.number (unit_of from) v small in
    split ∙ ap (λ (z : ℤ). z +ℤ dot_product (unit_of to) by.shift) kept

farthest_moved : (by : Placement) (v : List V3) (from to : Dir) → by.turn.number < 48 → turned by.turn.number (unit_of from) ≡ unit_of to
    → farthest by v to ≡ (box_plane v from).d +ℤ dot_product (unit_of to) by.shift
farthest_moved by v from to small lands_on =
    most_moved (reach_of by to) (dot_product (unit_of from)) (dot_product (unit_of to) by.shift) (reach_moved by from to small lands_on) v
    (dot_product (unit_of from) (vertex_at v 1)) (reach_of by to (vertex_at v 1)) (reach_moved by from to small lands_on (vertex_at v 1))

-- a point inside lies no farther in a direction than the vertices
within : (by : Placement) (v : List V3) (o e : V3) (p q : ℤ) (to : Dir) → by.turn.number < 48 → pos 0 <ℤ q → AllHoldAlong (box_sides by v) o e p q
    → dot_product (unit_of to) (point_along o e p q) ≤ℤ (farthest by v to *ℤ q)
within by v o e p q to small some h =
    let landing : LandsOn by.turn.number to = lands by.turn.number to small in
    let from : Dir = landing.0 in
    let below : dot_product (turned by.turn.number (unit_of landing.0)) (point_along o e p q) ≤ℤ (((box_plane v landing.0).d +ℤ dot_product (turned by.turn.number (unit_of landing.0)) by.shift) *ℤ q) =
    held_below (box_in by v landing.0) o e p q some (box_held by v o e p q landing.0 h) in
    let turned_below : dot_product (unit_of to) (point_along o e p q) ≤ℤ (((box_plane v landing.0).d +ℤ dot_product (unit_of to) by.shift) *ℤ q) =
    subst (λ (n : V3). dot_product n (point_along o e p q) ≤ℤ (((box_plane v landing.0).d +ℤ dot_product n by.shift) *ℤ q)) landing.1 below in
    subst (λ (z : ℤ). dot_product (unit_of to) (point_along o e p q) ≤ℤ (z *ℤ q)) (sym (farthest_moved by v landing.0 to small landing.1)) turned_below

low_from : (d x q : ℤ) → (pos 0 -ℤ x) ≤ℤ (d *ℤ q) → ((pos 0 -ℤ d) *ℤ q) ≤ℤ x
low_from d x q h = omega (arith, ints, h, sub_mul (pos 0) d q, zero-*ℤ q)

-- a point that lies nowhere farther than the box has it
box_has : (far : Dir → ℤ) (u : V3) (q : ℤ) → ((to : Dir) → dot_product (unit_of to) u ≤ℤ (far to *ℤ q))
    → HasPoint (Span (extent_between (pos 0 -ℤ far MinusX) (far PlusX)) (extent_between (pos 0 -ℤ far MinusY) (far PlusY)) (extent_between (pos 0 -ℤ far MinusZ) (far PlusZ))) u q
box_has far u q h =
    let a = h MinusX in
    let b = h PlusX in
    let c = h MinusY in
    let d = h PlusY in
    let e = h MinusZ in
    let f = h PlusZ in (
      (low_from (far MinusX) u.x q (omega (arith, ints, a)), omega (arith, ints, b)),
      (low_from (far MinusY) u.y q (omega (arith, ints, c)), omega (arith, ints, d)),
      (low_from (far MinusZ) u.z q (omega (arith, ints, e)), omega (arith, ints, f)),
    )

arb8_enclosed : (by : Placement) (v : List V3) → HoldsInsideAlong (surface_of (solids.Arb8 (record { vertices = v })) by) (box_of by v)
arb8_enclosed by v o e p q some inside =
    box_has (farthest by v) (point_along o e p q) q (λ to. within by v o e p q to by.turn.in_range some (box_holds by v o e p q inside))

solid_enclosed : (solid : Solid) (by : Placement) → IsLawful solid → HoldsInsideAlong (surface_of solid by) (bounds_of solid by)
solid_enclosed (solids.Arb8 solid) by lawful = arb8_enclosed by solid.vertices
solid_enclosed (solids.Sphere sphere) by lawful = λ o e p q some inside. holds_points (placed by sphere.centre) sphere.radius lawful.radius_size (point_along o e p q) q some inside.1
solid_enclosed (solids.Half half) by lawful = λ o e p q some inside. ((tt, tt), (tt, tt), (tt, tt))
solid_enclosed (solids.Rcc rcc) by lawful =
    subst (λ (faces : RccFaces). HoldsInsideAlong (Cylinder faces) (bounds_of (solids.Rcc rcc) by)) (sym (faces_placed by rcc by.turn.in_range lawful.axis))
    (λ o e p q some inside.
    holds_cylinder (placed by rcc.base) (turned by.turn.number rcc.height) rcc.radius
    (turned_has_one by.turn.number rcc.height by.turn.in_range lawful.axis) lawful.radius_size (point_along o e p q) q some (record {
      above = held_below (base_plane (placed_cylinder by rcc)) o e p q some inside.0.0;
      below = held_below (top_plane (placed_cylinder by rcc)) o e p q some inside.0.1.0;
      around = held_around (round_side (placed_cylinder by rcc)) o e p q inside.1;
    }))

made_enclosed : (surface : Surface) (bounds : Box3) → IsMade surface bounds → HoldsInsideAlong surface bounds
made_enclosed surface bounds made =
    subst (λ (s : Surface). HoldsInsideAlong s bounds) (sym made.surface_is)
    (subst (λ (b : Box3). HoldsInsideAlong (surface_of made.solid made.by) b) (sym made.bounds_is) (solid_enclosed made.solid made.by made.lawful))

from_prop : (side : Side) (x w : ℤ) → IsProp (IsFrom side x w)
from_prop Open x w = hlevel
from_prop (At low) x w = hlevel T_prop

up_to_prop : (side : Side) (x w : ℤ) → IsProp (IsUpTo side x w)
up_to_prop Open x w = hlevel
up_to_prop (At high) x w = hlevel T_prop

point_prop : (b : Box3) (v : V3) (w : ℤ) → IsProp (HasPoint b v w)
point_prop Empty v w = hlevel
point_prop (Span x y z) v w = hlevel (from_prop, up_to_prop)

pub enclosed_along : (surface : Surface) (bounds : Box3) → ∥ IsMade surface bounds ∥₁ → HoldsInsideAlong surface bounds
enclosed_along surface bounds made o e p q some inside =
    ∥∥₁_elim made (point_prop bounds (point_along o e p q) q) (λ (m : IsMade surface bounds). made_enclosed surface bounds m o e p q some inside)

-- along a ray its faces tell what lies inside
pub enclosed : (surface : Surface) (bounds : Box3) → ∥ IsMade surface bounds ∥₁ → HoldsInside surface bounds
enclosed surface bounds made ray p q some inside =
    enclosed_along surface bounds made ray.origin (unit_of ray.dir) p q some (((surfaces_are_of_faces surface ray).inside p q).1 inside)

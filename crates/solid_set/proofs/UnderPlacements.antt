-- Where placements take a surface and a cylinder one after the other, they take it at once: by one turn and one move.
use Rattle.std.proofs.Common.{◌≡◌, ◌∙◌, ◌≢◌, ℕ, ℤ, pos, ◌+ℤ◌, List, [], ◌∷◌, map, refl, ap, sym, inl, inr, arith}
use Rattle.std.specs.Prelude.{Option, Some, None}
use Rattle.std.specs.Option.{option_map}
use Rattle.std.proofs.lemmas.Int.{ints}
use Rattle.lattice_core.specs.declared.vector.V3.{V3}
use Rattle.lattice_core.specs.declared.placement.Placement.{Placement}
use Rattle.lattice_core.specs.Vectors.{dot_product, vector_sum, zero_vector}
use Rattle.lattice_core.specs.Turns.{turned, row_of}
use Rattle.lattice_core.specs.Placements.{placed}
use Rattle.lattice_core.proofs.Products.{mul_add}
use Rattle.lattice_core.proofs.Turning.{vector_same, turned_sum, turned_dot, sum_zero}
use Rattle.plane_geom.specs.declared.plane.Plane.{Plane}
use Rattle.plane_geom.specs.Planes.{placed_plane}
use Rattle.prim_rcc.specs.declared.axis.Axis.{Axis}
use Rattle.prim_rcc.specs.declared.axis.Axis.TheVariants.{X, Y, Z}
use Rattle.prim_rcc.specs.declared.rcc.RccFaces.{RccFaces}
use Rattle.prim_rcc.specs.declared.side.RoundSide.{RoundSide}
use Rattle.prim_rcc.specs.Axes.{HasOneComponent, axis_of, unit_on}
use Rattle.prim_rcc.specs.Cylinders as cylinders
use Rattle.prim_rcc.specs.Cylinders.{placed_cylinder, placed_faces}
use Rattle.prim_rcc.proofs.Axial.{axis_turned, turned_has_one}
use Rattle.prim_rcc.proofs.Planes.{faces_same}
use Rattle.solid_set.specs.declared.surface.Surface.{Surface}
use Rattle.solid_set.specs.declared.surface.Surface.TheVariants.{Planes, HalfSpace, Ball, Cylinder}
use Rattle.solid_set.specs.Surfaces.{placed_sides}
use Rattle.solid_set.specs.Placings.{point_under, placed_surface, surface_under, cylinder_under}

-- the turn of the placements: where they take a vector, less where they take the origin
abbrev pub turned_under : List Placement → V3 → V3
turned_under [] v = v
turned_under (upper ∷ lower) v = turned upper.turn.number (turned_under lower v)

abbrev pub origin_under : List Placement → V3
origin_under placements = point_under placements zero_vector

pub zero_sum : (v : V3) → vector_sum zero_vector v ≡ v
zero_sum v = vector_same (omega (arith, ints)) (omega (arith, ints)) (omega (arith, ints))

sum_assoc : (a b c : V3) → vector_sum (vector_sum a b) c ≡ vector_sum a (vector_sum b c)
sum_assoc a b c = vector_same (omega (arith, ints)) (omega (arith, ints)) (omega (arith, ints))

pub sum_left : (a b c : V3) → vector_sum a c ≡ vector_sum b c → a ≡ b
sum_left a b c e =
    let x : a.x +ℤ c.x ≡ b.x +ℤ c.x = ap (λ (v : V3). v.x) e in
    let y : a.y +ℤ c.y ≡ b.y +ℤ c.y = ap (λ (v : V3). v.y) e in
    let z : a.z +ℤ c.z ≡ b.z +ℤ c.z = ap (λ (v : V3). v.z) e in
    vector_same (omega (arith, ints, x)) (omega (arith, ints, y)) (omega (arith, ints, z))

dot_sum : (n a b : V3) → dot_product n (vector_sum a b) ≡ dot_product n a +ℤ dot_product n b
dot_sum n a b = omega (arith, ints, mul_add n.x a.x b.x, mul_add n.y a.y b.y, mul_add n.z a.z b.z)

-- a turn, and then the move of the origin
pub under_is : (placements : List Placement) (v : V3) → point_under placements v ≡ vector_sum (turned_under placements v) (origin_under placements)
under_is [] v = sym (sum_zero v)
under_is (upper ∷ lower) v =
    ap (placed upper) (under_is lower v)
    ∙ ap (λ (w : V3). vector_sum w upper.shift) (turned_sum upper.turn.number (turned_under lower v) (origin_under lower) upper.turn.in_range)
    ∙ sum_assoc (turned upper.turn.number (turned_under lower v)) (turned upper.turn.number (origin_under lower)) upper.shift

abbrev pub plane_by : V3 → ℤ → Plane
plane_by n d = record { n = n; d = d }

-- the plane that the placements take a plane to
abbrev pub plane_under : List Placement → Plane → Plane
plane_under placements plane = plane_by (turned_under placements plane.n) (plane.d +ℤ dot_product (turned_under placements plane.n) (origin_under placements))

dot_zero : (n : V3) → dot_product n zero_vector ≡ pos 0
dot_zero n = omega (arith, ints)

plane_same : {n m : V3} {d e : ℤ} → n ≡ m → d ≡ e → plane_by n d ≡ plane_by m e
plane_same p q = cc

none_under : (plane : Plane) → plane_under [] plane ≡ plane
none_under plane = plane_same {n = plane.n} refl (let z = dot_zero plane.n in omega (arith, ints, z))

distance_next : (d whole turn shift plain : ℤ) → whole ≡ turn +ℤ shift → turn ≡ plain → (d +ℤ plain) +ℤ shift ≡ d +ℤ whole
distance_next d whole turn shift plain p q = omega (arith, ints, p, q)

next_under : (upper : Placement) (lower : List Placement) (plane : Plane) → placed_plane upper (plane_under lower plane) ≡ plane_under (upper ∷ lower) plane
next_under upper lower plane =
    let n : V3 = turned_under lower plane.n in
    let one : dot_product (turned upper.turn.number (turned_under lower plane.n)) (vector_sum (turned upper.turn.number (origin_under lower)) upper.shift)
    ≡ dot_product (turned upper.turn.number (turned_under lower plane.n)) (turned upper.turn.number (origin_under lower)) +ℤ dot_product (turned upper.turn.number (turned_under lower plane.n)) upper.shift =
    dot_sum (turned upper.turn.number (turned_under lower plane.n)) (turned upper.turn.number (origin_under lower)) upper.shift in
    let two : dot_product (turned upper.turn.number (turned_under lower plane.n)) (turned upper.turn.number (origin_under lower)) ≡ dot_product (turned_under lower plane.n) (origin_under lower) =
    turned_dot upper.turn.number (turned_under lower plane.n) (origin_under lower) upper.turn.in_range in
    plane_same {n = turned upper.turn.number (turned_under lower plane.n)} refl (distance_next plane.d _ _ _ _ one two)

sides_next : (upper : Placement) (lower : List Placement) (sides : List (Option Plane))
    → placed_sides upper (map (option_map (plane_under lower)) sides) ≡ map (option_map (plane_under (upper ∷ lower))) sides
sides_next upper lower [] = refl
sides_next upper lower (None ∷ sides) = ap (λ (xs : List (Option Plane)). None ∷ xs) (sides_next upper lower sides)
sides_next upper lower (Some plane ∷ sides) =
    ap (λ (xs : List (Option Plane)). Some (placed_plane upper (plane_under lower plane)) ∷ xs) (sides_next upper lower sides)
    ∙ ap (λ (x : Plane). Some x ∷ map (option_map (plane_under (upper ∷ lower))) sides) (next_under upper lower plane)

sides_none : (sides : List (Option Plane)) → map (option_map (plane_under [])) sides ≡ sides
sides_none [] = refl
sides_none (None ∷ sides) = ap (λ (xs : List (Option Plane)). None ∷ xs) (sides_none sides)
sides_none (Some plane ∷ sides) =
    ap (λ (xs : List (Option Plane)). Some (plane_under [] plane) ∷ xs) (sides_none sides)
    ∙ ap (λ (x : Plane). Some x ∷ sides) (none_under plane)

-- the axis that the placements take one to
abbrev pub axis_under : List Placement → Axis → Axis
axis_under placements axis = axis_of (turned_under placements (unit_on axis))

one_some : pos 1 ≢ pos 0
one_some e = omega (arith, ints, e)

unit_has_one : (axis : Axis) → HasOneComponent (unit_on axis)
unit_has_one X = inl (one_some, refl, refl)
unit_has_one Y = inr (inl (refl, one_some, refl))
unit_has_one Z = inr (inr (refl, refl, one_some))

turned_one : (placements : List Placement) (axis : Axis) → HasOneComponent (turned_under placements (unit_on axis))
turned_one [] axis = unit_has_one axis
turned_one (upper ∷ lower) axis = turned_has_one upper.turn.number (turned_under lower (unit_on axis)) upper.turn.in_range (turned_one lower axis)

axis_none : (axis : Axis) → axis_under [] axis ≡ axis
axis_none X = refl
axis_none Y = refl
axis_none Z = refl

abbrev pub side_by : V3 → Axis → ℤ → RoundSide
side_by centre axis radius = record { centre = centre; axis = axis; radius = radius }

-- the faces of a cylinder that the placements take those of one to
abbrev pub faces_under : List Placement → RccFaces → RccFaces
faces_under placements faces = record {
  base = plane_under placements faces.base;
  top = plane_under placements faces.top;
  side = side_by (point_under placements faces.side.centre) (axis_under placements faces.side.axis) faces.side.radius;
}

faces_none : (faces : RccFaces) → faces_under [] faces ≡ faces
faces_none faces =
    faces_same (none_under faces.base) (none_under faces.top)
    (ap (λ (a : Axis). side_by faces.side.centre a faces.side.radius) (axis_none faces.side.axis))

faces_next : (upper : Placement) (lower : List Placement) (faces : RccFaces) → placed_faces upper (faces_under lower faces) ≡ faces_under (upper ∷ lower) faces
faces_next upper lower faces =
    faces_same (next_under upper lower faces.base) (next_under upper lower faces.top)
    (ap (λ (a : Axis). side_by (point_under (upper ∷ lower) faces.side.centre) a faces.side.radius)
    (axis_turned upper.turn.number (turned_under lower (unit_on faces.side.axis)) (turned_one lower faces.side.axis)))

-- the surface, taken at once
abbrev pub surface_at_once : List Placement → Surface → Surface
surface_at_once placements (Planes sides) = Planes (map (option_map (plane_under placements)) sides)
surface_at_once placements (HalfSpace plane) = HalfSpace (plane_under placements plane)
surface_at_once placements (Ball centre radius) = Ball (point_under placements centre) radius
surface_at_once placements (Cylinder faces) = Cylinder (faces_under placements faces)

surface_none : (surface : Surface) → surface ≡ surface_at_once [] surface
surface_none (Planes sides) = ap (λ (s : List (Option Plane)). Planes s) (sym (sides_none sides))
surface_none (HalfSpace plane) = ap (λ (p : Plane). HalfSpace p) (sym (none_under plane))
surface_none (Ball centre radius) = refl
surface_none (Cylinder faces) = ap (λ (f : RccFaces). Cylinder f) (sym (faces_none faces))

surface_next : (upper : Placement) (lower : List Placement) (surface : Surface) → placed_surface upper (surface_at_once lower surface) ≡ surface_at_once (upper ∷ lower) surface
surface_next upper lower (Planes sides) = ap (λ (s : List (Option Plane)). Planes s) (sides_next upper lower sides)
surface_next upper lower (HalfSpace plane) = ap (λ (p : Plane). HalfSpace p) (next_under upper lower plane)
surface_next upper lower (Ball centre radius) = refl
surface_next upper lower (Cylinder faces) = ap (λ (f : RccFaces). Cylinder f) (faces_next upper lower faces)

pub surface_is : (placements : List Placement) (surface : Surface) → surface_under placements surface ≡ surface_at_once placements surface
surface_is [] surface = surface_none surface
surface_is (upper ∷ lower) surface = ap (placed_surface upper) (surface_is lower surface) ∙ surface_next upper lower surface

-- a cylinder, taken at once
abbrev pub cylinder_by : V3 → V3 → ℤ → cylinders.Cylinder
cylinder_by base height radius = record { base = base; height = height; radius = radius }

pub cylinder_is : (placements : List Placement) (c : cylinders.Cylinder)
    → cylinder_under placements c ≡ cylinder_by (point_under placements c.base) (turned_under placements c.height) c.radius
cylinder_is [] c = refl
cylinder_is (upper ∷ lower) c = ap (placed_cylinder upper) (cylinder_is lower c)

pub turned_zero : (turn : ℕ) → turned turn zero_vector ≡ zero_vector
turned_zero turn = vector_same (dot_zero (row_of turn 1)) (dot_zero (row_of turn 2)) (dot_zero (row_of turn 3))

-- The planes of a solid have no vertex beyond them, and touch it.
use Rattle.std.proofs.Common.{zero, suc, ◌≡◌, ◌≢◌, ◌∙◌, ◌⊎◌, ◌<◌, inl, inr, ℕ, Bool, true, false, cond, ◌&&◌, List, [], ◌∷◌, length, fold, All, ℤ, pos, ◌-ℤ◌, ◌≤ℤ◌, refl, ap, sym, arith}
use Rattle.std.specs.Prelude.{slice_index_or}
use Rattle.std.specs.Int.{int_max}
use Rattle.std.specs.List.{Any, list_any}
use Rattle.std.proofs.lemmas.Int.{ints, clamps, by_lt_z}
use Rattle.std.proofs.lemmas.List.{get_or_default}
use Rattle.std.proofs.Math.IntN.{zero-*ℤ}
use Rattle.lattice_core.specs.declared.vector.V3.{V3}
use Rattle.lattice_core.specs.declared.ray.Dir.{Dir}
use Rattle.lattice_core.specs.Units.{unit_of}
use Rattle.lattice_core.specs.Vectors.{dot_product, vector_difference, zero_vector}
use Rattle.lattice_core.proofs.Turning.{vector_same}
use Rattle.plane_geom.specs.declared.plane.Plane.{Plane}
use Rattle.plane_geom.specs.Planes.{LiesIn, height_over}
use Rattle.plane_geom.proofs.Cross.{sub_mul}
use Rattle.prim_arb8.specs.Points.{lies_beyond, lies_before}
use Rattle.prim_arb8.specs.Faces.{reversed, outward, box_plane, vertex_at}
use Rattle.prim_arb8.specs.Laws.{IsPlaneOf, IsBoxSide}
use Rattle.prim_arb8.proofs.Passing.{none_pass, not_beyond, not_before}

-- the other side of a plane
dot_reversed : (n p : V3) → dot_product (vector_difference zero_vector n) p ≡ pos 0 -ℤ dot_product n p
dot_reversed n p =
    omega (arith, ints, sub_mul (pos 0) n.x p.x, sub_mul (pos 0) n.y p.y, sub_mul (pos 0) n.z p.z, zero-*ℤ p.x, zero-*ℤ p.y, zero-*ℤ p.z)

reversed_height : (plane : Plane) (p : V3) → height_over (reversed plane) p ≡ pos 0 -ℤ height_over plane p
reversed_height plane p = omega (arith, ints, dot_reversed plane.n p)

reversed_in : (plane : Plane) (p : V3) → LiesIn p plane → LiesIn p (reversed plane)
reversed_in plane p h = omega (arith, ints, h, dot_reversed plane.n p)

reversed_direction : (plane : Plane) → plane.n ≢ zero_vector → (reversed plane).n ≢ zero_vector
reversed_direction plane some e =
    let x : pos 0 -ℤ plane.n.x ≡ pos 0 = ap (λ (v : V3). v.x) e in
    let y : pos 0 -ℤ plane.n.y ≡ pos 0 = ap (λ (v : V3). v.y) e in
    let z : pos 0 -ℤ plane.n.z ≡ pos 0 = ap (λ (v : V3). v.z) e in
    some (vector_same (omega (arith, ints, x)) (omega (arith, ints, y)) (omega (arith, ints, z)))

touches_reversed : (vertices : List V3) (plane : Plane) → Any (λ p. LiesIn p plane) vertices → Any (λ p. LiesIn p (reversed plane)) vertices
touches_reversed vertices plane (k, p, lt, at, in_it) = (k, p, lt, at, reversed_in plane p in_it)

-- the side of a plane without vertices beyond it, where vertices do not lie on both
turned_by : (vertices corners : List V3) (plane : Plane) (b : Bool) → list_any (lies_beyond plane) vertices ≡ b → (b && list_any (lies_before plane) vertices) ≡ false
    → plane.n ≢ zero_vector → All (λ p. LiesIn p plane) corners → Any (λ p. LiesIn p plane) vertices → IsPlaneOf vertices corners (cond b (reversed plane) plane)
turned_by vertices corners plane true beyond before some held touched = record {
  direction = reversed_direction plane some;
  corners_in = λ k d lt. reversed_in plane (slice_index_or corners k d) (held k d lt);
  outward = record {
    bounds = λ k d lt.
        let p : V3 = slice_index_or vertices k d in
        let high : pos 0 ≤ℤ height_over plane p = not_before plane p (none_pass (lies_before plane) vertices before k d lt) in
        omega (arith, ints, high, reversed_height plane p);
    touches = touches_reversed vertices plane touched;
  };
}
turned_by vertices corners plane false beyond before some held touched = record {
  direction = some;
  corners_in = held;
  outward = record { bounds = λ k d lt. not_beyond plane (slice_index_or vertices k d) (none_pass (lies_beyond plane) vertices beyond k d lt); touches = touched };
}

pub outward_is : (vertices corners : List V3) (plane : Plane) → (list_any (lies_beyond plane) vertices && list_any (lies_before plane) vertices) ≡ false
    → plane.n ≢ zero_vector → All (λ p. LiesIn p plane) corners → Any (λ p. LiesIn p plane) vertices → IsPlaneOf vertices corners (outward vertices plane)
outward_is vertices corners plane one_side some held touched = turned_by vertices corners plane (list_any (lies_beyond plane) vertices) refl one_side some held touched

-- the greatest of a function of points
abbrev most : (V3 → ℤ) → ℤ → List V3 → ℤ
most g start points = fold (λ m p. int_max m (g p)) start points

grows : (g : V3 → ℤ) (points : List V3) (start : ℤ) → start ≤ℤ most g start points
grows g [] start = omega (arith, ints)
grows g (p ∷ points) start = let next = grows g points (int_max start (g p)) in omega (arith, ints, clamps, next)

each_below : (g : V3 → ℤ) (points : List V3) (start : ℤ) (k : ℕ) (d : V3) → k < length points → g (slice_index_or points k d) ≤ℤ most g start points
each_below g [] start k d lt = absurd (omega arith)
each_below g (p ∷ points) start zero d lt = let next = grows g points (int_max start (g p)) in omega (arith, ints, clamps, next)
each_below g (p ∷ points) start (suc k) d lt = each_below g points (int_max start (g p)) k d (omega arith)

-- the greatest is the start, or that of some point
one_of : (x y : ℤ) → (int_max x y ≡ x) ⊎ (int_max x y ≡ y)
one_of x y = by_lt_z y x (λ lt. inl (omega (arith, ints, clamps))) (λ le. inr (omega (arith, ints, clamps)))

later : (P : V3 → Type 0) (p : V3) (points : List V3) → Any P points → Any P (p ∷ points)
later P p points (k, x, lt, at, h) = (suc k, x, omega (arith, lt), at, h)

reached : (g : V3 → ℤ) (points : List V3) (start : ℤ) → (most g start points ≡ start) ⊎ Any (λ p. g p ≡ most g start points) points
reached g [] start = inl refl
reached g (p ∷ points) start =
    elim (reached g points (int_max start (g p))) [
      | inl e ↦ elim (one_of start (g p)) [
        | inl old ↦ inl (e ∙ old)
        | inr new ↦ inr (zero, p, omega arith, refl, sym (e ∙ new))
      ]
      | inr some ↦ inr (later (λ x. g x ≡ most g (int_max start (g p)) points) p points some)
    ]

pub box_side_is : (vertices : List V3) (dir : Dir) → 0 < length vertices → IsBoxSide vertices dir (box_plane vertices dir)
box_side_is vertices dir some =
    let g : V3 → ℤ = dot_product (unit_of dir) in
    record {
      normal = refl;
      outward = record {
        bounds = λ k d lt. let below = each_below (dot_product (unit_of dir)) vertices (dot_product (unit_of dir) (vertex_at vertices 1)) k d lt in omega (arith, ints, below);
        touches = elim (reached (dot_product (unit_of dir)) vertices (dot_product (unit_of dir) (vertex_at vertices 1))) [
          | inl first ↦ (zero, vertex_at vertices 1, some, get_or_default vertices zero (vertex_at vertices 1) zero_vector some, sym first)
          | inr one ↦ one
        ];
      };
    }

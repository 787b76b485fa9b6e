-- The planes of the faces of vertices without a fault.
use Rattle.std.proofs.Common.{zero, suc, ◌≡◌, ◌≢◌, ◌<◌, ◌≤◌, ◌-◌, ℕ, Bool, true, false, cond, not, List, [], ◌∷◌, length, Option, Some, None, All, refl, ap, sym, subst, arith}
use Rattle.std.specs.List.{Any, flat_map}
use Rattle.std.specs.Option.{ForSome}
use Rattle.std.proofs.lemmas.Bool.{false≢true}
use Rattle.std.proofs.lemmas.List.{get_or_default}
use Rattle.std.proofs.lemmas.List.Sums.{AllPass-from_list_all}
use Rattle.lattice_core.specs.declared.vector.V3.{V3}
use Rattle.lattice_core.specs.declared.ray.Dir.TheVariants.{PlusX, MinusX, PlusY, MinusY, PlusZ, MinusZ}
use Rattle.lattice_core.specs.Vectors.{zero_vector}
use Rattle.plane_geom.specs.declared.plane.Plane.{Plane}
use Rattle.plane_geom.specs.declared.fault.ShapeFault.{ShapeFault}
use Rattle.plane_geom.specs.declared.fault.ShapeFault.TheVariants.{Flat, NotPlanar, NotConvex}
use Rattle.plane_geom.specs.Planes.{AreOnOneLine, LiesIn, is_zero_vector, normal_of, plane_of, plane_through}
use Rattle.prim_arb8.specs.Points.{lies_in, are_all_in, is_flat}
use Rattle.prim_arb8.specs.Faces.{corners_of, vertex_at, first_plane, plane_of_four, face_plane, outward, outward_some, plane_at, parts, first_fault, face_cases, cases_of}
use Rattle.prim_arb8.specs.Laws.{IsPlaneOf, IsSide, IsFaceLaw}
use Rattle.prim_arb8.proofs.Passing.{zero_read, not_zero, in_read}
use Rattle.prim_arb8.proofs.Lines.{Line, collinear_four}
use Rattle.prim_arb8.proofs.Outward.{outward_is, box_side_is}

-- a face has no fault
record IsFine (vertices corners : List V3) : Type 0 where
  planar : are_all_in (face_plane corners) corners ≡ true
  convex : parts (face_plane corners) vertices ≡ false

-- where no condition of a face holds, nor one of the rest
record IsClear (planar convex : Bool) (rest : Option ShapeFault) : Type 0 where
  planar_is : planar ≡ true
  convex_is : convex ≡ false
  rest_is : rest ≡ None

clear : (planar convex : Bool) (f g : ShapeFault) (rest : Option ShapeFault) → cond (not planar) (Some f) (cond convex (Some g) rest) ≡ None → IsClear planar convex rest
clear false convex f g rest e = cc
clear true true f g rest e = cc
clear true false f g rest e = record { planar_is = refl; convex_is = refl; rest_is = e }

clear_face : (v : List V3) (face : ℕ) (faces : List ℕ) → first_fault (flat_map (face_cases v) (face ∷ faces)) ≡ None
    → IsClear (are_all_in (face_plane (corners_of v face)) (corners_of v face)) (parts (face_plane (corners_of v face)) v) (first_fault (flat_map (face_cases v) faces))
clear_face v face faces e =
    clear (are_all_in (face_plane (corners_of v face)) (corners_of v face)) (parts (face_plane (corners_of v face)) v) (NotPlanar face) (NotConvex face) (first_fault (flat_map (face_cases v) faces)) e

all_fine : (v : List V3) (faces : List ℕ) → first_fault (flat_map (face_cases v) faces) ≡ None → All (λ face. IsFine v (corners_of v face)) faces
all_fine v [] e k d lt = absurd (omega arith)
all_fine v (face ∷ faces) e zero d lt = record { planar = (clear_face v face faces e).planar_is; convex = (clear_face v face faces e).convex_is }
all_fine v (face ∷ faces) e (suc k) d lt = all_fine v faces (clear_face v face faces e).rest_is k d (omega arith)

not_flat : (b : Bool) (f : ShapeFault) (rest : Option ShapeFault) → cond b (Some f) rest ≡ None → rest ≡ None
not_flat true f rest e = cc
not_flat false f rest e = e

fine_faces : (v : List V3) → first_fault (cases_of v) ≡ None → All (λ face. IsFine v (corners_of v face)) (1 ∷ 2 ∷ 3 ∷ 4 ∷ 5 ∷ 6 ∷ [])
fine_faces v e = all_fine v (1 ∷ 2 ∷ 3 ∷ 4 ∷ 5 ∷ 6 ∷ []) (not_flat (is_flat v) Flat _ e)

-- the first of four planes
first_has : (P : Plane → Type 0) (a b c d : Option Plane) → ForSome a P → ForSome b P → ForSome c P → ForSome d P → ForSome (first_plane (a ∷ b ∷ c ∷ d ∷ [])) P
first_has P (Some p) b c d h i j k x e = h x e
first_has P None (Some p) c d h i j k x e = i x e
first_has P None None (Some p) d h i j k x e = j x e
first_has P None None None (Some p) h i j k x e = k x e
first_has P None None None None h i j k x e = cc

record AreNone (a b c d : Option Plane) : Type 0 where
  first : a ≡ None
  second : b ≡ None
  third : c ≡ None
  fourth : d ≡ None

none_of : (a b c d : Option Plane) → first_plane (a ∷ b ∷ c ∷ d ∷ []) ≡ None → AreNone a b c d
none_of (Some p) b c d e = cc
none_of None (Some p) c d e = cc
none_of None None (Some p) d e = cc
none_of None None None (Some p) e = cc
none_of None None None None e = record { first = refl; second = refl; third = refl; fourth = refl }

some_first : (a b c d : Option Plane) (plane : Plane) → first_plane (a ∷ b ∷ c ∷ d ∷ []) ≡ Some plane → a ≡ None → b ≡ None → c ≡ None → d ≡ None → ⊥
some_first (Some p) b c d plane e h i j k = cc
some_first None (Some p) c d plane e h i j k = cc
some_first None None (Some p) d plane e h i j k = cc
some_first None None None (Some p) plane e h i j k = cc
some_first None None None None plane e h i j k = cc

-- the plane through three points
through_by : (n a : V3) (b : Bool) → is_zero_vector n ≡ b → ForSome (cond b None (Some (plane_of n a))) (λ plane. plane.n ≢ zero_vector)
through_by n a true e x is = cc
through_by n a false e x is = let same : plane_of n a ≡ x = cc in subst (λ (p : Plane). p.n ≢ zero_vector) same (not_zero n e)

through_some : (a b c : V3) → ForSome (plane_through a b c) (λ plane. plane.n ≢ zero_vector)
through_some a b c = through_by (normal_of a b c) a (is_zero_vector (normal_of a b c)) refl

line_by : (n a : V3) (b : Bool) → is_zero_vector n ≡ b → cond b None (Some (plane_of n a)) ≡ None → n ≡ zero_vector
line_by n a true e is = zero_read n e
line_by n a false e is = cc

line_of : (a b c : V3) → plane_through a b c ≡ None → Line a b c
line_of a b c is = record { is = line_by (normal_of a b c) a (is_zero_vector (normal_of a b c)) refl is }

none_through : (a b c : V3) → AreOnOneLine a b c → plane_through a b c ≡ None
none_through a b c line = ap (λ (n : V3). cond (is_zero_vector n) None (Some (plane_of (normal_of a b c) a))) line

-- the side of four corners, the first of which is a vertex
side_by : (v : List V3) (a b c d : V3) (o : Option Plane) → plane_of_four a b c d ≡ o → are_all_in o (a ∷ b ∷ c ∷ d ∷ []) ≡ true → parts o v ≡ false
    → Any (λ p. p ≡ a) v → IsSide v (a ∷ b ∷ c ∷ d ∷ []) (outward_some v o)
side_by v a b c d None e planar convex first =
    let none = none_of (plane_through a b c) (plane_through a b d) (plane_through a c d) (plane_through b c d) e in
    record {
      degenerate = (λ is. collinear_four a b c d (line_of a b c none.first) (line_of a b d none.second) (line_of a c d none.third) (line_of b c d none.fourth), λ line. refl);
      flat = λ plane is. absurd (let none_some : None ≡ Some plane = is in cc);
    }
side_by v a b c d (Some plane) e planar convex first =
    let some : plane.n ≢ zero_vector = first_has (λ p. p.n ≢ zero_vector) _ _ _ _ (through_some a b c) (through_some a b d) (through_some a c d) (through_some b c d) plane e in
    let held : All (λ p. LiesIn p plane) (a ∷ b ∷ c ∷ d ∷ []) = λ k x lt. in_read plane _ (AllPass-from_list_all (lies_in plane) (a ∷ b ∷ c ∷ d ∷ []) planar k x lt) in
    record {
      degenerate = (
        λ is. absurd (false≢true (sym is)),
        λ line. absurd (
            some_first _ _ _ _ plane e
            (none_through a b c (line 0 a (omega arith) 1 a (omega arith) 2 a (omega arith)))
            (none_through a b d (line 0 a (omega arith) 1 a (omega arith) 3 a (omega arith)))
            (none_through a c d (line 0 a (omega arith) 2 a (omega arith) 3 a (omega arith)))
            (none_through b c d (line 1 a (omega arith) 2 a (omega arith) 3 a (omega arith)))
            ),
      );
      flat = λ x is.
          let same : outward v plane ≡ x = cc in
          let found : IsPlaneOf v (a ∷ b ∷ c ∷ d ∷ []) (outward v plane) = outward_is v (a ∷ b ∷ c ∷ d ∷ []) plane convex some held (first.0, first.1, first.2, first.3, subst (λ (p : V3). LiesIn p plane) (sym first.4) (held 0 a (omega arith))) in
          subst (IsPlaneOf v (a ∷ b ∷ c ∷ d ∷ [])) same found;
    }

side_of : (v : List V3) (a b c d : V3) → IsFine v (a ∷ b ∷ c ∷ d ∷ []) → Any (λ p. p ≡ a) v → IsSide v (a ∷ b ∷ c ∷ d ∷ []) (outward_some v (plane_of_four a b c d))
side_of v a b c d fine first = side_by v a b c d (plane_of_four a b c d) refl fine.planar fine.convex first

-- a vertex is one of the vertices
is_vertex : (v : List V3) (number : ℕ) → number - 1 < length v → Any (λ p. p ≡ vertex_at v number) v
is_vertex v number lt = (number - 1, vertex_at v number, lt, get_or_default v (number - 1) (vertex_at v number) zero_vector lt, refl)

pub face_law : (v : List V3) (face : ℕ) → length v ≡ 8 → first_fault (cases_of v) ≡ None → 1 ≤ face → face ≤ 12 → IsFaceLaw v face (plane_at v face)
face_law v zero eight none low high = absurd (omega arith)
face_law v (suc zero) eight none low high = record {
  faces = λ le. side_of v _ _ _ _ (fine_faces v none 0 1 (omega arith)) (is_vertex v 1 (omega arith));
  boxes = λ le. absurd (omega arith);
}
face_law v (suc (suc zero)) eight none low high = record {
  faces = λ le. side_of v _ _ _ _ (fine_faces v none 1 1 (omega arith)) (is_vertex v 5 (omega arith));
  boxes = λ le. absurd (omega arith);
}
face_law v (suc (suc (suc zero))) eight none low high = record {
  faces = λ le. side_of v _ _ _ _ (fine_faces v none 2 1 (omega arith)) (is_vertex v 1 (omega arith));
  boxes = λ le. absurd (omega arith);
}
face_law v (suc (suc (suc (suc zero)))) eight none low high = record {
  faces = λ le. side_of v _ _ _ _ (fine_faces v none 3 1 (omega arith)) (is_vertex v 2 (omega arith));
  boxes = λ le. absurd (omega arith);
}
face_law v (suc (suc (suc (suc (suc zero))))) eight none low high = record {
  faces = λ le. side_of v _ _ _ _ (fine_faces v none 4 1 (omega arith)) (is_vertex v 3 (omega arith));
  boxes = λ le. absurd (omega arith);
}
face_law v (suc (suc (suc (suc (suc (suc zero)))))) eight none low high = record {
  faces = λ le. side_of v _ _ _ _ (fine_faces v none 5 1 (omega arith)) (is_vertex v 4 (omega arith));
  boxes = λ le. absurd (omega arith);
}
face_law v (suc (suc (suc (suc (suc (suc (suc zero))))))) eight none low high = record { faces = λ le. absurd (omega arith); boxes = λ le. box_side_is v PlusX (omega arith) }
face_law v (suc (suc (suc (suc (suc (suc (suc (suc zero)))))))) eight none low high = record { faces = λ le. absurd (omega arith); boxes = λ le. box_side_is v MinusX (omega arith) }
face_law v (suc (suc (suc (suc (suc (suc (suc (suc (suc zero))))))))) eight none low high = record { faces = λ le. absurd (omega arith); boxes = λ le. box_side_is v PlusY (omega arith) }
face_law v (suc (suc (suc (suc (suc (suc (suc (suc (suc (suc zero)))))))))) eight none low high = record { faces = λ le. absurd (omega arith); boxes = λ le. box_side_is v MinusY (omega arith) }
face_law v (suc (suc (suc (suc (suc (suc (suc (suc (suc (suc (suc zero))))))))))) eight none low high = record { faces = λ le. absurd (omega arith); boxes = λ le. box_side_is v PlusZ (omega arith) }
face_law v (suc (suc (suc (suc (suc (suc (suc (suc (suc (suc (suc (suc zero)))))))))))) eight none low high = record { faces = λ le. absurd (omega arith); boxes = λ le. box_side_is v MinusZ (omega arith) }
face_law v (suc (suc (suc (suc (suc (suc (suc (suc (suc (suc (suc (suc (suc n))))))))))))) eight none low high = absurd (omega arith)

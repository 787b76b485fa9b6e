-- Points pass the test for one plane exactly where some plane has all of them.
use Rattle.std.proofs.Common.{◌≡◌, ◌≢◌, ◌∙◌, ◌↔◌, ◌<◌, inl, inr, ℕ, Bool, true, false, cond, not, List, [], ◌∷◌, length, Option, Some, None, Result, Ok, Err, All, pos, refl, ap, sym, subst, arith}
use Rattle.std.specs.Prelude.{slice_index_or}
use Rattle.std.specs.List.{Any, list_all, list_any, flat_map}
use Rattle.std.proofs.lemmas.Bool.{false≢true}
use Rattle.std.proofs.lemmas.Int.{ints}
use Rattle.std.proofs.lemmas.List.Folds.{Any-from_list_any}
use Rattle.std.proofs.lemmas.List.Sums.{list_all-from_AllPass, AllPass-from_list_all}
use Rattle.lattice_core.specs.declared.vector.V3.{V3}
use Rattle.lattice_core.specs.Vectors.{dot_product, zero_vector, vector_difference}
use Rattle.plane_geom.specs.declared.plane.Plane.{Plane}
use Rattle.plane_geom.specs.declared.fault.ShapeFault.{ShapeFault}
use Rattle.plane_geom.specs.declared.fault.ShapeFault.TheVariants.{Flat, NotPlanar, NotConvex}
use Rattle.plane_geom.specs.Planes.{normal_of, is_zero_vector, plane_of, plane_through, LiesIn}
use Rattle.plane_geom.proofs.Cross.{dot_difference}
use Rattle.prim_arb8.specs.Points.{lies_in, are_all_in, are_coplanar_with, are_coplanar_from, is_flat}
use Rattle.prim_arb8.specs.Faces.{first_fault, cases_of, face_cases}
use Rattle.prim_arb8.specs.Laws.{IsFlat, AreCollinear}
use Rattle.prim_arb8.proofs.Passing.{any_or_none, none_pass, not_true, not_false, zero_read, not_zero, in_read, in_made}
use Rattle.prim_arb8.proofs.Volume.{no_volume, aside}

-- from one plane with all points to the test
in_through : (n a : V3) (points : List V3) (b : Bool) → All (λ p. LiesIn p (plane_of n a)) points → are_all_in (cond b None (Some (plane_of n a))) points ≡ true
in_through n a points true h = refl
in_through n a points false h = list_all-from_AllPass (lies_in (plane_of n a)) points (λ k d lt. in_made (plane_of n a) (slice_index_or points k d) (h k d lt))

one_plane : (plane : Plane) (a b : V3) → LiesIn a plane → LiesIn b plane → dot_product plane.n (vector_difference b a) ≡ pos 0
one_plane plane a b ha hb = omega (arith, ints, dot_difference plane.n a b, ha, hb)

through_holds : (plane : Plane) (a b c p : V3) → plane.n ≢ zero_vector → LiesIn a plane → LiesIn b plane → LiesIn c plane → LiesIn p plane → LiesIn p (plane_of (normal_of a b c) a)
through_holds plane a b c p some ha hb hc hp =
    let u : V3 = vector_difference b a in
    let v : V3 = vector_difference c a in
    let none : dot_product (normal_of a b c) (vector_difference p a) ≡ pos 0 =
    no_volume plane.n u v (vector_difference p a) some (one_plane plane a b ha hb) (one_plane plane a c ha hc) (one_plane plane a p ha hp) in
    omega (arith, ints, none, dot_difference (normal_of a b c) a p)

pub flat_passes : (points : List V3) → IsFlat points → is_flat points ≡ true
flat_passes points flat =
    list_all-from_AllPass (λ a. are_coplanar_from a points) points (λ i x ilt.
    let a : V3 = slice_index_or points i x in
    list_all-from_AllPass (λ b. are_coplanar_with a b points) points (λ j y jlt.
    let b : V3 = slice_index_or points j y in
    list_all-from_AllPass (λ c. are_all_in (plane_through a b c) points) points (λ k z klt.
    let c : V3 = slice_index_or points k z in
    in_through (normal_of a b c) a points (is_zero_vector (normal_of a b c)) (λ l w llt.
    through_holds flat.plane a b c (slice_index_or points l w) flat.direction (flat.holds i x ilt) (flat.holds j y jlt) (flat.holds k z klt) (flat.holds l w llt)))))

-- from the test to one plane
passed : (f : V3 → Bool) (points : List V3) (k : ℕ) (a : V3) → list_all f points ≡ true → k < length points → slice_index_or points k a ≡ a → f a ≡ true
passed f points k a h lt at = ap f (sym at) ∙ AllPass-from_list_all f points h k a lt

in_plane_by : (n a : V3) (points : List V3) (b : Bool) → b ≡ false → are_all_in (cond b None (Some (plane_of n a))) points ≡ true → All (λ p. LiesIn p (plane_of n a)) points
in_plane_by n a points true e h k d lt = absurd (false≢true (sym e))
in_plane_by n a points false e h k d lt = in_read (plane_of n a) (slice_index_or points k d) (AllPass-from_list_all (lies_in (plane_of n a)) points h k d lt)

abbrev bends_at : V3 → V3 → V3 → Bool
bends_at a b c = not (is_zero_vector (normal_of a b c))

abbrev bends_with : List V3 → V3 → V3 → Bool
bends_with points a b = list_any (bends_at a b) points

abbrev bends_from : List V3 → V3 → Bool
bends_from points a = list_any (bends_with points a) points

bent_flat : (points : List V3) → is_flat points ≡ true → Any (λ a. bends_from points a ≡ true) points → IsFlat points
bent_flat points h (i, a, ilt, ai, ea) =
    let second = Any-from_list_any (bends_with points a) points ea in
    let b : V3 = second.1 in
    let third = Any-from_list_any (bends_at a b) points second.4 in
    let c : V3 = third.1 in
    let bent : is_zero_vector (normal_of a b c) ≡ false = not_true _ third.4 in
    let one : are_coplanar_from a points ≡ true = passed (λ x. are_coplanar_from x points) points i a h ilt ai in
    let two : are_coplanar_with a b points ≡ true = passed (λ x. are_coplanar_with a x points) points second.0 b one second.2 second.3 in
    let three : are_all_in (plane_through a b c) points ≡ true = passed (λ x. are_all_in (plane_through a b x) points) points third.0 c two third.2 third.3 in
    record {
      plane = plane_of (normal_of a b c) a;
      direction = not_zero (normal_of a b c) bent;
      holds = in_plane_by (normal_of a b c) a points (is_zero_vector (normal_of a b c)) bent three;
    }

straight : (points : List V3) → All (λ a. bends_from points a ≡ false) points → AreCollinear points
straight points h i x ilt j y jlt k z klt =
    let a : V3 = slice_index_or points i x in
    let b : V3 = slice_index_or points j y in
    let one : bends_with points a b ≡ false = none_pass (bends_with points a) points (h i x ilt) j y jlt in
    let two : bends_at a b (slice_index_or points k z) ≡ false = none_pass (bends_at a b) points one k z klt in
    zero_read _ (not_false _ two)

-- a plane along a line
along : (n a c : V3) → dot_product n (vector_difference c a) ≡ pos 0 → LiesIn c (plane_of n a)
along n a c e = omega (arith, ints, e, dot_difference n a c)

abbrev right_vector : V3
right_vector = record { x = pos 1; y = pos 0; z = pos 0 }

right_some : right_vector ≢ zero_vector
right_some e = let one : pos 1 ≡ pos 0 = ap (λ (v : V3). v.x) e in absurd (omega (arith, ints, one))

same_holds : (a c : V3) → vector_difference c a ≡ zero_vector → LiesIn c (plane_of right_vector a)
same_holds a c e = along right_vector a c (ap (dot_product right_vector) e)

abbrev is_other : V3 → V3 → Bool
is_other a b = not (is_zero_vector (vector_difference b a))

line_flat : (a : V3) (rest : List V3) → AreCollinear (a ∷ rest) → Any (λ b. is_other a b ≡ true) (a ∷ rest) → IsFlat (a ∷ rest)
line_flat a rest h (j, b, jlt, at, e) =
    let u : V3 = vector_difference b a in
    let some : u ≢ zero_vector = not_zero u (not_true _ e) in
    let side = aside u some in
    record {
      plane = plane_of side.0 a;
      direction = side.1.direction;
      holds = λ k d lt.
          let c : V3 = slice_index_or (a ∷ rest) k d in
          let line : normal_of a b c ≡ zero_vector = subst (λ (x : V3). normal_of a x c ≡ zero_vector) at (h 0 a (omega arith) j b jlt k d lt) in
          along side.0 a c (side.1.right (vector_difference c a) line);
    }

pub collinear_flat : (points : List V3) → AreCollinear points → IsFlat points
collinear_flat [] h = record { plane = plane_of right_vector zero_vector; direction = right_some; holds = λ k d lt. absurd (omega arith) }
collinear_flat (a ∷ rest) h = elim (any_or_none (is_other a) (a ∷ rest)) [
  | inl other ↦ line_flat a rest h other
  | inr same ↦ record {
    plane = plane_of right_vector a;
    direction = right_some;
    holds = λ k d lt. same_holds a (slice_index_or (a ∷ rest) k d) (zero_read _ (not_false _ (same k d lt)));
  }
]

pub passes_flat : (points : List V3) → is_flat points ≡ true → IsFlat points
passes_flat points h = elim (any_or_none (bends_from points) points) [
  | inl bent ↦ bent_flat points h bent
  | inr none ↦ collinear_flat points (straight points none)
]

-- the fault `Flat`
face_not_flat : (b c : Bool) (face : ℕ) (rest : Option ShapeFault) → (rest ≡ Some Flat → ⊥) → cond b (Some (NotPlanar face)) (cond c (Some (NotConvex face)) rest) ≡ Some Flat → ⊥
face_not_flat true c face rest k e = cc
face_not_flat false true face rest k e = cc
face_not_flat false false face rest k e = k e

faces_not_flat : (v : List V3) (faces : List ℕ) → first_fault (flat_map (face_cases v) faces) ≡ Some Flat → ⊥
faces_not_flat v [] e = cc
faces_not_flat v (face ∷ faces) e = face_not_flat _ _ face (first_fault (flat_map (face_cases v) faces)) (faces_not_flat v faces) e

flat_first : (b : Bool) (rest : Option ShapeFault) → (rest ≡ Some Flat → ⊥) → cond b (Some Flat) rest ≡ Some Flat → b ≡ true
flat_first true rest k e = refl
flat_first false rest k e = absurd (k e)

pub flat_fault : (v : List V3) → (first_fault (cases_of v) ≡ Some Flat) ↔ IsFlat v
flat_fault v = (
  λ e. passes_flat v (flat_first (is_flat v) _ (faces_not_flat v (1 ∷ 2 ∷ 3 ∷ 4 ∷ 5 ∷ 6 ∷ [])) e),
  λ flat. ap (λ (b : Bool). cond b (Some Flat) (first_fault (flat_map (face_cases v) (1 ∷ 2 ∷ 3 ∷ 4 ∷ 5 ∷ 6 ∷ [])))) (flat_passes v flat),
)

-- what an answer owes, by the first fault
pub fault_flat : (v : List V3) (T : Type 0) (fault : ShapeFault) → Some fault ≡ first_fault (cases_of v) → (◌≡◌ {A = Result T ShapeFault} (Err fault) (Err Flat)) ↔ IsFlat v
fault_flat v T fault found = (
  λ e. let same : fault ≡ Flat = cc in (flat_fault v).0 (sym found ∙ ap (λ (f : ShapeFault). Some f) same),
  λ flat. let same : Some fault ≡ Some Flat = found ∙ (flat_fault v).1 flat in cc,
)

pub none_flat : (v : List V3) (T : Type 0) (value : T) → None ≡ first_fault (cases_of v) → (◌≡◌ {A = Result T ShapeFault} (Ok value) (Err Flat)) ↔ IsFlat v
none_flat v T value found = (
  λ e. cc,
  λ flat. absurd (let different : None ≡ Some Flat = found ∙ (flat_fault v).1 flat in cc),
)

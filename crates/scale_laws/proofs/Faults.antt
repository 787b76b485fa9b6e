-- Larger vertices have the same faults.
use Rattle.std.proofs.Common.{◌≡◌, ◌<◌, ◌∙◌, ℕ, pos, List, [], ◌∷◌, map, refl, ap, Bool, ◌&&◌, not, Option, Some, None}
use Rattle.std.specs.List.{list_all, list_any, flat_map}
use Rattle.std.specs.Ordering.{is_lt, is_eq}
use Rattle.lattice_core.specs.declared.vector.V3.{V3}
use Rattle.lattice_core.specs.Vectors.{scaled}
use Rattle.plane_geom.specs.declared.plane.Plane.{Plane}
use Rattle.plane_geom.specs.declared.fault.ShapeFault.TheVariants.{Flat, NotPlanar, NotConvex}
use Rattle.plane_geom.specs.Planes.{plane_through}
use Rattle.prim_arb8.specs.Points.{lies_in, lies_beyond, lies_before, are_all_in, are_coplanar_with, are_coplanar_from, is_flat}
use Rattle.prim_arb8.specs.Faces.{corners_of, face_plane, parts, case_of, first_fault, face_cases, cases_of}
use Rattle.solid_set.specs.Larger.{IsLargerSide}
use Rattle.scale_laws.specs.ModelLaws.{FaultsStay}
use Rattle.solid_set.proofs.ScaledSolids.{height_same, any_moved, beyond_same, corners_scaled, through_larger, face_larger}

all_moved : {X Y : Type 0} (f : Y → Bool) (g : X → Bool) (carry : X → Y) (xs : List X) → ((x : X) → f (carry x) ≡ g x) → list_all f (map carry xs) ≡ list_all g xs
all_moved f g carry [] h = refl
all_moved f g carry (x ∷ xs) h = ap (λ b. b && list_all f (map carry xs)) (h x) ∙ ap (λ b. g x && b) (all_moved f g carry xs h)

all_in_same : (m : ℕ) (side larger : Option Plane) (points : List V3) → 0 < m → IsLargerSide m side larger → are_all_in larger (map (scaled (pos m)) points) ≡ are_all_in side points
all_in_same m None None points some h = refl
all_in_same m None (Some y) points some h = absurd h
all_in_same m (Some x) None points some h = absurd h
all_in_same m (Some x) (Some y) points some h = all_moved (lies_in y) (lies_in x) (scaled (pos m)) points (λ p. ap is_eq (height_same m x y p some h))

-- ---- flat
module _ (m : ℕ) (points : List V3) (some : 0 < m) where
  abbrev far : V3 → V3
  far = scaled (pos m)

  with_same : (a b : V3) → are_coplanar_with (far a) (far b) (map far points) ≡ are_coplanar_with a b points
  with_same a b =
      all_moved (λ c. are_all_in (plane_through (far a) (far b) c) (map far points)) (λ c. are_all_in (plane_through a b c) points) far points
      (λ c. all_in_same m (plane_through a b c) (plane_through (far a) (far b) (far c)) points some (through_larger m a b c some))

  from_same : (a : V3) → are_coplanar_from (far a) (map far points) ≡ are_coplanar_from a points
  from_same a = all_moved (λ b. are_coplanar_with (far a) b (map far points)) (λ b. are_coplanar_with a b points) far points (with_same a)

  flatness_same : is_flat (map far points) ≡ is_flat points
  flatness_same = all_moved (λ a. are_coplanar_from a (map far points)) (λ a. are_coplanar_from a points) far points from_same

-- ---- faces
parts_same : (m : ℕ) (side larger : Option Plane) (vs : List V3) → 0 < m → IsLargerSide m side larger → parts larger (map (scaled (pos m)) vs) ≡ parts side vs
parts_same m None None vs some h = refl
parts_same m None (Some y) vs some h = absurd h
parts_same m (Some x) None vs some h = absurd h
parts_same m (Some x) (Some y) vs some h =
    ap (λ b. b && list_any (lies_before y) (map (scaled (pos m)) vs)) (any_moved (lies_beyond y) (lies_beyond x) (scaled (pos m)) vs (λ p. beyond_same m x y p some h))
    ∙ ap (λ b. list_any (lies_beyond x) vs && b) (any_moved (lies_before y) (lies_before x) (scaled (pos m)) vs (λ p. ap is_lt (height_same m x y p some h)))

face_same : (m : ℕ) (vs : List V3) (face : ℕ) → 0 < m → face_cases (map (scaled (pos m)) vs) face ≡ face_cases vs face
face_same m vs face some =
    let ws = map (scaled (pos m)) vs in
    let side = face_plane (corners_of vs face) in
    let larger = face_plane (corners_of ws face) in
    let planar : are_all_in larger (corners_of ws face) ≡ are_all_in side (corners_of vs face) =
    ap (are_all_in larger) (corners_scaled (pos m) vs face) ∙ all_in_same m side larger (corners_of vs face) some (face_larger m vs face some) in
    ap (λ b. case_of (not b) (NotPlanar face) ∷ case_of (parts larger ws) (NotConvex face) ∷ []) planar
    ∙ ap (λ b. case_of (not (are_all_in side (corners_of vs face))) (NotPlanar face) ∷ case_of b (NotConvex face) ∷ []) (parts_same m side larger vs some (face_larger m vs face some))

abbrev faces : List ℕ
faces = 1 ∷ 2 ∷ 3 ∷ 4 ∷ 5 ∷ 6 ∷ []

cases_same : (m : ℕ) (vs : List V3) → 0 < m → cases_of (map (scaled (pos m)) vs) ≡ cases_of vs
cases_same m vs some =
    ap (λ b. case_of b Flat ∷ flat_map (face_cases (map (scaled (pos m)) vs)) faces) (flatness_same m vs some)
    ∙ (λ i. case_of (is_flat vs) Flat ∷ flat_map (λ face. face_same m vs face some i) faces)

pub faults_stay : FaultsStay
faults_stay m vertices some = ap first_fault (cases_same m vertices some)

-- A face at an end of a segment is crossed by the ray.
use Rattle.std.proofs.Common.{◌≡◌, ◌≢◌, ◌∙◌, ◌⊎◌, ℕ, suc, ◌+◌, ◌-◌, ◌≤◌, pos, Bool, true, false, cond, List, [], ◌∷◌, ◌++◌, Option, Some, None, refl, ap, sym, subst, inl, inr, arith}
use Rattle.std.specs.Prelude.{slice_index_or}
use Rattle.solid_set.specs.Levels.{IsEndFace}
use Rattle.std.proofs.lemmas.Int.{ints}
use Rattle.std.specs.List.{find}
use Rattle.lattice_core.specs.declared.ray.Ray.{Ray}
use Rattle.plane_geom.specs.declared.plane.Plane.{Plane}
use Rattle.plane_geom.specs.declared.plane.Crossing.{Crossing}
use Rattle.plane_geom.specs.declared.plane.Crossing.TheVariants.{Enters, Leaves, Holds, Misses}
use Rattle.plane_geom.specs.Planes.{IsCrossing, slope_on}
use Rattle.surd_order.specs.declared.position.Seg.{Seg}
use Rattle.solid_set.specs.declared.crossed.Crossed.{Crossed}
use Rattle.plane_geom.specs.Crossings.{crossing_of}
use Rattle.solid_set.specs.Crossings.{entered, left, entering_from, leaving_from, is_missed_by}
use Rattle.solid_set.specs.Segments.{face_or_none, segment_through}
use Rattle.plane_geom.proofs.Unique.{crossing_is}

-- the ray crosses the plane of a face
pub record IsCut (ray : Ray) (n : ℕ) (sides : List (Option Plane)) (face : ℕ) : Type 0 where
  pub plane : Plane
  pub from : n ≤ face
  pub is : slice_index_or sides (face - n) None ≡ Some plane
  pub steep : slope_on plane ray ≢ pos 0

-- 0, or the number of a face that the ray crosses
abbrev pub IsCutOrNone : Ray → ℕ → List (Option Plane) → ℕ → Type 0
IsCutOrNone ray n sides face = (face ≡ 0) ⊎ IsCut ray n sides face

later_side : (side : Option Plane) (sides : List (Option Plane)) (n face : ℕ) (o : Option Plane) → n + 1 ≤ face → slice_index_or sides (face - (n + 1)) None ≡ o → slice_index_or (side ∷ sides) (face - n) None ≡ o
later_side side sides n face o le e =
    let one : face - n ≡ suc (face - (n + 1)) = omega arith in
    subst (λ (k : ℕ). slice_index_or (side ∷ sides) k None ≡ o) (sym one) e

cut_later : (ray : Ray) (n : ℕ) (side : Option Plane) (sides : List (Option Plane)) (face : ℕ) → IsCutOrNone ray (n + 1) sides face → IsCutOrNone ray n (side ∷ sides) face
cut_later ray n side sides face (inl e) = inl e
cut_later ray n side sides face (inr h) = inr (record { plane = h.plane; from = omega (arith, h.from); is = later_side side sides n face (Some h.plane) h.from h.is; steep = h.steep })

cut_here : (ray : Ray) (n : ℕ) (plane : Plane) (sides : List (Option Plane)) → slope_on plane ray ≢ pos 0 → IsCutOrNone ray n (Some plane ∷ sides) n
cut_here ray n plane sides steep =
    let none : n - n ≡ 0 = omega arith in
    inr (record { plane = plane; from = omega arith; is = ap (λ (k : ℕ). slice_index_or (Some plane ∷ sides) k None) none; steep = steep })

pub found_cut : (ray : Ray) (n : ℕ) (sides : List (Option Plane)) (b : Bool) (c : Crossed) (o : Option Crossed) → IsCutOrNone ray n sides c.face → IsCutOrNone ray n sides (face_or_none o)
    → IsCutOrNone ray n sides (face_or_none (cond b (Some c) o))
found_cut ray n sides true c o h g = h
found_cut ray n sides false c o h g = g

entered_cut : (ray : Ray) (n : ℕ) (plane : Plane) (sides : List (Option Plane)) (test : Crossed → Bool) (rest : List Crossed) (c : Crossing) → IsCrossing plane ray c
    → IsCutOrNone ray n (Some plane ∷ sides) (face_or_none (find test rest)) → IsCutOrNone ray n (Some plane ∷ sides) (face_or_none (find test (entered n c ++ rest)))
entered_cut ray n plane sides test rest (Enters r s) h more =
    found_cut ray n (Some plane ∷ sides) (test _) _ (find test rest) (cut_here ray n plane sides (λ flat. omega (arith, ints, h.1, h.2, flat))) more
entered_cut ray n plane sides test rest (Leaves r s) h more = more
entered_cut ray n plane sides test rest Holds h more = more
entered_cut ray n plane sides test rest Misses h more = more

left_cut : (ray : Ray) (n : ℕ) (plane : Plane) (sides : List (Option Plane)) (test : Crossed → Bool) (rest : List Crossed) (c : Crossing) → IsCrossing plane ray c
    → IsCutOrNone ray n (Some plane ∷ sides) (face_or_none (find test rest)) → IsCutOrNone ray n (Some plane ∷ sides) (face_or_none (find test (left n c ++ rest)))
left_cut ray n plane sides test rest (Enters r s) h more = more
left_cut ray n plane sides test rest (Leaves r s) h more =
    found_cut ray n (Some plane ∷ sides) (test _) _ (find test rest) (cut_here ray n plane sides (λ flat. omega (arith, ints, h.1, h.2, flat))) more
left_cut ray n plane sides test rest Holds h more = more
left_cut ray n plane sides test rest Misses h more = more

pub entering_cut : (ray : Ray) (test : Crossed → Bool) (n : ℕ) (sides : List (Option Plane)) → IsCutOrNone ray n sides (face_or_none (find test (entering_from ray n sides)))
entering_cut ray test n [] = inl refl
entering_cut ray test n (None ∷ sides) = cut_later ray n None sides _ (entering_cut ray test (n + 1) sides)
entering_cut ray test n (Some plane ∷ sides) =
    entered_cut ray n plane sides test (entering_from ray (n + 1) sides) (crossing_of plane ray) (crossing_is plane ray)
    (cut_later ray n (Some plane) sides _ (entering_cut ray test (n + 1) sides))

pub leaving_cut : (ray : Ray) (test : Crossed → Bool) (n : ℕ) (sides : List (Option Plane)) → IsCutOrNone ray n sides (face_or_none (find test (leaving_from ray n sides)))
leaving_cut ray test n [] = inl refl
leaving_cut ray test n (None ∷ sides) = cut_later ray n None sides _ (leaving_cut ray test (n + 1) sides)
leaving_cut ray test n (Some plane ∷ sides) =
    left_cut ray n plane sides test (leaving_from ray (n + 1) sides) (crossing_of plane ray) (crossing_is plane ray)
    (cut_later ray n (Some plane) sides _ (leaving_cut ray test (n + 1) sides))

pub both_cut : (b : Bool) (P : ℕ → Type 0) (seg : Seg) (face : ℕ) → P seg.start_face → P seg.end_face → IsEndFace face (cond b (Some seg) None) → P face
both_cut true P seg face h g at = elim at [ inl e ↦ subst P (sym e) h | inr e ↦ subst P (sym e) g ]
both_cut false P seg face h g at = absurd at

pub none_cut : (b : Bool) (P : ℕ → Type 0) (o : Option Seg) (face : ℕ) → (IsEndFace face o → P face) → IsEndFace face (cond b None o) → P face
none_cut true P o face h at = absurd at
none_cut false P o face h at = h at

pub segment_cut : (ray : Ray) (sides : List (Option Plane)) (face : ℕ) → IsEndFace face (segment_through sides ray) → IsCutOrNone ray 1 sides face
segment_cut ray sides face at =
    none_cut (is_missed_by ray sides) (IsCutOrNone ray 1 sides) _ face
    (λ at'. both_cut _ (IsCutOrNone ray 1 sides) _ face (entering_cut ray _ 1 sides) (leaving_cut ray _ 1 sides) at') at

pub steep_at : (ray : Ray) (sides : List (Option Plane)) (face : ℕ) (plane : Plane) → face ≢ 0 → IsCutOrNone ray 1 sides face → slice_index_or sides (face - 1) None ≡ Some plane → slope_on plane ray ≢ pos 0
steep_at ray sides face plane some (inl none) e = absurd (some none)
steep_at ray sides face plane some (inr h) e =
    let same : h.plane ≡ plane = let both : Some h.plane ≡ Some plane = sym h.is ∙ e in cc in
    subst (λ (p : Plane). slope_on p ray ≢ pos 0) same h.steep

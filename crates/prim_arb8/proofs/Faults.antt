-- The first fault of a list of cases, face by face.
use Rattle.std.proofs.Common.{zero, suc, ◌≡◌, ◌∙◌, ℕ, ◌+◌, ◌-◌, ◌<◌, ◌≤◌, Bool, true, false, cond, List, [], ◌∷◌, ◌++◌, Option, Some, None, refl, ap, arith}
use Rattle.std.specs.List.{flat_map}
use Rattle.lattice_core.specs.declared.vector.V3.{V3}
use Rattle.plane_geom.specs.declared.fault.ShapeFault.{ShapeFault}
use Rattle.plane_geom.specs.declared.fault.ShapeFault.TheVariants.{Flat}
use Rattle.prim_arb8.specs.Points.{is_flat}
use Rattle.prim_arb8.specs.Faces.{Case, first_fault, face_cases, cases_of}

skip : (b : Bool) (f : ShapeFault) (rest more end : Option ShapeFault) → (rest ≡ None → more ≡ end) → cond b (Some f) rest ≡ None → cond b (Some f) more ≡ end
skip true f rest more end k h = cc
skip false f rest more end k h = k h

append_none : (xs ys : List Case) → first_fault xs ≡ None → first_fault (xs ++ ys) ≡ first_fault ys
append_none [] ys h = refl
append_none (c ∷ xs) ys h = skip c.holds c.fault (first_fault xs) (first_fault (xs ++ ys)) (first_fault ys) (append_none xs ys) h

keep : (b : Bool) (f g : ShapeFault) (rest more : Option ShapeFault) → (rest ≡ Some g → more ≡ Some g) → cond b (Some f) rest ≡ Some g → cond b (Some f) more ≡ Some g
keep true f g rest more k h = h
keep false f g rest more k h = k h

append_some : (xs ys : List Case) (g : ShapeFault) → first_fault xs ≡ Some g → first_fault (xs ++ ys) ≡ Some g
append_some [] ys g h = cc
append_some (c ∷ xs) ys g h = keep c.holds c.fault g (first_fault xs) (first_fault (xs ++ ys)) (append_some xs ys g) h

-- the numbers from one on
abbrev pub upward : ℕ → ℕ → List ℕ
upward zero face = []
upward (suc n) face = face ∷ upward n (face + 1)

-- the first fault of the faces that are left
abbrev pub fault_from : List V3 → ℕ → Option ShapeFault
fault_from v face = first_fault (flat_map (face_cases v) (upward (7 - face) face))

pub faults_start : (v : List V3) → is_flat v ≡ false → first_fault (cases_of v) ≡ fault_from v 1
faults_start v e = ap (λ (b : Bool). cond b (Some Flat) (fault_from v 1)) e

pub faults_next : (v : List V3) (face : ℕ) → face < 7 → first_fault (face_cases v face) ≡ None → fault_from v face ≡ fault_from v (face + 1)
faults_next v face lt none =
    let e : 7 - face ≡ suc (7 - (face + 1)) = omega arith in
    ap (λ (n : ℕ). first_fault (flat_map (face_cases v) (upward n face))) e
    ∙ append_none (face_cases v face) (flat_map (face_cases v) (upward (7 - (face + 1)) (face + 1))) none

pub faults_found : (v : List V3) (face : ℕ) (g : ShapeFault) → face < 7 → first_fault (face_cases v face) ≡ Some g → fault_from v face ≡ Some g
faults_found v face g lt some =
    let e : 7 - face ≡ suc (7 - (face + 1)) = omega arith in
    ap (λ (n : ℕ). first_fault (flat_map (face_cases v) (upward n face))) e
    ∙ append_some (face_cases v face) (flat_map (face_cases v) (upward (7 - (face + 1)) (face + 1))) g some

pub faults_end : (v : List V3) (face : ℕ) → 7 ≤ face → fault_from v face ≡ None
faults_end v face le =
    let e : 7 - face ≡ 0 = omega arith in
    ap (λ (n : ℕ). first_fault (flat_map (face_cases v) (upward n face))) e

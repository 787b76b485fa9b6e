-- What runs along an axis, and the unit vector of what does.
use Rattle.std.proofs.Common.{◌≡◌, ◌≢◌, ◌↔◌, ◌∙◌, suc, ℤ, pos, ◌*ℤ◌, Bool, cond, ap, sym, inl, inr, arith}
use Rattle.std.proofs.lemmas.Int.{ints}
use Rattle.std.proofs.lemmas.Bool.Decides.{Decides-int_eq}
use Rattle.std.specs.Ordering.{int_eq}
use Rattle.lattice_core.specs.declared.vector.V3.{V3}
use Rattle.plane_geom.specs.Chords.{length_squared, scaled}
use Rattle.prim_rcc.specs.declared.axis.Axis.{Axis}
use Rattle.prim_rcc.specs.declared.axis.Axis.TheVariants.{X, Y, Z}
use Rattle.prim_rcc.specs.Axes.{HasOneComponent, IsAlong, axis_of, unit_along}
use Rattle.prim_rcc.specs.Laws.{PointsAs, VectorsRunAlongAxes}
use Rattle.prim_rcc.proofs.Axial.{axial_from, axial_unit, axial_scaled, unit_length, none_two, not_equal}

square_gone : (z : ℤ) → z ≡ pos 0 → z *ℤ z ≡ pos 0
square_gone z e = ap (λ (y : ℤ). y *ℤ y) e

along_x : (v : V3) → IsAlong X v ↔ ((v.y ≡ pos 0) × (v.z ≡ pos 0))
along_x v = (λ h. none_two v.y v.z (omega (arith, ints, h)), λ h. omega (arith, ints, square_gone v.y h.0, square_gone v.z h.1))

along_y : (v : V3) → IsAlong Y v ↔ ((v.x ≡ pos 0) × (v.z ≡ pos 0))
along_y v = (λ h. none_two v.x v.z (omega (arith, ints, h)), λ h. omega (arith, ints, square_gone v.x h.0, square_gone v.z h.1))

along_z : (v : V3) → IsAlong Z v ↔ ((v.x ≡ pos 0) × (v.y ≡ pos 0))
along_z v = (λ h. none_two v.x v.y (omega (arith, ints, h)), λ h. omega (arith, ints, square_gone v.x h.0, square_gone v.y h.1))

axis_x : (v : V3) → v.x ≢ pos 0 → axis_of v ≡ X
axis_x v some = ap (λ (t : Bool). cond t (cond (int_eq v.y (pos 0)) Z Y) X) (not_equal v.x (pos 0) some)

axis_y : (v : V3) → v.x ≡ pos 0 → v.y ≢ pos 0 → axis_of v ≡ Y
axis_y v none some =
    ap (λ (t : Bool). cond t (cond (int_eq v.y (pos 0)) Z Y) X) ((Decides-int_eq v.x (pos 0)).1 none)
    ∙ ap (λ (t : Bool). cond t Z Y) (not_equal v.y (pos 0) some)

axis_z : (v : V3) → v.x ≡ pos 0 → v.y ≡ pos 0 → axis_of v ≡ Z
axis_z v none also_none =
    ap (λ (t : Bool). cond t (cond (int_eq v.y (pos 0)) Z Y) X) ((Decides-int_eq v.x (pos 0)).1 none)
    ∙ ap (λ (t : Bool). cond t Z Y) ((Decides-int_eq v.y (pos 0)).1 also_none)

runs_along : (v : V3) (axis : Axis) → HasOneComponent v → IsAlong axis v ↔ (axis ≡ axis_of v)
runs_along v X (inl h) = (λ along. sym (axis_x v h.0), λ e. (along_x v).1 (h.1, h.2))
runs_along v Y (inl h) = (λ along. absurd (h.0 ((along_y v).0 along).0), λ e. absurd (let f : Y ≡ X = e ∙ axis_x v h.0 in cc))
runs_along v Z (inl h) = (λ along. absurd (h.0 ((along_z v).0 along).0), λ e. absurd (let f : Z ≡ X = e ∙ axis_x v h.0 in cc))
runs_along v X (inr (inl h)) = (λ along. absurd (h.1 ((along_x v).0 along).0), λ e. absurd (let f : X ≡ Y = e ∙ axis_y v h.0 h.1 in cc))
runs_along v Y (inr (inl h)) = (λ along. sym (axis_y v h.0 h.1), λ e. (along_y v).1 (h.0, h.2))
runs_along v Z (inr (inl h)) = (λ along. absurd (h.1 ((along_z v).0 along).1), λ e. absurd (let f : Z ≡ Y = e ∙ axis_y v h.0 h.1 in cc))
runs_along v X (inr (inr h)) = (λ along. absurd (h.2 ((along_x v).0 along).1), λ e. absurd (let f : X ≡ Z = e ∙ axis_z v h.0 h.1 in cc))
runs_along v Y (inr (inr h)) = (λ along. absurd (h.2 ((along_y v).0 along).1), λ e. absurd (let f : Y ≡ Z = e ∙ axis_z v h.0 h.1 in cc))
runs_along v Z (inr (inr h)) = (λ along. sym (axis_z v h.0 h.1), λ e. (along_z v).1 (h.0, h.1))

points_as : (v : V3) → HasOneComponent v → PointsAs v (unit_along v)
points_as v h =
    let a = axial_from v h in
    let is = ap unit_along a.is ∙ axial_unit a.dir a.n in
    record {
      length_one = ap length_squared is ∙ unit_length a.dir;
      less_one = a.n;
      times = a.is ∙ axial_scaled a.dir a.n ∙ sym (ap (λ (u : V3). scaled u (pos (suc a.n))) is);
    }

pub vectors_run_along_axes : VectorsRunAlongAxes
vectors_run_along_axes = record { axis = runs_along; unit = points_as }

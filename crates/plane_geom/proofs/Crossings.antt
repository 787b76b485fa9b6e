-- What each answer of a crossing owes.
use Rattle.std.proofs.Common.{◌≡◌, ◌∙◌, ℤ, pos, ◌-ℤ◌, ◌*ℤ◌, ◌<ℤ◌, sym, inl, inr, arith, ap}
use Rattle.std.proofs.lemmas.Int.{ints}
use Rattle.std.proofs.Math.IntN.{neg_ℤ, *ℤ_comm}
use Rattle.lattice_core.specs.declared.ray.Ray.{Ray}
use Rattle.lattice_core.proofs.Products.{mul_neg}
use Rattle.plane_geom.proofs.Cross.{sub_mul}
use Rattle.plane_geom.specs.declared.plane.Plane.{Plane}
use Rattle.plane_geom.specs.declared.plane.Crossing.TheVariants.{Enters, Leaves, Holds, Misses}
use Rattle.plane_geom.specs.Edges.{HoldsAlong}
use Rattle.plane_geom.specs.Planes.{slope_on, start_on, IsCrossing}

pub leaves : (plane : Plane) (ray : Ray) (r s : ℤ) → r ≡ plane.d -ℤ start_on plane ray → s ≡ slope_on plane ray → pos 0 <ℤ s → IsCrossing plane ray (Leaves r s)
leaves plane ray r s re se some = (
  re,
  se,
  some,
  λ p q q_some.
      let h : ℤ = start_on plane ray in
      let gap : r *ℤ q ≡ (plane.d *ℤ q) -ℤ (start_on plane ray *ℤ q) = ap (λ (z : ℤ). z *ℤ q) re ∙ sub_mul plane.d (start_on plane ray) q in
      let turn : slope_on plane ray *ℤ p ≡ p *ℤ s = *ℤ_comm (slope_on plane ray) p ∙ ap (λ (z : ℤ). p *ℤ z) (sym se) in (
        λ holds. elim holds [
          | inl l ↦ omega (arith, ints, l.1, gap, turn)
          | inr e ↦ absurd (omega (arith, ints, e.0, se, some))
        ],
        λ le. inl ((λ e. absurd (omega (arith, ints, e, se, some))), omega (arith, ints, le, gap, turn)),
      ),
)

pub enters : (plane : Plane) (ray : Ray) (r s : ℤ) → r ≡ start_on plane ray -ℤ plane.d → s ≡ pos 0 -ℤ slope_on plane ray → pos 0 <ℤ s → IsCrossing plane ray (Enters r s)
enters plane ray r s re se some = (
  re,
  se,
  some,
  λ p q q_some.
      let gap : r *ℤ q ≡ (start_on plane ray *ℤ q) -ℤ (plane.d *ℤ q) = ap (λ (z : ℤ). z *ℤ q) re ∙ sub_mul (start_on plane ray) plane.d q in
      let minus : s ≡ neg_ℤ (slope_on plane ray) = omega (arith, ints, se) in
      let turn : p *ℤ s ≡ neg_ℤ (slope_on plane ray *ℤ p) = ap (λ (z : ℤ). p *ℤ z) minus ∙ mul_neg p (slope_on plane ray) ∙ ap neg_ℤ (*ℤ_comm p (slope_on plane ray)) in (
        λ holds. elim holds [
          | inl l ↦ omega (arith, ints, l.1, gap, turn)
          | inr e ↦ absurd (omega (arith, ints, e.0, se, some))
        ],
        λ le. inl ((λ e. absurd (omega (arith, ints, e, se, some))), omega (arith, ints, le, gap, turn)),
      ),
)

pub holds : (plane : Plane) (ray : Ray) (gap : ℤ) → gap ≡ plane.d -ℤ start_on plane ray → slope_on plane ray ≡ pos 0 → HoldsAlong plane.n gap → IsCrossing plane ray Holds
holds plane ray gap ge flat along = λ p q some.
    inr (
      flat,
      elim along [
        | inl over ↦ inl (omega (arith, ints, over, ge))
        | inr edge ↦ inr (omega (arith, ints, edge.0, ge), edge.1)
      ],
    )

pub misses : (plane : Plane) (ray : Ray) (gap : ℤ) → gap ≡ plane.d -ℤ start_on plane ray → slope_on plane ray ≡ pos 0 → ¬ HoldsAlong plane.n gap → IsCrossing plane ray Misses
misses plane ray gap ge flat none = λ p q some held.
    elim held [
      | inl steep ↦ absurd (steep.0 flat)
      | inr along ↦ elim along.1 [
        | inl over ↦ none (inl (omega (arith, ints, over, ge)))
        | inr edge ↦ none (inr (omega (arith, ints, edge.0, ge), edge.1))
      ]
    ]

-- A fraction at most a position: so is each lower fraction, and each fraction is or is not.
use Rattle.std.proofs.Common.{◌≡◌, ◌⊎◌, ℤ, pos, negsuc, ◌-ℤ◌, ◌*ℤ◌, ◌<ℤ◌, ◌≤ℤ◌, arith, inl, inr, true, false}
use Rattle.std.proofs.lemmas.Int.{ints}
use Rattle.wide_core.proofs.Products.{mul_swap, mul_at_most, mul_below, sub_mul}
use Rattle.surd_order.specs.declared.position.Pos.{Pos}
use Rattle.surd_order.specs.declared.position.Pos.TheVariants.{Frac, Surd}
use Rattle.surd_order.specs.AtMost.{AtMost}
use Rattle.surd_order.specs.Order.{IsPlace}
use Rattle.surd_order.proofs.RootLaws.{int_cases, root_down, root_up, at_most_root_or_not, at_least_root_or_not}

pub at_most_or_not : (p q : ℤ) (x : Pos) → AtMost p q x ⊎ ¬ (AtMost p q x)
at_most_or_not p q (Frac r s) = elim (int_cases (p *ℤ s) (r *ℤ q)) [ inl le ↦ inl le | inr gt ↦ inr (λ le. omega (arith, ints)) ]
at_most_or_not p q (Surd a true k) = at_most_root_or_not _ _
at_most_or_not p q (Surd a false k) = at_least_root_or_not _ _

fractions_down : (p q p' q' r s : ℤ) → pos 0 <ℤ q → pos 0 <ℤ q' → pos 0 <ℤ s → (p *ℤ q') ≤ℤ (p' *ℤ q) → (p' *ℤ s) ≤ℤ (r *ℤ q') → (p *ℤ s) ≤ℤ (r *ℤ q)
fractions_down p q p' q' r s some some' whole le root =
    elim (int_cases (p *ℤ s) (r *ℤ q)) [
      | inl good ↦ good
      | inr over ↦ absurd (
          let one : ((p *ℤ q') *ℤ s) ≤ℤ ((p' *ℤ q) *ℤ s) = mul_at_most _ _ s (omega (arith, ints)) le in
          let two : ((p' *ℤ s) *ℤ q) ≤ℤ ((r *ℤ q') *ℤ q) = mul_at_most _ _ q (omega (arith, ints)) root in
          let three : ((r *ℤ q) *ℤ q') <ℤ ((p *ℤ s) *ℤ q') = mul_below _ _ q' some' over in
          omega (arith, ints, mul_swap p q' s, mul_swap p' q s, mul_swap r q' q))
    ]

-- a fraction that is no greater than one that is at most a position is at most it
pub at_most_down : (x : Pos) (p q p' q' : ℤ) → IsPlace x → pos 0 <ℤ q → pos 0 <ℤ q' → (p *ℤ q') ≤ℤ (p' *ℤ q) → AtMost p' q' x → AtMost p q x
at_most_down x p (negsuc q) p' q' place some some' le h = absurd (omega (arith, ints))
at_most_down x p (pos q) p' (negsuc q') place some some' le h = absurd (omega (arith, ints))
at_most_down (Frac r s) p (pos q) p' (pos q') place some some' le h = fractions_down p (pos q) p' (pos q') r s some some' place le h
at_most_down (Surd a true k) p (pos q) p' (pos q') place some some' le h =
    let left : (p -ℤ (a *ℤ pos q)) *ℤ pos q' ≡ (p *ℤ pos q') -ℤ ((a *ℤ pos q) *ℤ pos q') = sub_mul p (a *ℤ pos q) (pos q') in
    let right : (p' -ℤ (a *ℤ pos q')) *ℤ pos q ≡ (p' *ℤ pos q) -ℤ ((a *ℤ pos q') *ℤ pos q) = sub_mul p' (a *ℤ pos q') (pos q) in
    let all : ((p -ℤ (a *ℤ pos q)) *ℤ pos q') ≤ℤ ((p' -ℤ (a *ℤ pos q')) *ℤ pos q) = omega (arith, ints, left, right, mul_swap a (pos q) (pos q')) in
    root_down (p -ℤ (a *ℤ pos q)) (p' -ℤ (a *ℤ pos q')) q q' k (omega (arith, ints)) (omega (arith, ints)) all h
at_most_down (Surd a false k) p (pos q) p' (pos q') place some some' le h =
    let left : ((a *ℤ pos q) -ℤ p) *ℤ pos q' ≡ ((a *ℤ pos q) *ℤ pos q') -ℤ (p *ℤ pos q') = sub_mul (a *ℤ pos q) p (pos q') in
    let right : ((a *ℤ pos q') -ℤ p') *ℤ pos q ≡ ((a *ℤ pos q') *ℤ pos q) -ℤ (p' *ℤ pos q) = sub_mul (a *ℤ pos q') p' (pos q) in
    let all : (((a *ℤ pos q') -ℤ p') *ℤ pos q) ≤ℤ (((a *ℤ pos q) -ℤ p) *ℤ pos q') = omega (arith, ints, left, right, mul_swap a (pos q) (pos q')) in
    root_up ((a *ℤ pos q) -ℤ p) ((a *ℤ pos q') -ℤ p') q q' k (omega (arith, ints)) (omega (arith, ints)) all h

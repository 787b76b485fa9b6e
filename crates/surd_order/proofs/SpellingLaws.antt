-- The one spelling of a fraction.
use Rattle.std.proofs.Common.{◌≡◌, ◌<◌, ◌≤◌, ◌+◌, ◌*◌, ◌/◌, ◌⊎◌, ◌∙◌, ℕ, ℤ, pos, negsuc, neg_ℤ, ◌*ℤ◌, ◌<ℤ◌, ◌≤ℤ◌, refl, ap, sym, subst, arith, inl, inr}
use Rattle.std.proofs.lemmas.Int.{ints}
use Rattle.std.specs.Int.{IsGcd}
use Rattle.std.specs.Int.RustNames.{unsigned_abs}
use Rattle.wide_core.proofs.Divisors.{same_lowest_terms}
use Rattle.surd_order.specs.declared.position.Pos.TheVariants.{Frac}
use Rattle.surd_order.specs.Order.{SamePlace}
use Rattle.surd_order.specs.Spelling.{IsSpelled}
use Rattle.surd_order.proofs.FractionOrder.{fraction_before}
use Rattle.surd_order.proofs.RootLaws.{int_cases}

-- at one place the cross products are one
pub cross_from_same : (a b c d : ℤ) → pos 0 <ℤ b → pos 0 <ℤ d → SamePlace (Frac a b) (Frac c d) → a *ℤ d ≡ c *ℤ b
cross_from_same a b c d some some' same =
    elim (int_cases (a *ℤ d) (c *ℤ b)) [
      | inl le ↦ elim (int_cases (c *ℤ b) (a *ℤ d)) [
        | inl ge ↦ omega (arith, ints)
        | inr lt ↦ absurd (same.not_before (fraction_before a b c d some' lt))
      ]
      | inr gt ↦ absurd (same.not_after (fraction_before c d a b some gt))
    ]

equal_terms : (a c : ℤ) (b d : ℕ) → 0 < b → 0 < d → IsGcd (unsigned_abs a) b 1 → IsGcd (unsigned_abs c) d 1 → a *ℤ pos d ≡ c *ℤ pos b → (a ≡ c) × (b ≡ d)
equal_terms (pos a) (pos c) b d some some' alone alone' cross =
    let same = same_lowest_terms a b c d some some' alone.2 alone'.2 (omega (arith, ints)) in (ap pos same.0, same.1)
equal_terms (pos a) (negsuc c) b d some some' alone alone' cross = absurd (omega (arith, ints))
equal_terms (negsuc a) (pos c) b d some some' alone alone' cross = absurd (omega (arith, ints))
equal_terms (negsuc a) (negsuc c) b d some some' alone alone' cross =
    let same = same_lowest_terms (Rattle.std.proofs.Common.suc a) b (Rattle.std.proofs.Common.suc c) d some some' alone.2 alone'.2 (omega (arith, ints)) in
    let e : a ≡ c = omega (arith, same.0) in (ap negsuc e, same.1)

-- two fractions in their one spelling, at one place, are one value
pub fractions_spelled_same : (a b c d : ℤ) → IsSpelled (Frac a b) → IsSpelled (Frac c d) → SamePlace (Frac a b) (Frac c d) → Frac a b ≡ Frac c d
fractions_spelled_same a (negsuc b) c d left right same = absurd (omega (arith, ints, left.0))
fractions_spelled_same a (pos b) c (negsuc d) left right same = absurd (omega (arith, ints, right.0))
fractions_spelled_same a (pos b) c (pos d) left right same =
    let cross : a *ℤ pos d ≡ c *ℤ pos b = cross_from_same a (pos b) c (pos d) left.0 right.0 same in
    let equal = equal_terms a c b d (omega (arith, ints, left.0)) (omega (arith, ints, right.0)) left.1 right.1 cross in
    let first : Frac a (pos b) ≡ Frac c (pos b) = ap (λ x. Frac x (pos b)) equal.0 in
    first ∙ ap (λ x. Frac c (pos x)) equal.1

-- The order of two fractions is that of their cross products.
use Rattle.std.proofs.Common.{◌≡◌, ◌⊎◌, ℤ, pos, ◌*ℤ◌, ◌<ℤ◌, arith, inl, inr}
use Rattle.std.proofs.lemmas.Int.{ints, by_lt_z}
use Rattle.std.specs.Ordering.{MatchOrdering}
use Rattle.std.specs.declared.cmp.Ordering.{Ordering}
use Rattle.std.specs.declared.cmp.Ordering.TheVariants.{Less, Equal, Greater}
use Rattle.surd_order.specs.declared.position.Pos.TheVariants.{Frac}
use Rattle.surd_order.specs.Order.{Precedes, SamePlace, IsOrderOf}
use Rattle.surd_order.proofs.OrderLaws.{before_fraction, not_before_fraction, order_from}

pub fraction_before : (a b c d : ℤ) → pos 0 <ℤ d → (a *ℤ d) <ℤ (c *ℤ b) → Precedes (Frac a b) (Frac c d)
fraction_before a b c d some lt = before_fraction (Frac a b) c d some (λ le. omega (arith, ints))

pub fractions_same : (a b c d : ℤ) → pos 0 <ℤ b → pos 0 <ℤ d → a *ℤ d ≡ c *ℤ b → SamePlace (Frac a b) (Frac c d)
fractions_same a b c d some some' same = record {
  not_before = not_before_fraction (Frac a b) c d some some' (omega (arith, ints));
  not_after = not_before_fraction (Frac c d) a b some' some (omega (arith, ints));
}

pub fractions_ordered : (a b c d : ℤ) (answer : Ordering) → pos 0 <ℤ b → pos 0 <ℤ d → MatchOrdering answer ((a *ℤ d) <ℤ (c *ℤ b)) (a *ℤ d ≡ c *ℤ b) ((c *ℤ b) <ℤ (a *ℤ d))
    → IsOrderOf answer (Frac a b) (Frac c d)
fractions_ordered a b c d Less some some' lt = order_from Less (Frac a b) (Frac c d) some some' (fraction_before a b c d some' lt)
fractions_ordered a b c d Equal some some' same = order_from Equal (Frac a b) (Frac c d) some some' (fractions_same a b c d some some' same)
fractions_ordered a b c d Greater some some' gt = order_from Greater (Frac a b) (Frac c d) some some' (fraction_before c d a b some gt)

pub fractions_outcome : (a b c d : ℤ) → pos 0 <ℤ b → pos 0 <ℤ d → Precedes (Frac a b) (Frac c d) ⊎ (SamePlace (Frac a b) (Frac c d) ⊎ Precedes (Frac c d) (Frac a b))
fractions_outcome a b c d some some' =
    by_lt_z (a *ℤ d) (c *ℤ b) (λ lt. inl (fraction_before a b c d some' lt))
    (λ ge. by_lt_z (c *ℤ b) (a *ℤ d) (λ gt. inr (inr (fraction_before c d a b some gt))) (λ le. inr (inl (fractions_same a b c d some some' (omega (arith, ints))))))

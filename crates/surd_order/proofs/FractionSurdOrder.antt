-- The order of a fraction p / q and a + √k is that of p - a q and √(k q²); that of p / q and a - √k is that of √(k q²) and a q - p.
use Rattle.std.proofs.Common.{◌≡◌, ◌<◌, ◌≤◌, ◌+◌, ◌*◌, ◌-◌, ◌∙◌, ℕ, ℤ, pos, negsuc, ◌+ℤ◌, ◌-ℤ◌, ◌*ℤ◌, ◌<ℤ◌, ◌≤ℤ◌, ap, sym, subst, arith, refl, inl, inr, true, false}
use Rattle.std.proofs.lemmas.Int.{ints}
use Rattle.std.proofs.lemmas.Nat.{mul-le}
use Rattle.std.proofs.lemmas.Bool.{cases_lt}
use Rattle.std.specs.Ordering.{ordering_reverse}
use Rattle.std.specs.declared.cmp.Ordering.{Ordering}
use Rattle.std.specs.declared.cmp.Ordering.TheVariants.{Less, Equal, Greater}
use Rattle.wide_core.proofs.Products.{mul_swap, add_mul, sub_mul}
use Rattle.surd_order.specs.declared.position.Pos.TheVariants.{Frac, Surd}
use Rattle.surd_order.specs.AtMost.{AtMost, IsAtLeastRoot}
use Rattle.surd_order.specs.Order.{Precedes, SamePlace, IsOrderOf}
use Rattle.surd_order.specs.Roots.{IsBelowRoot, IsRoot, IsAboveRoot, IsRootOrder}
use Rattle.surd_order.proofs.RootLaws.{above_not_at_most, below_not_at_least, root_at_most, root_at_least, root_top, root_bottom}
use Rattle.surd_order.proofs.OrderLaws.{before_fraction, not_before_fraction, order_from}

-- a little more than m / q is at most √k
above_square : (m n q k : ℕ) → m * m < k * (q * q) → n ≡ 2 * m + 1 → (m * n + 1) * (m * n + 1) ≤ k * ((q * n) * (q * n))
above_square m n q k gap n_is = omega (arith, mul-le (m * m + 1) (n * n) (k * (q * q)) (n * n) (omega (arith, gap)) (omega arith), ap (λ x. n * x) n_is)

-- a little less than m / q is at least √k
below_square : (m n u q k : ℕ) → k * (q * q) < m * m → n ≡ 2 * m → u + 1 ≡ m * n → k * ((q * n) * (q * n)) ≤ u * u
below_square m n u q k gap n_is u_is =
    omega (arith, mul-le (k * (q * q) + 1) (n * n) (m * m) (n * n) (omega (arith, gap)) (omega arith), ap (λ x. n * x) n_is, ap (λ x. x * x) u_is)

sum_after_natural : (p a : ℤ) (q m k : ℕ) → 0 < q → p ≡ (a *ℤ pos q) +ℤ pos m → m * m < k * (q * q) → Precedes (Frac p (pos q)) (Surd a true k)
sum_after_natural p a q m k some p_is gap =
    let n : ℕ = 2 * m + 1 in
    let far : ℤ = a *ℤ pos (q * n) in
    let square : (m * n + 1) * (m * n + 1) ≤ k * ((q * n) * (q * n)) = above_square m n q k gap refl in
    let over : (far +ℤ pos (m * n + 1)) -ℤ far ≡ pos (m * n + 1) = omega (arith, ints) in
    let left : (far +ℤ pos (m * n + 1)) *ℤ pos q ≡ (far *ℤ pos q) +ℤ pos ((m * n + 1) * q) = add_mul far (pos (m * n + 1)) (pos q) in
    let right : p *ℤ pos (q * n) ≡ ((a *ℤ pos q) *ℤ pos (q * n)) +ℤ pos (m * (q * n)) = ap (λ x. x *ℤ pos (q * n)) p_is ∙ add_mul (a *ℤ pos q) (pos m) (pos (q * n)) in
    let same : far *ℤ pos q ≡ (a *ℤ pos q) *ℤ pos (q * n) = mul_swap a (pos (q * n)) (pos q) in record {
      p = far +ℤ pos (m * n + 1);
      q = pos (q * n);
      positive = omega (arith, ints, mul-le 1 1 q n some (omega arith));
      within = inr (subst (λ (x : ℤ). (x *ℤ x) ≤ℤ (pos k *ℤ (pos (q * n) *ℤ pos (q * n)))) (sym over) (omega (arith, ints, square)));
      beyond = λ le. omega (arith, ints, left, right, same, some);
    }

sum_after_by : (p a m : ℤ) (q k : ℕ) → 0 < q → p ≡ (a *ℤ pos q) +ℤ m → IsBelowRoot m (pos (k * (q * q))) → Precedes (Frac p (pos q)) (Surd a true k)
sum_after_by p a (pos m) q k some p_is below =
    elim below [ inl low ↦ absurd (omega (arith, ints)) | inr square ↦ sum_after_natural p a q m k some p_is (omega (arith, ints)) ]
sum_after_by p a (negsuc m) q k some p_is below =
    let whole : a *ℤ pos 1 ≡ a = omega (arith, ints) in
    let itself : p *ℤ pos 1 ≡ p = omega (arith, ints) in
    record { p = a; q = pos 1; positive = omega (arith, ints); within = inl (omega (arith, ints, whole)); beyond = λ le. omega (arith, ints, itself, p_is) }

difference_after_natural : (p a : ℤ) (q m k : ℕ) → 0 < q → p ≡ (a *ℤ pos q) -ℤ pos m → k * (q * q) < m * m → Precedes (Frac p (pos q)) (Surd a false k)
difference_after_natural p a q m k some p_is gap =
    let more : 0 < m = elim (cases_lt 0 m) [ inl more ↦ more | inr none ↦ let m_is : m ≡ 0 = omega arith in absurd (omega (arith, gap, ap (λ x. x * m) m_is)) ] in
    let n : ℕ = 2 * m in
    let u : ℕ = m * n - 1 in
    let u_is : u + 1 ≡ m * n = omega (arith, mul-le 1 1 m n more (omega arith)) in
    let far : ℤ = a *ℤ pos (q * n) in
    let square : k * ((q * n) * (q * n)) ≤ u * u = below_square m n u q k gap refl u_is in
    let under : far -ℤ (far -ℤ pos u) ≡ pos u = omega (arith, ints) in
    let left : (far -ℤ pos u) *ℤ pos q ≡ (far *ℤ pos q) -ℤ pos (u * q) = sub_mul far (pos u) (pos q) in
    let right : p *ℤ pos (q * n) ≡ ((a *ℤ pos q) *ℤ pos (q * n)) -ℤ pos (m * (q * n)) = ap (λ x. x *ℤ pos (q * n)) p_is ∙ sub_mul (a *ℤ pos q) (pos m) (pos (q * n)) in
    let same : far *ℤ pos q ≡ (a *ℤ pos q) *ℤ pos (q * n) = mul_swap a (pos (q * n)) (pos q) in record {
      p = far -ℤ pos u;
      q = pos (q * n);
      positive = omega (arith, ints, mul-le 1 1 q n some (omega arith));
      within = subst (λ (x : ℤ). IsAtLeastRoot x (pos (k * ((q * n) * (q * n))))) (sym under) (omega (arith, ints), omega (arith, ints, square));
      beyond = λ le. omega (arith, ints, left, right, same, some, ap (λ x. x * q) u_is);
    }

pub sum_after : (p q a : ℤ) (k : ℕ) → pos 0 <ℤ q → IsBelowRoot (p -ℤ (a *ℤ q)) (pos k *ℤ (q *ℤ q)) → Precedes (Frac p q) (Surd a true k)
sum_after p (negsuc q) a k some below = absurd (omega (arith, ints))
sum_after p (pos q) a k some below = sum_after_by p a (p -ℤ (a *ℤ pos q)) q k (omega (arith, ints)) (omega (arith, ints)) below

pub sum_before : (p q a : ℤ) (k : ℕ) → pos 0 <ℤ q → IsAboveRoot (p -ℤ (a *ℤ q)) (pos k *ℤ (q *ℤ q)) → Precedes (Surd a true k) (Frac p q)
sum_before p (negsuc q) a k some above = absurd (omega (arith, ints))
sum_before p (pos q) a k some above = before_fraction (Surd a true k) p (pos q) some (above_not_at_most (p -ℤ (a *ℤ pos q)) (k * (q * q)) above)

difference_after_by : (p a m : ℤ) (q k : ℕ) → 0 < q → p ≡ (a *ℤ pos q) -ℤ m → IsAboveRoot m (pos (k * (q * q))) → Precedes (Frac p (pos q)) (Surd a false k)
difference_after_by p a (pos m) q k some p_is above = difference_after_natural p a q m k some p_is (omega (arith, ints, above.1))
difference_after_by p a (negsuc m) q k some p_is above = absurd (omega (arith, ints, above.0))

pub difference_after : (p q a : ℤ) (k : ℕ) → pos 0 <ℤ q → IsAboveRoot ((a *ℤ q) -ℤ p) (pos k *ℤ (q *ℤ q)) → Precedes (Frac p q) (Surd a false k)
difference_after p (negsuc q) a k some above = absurd (omega (arith, ints))
difference_after p (pos q) a k some above = difference_after_by p a ((a *ℤ pos q) -ℤ p) q k (omega (arith, ints)) (omega (arith, ints)) above

pub difference_before : (p q a : ℤ) (k : ℕ) → pos 0 <ℤ q → IsBelowRoot ((a *ℤ q) -ℤ p) (pos k *ℤ (q *ℤ q)) → Precedes (Surd a false k) (Frac p q)
difference_before p (negsuc q) a k some below = absurd (omega (arith, ints))
difference_before p (pos q) a k some below = before_fraction (Surd a false k) p (pos q) some (below_not_at_least ((a *ℤ pos q) -ℤ p) (k * (q * q)) below)

sum_at_most : (p a P : ℤ) (q Q k : ℕ) → 0 < q → 0 < Q → IsRoot (p -ℤ (a *ℤ pos q)) (pos (k * (q * q))) → AtMost P (pos Q) (Surd a true k) → (P *ℤ pos q) ≤ℤ (p *ℤ pos Q)
sum_at_most p a P q Q k some some' root within =
    let le : ((P -ℤ (a *ℤ pos Q)) *ℤ pos q) ≤ℤ ((p -ℤ (a *ℤ pos q)) *ℤ pos Q) = root_top (p -ℤ (a *ℤ pos q)) (P -ℤ (a *ℤ pos Q)) q Q k some some' root within in
    omega (arith, ints, sub_mul P (a *ℤ pos Q) (pos q), sub_mul p (a *ℤ pos q) (pos Q), mul_swap a (pos q) (pos Q))

pub sum_at : (p q a : ℤ) (k : ℕ) → pos 0 <ℤ q → IsRoot (p -ℤ (a *ℤ q)) (pos k *ℤ (q *ℤ q)) → SamePlace (Frac p q) (Surd a true k)
sum_at p (negsuc q) a k some root = absurd (omega (arith, ints))
sum_at p (pos q) a k some root = record {
  not_before = λ f. after p a q k (omega (arith, ints)) root f.p f.q f.positive f.within f.beyond;
  not_after = not_before_fraction (Surd a true k) p (pos q) tt some (root_at_most (p -ℤ (a *ℤ pos q)) (pos (k * (q * q))) root);
}
  where
    after : (p a : ℤ) (q k : ℕ) → 0 < q → IsRoot (p -ℤ (a *ℤ pos q)) (pos (k * (q * q))) → (P Q : ℤ) → pos 0 <ℤ Q → AtMost P Q (Surd a true k) → ¬ (AtMost P Q (Frac p (pos q))) → ⊥
    after p a q k some root P (negsuc Q) some' within beyond = omega (arith, ints)
    after p a q k some root P (pos Q) some' within beyond = beyond (sum_at_most p a P q Q k some (omega (arith, ints)) root within)

difference_at_most : (p a P : ℤ) (q Q k : ℕ) → 0 < q → 0 < Q → IsRoot ((a *ℤ pos q) -ℤ p) (pos (k * (q * q))) → AtMost P (pos Q) (Surd a false k) → (P *ℤ pos q) ≤ℤ (p *ℤ pos Q)
difference_at_most p a P q Q k some some' root within =
    let le : (((a *ℤ pos q) -ℤ p) *ℤ pos Q) ≤ℤ (((a *ℤ pos Q) -ℤ P) *ℤ pos q) = root_bottom ((a *ℤ pos q) -ℤ p) ((a *ℤ pos Q) -ℤ P) q Q k some some' root within in
    omega (arith, ints, sub_mul (a *ℤ pos Q) P (pos q), sub_mul (a *ℤ pos q) p (pos Q), mul_swap a (pos q) (pos Q))

pub difference_at : (p q a : ℤ) (k : ℕ) → pos 0 <ℤ q → IsRoot ((a *ℤ q) -ℤ p) (pos k *ℤ (q *ℤ q)) → SamePlace (Frac p q) (Surd a false k)
difference_at p (negsuc q) a k some root = absurd (omega (arith, ints))
difference_at p (pos q) a k some root = record {
  not_before = λ f. after p a q k (omega (arith, ints)) root f.p f.q f.positive f.within f.beyond;
  not_after = not_before_fraction (Surd a false k) p (pos q) tt some (root_at_least ((a *ℤ pos q) -ℤ p) (pos (k * (q * q))) root);
}
  where
    after : (p a : ℤ) (q k : ℕ) → 0 < q → IsRoot ((a *ℤ pos q) -ℤ p) (pos (k * (q * q))) → (P Q : ℤ) → pos 0 <ℤ Q → AtMost P Q (Surd a false k) → ¬ (AtMost P Q (Frac p (pos q))) → ⊥
    after p a q k some root P (negsuc Q) some' within beyond = omega (arith, ints)
    after p a q k some root P (pos Q) some' within beyond = beyond (difference_at_most p a P q Q k some (omega (arith, ints)) root within)

pub sum_ordered : (p q a : ℤ) (k : ℕ) (r : Ordering) → pos 0 <ℤ q → IsRootOrder r (p -ℤ (a *ℤ q)) (pos k *ℤ (q *ℤ q)) → IsOrderOf r (Frac p q) (Surd a true k)
sum_ordered p q a k Less some below = order_from Less (Frac p q) (Surd a true k) some tt (sum_after p q a k some below)
sum_ordered p q a k Equal some root = order_from Equal (Frac p q) (Surd a true k) some tt (sum_at p q a k some root)
sum_ordered p q a k Greater some above = order_from Greater (Frac p q) (Surd a true k) some tt (sum_before p q a k some above)

pub difference_ordered : (p q a : ℤ) (k : ℕ) (r : Ordering) → pos 0 <ℤ q → IsRootOrder r ((a *ℤ q) -ℤ p) (pos k *ℤ (q *ℤ q)) → IsOrderOf (ordering_reverse r) (Frac p q) (Surd a false k)
difference_ordered p q a k Less some below = order_from Greater (Frac p q) (Surd a false k) some tt (difference_before p q a k some below)
difference_ordered p q a k Equal some root = order_from Equal (Frac p q) (Surd a false k) some tt (difference_at p q a k some root)
difference_ordered p q a k Greater some above = order_from Less (Frac p q) (Surd a false k) some tt (difference_after p q a k some above)

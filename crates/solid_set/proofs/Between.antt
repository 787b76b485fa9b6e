-- Between two places lies a fraction.
use Rattle.std.proofs.Common.{◌≡◌, ◌<◌, ◌≤◌, ◌+◌, ◌*◌, ◌-◌, ℕ, ℤ, pos, negsuc, ◌+ℤ◌, ◌-ℤ◌, ◌*ℤ◌, ◌<ℤ◌, ◌≤ℤ◌, true, false, refl, ap, sym, subst, ◌∙◌, inl, inr, arith}
use Rattle.std.proofs.lemmas.Int.{ints, by_lt_z}
use Rattle.std.proofs.lemmas.Nat.{mul-le}
use Rattle.lattice_core.proofs.Products.{mul_assoc, mul_swap, mul_add, add_mul, mul_below, positive_is}
use Rattle.surd_order.specs.declared.position.Pos.{Pos}
use Rattle.surd_order.specs.declared.position.Pos.TheVariants.{Frac, Surd}
use Rattle.surd_order.specs.AtMost.{AtMost, IsAtMostRoot, IsAtLeastRoot}
use Rattle.surd_order.specs.Order.{Precedes, IsPlace}
use Rattle.surd_order.proofs.OrderLaws.{before_fraction}

-- a fraction below p / q that is still beyond x
record IsLower (x : Pos) (p q : ℤ) : Type 0 where
  over : ℤ
  under : ℤ
  positive : pos 0 <ℤ under
  beyond : ¬ (AtMost over under x)
  below : (over *ℤ q) <ℤ (p *ℤ under)

lower_than_fraction : (r s p q : ℤ) → pos 0 <ℤ s → pos 0 <ℤ q → ¬ (AtMost p q (Frac r s)) → IsLower (Frac r s) p q
lower_than_fraction r s p q some some' far =
    let lt : (r *ℤ q) <ℤ (p *ℤ s) = by_lt_z (r *ℤ q) (p *ℤ s) (λ lt. lt) (λ le. absurd (far le)) in
    record {
      over = p +ℤ r;
      under = q +ℤ s;
      positive = omega (arith, ints);
      beyond = λ le. omega (arith, ints, add_mul p r s, mul_add r q s, le, lt);
      below = omega (arith, ints, add_mul p r q, mul_add p q s, lt);
    }

-- (2 n² - 1)² is over k (2 n Q)² where n² is over k Q²
plus_gap : (k Q n w : ℕ) → 0 < n → k * (Q * Q) < n * n → w + 1 ≡ 2 * (n * n) → k * ((Q * (2 * n)) * (Q * (2 * n))) < w * w
plus_gap k Q n w some lt e =
    let square : (w + 1) * (w + 1) ≡ (2 * (n * n)) * (2 * (n * n)) = ap (λ x. x * x) e in
    let step : (k * (Q * Q) + 1) * (4 * (n * n)) ≤ (n * n) * (4 * (n * n)) = mul-le (k * (Q * Q) + 1) (4 * (n * n)) (n * n) (4 * (n * n)) (omega (arith, lt)) (omega arith) in
    omega (arith, square, step, e)

-- (n N + 1)² is below k (Q N)² where n² is below k Q², with N = 2 n + 2
minus_gap : (k Q n N w : ℕ) → n * n < k * (Q * Q) → N ≡ 2 * n + 2 → w ≡ n * N + 1 → w * w < k * ((Q * N) * (Q * N))
minus_gap k Q n N w lt size e =
    let square : w * w ≡ (n * N + 1) * (n * N + 1) = ap (λ x. x * x) e in
    let long : N * N ≡ N * (2 * n + 2) = ap (λ x. N * x) size in
    let step : (n * n + 1) * (N * N) ≤ (k * (Q * Q)) * (N * N) = mul-le (n * n + 1) (N * N) (k * (Q * Q)) (N * N) (omega (arith, lt)) (omega arith) in
    omega (arith, square, long, step, size)

whole_again : (a : ℤ) → (a -ℤ pos 1) +ℤ pos 1 ≡ a
whole_again a = omega (arith, ints)

sub_mul : (a : ℤ) (Q : ℕ) → (a -ℤ pos 1) *ℤ pos Q ≡ (a *ℤ pos Q) -ℤ pos Q
sub_mul a Q = omega (arith, ints, add_mul (a -ℤ pos 1) (pos 1) (pos Q), ap (λ x. x *ℤ pos Q) (whole_again a))

positive_product : (m n : ℕ) → 0 < m → 0 < n → pos 0 <ℤ pos (m * n)
positive_product m n p q = let some : 1 * 1 ≤ m * n = mul-le 1 1 m n p q in omega (arith, ints, some)

not_at_most : (w c : ℕ) → 0 < w → c < w * w → ¬ (IsAtMostRoot (pos w) (pos c))
not_at_most w c some lt (inl le) = omega (arith, ints, le, some)
not_at_most w c some lt (inr le) = omega (arith, ints, le, lt)

not_at_least : (w c : ℕ) → w * w < c → ¬ (IsAtLeastRoot (pos w) (pos c))
not_at_least w c lt h = omega (arith, ints, h.1, lt)

not_both : (x y : ℤ) → x <ℤ y → y ≤ℤ x → ⊥
not_both x y lt le = omega (arith, ints, lt, le)

-- (p n - 1) / (q n) is below p / q
scaled_below : (p : ℤ) (Q n : ℕ) → 0 < Q → (((p *ℤ pos n) -ℤ pos 1) *ℤ pos Q) <ℤ (p *ℤ pos (Q * n))
scaled_below p Q n some =
    let assoc : (p *ℤ pos Q) *ℤ pos n ≡ p *ℤ pos (Q * n) = mul_assoc p (pos Q) (pos n) in
    let swap : (p *ℤ pos n) *ℤ pos Q ≡ (p *ℤ pos Q) *ℤ pos n = mul_swap p (pos n) (pos Q) in
    let split : ((p *ℤ pos n) -ℤ pos 1) *ℤ pos Q ≡ ((p *ℤ pos n) *ℤ pos Q) -ℤ pos Q = sub_mul (p *ℤ pos n) Q in
    omega (arith, ints, assoc, swap, split, some)

lower_than_sum : (a : ℤ) (k : ℕ) (p : ℤ) (Q n : ℕ) → 0 < Q → p -ℤ (a *ℤ pos Q) ≡ pos n → 0 < n → k * (Q * Q) < n * n → IsLower (Surd a true k) p (pos Q)
lower_than_sum a k p Q n some is some' lt =
    let twice : (w : ℕ) × (w + 1 ≡ 2 * (n * n)) = (2 * (n * n) - 1, omega (arith, some', mul-le 1 1 n n (omega (arith, some')) (omega (arith, some')))) in
    let w = twice.0 in
    let whole : p ≡ (a *ℤ pos Q) +ℤ pos n = omega (arith, ints, is) in
    let assoc : (a *ℤ pos Q) *ℤ pos (2 * n) ≡ a *ℤ pos (Q * (2 * n)) = mul_assoc a (pos Q) (pos (2 * n)) in
    let part : p *ℤ pos (2 * n) ≡ ((a *ℤ pos Q) *ℤ pos (2 * n)) +ℤ pos (n * (2 * n)) = ap (λ x. x *ℤ pos (2 * n)) whole ∙ add_mul (a *ℤ pos Q) (pos n) (pos (2 * n)) in
    let rest : ((p *ℤ pos (2 * n)) -ℤ pos 1) -ℤ (a *ℤ pos (Q * (2 * n))) ≡ pos w = omega (arith, ints, assoc, part, twice.1) in
    let gap : k * ((Q * (2 * n)) * (Q * (2 * n))) < w * w = plus_gap k Q n w some' lt twice.1 in
    let none : ¬ (IsAtMostRoot (pos w) (pos (k * ((Q * (2 * n)) * (Q * (2 * n)))))) = not_at_most w (k * ((Q * (2 * n)) * (Q * (2 * n)))) (omega (arith, twice.1, some', mul-le 1 1 n n (omega (arith, some')) (omega (arith, some')))) gap in
    record {
      over = (p *ℤ pos (2 * n)) -ℤ pos 1;
      under = pos (Q * (2 * n));
      positive = positive_product Q (2 * n) some (omega (arith, some'));
      beyond = λ h. none (subst (λ m. IsAtMostRoot m (pos (k * ((Q * (2 * n)) * (Q * (2 * n)))))) rest h);
      below = scaled_below p Q (2 * n) some;
    }

lower_than_difference : (a : ℤ) (k : ℕ) (p : ℤ) (Q n : ℕ) → 0 < Q → (a *ℤ pos Q) -ℤ p ≡ pos n → n * n < k * (Q * Q) → IsLower (Surd a false k) p (pos Q)
lower_than_difference a k p Q n some is lt =
    let N = 2 * n + 2 in
    let w = n * N + 1 in
    let whole : a *ℤ pos Q ≡ p +ℤ pos n = omega (arith, ints, is) in
    let assoc : (a *ℤ pos Q) *ℤ pos N ≡ a *ℤ pos (Q * N) = mul_assoc a (pos Q) (pos N) in
    let part : (a *ℤ pos Q) *ℤ pos N ≡ (p *ℤ pos N) +ℤ pos (n * N) = ap (λ x. x *ℤ pos N) whole ∙ add_mul p (pos n) (pos N) in
    let rest : (a *ℤ pos (Q * N)) -ℤ ((p *ℤ pos N) -ℤ pos 1) ≡ pos w = omega (arith, ints, assoc, part) in
    let gap : w * w < k * ((Q * N) * (Q * N)) = minus_gap k Q n N w lt refl refl in
    record {
      over = (p *ℤ pos N) -ℤ pos 1;
      under = pos (Q * N);
      positive = positive_product Q N some (omega arith);
      beyond = λ h. not_at_least w (k * ((Q * N) * (Q * N))) gap (subst (λ m. IsAtLeastRoot m (pos (k * ((Q * N) * (Q * N))))) rest h);
      below = scaled_below p Q N some;
    }

-- beyond the whole number itself: halfway between the two
lower_than_whole : (a : ℤ) (k : ℕ) (p q : ℤ) → pos 0 <ℤ q → (a *ℤ q) <ℤ p → IsLower (Surd a false k) p q
lower_than_whole a k p q some lt =
    let double : a *ℤ (q +ℤ q) ≡ (a *ℤ q) +ℤ (a *ℤ q) = mul_add a q q in
    let low : ((a *ℤ q) *ℤ q) <ℤ (p *ℤ q) = mul_below (a *ℤ q) p q some lt in
    record {
      over = p +ℤ (a *ℤ q);
      under = q +ℤ q;
      positive = omega (arith, ints);
      beyond = λ h. omega (arith, ints, h.0, double, lt);
      below = omega (arith, ints, add_mul p (a *ℤ q) q, mul_add p q q, low);
    }

square_over : (k : ℕ) (m q : ℤ) → ¬ ((m *ℤ m) ≤ℤ (pos k *ℤ (q *ℤ q))) → (pos k *ℤ (q *ℤ q)) <ℤ (m *ℤ m)
square_over k m q far = by_lt_z (pos k *ℤ (q *ℤ q)) (m *ℤ m) (λ lt. lt) (λ le. absurd (far le))

square_under : (k : ℕ) (m q : ℤ) → ¬ ((pos k *ℤ (q *ℤ q)) ≤ℤ (m *ℤ m)) → (m *ℤ m) <ℤ (pos k *ℤ (q *ℤ q))
square_under k m q near = by_lt_z (m *ℤ m) (pos k *ℤ (q *ℤ q)) (λ lt. lt) (λ le. absurd (near le))

-- the same for naturals, once both are known to be such
over_naturals : (k : ℕ) (m q : ℤ) (n Q : ℕ) → m ≡ pos n → q ≡ pos Q → (pos k *ℤ (q *ℤ q)) <ℤ (m *ℤ m) → k * (Q * Q) < n * n
over_naturals k m q n Q e f lt =
    let plain : (pos k *ℤ (pos Q *ℤ pos Q)) <ℤ (pos n *ℤ pos n) = subst (λ x. (pos k *ℤ (pos Q *ℤ pos Q)) <ℤ (x *ℤ x)) e (subst (λ x. (pos k *ℤ (x *ℤ x)) <ℤ (m *ℤ m)) f lt) in
    omega (arith, ints, plain)

under_naturals : (k : ℕ) (m q : ℤ) (n Q : ℕ) → m ≡ pos n → q ≡ pos Q → (m *ℤ m) <ℤ (pos k *ℤ (q *ℤ q)) → n * n < k * (Q * Q)
under_naturals k m q n Q e f lt =
    let plain : (pos n *ℤ pos n) <ℤ (pos k *ℤ (pos Q *ℤ pos Q)) = subst (λ x. (x *ℤ x) <ℤ (pos k *ℤ (pos Q *ℤ pos Q))) e (subst (λ x. (m *ℤ m) <ℤ (pos k *ℤ (x *ℤ x))) f lt) in
    omega (arith, ints, plain)

natural_is : (z : ℤ) → pos 0 ≤ℤ z → (n : ℕ) × (z ≡ pos n)
natural_is (pos n) h = (n, refl)
natural_is (negsuc n) h = absurd (omega (arith, ints, h))

lower_by : (x : Pos) (p q : ℤ) → IsPlace x → pos 0 <ℤ q → ¬ (AtMost p q x) → IsLower x p q
lower_by (Frac r s) p q place some far = lower_than_fraction r s p q place some far
lower_by (Surd a true k) p q place some far =
    let under = positive_is q some in
    let over : pos 0 <ℤ (p -ℤ (a *ℤ q)) = by_lt_z (pos 0) (p -ℤ (a *ℤ q)) (λ lt. lt) (λ le. absurd (far (inl le))) in
    let m = positive_is (p -ℤ (a *ℤ q)) over in
    let squares = over_naturals k (p -ℤ (a *ℤ q)) q m.0 under.0 m.1 under.1 (square_over k (p -ℤ (a *ℤ q)) q (λ le. far (inr le))) in
    subst (IsLower (Surd a true k) p) (sym under.1)
    (lower_than_sum a k p under.0 m.0 under.2 (ap (λ x. p -ℤ (a *ℤ x)) (sym under.1) ∙ m.1) m.2 squares)
lower_by (Surd a false k) p q place some far =
    let under = positive_is q some in
    by_lt_z ((a *ℤ q) -ℤ p) (pos 0)
    (λ lt. lower_than_whole a k p q some (omega (arith, ints, lt)))
    (λ le.
    let m = natural_is ((a *ℤ q) -ℤ p) le in
    let squares = under_naturals k ((a *ℤ q) -ℤ p) q m.0 under.0 m.1 under.1 (square_under k ((a *ℤ q) -ℤ p) q (λ more. far (le, more))) in
    subst (IsLower (Surd a false k) p) (sym under.1)
    (lower_than_difference a k p under.0 m.0 under.2 (ap (λ x. (a *ℤ x) -ℤ p) (sym under.1) ∙ m.1) squares))

-- a fraction strictly between two places
pub record IsBetween (x y : Pos) : Type 0 where
  pub p : ℤ
  pub q : ℤ
  pub positive : pos 0 <ℤ q
  pub after : Precedes x (Frac p q)
  pub before : Precedes (Frac p q) y

pub between_places : (x y : Pos) → IsPlace x → Precedes x y → IsBetween x y
between_places x y place h =
    let low = lower_by x h.p h.q place h.positive h.beyond in
    record {
      p = low.over;
      q = low.under;
      positive = low.positive;
      after = before_fraction x low.over low.under low.positive low.beyond;
      before = record { p = h.p; q = h.q; positive = h.positive; within = h.within; beyond = λ le. not_both (low.over *ℤ h.q) (h.p *ℤ low.under) low.below le };
    }

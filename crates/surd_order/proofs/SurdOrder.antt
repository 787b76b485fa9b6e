-- The order of two positions with square roots: a fraction between them, or one at both.
use Rattle.std.proofs.Common.{◌≡◌, ◌<◌, ◌≤◌, ◌+◌, ◌*◌, ◌-◌, ◌∙◌, ℕ, ℤ, pos, ◌+ℤ◌, ◌-ℤ◌, ◌*ℤ◌, ◌<ℤ◌, refl, ap, sym, subst, arith, inl, inr, Bool, true, false}
use Rattle.std.proofs.lemmas.Int.{ints}
use Rattle.std.proofs.lemmas.Nat.{mul-le}
use Rattle.std.proofs.lemmas.Bool.{cases_lt}
use Rattle.std.specs.Ordering.{ordering_reverse}
use Rattle.std.specs.declared.cmp.Ordering.{Ordering}
use Rattle.std.specs.declared.cmp.Ordering.TheVariants.{Less, Equal, Greater}
use Rattle.wide_core.proofs.Products.{add_mul}
use Rattle.surd_order.specs.declared.position.Pos.{Pos}
use Rattle.surd_order.specs.declared.position.Pos.TheVariants.{Frac, Surd}
use Rattle.surd_order.specs.AtMost.{AtMost, IsAtMostRoot, IsAtLeastRoot}
use Rattle.surd_order.specs.Order.{Precedes, SamePlace, IsOrderOf}
use Rattle.surd_order.specs.Roots.{IsBelowRoot, IsRoot, IsAboveRoot, IsRootOrder}
use Rattle.surd_order.proofs.RootLaws.{above_not_at_most, below_not_at_least, below_at_most}
use Rattle.surd_order.proofs.OrderLaws.{order_from, same_refl, same_symm, same_trans}
use Rattle.surd_order.proofs.FractionSurdOrder.{sum_at, difference_at}
use Rattle.surd_order.proofs.Witnesses.{IsBetweenSum, IsBetweenShift, IsBetweenRoots, IsBetweenWhole, sum_witness, shift_witness, roots_witness, whole_witness}

-- the tests of a fraction p / n, by the number that stands beside the root
at_sum : (p a m : ℤ) (n k : ℕ) → p -ℤ (a *ℤ pos n) ≡ m → IsAtMostRoot m (pos (k * (n * n))) → AtMost p (pos n) (Surd a true k)
at_sum p a m n k m_is h = subst (λ (z : ℤ). IsAtMostRoot z (pos (k * (n * n)))) (sym m_is) h

beyond_sum : (p a m : ℤ) (n k : ℕ) → p -ℤ (a *ℤ pos n) ≡ m → ¬ (IsAtMostRoot m (pos (k * (n * n)))) → ¬ (AtMost p (pos n) (Surd a true k))
beyond_sum p a m n k m_is h = λ within. h (subst (λ (z : ℤ). IsAtMostRoot z (pos (k * (n * n)))) m_is within)

at_difference : (p a m : ℤ) (n k : ℕ) → (a *ℤ pos n) -ℤ p ≡ m → IsAtLeastRoot m (pos (k * (n * n))) → AtMost p (pos n) (Surd a false k)
at_difference p a m n k m_is h = subst (λ (z : ℤ). IsAtLeastRoot z (pos (k * (n * n)))) (sym m_is) h

beyond_difference : (p a m : ℤ) (n k : ℕ) → (a *ℤ pos n) -ℤ p ≡ m → ¬ (IsAtLeastRoot m (pos (k * (n * n)))) → ¬ (AtMost p (pos n) (Surd a false k))
beyond_difference p a m n k m_is h = λ within. h (subst (λ (z : ℤ). IsAtLeastRoot z (pos (k * (n * n)))) m_is within)

shifted : (a b : ℤ) (d n : ℕ) → b ≡ a +ℤ pos d → b *ℤ pos n ≡ (a *ℤ pos n) +ℤ pos (d * n)
shifted a b d n b_is = ap (λ x. x *ℤ pos n) b_is ∙ add_mul a (pos d) (pos n)

-- √k < d + √l
pub plus_before : (a b : ℤ) (d k l : ℕ) → b ≡ a +ℤ pos d → IsBelowRoot (pos k -ℤ pos (d * d + l)) (pos (4 * (d * d * l))) → Precedes (Surd a true k) (Surd b true l)
plus_before a b d k l b_is below =
    let found = sum_witness k d l below in
    let u : ℕ = found.0 in
    let n : ℕ = found.1 in
    go a b d k l u n b_is found.2
  where
    go : (a b : ℤ) (d k l u n : ℕ) → b ≡ a +ℤ pos d → IsBetweenSum k d l u n → Precedes (Surd a true k) (Surd b true l)
    go a b d k l u n b_is h =
        let e = shifted a b d n b_is in record {
          p = (a *ℤ pos n) +ℤ pos u;
          q = pos n;
          positive = omega (arith, ints, h.some);
          within = at_sum ((a *ℤ pos n) +ℤ pos u) b (pos u -ℤ pos (d * n)) n l (omega (arith, ints)) (below_at_most (pos u -ℤ pos (d * n)) (pos (l * (n * n))) h.below);
          beyond = beyond_sum ((a *ℤ pos n) +ℤ pos u) a (pos u) n k (omega (arith, ints)) (above_not_at_most (pos u) (k * (n * n)) (omega (arith, ints), omega (arith, ints, h.above)));
        }

-- √k + d < √l
pub plus_before_lower : (a b : ℤ) (d k l : ℕ) → a ≡ b +ℤ pos d → IsAboveRoot (pos l -ℤ pos (d * d + k)) (pos (4 * (d * d * k))) → Precedes (Surd a true k) (Surd b true l)
plus_before_lower a b d k l a_is above =
    let found = shift_witness k d l above in
    go a b d k l found.0 found.1 a_is found.2
  where
    go : (a b : ℤ) (d k l u n : ℕ) → a ≡ b +ℤ pos d → IsBetweenShift k d l u n → Precedes (Surd a true k) (Surd b true l)
    go a b d k l u n a_is h =
        let e = shifted b a d n a_is in record {
          p = (a *ℤ pos n) +ℤ pos u;
          q = pos n;
          positive = omega (arith, ints, h.some);
          within = at_sum ((a *ℤ pos n) +ℤ pos u) b (pos (u + d * n)) n l (omega (arith, ints)) (inr (omega (arith, ints, h.below)));
          beyond = beyond_sum ((a *ℤ pos n) +ℤ pos u) a (pos u) n k (omega (arith, ints)) (above_not_at_most (pos u) (k * (n * n)) (omega (arith, ints), omega (arith, ints, h.above)));
        }

-- √l < d + √k
pub minus_before : (a b : ℤ) (d k l : ℕ) → b ≡ a +ℤ pos d → IsBelowRoot (pos l -ℤ pos (d * d + k)) (pos (4 * (d * d * k))) → Precedes (Surd a false k) (Surd b false l)
minus_before a b d k l b_is below =
    let found = sum_witness l d k below in
    go a b d k l found.0 found.1 b_is found.2
  where
    go : (a b : ℤ) (d k l v n : ℕ) → b ≡ a +ℤ pos d → IsBetweenSum l d k v n → Precedes (Surd a false k) (Surd b false l)
    go a b d k l v n b_is h =
        let e = shifted a b d n b_is in record {
          p = (b *ℤ pos n) -ℤ pos v;
          q = pos n;
          positive = omega (arith, ints, h.some);
          within = at_difference ((b *ℤ pos n) -ℤ pos v) b (pos v) n l (omega (arith, ints)) (omega (arith, ints), omega (arith, ints, h.above));
          beyond = beyond_difference ((b *ℤ pos n) -ℤ pos v) a (pos v -ℤ pos (d * n)) n k (omega (arith, ints)) (below_not_at_least (pos v -ℤ pos (d * n)) (k * (n * n)) h.below);
        }

-- √l + d < √k
pub minus_before_lower : (a b : ℤ) (d k l : ℕ) → a ≡ b +ℤ pos d → IsAboveRoot (pos k -ℤ pos (d * d + l)) (pos (4 * (d * d * l))) → Precedes (Surd a false k) (Surd b false l)
minus_before_lower a b d k l a_is above =
    let found = shift_witness l d k above in
    go a b d k l found.0 found.1 a_is found.2
  where
    go : (a b : ℤ) (d k l v n : ℕ) → a ≡ b +ℤ pos d → IsBetweenShift l d k v n → Precedes (Surd a false k) (Surd b false l)
    go a b d k l v n a_is h =
        let e = shifted b a d n a_is in record {
          p = (b *ℤ pos n) -ℤ pos v;
          q = pos n;
          positive = omega (arith, ints, h.some);
          within = at_difference ((b *ℤ pos n) -ℤ pos v) b (pos v) n l (omega (arith, ints)) (omega (arith, ints), omega (arith, ints, h.above));
          beyond = beyond_difference ((b *ℤ pos n) -ℤ pos v) a (pos (v + d * n)) n k (omega (arith, ints)) (below_not_at_least (pos (v + d * n)) (k * (n * n)) (inr (omega (arith, ints, h.below))));
        }

-- √k + √l < d
pub plus_before_minus : (a b : ℤ) (d k l : ℕ) → b ≡ a +ℤ pos d → IsAboveRoot (pos (d * d) -ℤ pos (k + l)) (pos (4 * (k * l))) → Precedes (Surd a true k) (Surd b false l)
plus_before_minus a b d k l b_is above =
    let found = roots_witness k d l above in
    go a b d k l found.0 found.1 found.2 b_is found.3
  where
    go : (a b : ℤ) (d k l u v n : ℕ) → b ≡ a +ℤ pos d → IsBetweenRoots k d l u v n → Precedes (Surd a true k) (Surd b false l)
    go a b d k l u v n b_is h =
        let e = shifted a b d n b_is in record {
          p = (a *ℤ pos n) +ℤ pos u;
          q = pos n;
          positive = omega (arith, ints, h.some);
          within = at_difference ((a *ℤ pos n) +ℤ pos u) b (pos v) n l (omega (arith, ints, h.whole)) (omega (arith, ints), omega (arith, ints, h.above'));
          beyond = beyond_sum ((a *ℤ pos n) +ℤ pos u) a (pos u) n k (omega (arith, ints)) (above_not_at_most (pos u) (k * (n * n)) (omega (arith, ints), omega (arith, ints, h.above)));
        }

-- d < √k + √l
pub minus_before_plus : (a b : ℤ) (d k l : ℕ) → a ≡ b +ℤ pos d → IsBelowRoot (pos (d * d) -ℤ pos (k + l)) (pos (4 * (k * l))) → Precedes (Surd a false k) (Surd b true l)
minus_before_plus a b d k l a_is below =
    let found = whole_witness k d l below in
    go a b d k l found.0 found.1 a_is found.2
  where
    go : (a b : ℤ) (d k l : ℕ) (w : ℤ) (n : ℕ) → a ≡ b +ℤ pos d → IsBetweenWhole k d l w n → Precedes (Surd a false k) (Surd b true l)
    go a b d k l w n a_is h =
        let e = shifted b a d n a_is in record {
          p = (a *ℤ pos n) -ℤ w;
          q = pos n;
          positive = omega (arith, ints, h.some);
          within = at_sum ((a *ℤ pos n) -ℤ w) b (pos (d * n) -ℤ w) n l (omega (arith, ints)) (below_at_most (pos (d * n) -ℤ w) (pos (l * (n * n))) h.below');
          beyond = beyond_difference ((a *ℤ pos n) -ℤ w) a w n k (omega (arith, ints)) (below_not_at_least w (k * (n * n)) h.below);
        }

pub minus_before_plus_whole : (a b : ℤ) (k l : ℕ) → a <ℤ b → Precedes (Surd a false k) (Surd b true l)
minus_before_plus_whole a b k l less =
    let a_is : a *ℤ pos 1 ≡ a = omega (arith, ints) in
    let b_is : b *ℤ pos 1 ≡ b = omega (arith, ints) in record {
      p = b;
      q = pos 1;
      positive = omega (arith, ints);
      within = inl (omega (arith, ints));
      beyond = λ h. omega (arith, ints, h.0);
    }

-- x natural and equal to a difference
pub root_case : (x y c : ℕ) → IsRoot (pos x -ℤ pos y) (pos c) → (m : ℕ) × (x ≡ y + m) × (m * m ≡ c)
root_case x y c root =
    let m : ℕ = x - y in
    let more : y ≤ x = omega (arith, ints, root.0) in
    let m_is : pos x -ℤ pos y ≡ pos m = omega (arith, ints) in
    let root' : IsRoot (pos m) (pos c) = subst (λ (z : ℤ). IsRoot z (pos c)) m_is root in
    (m, omega arith, omega (arith, ints, root'.1))

-- a fraction (a n + u) / n at a + √k, and (a n - u) / n at a - √k
pub at_plus : (a p : ℤ) (u n k : ℕ) → 0 < n → p -ℤ (a *ℤ pos n) ≡ pos u → u * u ≡ k * (n * n) → SamePlace (Frac p (pos n)) (Surd a true k)
at_plus a p u n k some u_is square = sum_at p (pos n) a k (omega (arith, ints)) (subst (λ (z : ℤ). IsRoot z (pos (k * (n * n)))) (sym u_is) (omega (arith, ints), ap pos square))

pub at_minus : (a p : ℤ) (u n k : ℕ) → 0 < n → (a *ℤ pos n) -ℤ p ≡ pos u → u * u ≡ k * (n * n) → SamePlace (Frac p (pos n)) (Surd a false k)
at_minus a p u n k some u_is square = difference_at p (pos n) a k (omega (arith, ints)) (subst (λ (z : ℤ). IsRoot z (pos (k * (n * n)))) (sym u_is) (omega (arith, ints), ap pos square))

-- k = d² + l + m with m² = 4 d² l: √k is (2 d² + m) / 2 d
pub far_square : (k d l m : ℕ) → k ≡ d * d + l + m → m * m ≡ 4 * (d * d * l) → (2 * (d * d) + m) * (2 * (d * d) + m) ≡ k * ((2 * d) * (2 * d))
far_square k d l m k_is square = omega (arith, ap (λ x. x * (d * d)) k_is, square)

-- d² = k + l + m with m² = 4 k l: √k is (2 k + m) / 2 d
pub part_square : (k d l m : ℕ) → d * d ≡ k + l + m → m * m ≡ 4 * (k * l) → (2 * k + m) * (2 * k + m) ≡ k * ((2 * d) * (2 * d))
part_square k d l m d_is square = omega (arith, ap (λ x. k * x) d_is, square)

-- without a distance the roots are one
pub level_root : (k d l m : ℕ) → d ≡ 0 → k ≡ d * d + l + m → m * m ≡ 4 * (d * d * l) → k ≡ l
level_root k d l m none k_is square =
    let d_none : d * d ≡ 0 = omega (arith, ap (λ x. x * d) none) in
    let gone : d * d * l ≡ 0 = omega (arith, ap (λ x. x * l) d_none) in
    elim (cases_lt 0 m) [ inl more ↦ absurd (omega (arith, mul-le 1 1 m m more more)) | inr less ↦ omega arith ]

pub level_roots : (k d l m : ℕ) → d ≡ 0 → d * d ≡ k + l + m → (k ≡ 0) × (l ≡ 0)
level_roots k d l m none d_is = let d_none : d * d ≡ 0 = omega (arith, ap (λ x. x * d) none) in (omega arith, omega arith)

pub level : (a b : ℤ) (plus : Bool) (d k l : ℕ) → d ≡ 0 → b ≡ a +ℤ pos d → k ≡ l → Surd a plus k ≡ Surd b plus l
level a b plus d k l none b_is same = let e : a ≡ b = omega (arith, ints) in ap (λ x. Surd x plus k) e ∙ ap (λ x. Surd b plus x) same

pub plus_same : (a b : ℤ) (d k l : ℕ) → b ≡ a +ℤ pos d → IsRoot (pos k -ℤ pos (d * d + l)) (pos (4 * (d * d * l))) → SamePlace (Surd a true k) (Surd b true l)
plus_same a b d k l b_is root =
    let found = root_case k (d * d + l) (4 * (d * d * l)) root in
    let m : ℕ = found.0 in
    elim (cases_lt 0 d) [
      | inl some ↦
          let p : ℤ = (a *ℤ pos (2 * d)) +ℤ pos (2 * (d * d) + m) in
          let e : b *ℤ pos (2 * d) ≡ (a *ℤ pos (2 * d)) +ℤ pos (d * (2 * d)) = shifted a b d (2 * d) b_is in
          let left : SamePlace (Frac p (pos (2 * d))) (Surd a true k) = at_plus a p (2 * (d * d) + m) (2 * d) k (omega arith) (omega (arith, ints)) (far_square k d l m found.1 found.2) in
          let right : SamePlace (Frac p (pos (2 * d))) (Surd b true l) = at_plus b p m (2 * d) l (omega arith) (omega (arith, ints)) (omega (arith, found.2)) in
          same_trans _ _ _ (same_symm _ _ left) right
      | inr none ↦
          let d_is : d ≡ 0 = omega arith in
          subst (λ (z : Pos). SamePlace (Surd a true k) z) (level a b true d k l d_is b_is (level_root k d l m d_is found.1 found.2)) (same_refl (Surd a true k))
    ]

pub minus_same : (a b : ℤ) (d k l : ℕ) → b ≡ a +ℤ pos d → IsRoot (pos l -ℤ pos (d * d + k)) (pos (4 * (d * d * k))) → SamePlace (Surd a false k) (Surd b false l)
minus_same a b d k l b_is root =
    let found = root_case l (d * d + k) (4 * (d * d * k)) root in
    let m : ℕ = found.0 in
    elim (cases_lt 0 d) [
      | inl some ↦
          let p : ℤ = (a *ℤ pos (2 * d)) -ℤ pos m in
          let e : b *ℤ pos (2 * d) ≡ (a *ℤ pos (2 * d)) +ℤ pos (d * (2 * d)) = shifted a b d (2 * d) b_is in
          let left : SamePlace (Frac p (pos (2 * d))) (Surd a false k) = at_minus a p m (2 * d) k (omega arith) (omega (arith, ints)) (omega (arith, found.2)) in
          let right : SamePlace (Frac p (pos (2 * d))) (Surd b false l) = at_minus b p (2 * (d * d) + m) (2 * d) l (omega arith) (omega (arith, ints)) (far_square l d k m found.1 found.2) in
          same_trans _ _ _ (same_symm _ _ left) right
      | inr none ↦
          let d_is : d ≡ 0 = omega arith in
          subst (λ (z : Pos). SamePlace (Surd a false k) z) (level a b false d k l d_is b_is (sym (level_root l d k m d_is found.1 found.2))) (same_refl (Surd a false k))
    ]

pub mixed_same : (a b : ℤ) (d k l : ℕ) → b ≡ a +ℤ pos d → IsRoot (pos (d * d) -ℤ pos (k + l)) (pos (4 * (k * l))) → SamePlace (Surd a true k) (Surd b false l)
mixed_same a b d k l b_is root =
    let found = root_case (d * d) (k + l) (4 * (k * l)) root in
    let m : ℕ = found.0 in
    elim (cases_lt 0 d) [
      | inl some ↦
          let p : ℤ = (a *ℤ pos (2 * d)) +ℤ pos (2 * k + m) in
          let e : b *ℤ pos (2 * d) ≡ (a *ℤ pos (2 * d)) +ℤ pos (d * (2 * d)) = shifted a b d (2 * d) b_is in
          let twice : d * (2 * d) ≡ 2 * k + 2 * l + 2 * m = omega (arith, found.1) in
          let left : SamePlace (Frac p (pos (2 * d))) (Surd a true k) = at_plus a p (2 * k + m) (2 * d) k (omega arith) (omega (arith, ints)) (part_square k d l m found.1 found.2) in
          let right : SamePlace (Frac p (pos (2 * d))) (Surd b false l) =
          at_minus b p (2 * l + m) (2 * d) l (omega arith) (omega (arith, ints)) (part_square l d k m (omega (arith, found.1)) (omega (arith, found.2))) in
          same_trans _ _ _ (same_symm _ _ left) right
      | inr none ↦
          let d_is : d ≡ 0 = omega arith in
          let gone = level_roots k d l m d_is found.1 in
          let a_is : a *ℤ pos 1 ≡ a = omega (arith, ints) in
          let b_is' : b *ℤ pos 1 ≡ b = omega (arith, ints) in
          let left : SamePlace (Frac a (pos 1)) (Surd a true k) = at_plus a a 0 1 k (omega arith) (omega (arith, ints)) (omega (arith, gone.0)) in
          let right : SamePlace (Frac a (pos 1)) (Surd b false l) = at_minus b a 0 1 l (omega arith) (omega (arith, ints)) (omega (arith, gone.1)) in
          same_trans _ _ _ (same_symm _ _ left) right
    ]

pub plus_ordered : (a b : ℤ) (d k l : ℕ) (r : Ordering) → b ≡ a +ℤ pos d → IsRootOrder r (pos k -ℤ pos (d * d + l)) (pos (4 * (d * d * l))) → IsOrderOf r (Surd a true k) (Surd b true l)
plus_ordered a b d k l Less b_is below = order_from Less (Surd a true k) (Surd b true l) tt tt (plus_before a b d k l b_is below)
plus_ordered a b d k l Equal b_is root = order_from Equal (Surd a true k) (Surd b true l) tt tt (plus_same a b d k l b_is root)
plus_ordered a b d k l Greater b_is above = order_from Greater (Surd a true k) (Surd b true l) tt tt (plus_before_lower b a d l k b_is above)

pub minus_ordered : (a b : ℤ) (d k l : ℕ) (r : Ordering) → b ≡ a +ℤ pos d → IsRootOrder r (pos l -ℤ pos (d * d + k)) (pos (4 * (d * d * k))) → IsOrderOf r (Surd a false k) (Surd b false l)
minus_ordered a b d k l Less b_is below = order_from Less (Surd a false k) (Surd b false l) tt tt (minus_before a b d k l b_is below)
minus_ordered a b d k l Equal b_is root = order_from Equal (Surd a false k) (Surd b false l) tt tt (minus_same a b d k l b_is root)
minus_ordered a b d k l Greater b_is above = order_from Greater (Surd a false k) (Surd b false l) tt tt (minus_before_lower b a d l k b_is above)

pub swapped_below : (d k l : ℕ) → IsBelowRoot (pos (d * d) -ℤ pos (k + l)) (pos (4 * (k * l))) → IsBelowRoot (pos (d * d) -ℤ pos (l + k)) (pos (4 * (l * k)))
swapped_below d k l h =
    let sum : k + l ≡ l + k = omega arith in
    let product : 4 * (k * l) ≡ 4 * (l * k) = omega arith in
    subst (λ (x : ℕ). IsBelowRoot (pos (d * d) -ℤ pos (l + k)) (pos x)) product (subst (λ (x : ℕ). IsBelowRoot (pos (d * d) -ℤ pos x) (pos (4 * (k * l)))) sum h)

pub mixed_ordered : (a b : ℤ) (d k l : ℕ) (r : Ordering) → b ≡ a +ℤ pos d → IsRootOrder r (pos (d * d) -ℤ pos (k + l)) (pos (4 * (k * l))) → IsOrderOf (ordering_reverse r) (Surd a true k) (Surd b false l)
mixed_ordered a b d k l Less b_is below = order_from Greater (Surd a true k) (Surd b false l) tt tt (minus_before_plus b a d l k b_is (swapped_below d k l below))
mixed_ordered a b d k l Equal b_is root = order_from Equal (Surd a true k) (Surd b false l) tt tt (mixed_same a b d k l b_is root)
mixed_ordered a b d k l Greater b_is above = order_from Less (Surd a true k) (Surd b false l) tt tt (plus_before_minus a b d k l b_is above)

pub mixed_beyond : (a b : ℤ) (k l : ℕ) → b <ℤ a → IsOrderOf Greater (Surd a true k) (Surd b false l)
mixed_beyond a b k l less = order_from Greater (Surd a true k) (Surd b false l) tt tt (minus_before_plus_whole b a l k less)

pub reversed : (r : Ordering) (x y : Pos) → IsOrderOf r x y → IsOrderOf (ordering_reverse r) y x
reversed Less x y h = record { less = (λ e. cc, λ f. absurd (let e : Less ≡ Greater = h.greater.1 f in cc)); same = (λ e. cc, λ s. absurd (let e : Less ≡ Equal = h.same.1 (same_symm y x s) in cc)); greater = (λ _. h.less.0 refl, λ _. refl) }
reversed Equal x y h = record { less = (λ e. cc, λ f. absurd (let e : Equal ≡ Greater = h.greater.1 f in cc)); same = (λ _. same_symm x y (h.same.0 refl), λ _. refl); greater = (λ e. cc, λ f. absurd (let e : Equal ≡ Less = h.less.1 f in cc)) }
reversed Greater x y h = record { less = (λ _. h.greater.0 refl, λ _. refl); same = (λ e. cc, λ s. absurd (let e : Greater ≡ Equal = h.same.1 (same_symm y x s) in cc)); greater = (λ e. cc, λ f. absurd (let e : Greater ≡ Less = h.less.1 f in cc)) }

-- Positions with square roots at one place have one spelling.
use Rattle.std.proofs.Common.{◌≡◌, ◌≢◌, ◌<◌, ◌+◌, ◌*◌, ℕ, ℤ, pos, negsuc, ◌+ℤ◌, ◌-ℤ◌, ◌*ℤ◌, ◌<ℤ◌, ◌≤ℤ◌, sym, arith, inl, inr, Bool, true, false}
use Rattle.std.proofs.lemmas.Int.{ints}
use Rattle.std.proofs.lemmas.Bool.{cases_lt}
use Rattle.std.specs.declared.cmp.Ordering.{Ordering}
use Rattle.std.specs.declared.cmp.Ordering.TheVariants.{Less, Equal, Greater}
use Rattle.surd_order.specs.declared.position.Pos.TheVariants.{Frac, Surd}
use Rattle.surd_order.specs.Order.{SamePlace}
use Rattle.surd_order.specs.Roots.{IsRoot, IsRootOrder}
use Rattle.surd_order.proofs.RootLaws.{root_order, int_cases}
use Rattle.surd_order.proofs.OrderLaws.{same_symm}
use Rattle.surd_order.proofs.FractionSurdOrder.{sum_after, sum_before, difference_after, difference_before}
use Rattle.surd_order.proofs.SurdOrder.{root_case, part_square, level_root, level_roots, level, plus_before, plus_before_lower, minus_before, minus_before_lower, plus_before_minus, minus_before_plus, minus_before_plus_whole, swapped_below}
use Rattle.surd_order.proofs.SquareLaws.{square_from_fraction}

-- k is no square, so its root is no fraction
no_fraction : (k m q : ℕ) → ((n : ℕ) → n * n ≢ k) → 0 < q → m * m ≢ k * (q * q)
no_fraction k m q none some = λ square. let found = square_from_fraction q m q k (omega arith) some square in none found.0 found.1

no_root : (m : ℤ) (q k : ℕ) → ((n : ℕ) → n * n ≢ k) → 0 < q → ¬ (IsRoot m (pos (k * (q * q))))
no_root (pos m) q k none some = λ root. no_fraction k m q none some (omega (arith, ints, root.1))
no_root (negsuc m) q k none some = λ root. omega (arith, ints, root.0)

-- a fraction and a root that is no whole number are two places
pub fraction_apart : (p q a : ℤ) (plus : Bool) (k : ℕ) → pos 0 <ℤ q → ((n : ℕ) → n * n ≢ k) → ¬ (SamePlace (Frac p q) (Surd a plus k))
fraction_apart p (negsuc q) a plus k some none = λ same. omega (arith, ints)
fraction_apart p (pos q) a true k some none = λ same.
    let found = root_order (p -ℤ (a *ℤ pos q)) (pos (k * (q * q))) in
    go found.0 found.1 same
  where
    go : (r : Ordering) → IsRootOrder r (p -ℤ (a *ℤ pos q)) (pos (k * (q * q))) → SamePlace (Frac p (pos q)) (Surd a true k) → ⊥
    go Less below same = same.not_before (sum_after p (pos q) a k some below)
    go Equal root same = no_root (p -ℤ (a *ℤ pos q)) q k none (omega (arith, ints)) root
    go Greater above same = same.not_after (sum_before p (pos q) a k some above)
fraction_apart p (pos q) a false k some none = λ same.
    let found = root_order ((a *ℤ pos q) -ℤ p) (pos (k * (q * q))) in
    go found.0 found.1 same
  where
    go : (r : Ordering) → IsRootOrder r ((a *ℤ pos q) -ℤ p) (pos (k * (q * q))) → SamePlace (Frac p (pos q)) (Surd a false k) → ⊥
    go Less below same = same.not_after (difference_before p (pos q) a k some below)
    go Equal root same = no_root ((a *ℤ pos q) -ℤ p) q k none (omega (arith, ints)) root
    go Greater above same = same.not_before (difference_after p (pos q) a k some above)

-- k = d² + l + m with m² = 4 d² l, and l no square: then d is 0
level_sum : (a b : ℤ) (plus : Bool) (d k l : ℕ) → b ≡ a +ℤ pos d → ((n : ℕ) → n * n ≢ l) → IsRoot (pos k -ℤ pos (d * d + l)) (pos (4 * (d * d * l))) → Surd a plus k ≡ Surd b plus l
level_sum a b plus d k l b_is none root =
    let found = root_case k (d * d + l) (4 * (d * d * l)) root in
    elim (cases_lt 0 d) [
      | inl some ↦ absurd (no_fraction l found.0 (2 * d) none (omega arith) (omega (arith, found.2)))
      | inr gone ↦ let d_is : d ≡ 0 = omega arith in level a b plus d k l d_is b_is (level_root k d l found.0 d_is found.1 found.2)
    ]

sums_level : (a b : ℤ) (d k l : ℕ) → b ≡ a +ℤ pos d → ((n : ℕ) → n * n ≢ l) → SamePlace (Surd a true k) (Surd b true l) → Surd a true k ≡ Surd b true l
sums_level a b d k l b_is none same =
    let found = root_order (pos k -ℤ pos (d * d + l)) (pos (4 * (d * d * l))) in go a b d k l b_is none same found.0 found.1
  where
    go : (a b : ℤ) (d k l : ℕ) → b ≡ a +ℤ pos d → ((n : ℕ) → n * n ≢ l) → SamePlace (Surd a true k) (Surd b true l) → (r : Ordering) → IsRootOrder r (pos k -ℤ pos (d * d + l)) (pos (4 * (d * d * l))) → Surd a true k ≡ Surd b true l
    go a b d k l b_is none same Less below = absurd (same.not_before (plus_before a b d k l b_is below))
    go a b d k l b_is none same Equal root = level_sum a b true d k l b_is none root
    go a b d k l b_is none same Greater above = absurd (same.not_after (plus_before_lower b a d l k b_is above))

differences_level : (a b : ℤ) (d k l : ℕ) → b ≡ a +ℤ pos d → ((n : ℕ) → n * n ≢ k) → SamePlace (Surd a false k) (Surd b false l) → Surd a false k ≡ Surd b false l
differences_level a b d k l b_is none same =
    let found = root_order (pos l -ℤ pos (d * d + k)) (pos (4 * (d * d * k))) in go a b d k l b_is none same found.0 found.1
  where
    go : (a b : ℤ) (d k l : ℕ) → b ≡ a +ℤ pos d → ((n : ℕ) → n * n ≢ k) → SamePlace (Surd a false k) (Surd b false l) → (r : Ordering) → IsRootOrder r (pos l -ℤ pos (d * d + k)) (pos (4 * (d * d * k))) → Surd a false k ≡ Surd b false l
    go a b d k l b_is none same Less below = absurd (same.not_before (minus_before a b d k l b_is below))
    go a b d k l b_is none same Equal root =
        let found = root_case l (d * d + k) (4 * (d * d * k)) root in
        elim (cases_lt 0 d) [
          | inl some ↦ absurd (no_fraction k found.0 (2 * d) none (omega arith) (omega (arith, found.2)))
          | inr gone ↦ let d_is : d ≡ 0 = omega arith in level a b false d k l d_is b_is (sym (level_root l d k found.0 d_is found.1 found.2))
        ]
    go a b d k l b_is none same Greater above = absurd (same.not_after (minus_before_lower b a d l k b_is above))

mixed_apart_over : (a b : ℤ) (d k l : ℕ) → b ≡ a +ℤ pos d → ((n : ℕ) → n * n ≢ k) → ¬ (SamePlace (Surd a true k) (Surd b false l))
mixed_apart_over a b d k l b_is none = λ same.
    let found = root_order (pos (d * d) -ℤ pos (k + l)) (pos (4 * (k * l))) in go a b d k l b_is none same found.0 found.1
  where
    go : (a b : ℤ) (d k l : ℕ) → b ≡ a +ℤ pos d → ((n : ℕ) → n * n ≢ k) → SamePlace (Surd a true k) (Surd b false l) → (r : Ordering) → IsRootOrder r (pos (d * d) -ℤ pos (k + l)) (pos (4 * (k * l))) → ⊥
    go a b d k l b_is none same Less below = same.not_after (minus_before_plus b a d l k b_is (swapped_below d k l below))
    go a b d k l b_is none same Equal root =
        let found = root_case (d * d) (k + l) (4 * (k * l)) root in
        elim (cases_lt 0 d) [
          | inl some ↦ no_fraction k (2 * k + found.0) (2 * d) none (omega arith) (part_square k d l found.0 found.1 found.2)
          | inr gone ↦ let d_is : d ≡ 0 = omega arith in let zeros = level_roots k d l found.0 d_is found.1 in none 0 (omega (arith, zeros.0))
        ]
    go a b d k l b_is none same Greater above = same.not_before (plus_before_minus a b d k l b_is above)

-- how far one whole number is above another
pub up_from : (a b : ℤ) → a ≤ℤ b → (d : ℕ) × (b ≡ a +ℤ pos d)
up_from a b le = natural (b -ℤ a) (omega (arith, ints)) (omega (arith, ints))
  where
    natural : (z : ℤ) → pos 0 ≤ℤ z → b ≡ a +ℤ z → (d : ℕ) × (b ≡ a +ℤ pos d)
    natural (pos d) high is = (d, is)
    natural (negsuc d) high is = absurd (omega (arith, ints))

mixed_apart : (a b : ℤ) (k l : ℕ) → ((n : ℕ) → n * n ≢ k) → ¬ (SamePlace (Surd a true k) (Surd b false l))
mixed_apart a b k l none = λ same. elim (int_cases a b) [
  | inl le ↦ let found = up_from a b le in mixed_apart_over a b found.0 k l found.1 none same
  | inr gt ↦ same.not_after (minus_before_plus_whole b a l k gt)
]

pub surds_spelled_same : (a b : ℤ) (plus plus' : Bool) (k l : ℕ) → ((n : ℕ) → n * n ≢ k) → ((n : ℕ) → n * n ≢ l) → SamePlace (Surd a plus k) (Surd b plus' l) → Surd a plus k ≡ Surd b plus' l
surds_spelled_same a b true true k l none none' same = elim (int_cases a b) [
  | inl le ↦ let found = up_from a b le in sums_level a b found.0 k l found.1 none' same
  | inr gt ↦ let found = up_from b a (omega (arith, ints)) in sym (sums_level b a found.0 l k found.1 none (same_symm _ _ same))
]
surds_spelled_same a b false false k l none none' same = elim (int_cases a b) [
  | inl le ↦ let found = up_from a b le in differences_level a b found.0 k l found.1 none same
  | inr gt ↦ let found = up_from b a (omega (arith, ints)) in sym (differences_level b a found.0 l k found.1 none' (same_symm _ _ same))
]
surds_spelled_same a b true false k l none none' same = absurd (mixed_apart a b k l none same)
surds_spelled_same a b false true k l none none' same = absurd (mixed_apart b a l k none' (same_symm _ _ same))

-- Products of signed numbers: the laws that a commutative ring has, and what a product does to an order.
use Rattle.std.proofs.Common.{◌≡◌, ◌<◌, ◌≤◌, ◌+◌, ◌*◌, ◌∙◌, ℕ, ℤ, pos, negsuc, ◌+ℤ◌, ◌-ℤ◌, ◌*ℤ◌, ◌<ℤ◌, ◌≤ℤ◌, refl, ap, arith}
use Rattle.std.proofs.lemmas.Int.{ints, by_lt_z}
use Rattle.std.proofs.Math.IntN.{*ℤ_comm, neg_ℤ}
use Rattle.std.proofs.Math.Nat.{mul-lt-mul_of_pos_right}
use Rattle.std.proofs.lemmas.Nat.{mul-le}
use borrow.Author.Differences.{up, down, product_is, sum_is_lem, neg_is, same_in}

up_mul : (a b : ℤ) → up (a *ℤ b) ≡ up a * up b + down a * down b
up_mul a b = (product_is a b).0

down_mul : (a b : ℤ) → down (a *ℤ b) ≡ up a * down b + down a * up b
down_mul a b = (product_is a b).1

pub mul_assoc : (a b c : ℤ) → (a *ℤ b) *ℤ c ≡ a *ℤ (b *ℤ c)
mul_assoc a b c = same_in _ _ (simp (up_mul, down_mul) (omega arith))

-- the last two factors change places
pub mul_swap : (a b c : ℤ) → (a *ℤ b) *ℤ c ≡ (a *ℤ c) *ℤ b
mul_swap a b c = same_in _ _ (simp (up_mul, down_mul) (omega arith))

pub mul_add : (a b c : ℤ) → a *ℤ (b +ℤ c) ≡ (a *ℤ b) +ℤ (a *ℤ c)
mul_add a b c =
    let s = sum_is_lem b c in
    let one : up a * (up (b +ℤ c) + down b + down c) ≡ up a * (down (b +ℤ c) + up b + up c) = ap (λ n. up a * n) s in
    let two : down a * (up (b +ℤ c) + down b + down c) ≡ down a * (down (b +ℤ c) + up b + up c) = ap (λ n. down a * n) s in
    same_in _ _ (omega (arith, ints))

up_neg : (b : ℤ) → up (neg_ℤ b) ≡ down b
up_neg b = (neg_is b).0

down_neg : (b : ℤ) → down (neg_ℤ b) ≡ up b
down_neg b = (neg_is b).1

pub mul_neg : (a b : ℤ) → a *ℤ neg_ℤ b ≡ neg_ℤ (a *ℤ b)
mul_neg a b = same_in _ _ (simp (up_neg, down_neg, up_mul, down_mul, up_neg, down_neg) (omega arith))

pub mul_sub : (a b c : ℤ) → a *ℤ (b -ℤ c) ≡ (a *ℤ b) -ℤ (a *ℤ c)
mul_sub a b c = mul_add a b (neg_ℤ c) ∙ ap (λ n. (a *ℤ b) +ℤ n) (mul_neg a c)

-- a positive number is a natural
pub positive_is : (z : ℤ) → pos 0 <ℤ z → (n : ℕ) × (z ≡ pos n) × (0 < n)
positive_is (pos n) h = (n, refl, omega (arith, ints))
positive_is (negsuc n) h = absurd (omega (arith, ints))

pub mul_below : (a b c : ℤ) → pos 0 <ℤ c → a <ℤ b → (a *ℤ c) <ℤ (b *ℤ c)
mul_below a b (pos n) some lt =
    let step : (up a + down b) * n < (up b + down a) * n = mul-lt-mul_of_pos_right (omega (arith, ints)) (omega (arith, ints)) in omega (arith, ints)
mul_below a b (negsuc n) some lt = absurd (omega (arith, ints))

pub mul_at_most : (a b c : ℤ) → pos 0 ≤ℤ c → a ≤ℤ b → (a *ℤ c) ≤ℤ (b *ℤ c)
mul_at_most a b (pos n) some le =
    let step : (up a + down b) * n ≤ (up b + down a) * n = mul-le (up a + down b) n (up b + down a) n (omega (arith, ints)) (omega arith) in omega (arith, ints)
mul_at_most a b (negsuc n) some le = absurd (omega (arith, ints))

-- a positive factor is taken from both sides
pub below_from_mul : (a b c : ℤ) → pos 0 <ℤ c → (a *ℤ c) <ℤ (b *ℤ c) → a <ℤ b
below_from_mul a b c some lt =
    by_lt_z a b (λ h. h) (λ le. let back : (b *ℤ c) ≤ℤ (a *ℤ c) = mul_at_most b a c (omega (arith, ints)) le in absurd (omega (arith, ints)))

-- a square is not negative
pub square_at_least : (a : ℤ) → pos 0 ≤ℤ (a *ℤ a)
square_at_least (pos n) = omega (arith, ints)
square_at_least (negsuc n) = omega (arith, ints)

-- a positive factor is taken from both sides
pub at_most_from_mul : (a b c : ℤ) → pos 0 <ℤ c → (a *ℤ c) ≤ℤ (b *ℤ c) → a ≤ℤ b
at_most_from_mul a b c some le =
    by_lt_z b a (λ lt. let back : (b *ℤ c) <ℤ (a *ℤ c) = mul_below b a c some lt in absurd (omega (arith, ints))) (λ h. h)

pub add_mul : (a b c : ℤ) → (a +ℤ b) *ℤ c ≡ (a *ℤ c) +ℤ (b *ℤ c)
add_mul a b c =
    *ℤ_comm (a +ℤ b) c ∙ mul_add c a b ∙ ap (λ (z : ℤ). z +ℤ (c *ℤ b)) (*ℤ_comm c a) ∙ ap (λ (z : ℤ). (a *ℤ c) +ℤ z) (*ℤ_comm c b)

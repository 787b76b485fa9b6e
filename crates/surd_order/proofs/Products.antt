-- Bounds of the products of a comparison, from the ranges of positions.
use Rattle.std.proofs.Common.{arith, ◌≤◌, ◌<◌, ◌+◌, ◌*◌, ◌^◌, ◌-ℤ◌, ◌*ℤ◌, ℕ, ℤ, pos}
use Rattle.std.specs.Int.RustNames.{unsigned_abs}
use Rattle.std.proofs.lemmas.Int.{ints}
use Rattle.std.proofs.lemmas.Nat.{mul-le}
use Rattle.surd_order.specs.declared.range.TheConstants.{OVER_LIMIT, UNDER_LIMIT, WHOLE_LIMIT, SQUARE_LIMIT}
use Rattle.surd_order.specs.Range.{IsFractionInRange, IsSurdInRange}
use Rattle.surd_order.specs.Products.{ProductsAreSmall, distance_squared}
use Rattle.surd_order.proofs.Sizes.{product_size}

abbrev over : ℕ
over = OVER_LIMIT

abbrev under : ℕ
under = unsigned_abs UNDER_LIMIT

abbrev apart : ℕ
apart = 2 * WHOLE_LIMIT

distance_small : (a b : ℤ) (k l : ℕ) → IsSurdInRange a k → IsSurdInRange b l → distance_squared a b ≤ apart * apart
distance_small a b k l s t =
    let d : unsigned_abs (b -ℤ a) ≤ apart = omega (arith, ints, s.whole, t.whole) in
    mul-le (unsigned_abs (b -ℤ a)) (unsigned_abs (b -ℤ a)) apart apart d d

fractions_small : (p q r s : ℤ) → IsFractionInRange p q → IsFractionInRange r s → unsigned_abs (p *ℤ s) < 2 ^ 127
fractions_small p q r s f g = omega (arith, product_size p s over under (omega (arith, f.over)) (omega (arith, ints, g.positive, g.under)))

whole_small : (p q a : ℤ) (k : ℕ) → IsFractionInRange p q → IsSurdInRange a k → unsigned_abs (a *ℤ q) ≤ WHOLE_LIMIT * under
whole_small p q a k f s = product_size a q WHOLE_LIMIT under (omega (arith, s.whole)) (omega (arith, ints, f.positive, f.under))

offset_small : (p q a : ℤ) (k : ℕ) → IsFractionInRange p q → IsSurdInRange a k → unsigned_abs (p -ℤ (a *ℤ q)) < 5 * 2 ^ 61
offset_small p q a k f s = omega (arith, ints, whole_small p q a k f s, f.over)

beside_root_small : (p q a : ℤ) (k : ℕ) → IsFractionInRange p q → IsSurdInRange a k → unsigned_abs ((p -ℤ (a *ℤ q)) *ℤ (p -ℤ (a *ℤ q))) < 2 ^ 127
beside_root_small p q a k f s =
    let m : unsigned_abs (p -ℤ (a *ℤ q)) ≤ 5 * 2 ^ 61 = omega (arith, offset_small p q a k f s) in
    omega (arith, product_size (p -ℤ (a *ℤ q)) (p -ℤ (a *ℤ q)) (5 * 2 ^ 61) (5 * 2 ^ 61) m m)

root_small : (p q a : ℤ) (k : ℕ) → IsFractionInRange p q → IsSurdInRange a k → unsigned_abs (pos k *ℤ (q *ℤ q)) < 2 ^ 127
root_small p q a k f s =
    let q_small : unsigned_abs q ≤ under = omega (arith, ints, f.positive, f.under) in
    omega (arith, product_size (pos k) (q *ℤ q) SQUARE_LIMIT (under * under) (omega (arith, s.square)) (product_size q q under under q_small q_small))

beside_both_small : (a b : ℤ) (k l : ℕ) → IsSurdInRange a k → IsSurdInRange b l → unsigned_abs ((pos k -ℤ pos (distance_squared a b + l)) *ℤ (pos k -ℤ pos (distance_squared a b + l))) < 2 ^ 127
beside_both_small a b k l s t =
    let z : ℤ = pos k -ℤ pos (distance_squared a b + l) in
    let m : unsigned_abs (pos k -ℤ pos (distance_squared a b + l)) ≤ apart * apart + SQUARE_LIMIT = omega (arith, ints, distance_small a b k l s t, s.square, t.square) in
    omega (arith, product_size (pos k -ℤ pos (distance_squared a b + l)) (pos k -ℤ pos (distance_squared a b + l)) (apart * apart + SQUARE_LIMIT) (apart * apart + SQUARE_LIMIT) m m)

under_one_small : (a b : ℤ) (k l : ℕ) → IsSurdInRange a k → IsSurdInRange b l → 4 * (distance_squared a b * l) < 2 ^ 127
under_one_small a b k l s t = omega (arith, mul-le (distance_squared a b) l (apart * apart) SQUARE_LIMIT (distance_small a b k l s t) (omega (arith, t.square)))

beside_sum_small : (a b : ℤ) (k l : ℕ) → IsSurdInRange a k → IsSurdInRange b l → unsigned_abs ((pos (distance_squared a b) -ℤ pos (k + l)) *ℤ (pos (distance_squared a b) -ℤ pos (k + l))) < 2 ^ 127
beside_sum_small a b k l s t =
    let m : unsigned_abs (pos (distance_squared a b) -ℤ pos (k + l)) ≤ apart * apart + 2 * SQUARE_LIMIT = omega (arith, ints, distance_small a b k l s t, s.square, t.square) in
    omega (arith, product_size (pos (distance_squared a b) -ℤ pos (k + l)) (pos (distance_squared a b) -ℤ pos (k + l)) (apart * apart + 2 * SQUARE_LIMIT) (apart * apart + 2 * SQUARE_LIMIT) m m)

under_both_small : (a b : ℤ) (k l : ℕ) → IsSurdInRange a k → IsSurdInRange b l → 4 * (k * l) < 2 ^ 127
under_both_small a b k l s t = omega (arith, mul-le k l SQUARE_LIMIT SQUARE_LIMIT (omega (arith, s.square)) (omega (arith, t.square)))

pub products_are_small : ProductsAreSmall
products_are_small = record {
  fractions = fractions_small;
  times_whole = λ p q a k f s. omega (arith, whole_small p q a k f s);
  offset = offset_small;
  beside_root = beside_root_small;
  root = root_small;
  beside_both = beside_both_small;
  under_one = under_one_small;
  beside_sum = beside_sum_small;
  under_both = under_both_small;
}

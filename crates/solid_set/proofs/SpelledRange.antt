-- The one spelling of a position in range is in range.
use Rattle.std.proofs.Common.{◌≡◌, ◌<◌, ◌≤◌, ◌*◌, ◌==◌, ℕ, ℤ, pos, negsuc, int_div, ◌<ℤ◌, Bool, true, false, cond, refl, arith}
use Rattle.std.proofs.lemmas.Int.{ints}
use Rattle.std.proofs.lemmas.Nat.{mul-le}
use Rattle.std.specs.Int.RustNames.{unsigned_abs}
use Rattle.surd_order.specs.declared.position.Pos.{Pos}
use Rattle.surd_order.specs.declared.position.Pos.TheVariants.{Frac, Surd}
use Rattle.surd_order.specs.Range.{IsInRange, IsFractionInRange, IsSurdInRange}
use Rattle.surd_order.specs.Spelled.{spelled, divided, beside}
use Rattle.surd_order.proofs.SpelledPlaces.{is_one_spelling}
use Rattle.wide_core.specs.Gcd.{gcd_of}
use Rattle.wide_core.specs.Root.{root_of}
use Rattle.std.proofs.lemmas.Bool.Decides.{nat_tests}
use Rattle.std.proofs.lemmas.Bool.{cases_lt}
use Rattle.std.proofs.Common.{inl, inr}
use Rattle.surd_order.specs.declared.range.TheConstants.{OVER_LIMIT, UNDER_LIMIT, WHOLE_LIMIT, SQUARE_LIMIT}

quotient_size : (z : ℤ) (d : ℕ) → unsigned_abs (int_div z (pos d)) ≤ unsigned_abs z
quotient_size (pos n) d = omega (arith, ints)
quotient_size (negsuc n) d = omega (arith, ints)

quotient_under : (q : ℤ) (d : ℕ) (limit : ℤ) → pos 0 <ℤ q → q <ℤ limit → int_div q (pos d) <ℤ limit
quotient_under (pos n) d limit some h = omega (arith, ints)
quotient_under (negsuc n) d limit some h = absurd (omega (arith, ints))

divided_range : (p q : ℤ) (d : ℕ) → IsFractionInRange p q → pos 0 <ℤ int_div q (pos d) → IsInRange (divided p q d)
divided_range p q d h some = record {
  over = omega (arith, quotient_size p d, h.over);
  positive = some;
  under = quotient_under q d UNDER_LIMIT h.positive h.under;
}

root_small : (r k : ℕ) → r * r ≡ k → k < SQUARE_LIMIT → r < SQUARE_LIMIT
root_small r k e small = elim (cases_lt r SQUARE_LIMIT) [
  | inl lt ↦ lt
  | inr ge ↦ absurd (let big : SQUARE_LIMIT * SQUARE_LIMIT ≤ r * r = mul-le SQUARE_LIMIT SQUARE_LIMIT r r ge ge in omega (arith, big, e, small))
]

beside_size : (a : ℤ) (plus : Bool) (r : ℕ) → unsigned_abs a < WHOLE_LIMIT → r < SQUARE_LIMIT → unsigned_abs (beside a plus r) < OVER_LIMIT
beside_size (pos a) true r h small = omega (arith, ints)
beside_size (pos a) false r h small = omega (arith, ints)
beside_size (negsuc a) true r h small = omega (arith, ints)
beside_size (negsuc a) false r h small = omega (arith, ints)

taken_range : (a : ℤ) (plus : Bool) (k r : ℕ) → IsSurdInRange a k → (b : Bool) → (r * r == k) ≡ b → IsInRange (cond b (Frac (beside a plus r) (pos 1)) (Surd a plus k))
taken_range a plus k r h true e =
    let square : r * r ≡ k = grind (arith, nat_tests) in
    record { over = beside_size a plus r h.whole (root_small r k square h.square); positive = omega (arith, ints); under = omega (arith, ints) }
taken_range a plus k r h false e = h

pub spelled_range : (x : Pos) → IsInRange x → IsInRange (spelled x)
spelled_range (Frac p q) h = divided_range p q (gcd_of (unsigned_abs p) (unsigned_abs q)) h (is_one_spelling.spelling (Frac p q) h.positive).0
spelled_range (Surd a plus k) h = taken_range a plus k (root_of k) h (root_of k * root_of k == k) refl

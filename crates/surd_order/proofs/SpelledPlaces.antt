-- The spelling of each place is in its one spelling and at that place.
use Rattle.std.proofs.Common.{◌≡◌, ◌<◌, ◌≤◌, ◌+◌, ◌*◌, ◌==◌, ℕ, ℤ, pos, negsuc, ◌<ℤ◌, refl, sym, subst, arith, cond, Bool, true, false}
use Rattle.std.proofs.lemmas.Int.{ints}
use Rattle.std.proofs.lemmas.Bool.{eqb-true, eqb-false}
use Rattle.std.specs.Int.RustNames.{unsigned_abs}
use Rattle.wide_core.specs.Gcd.{gcd_of}
use Rattle.wide_core.specs.Root.{root_of}
use Rattle.wide_core.proofs.Divisors.{divisor_some}
use Rattle.wide_core.proofs.Euclid.{gcd_of-is}
use Rattle.wide_core.proofs.RootDigits.{root_of-is}
use Rattle.surd_order.specs.declared.position.Pos.{Pos}
use Rattle.surd_order.specs.declared.position.Pos.TheVariants.{Frac, Surd}
use Rattle.surd_order.specs.Order.{IsPlace, SamePlace}
use Rattle.surd_order.specs.Spelling.{IsSpelled, HaveSameFractions, fraction_of}
use Rattle.surd_order.specs.Spelled.{spelled, beside, IsOneSpelling}
use Rattle.surd_order.proofs.FracLemmas.{spelled_reduced, same_reduced}
use Rattle.surd_order.proofs.SquareLaws.{between_squares, gcd_one, whole_sum, whole_difference}
use Rattle.surd_order.proofs.OrderLaws.{same_symm, same_trans, same_from_fractions}
use Rattle.surd_order.proofs.LawProofs.{places_have_one_spelling}

-- a spelling, and of the same place
record IsSpellingOf (x y : Pos) : Type 0 where
  pub spelling : IsSpelled x
  pub fractions : HaveSameFractions x y

divisor_positive : (p : ℤ) (d : ℕ) → 0 < d → pos 0 <ℤ pos (gcd_of (unsigned_abs p) d)
divisor_positive p d some =
    let more : 0 < gcd_of (unsigned_abs p) d = divisor_some (unsigned_abs p) d _ some (gcd_of-is (unsigned_abs p) d) in omega (arith, ints)

taken_is : (a : ℤ) (plus : Bool) (k r : ℕ) → r * r ≤ k → k < (r + 1) * (r + 1) → (square : Bool) → square ≡ (r * r == k) → IsSpellingOf (cond square (Frac (beside a plus r) (pos 1)) (Surd a plus k)) (Surd a plus k)
taken_is a true k r low high true is = record { spelling = (omega (arith, ints), gcd_one _); fractions = whole_sum a r k (eqb-true (r * r) k (sym is)) }
taken_is a false k r low high true is = record { spelling = (omega (arith, ints), gcd_one _); fractions = whole_difference a r k (eqb-true (r * r) k (sym is)) }
taken_is a plus k r low high false is = record { spelling = between_squares r k (let apart : r * r ≡ k → ⊥ = eqb-false (r * r) k (sym is) in omega arith) high; fractions = λ p q some. (λ h. h, λ h. h) }

spelled_is : (x : Pos) → IsPlace x → IsSpellingOf (spelled x) x
spelled_is (Frac p (pos d)) place =
    let some : 0 < d = omega (arith, ints) in record {
      spelling = spelled_reduced p (pos d) (pos (gcd_of (unsigned_abs p) d)) place (divisor_positive p d some) (gcd_of-is (unsigned_abs p) d);
      fractions = same_reduced p (pos d) (pos (gcd_of (unsigned_abs p) d)) place (divisor_positive p d some) (gcd_of-is (unsigned_abs p) d);
    }
spelled_is (Frac p (negsuc d)) place = absurd (omega (arith, ints))
spelled_is (Surd a plus k) place =
    let root = root_of-is k in taken_is a plus k (root_of k) root.square root.next (root_of k * root_of k == k) refl

spelled_place : (x : Pos) → IsSpelled x → IsPlace x
spelled_place (Frac p q) h = h.0
spelled_place (Surd a plus k) h = tt

spelled_same : (x : Pos) → IsPlace x → SamePlace (spelled x) x
spelled_same x place = same_from_fractions (spelled x) x (spelled_is x place).fractions

-- what is in its one spelling and at the place is the spelling of the place
pub spelling_unique : (x y : Pos) → IsPlace y → IsSpelled x → HaveSameFractions x y → x ≡ spelled y
spelling_unique x y place h same =
    places_have_one_spelling x (spelled y) h (spelled_is y place).spelling
    (same_trans x y (spelled y) (same_from_fractions x y same) (same_symm (spelled y) y (spelled_same y place)))

pub is_one_spelling : IsOneSpelling
is_one_spelling = record {
  spelling = λ x place. (spelled_is x place).spelling;
  place = spelled_same;
  fractions = λ x place. (spelled_is x place).fractions;
  kept = λ x h. sym (spelling_unique x x (spelled_place x h) h (λ p q some. (λ within. within, λ within. within)));
  one = λ x y place place'. (
    λ e. same_trans x (spelled y) y (subst (λ (z : Pos). SamePlace x z) e (same_symm (spelled x) x (spelled_same x place))) (spelled_same y place'),
    λ same. places_have_one_spelling (spelled x) (spelled y) (spelled_is x place).spelling (spelled_is y place').spelling
        (same_trans (spelled x) x (spelled y) (spelled_same x place) (same_trans x y (spelled y) same (same_symm (spelled y) y (spelled_same y place')))),
  );
}

-- a root between two neighbours stays
pub surd_kept : (a : ℤ) (plus : Bool) (k r : ℕ) → r * r < k → k < (r + 1) * (r + 1) → Surd a plus k ≡ spelled (Surd a plus k)
surd_kept a plus k r low high = spelling_unique (Surd a plus k) (Surd a plus k) tt (between_squares r k low high) (λ p q some. (λ h. h, λ h. h))

pub fraction_of-place : (p q : ℤ) → (q ≡ pos 0 → ⊥) → IsPlace (fraction_of p q)
fraction_of-place p (pos q) some = omega (arith, ints)
fraction_of-place p (negsuc q) some = omega (arith, ints)

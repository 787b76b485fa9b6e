-- Examples of the definitions.
use Rattle.std.proofs.Common.{◌≡◌, ◌-◌, pos, negsuc, refl, arith, inl, inr, true, false, codes}
use Rattle.std.proofs.lemmas.Int.{ints}
use Rattle.std.proofs.lemmas.Fmt.{decimal_digit, decimal_step}
use Rattle.surd_order.specs.declared.position.Pos.TheVariants.{Frac, Surd}
use Rattle.surd_order.specs.declared.range.TheConstants.{WHOLE_LIMIT, SQUARE_LIMIT}
use Rattle.surd_order.specs.AtMost.{AtMost}
use Rattle.surd_order.specs.Order.{Precedes, SamePlace}
use Rattle.surd_order.specs.Range.{IsInRange}
use Rattle.surd_order.specs.Roots.{IsBelowRoot, IsRoot, IsAboveRoot}
use Rattle.surd_order.specs.Spelling.{IsSpelled, fraction_of}
use Rattle.surd_order.specs.Text.{position_text}
use Rattle.surd_order.proofs.FractionSurdOrder.{sum_at}

-- 26/5 is at most 10 - √23, and 27/5 is not
lower_at_most : AtMost (pos 26) (pos 5) (Surd (pos 10) false 23)
lower_at_most = (omega (arith, ints), omega (arith, ints))

upper_beyond : ¬ (AtMost (pos 27) (pos 5) (Surd (pos 10) false 23))
upper_beyond = λ h. omega (arith, ints, h.1)

-- a negative fraction is at most √2, although its square is greater
negative_at_most : AtMost (negsuc 4) (pos 1) (Surd (pos 0) true 2)
negative_at_most = inl (omega (arith, ints))

-- the fraction 27/5 shows that 10 - √23 precedes 28/5
shown_between : Precedes (Surd (pos 10) false 23) (Frac (pos 28) (pos 5))
shown_between = record { p = pos 27; q = pos 5; positive = omega (arith, ints); within = omega (arith, ints); beyond = upper_beyond }

-- 1 + √4 is 3
square_taken : SamePlace (Frac (pos 3) (pos 1)) (Surd (pos 1) true 4)
square_taken = sum_at (pos 3) (pos 1) (pos 1) 4 (omega (arith, ints)) (omega (arith, ints), refl)

square_not_spelled : ¬ (IsSpelled (Surd (pos 1) true 4))
square_not_spelled = λ h. h 2 refl

turned_fraction : fraction_of (pos 6) (negsuc 3) ≡ Frac (negsuc 5) (pos 4)
turned_fraction = refl

two_below_root : IsBelowRoot (pos 2) (pos 5)
two_below_root = inr (omega (arith, ints))

three_is_root : IsRoot (pos 3) (pos 9)
three_is_root = (omega (arith, ints), refl)

three_above_root : IsAboveRoot (pos 3) (pos 8)
three_above_root = (omega (arith, ints), omega (arith, ints))

whole_text : position_text (Frac (pos 5) (pos 1)) ≡ codes "5"
whole_text = decimal_digit 5 (omega arith)

fraction_text : position_text (Frac (pos 7) (pos 2)) ≡ codes "7/2"
fraction_text = rw (decimal_digit 7 (omega arith), decimal_digit 2 (omega arith)) refl

difference_text : position_text (Surd (pos 10) false 23) ≡ codes "10-sqrt(23)"
difference_text = rw (decimal_step 10 (omega arith) (omega arith), decimal_digit 1 (omega arith), decimal_step 23 (omega arith) (omega arith), decimal_digit 2 (omega arith)) refl

sum_text : position_text (Surd (pos 0) true 2) ≡ codes "0+sqrt(2)"
sum_text = rw (decimal_digit 0 (omega arith), decimal_digit 2 (omega arith)) refl

last_in_range : IsInRange (Surd (pos (WHOLE_LIMIT - 1)) true (SQUARE_LIMIT - 1))
last_in_range = record { whole = omega arith; square = omega arith }

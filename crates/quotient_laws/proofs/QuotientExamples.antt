-- Quotients in order, fractions between them, and none between one and itself.
use Rattle.std.proofs.Common.{◌≡◌, List, [], ◌∷◌, length, ℤ, pos, ◌*ℤ◌, ◌<ℤ◌, true, false, All, refl, inl, inr, arith}
use Rattle.std.proofs.lemmas.Int.{ints}
use Rattle.surd_order.specs.declared.position.Pos.{Pos}
use Rattle.surd_order.specs.declared.position.Pos.TheVariants.{Frac, Surd}
use Rattle.surd_order.specs.Order.{Precedes}
use Rattle.solid_set.proofs.Separated.{all_more, pairs_more}
use Rattle.surd_quot.specs.Quotients.{Quotient, IsQuotient, IsAtMostQuotient, QuotientPrecedes, as_quotient}
use Rattle.quotient_laws.specs.Separation.{LiesBetweenQuotients, HasFractionsBetweenQuotients}
use Rattle.surd_quot.proofs.Quotients.{at_most_once, at_most_again}
use Rattle.surd_quot.proofs.Ordered.{quotients_are_ordered}

abbrev fraction : ℤ → ℤ → Quotient
fraction p q = as_quotient (Frac p q)

-- (1 + √5) / 2, about 1.618
abbrev golden : Quotient
golden = record { dividend = Surd (pos 1) true 5; divisor = pos 2 }

-- (3 - √5) / 2, about 0.382
abbrev golden_rest : Quotient
golden_rest = record { dividend = Surd (pos 3) false 5; divisor = pos 2 }

-- (1 + √5) / 2 comes after 8/5 and before 13/8
after_eight_fifths : QuotientPrecedes (fraction (pos 8) (pos 5)) golden
after_eight_fifths = record { p = pos 29; q = pos 18; positive = omega (arith, ints); within = inr (omega (arith, ints)); beyond = λ h. omega (arith, ints, h) }

before_thirteen_eighths : QuotientPrecedes golden (fraction (pos 13) (pos 8))
before_thirteen_eighths = record { p = pos 13; q = pos 8; positive = omega (arith, ints); within = omega (arith, ints); beyond = λ h. elim h [ inl le ↦ omega (arith, ints, le) | inr le ↦ omega (arith, ints, le) ] }

-- and so not before 8/5
not_before_eight_fifths : ¬ (QuotientPrecedes golden (fraction (pos 8) (pos 5)))
not_before_eight_fifths =
    quotients_are_ordered.asymmetric (fraction (pos 8) (pos 5)) golden
    (record { place = omega (arith, ints); positive = omega (arith, ints) }) (record { place = tt; positive = omega (arith, ints) }) after_eight_fifths

-- (3 - √5) / 2 comes after 3/8 and before 2/5
after_three_eighths : QuotientPrecedes (fraction (pos 3) (pos 8)) golden_rest
after_three_eighths = record { p = pos 8; q = pos 21; positive = omega (arith, ints); within = (omega (arith, ints), omega (arith, ints)); beyond = λ h. omega (arith, ints, h) }

before_two_fifths : QuotientPrecedes golden_rest (fraction (pos 2) (pos 5))
before_two_fifths = record { p = pos 2; q = pos 5; positive = omega (arith, ints); within = omega (arith, ints); beyond = λ h. omega (arith, ints, h.1) }

-- and so before (1 + √5) / 2
before_golden : QuotientPrecedes golden_rest golden
before_golden =
    quotients_are_ordered.transitive golden_rest (fraction (pos 2) (pos 5)) golden
    (record { place = tt; positive = omega (arith, ints) }) (record { place = omega (arith, ints); positive = omega (arith, ints) }) (record { place = tt; positive = omega (arith, ints) }) before_two_fifths
    (record { p = pos 1; q = pos 1; positive = omega (arith, ints); within = inr (omega (arith, ints)); beyond = λ h. omega (arith, ints, h) })

-- √2 / 2, and 3/2 divided by 2
abbrev half_root : Quotient
half_root = record { dividend = Surd (pos 0) true 2; divisor = pos 2 }

abbrev three_quarters : Quotient
three_quarters = record { dividend = Frac (pos 3) (pos 2); divisor = pos 2 }

-- a fraction beyond the first and below 3/4 lies between them
between_them : (p q : ℤ) → pos 0 <ℤ q → ¬ (IsAtMostQuotient p q half_root) → (p *ℤ pos 4) <ℤ (pos 3 *ℤ q) → LiesBetweenQuotients half_root three_quarters (Frac p q)
between_them p q positive beyond less = record {
  fraction = tt;
  place = positive;
  after = record { p = p; q = q; positive = positive; within = at_most_again p q (Frac p q) (omega (arith, ints)); beyond = beyond };
  before = record { p = pos 3; q = pos 4; positive = omega (arith, ints); within = omega (arith, ints); beyond = λ h. omega (arith, ints, at_most_once (pos 3) (pos 4) (Frac p q) h, less) };
}

five_sevenths_beyond : ¬ (IsAtMostQuotient (pos 5) (pos 7) half_root)
five_sevenths_beyond (inl h) = omega (arith, ints, h)
five_sevenths_beyond (inr h) = omega (arith, ints, h)

twenty_nine_fortieths_beyond : ¬ (IsAtMostQuotient (pos 29) (pos 40) half_root)
twenty_nine_fortieths_beyond (inl h) = omega (arith, ints, h)
twenty_nine_fortieths_beyond (inr h) = omega (arith, ints, h)

no_more : (P : Pos → Type 0) → All P []
no_more P = λ k d lt. absurd (omega (arith, lt))

-- 5/7 and 29/40 do
between_two_quotients : HasFractionsBetweenQuotients 2 half_root three_quarters
between_two_quotients = record {
  fractions = Frac (pos 5) (pos 7) ∷ Frac (pos 29) (pos 40) ∷ [];
  count = refl;
  between = all_more (LiesBetweenQuotients half_root three_quarters) (Frac (pos 5) (pos 7)) (Frac (pos 29) (pos 40) ∷ [])
      (between_them (pos 5) (pos 7) (omega (arith, ints)) five_sevenths_beyond (omega (arith, ints)))
      (all_more (LiesBetweenQuotients half_root three_quarters) (Frac (pos 29) (pos 40)) []
      (between_them (pos 29) (pos 40) (omega (arith, ints)) twenty_nine_fortieths_beyond (omega (arith, ints)))
      (no_more (LiesBetweenQuotients half_root three_quarters)));
  rising = pairs_more Precedes (Frac (pos 5) (pos 7)) (Frac (pos 29) (pos 40) ∷ [])
      (all_more (Precedes (Frac (pos 5) (pos 7))) (Frac (pos 29) (pos 40)) []
      (record { p = pos 29; q = pos 40; positive = omega (arith, ints); within = omega (arith, ints); beyond = λ h. omega (arith, ints, h) })
      (no_more (Precedes (Frac (pos 5) (pos 7)))))
      (pairs_more Precedes (Frac (pos 29) (pos 40)) [] (no_more (Precedes (Frac (pos 29) (pos 40)))) (λ i j d lt within. absurd (omega (arith, within))));
}

none : (u : Quotient) → IsQuotient u → (fractions : List Pos) → length fractions ≡ 1 → All (LiesBetweenQuotients u u) fractions → ⊥
none u is [] count between = omega (arith, count)
none u is (z ∷ zs) count between =
    let found = between 0 z (omega arith) in
    quotients_are_ordered.asymmetric u (as_quotient z) is (record { place = found.place; positive = omega (arith, ints) }) found.after found.before

-- no fraction lies between a quotient and itself
none_between_a_quotient_and_itself : (u : Quotient) → IsQuotient u → ¬ (HasFractionsBetweenQuotients 1 u u)
none_between_a_quotient_and_itself u is = λ found. none u is found.fractions found.count found.between

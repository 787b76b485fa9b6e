-- Fractions between places: two between a root and a fraction, and none between a place and itself.
use Rattle.std.proofs.Common.{◌≡◌, ◌∷◌, [], ℤ, pos, ◌<ℤ◌, ◌*ℤ◌, refl, arith, inl, inr, true, List, length, All}
use Rattle.std.proofs.lemmas.Int.{ints}
use Rattle.surd_order.specs.declared.position.Pos.{Pos}
use Rattle.surd_order.specs.declared.position.Pos.TheVariants.{Frac, Surd}
use Rattle.surd_order.specs.AtMost.{AtMost}
use Rattle.surd_order.specs.Order.{Precedes, IsPlace}
use Rattle.surd_order.proofs.OrderLaws.{asymmetric}
use Rattle.solid_set.specs.Separation.{IsFractionBetween, HasFractionsBetween}
use Rattle.solid_set.proofs.Separated.{all_more, pairs_more}

-- √2
abbrev root : Pos
root = Surd (pos 0) true 2

abbrev three_halves : Pos
three_halves = Frac (pos 3) (pos 2)

-- 10/7 and 29/20 are beyond the root
ten_sevenths_beyond : ¬ (AtMost (pos 10) (pos 7) root)
ten_sevenths_beyond (inl h) = omega (arith, ints, h)
ten_sevenths_beyond (inr h) = omega (arith, ints, h)

twenty_nine_twentieths_beyond : ¬ (AtMost (pos 29) (pos 20) root)
twenty_nine_twentieths_beyond (inl h) = omega (arith, ints, h)
twenty_nine_twentieths_beyond (inr h) = omega (arith, ints, h)

after_the_root : (p q : ℤ) → pos 0 <ℤ q → ¬ (AtMost p q root) → Precedes root (Frac p q)
after_the_root p q positive beyond = record { p = p; q = q; positive = positive; within = omega (arith, ints); beyond = beyond }

before_three_halves : (p q : ℤ) → pos 0 <ℤ q → (p *ℤ pos 2) <ℤ (pos 3 *ℤ q) → Precedes (Frac p q) three_halves
before_three_halves p q positive less = record { p = pos 3; q = pos 2; positive = omega (arith, ints); within = omega (arith, ints); beyond = λ h. omega (arith, ints, h, less) }

none : (x : Pos) → IsPlace x → (fractions : List Pos) → length fractions ≡ 1 → All (IsFractionBetween x x) fractions → ⊥
none x place [] count between = omega (arith, count)
none x place (z ∷ zs) count between = let found = between 0 z (omega arith) in asymmetric x z place found.place found.after found.before

-- a fraction beyond √2 and below 3/2 lies between them
fraction_between : (p q : ℤ) → pos 0 <ℤ q → ¬ (AtMost p q root) → (p *ℤ pos 2) <ℤ (pos 3 *ℤ q) → IsFractionBetween root three_halves (Frac p q)
fraction_between p q positive beyond less = record { fraction = tt; place = positive; after = after_the_root p q positive beyond; before = before_three_halves p q positive less }

no_more : (P : Pos → Type 0) → All P []
no_more P = λ k d lt. absurd (omega (arith, lt))

-- 10/7 and 29/20 do
between_a_root_and_a_fraction : HasFractionsBetween 2 root three_halves
between_a_root_and_a_fraction = record {
  fractions = Frac (pos 10) (pos 7) ∷ Frac (pos 29) (pos 20) ∷ [];
  count = refl;
  between = all_more (IsFractionBetween root three_halves) (Frac (pos 10) (pos 7)) (Frac (pos 29) (pos 20) ∷ [])
      (fraction_between (pos 10) (pos 7) (omega (arith, ints)) ten_sevenths_beyond (omega (arith, ints)))
      (all_more (IsFractionBetween root three_halves) (Frac (pos 29) (pos 20)) []
      (fraction_between (pos 29) (pos 20) (omega (arith, ints)) twenty_nine_twentieths_beyond (omega (arith, ints)))
      (no_more (IsFractionBetween root three_halves)));
  rising = pairs_more Precedes (Frac (pos 10) (pos 7)) (Frac (pos 29) (pos 20) ∷ [])
      (all_more (Precedes (Frac (pos 10) (pos 7))) (Frac (pos 29) (pos 20)) []
      (record { p = pos 29; q = pos 20; positive = omega (arith, ints); within = omega (arith, ints); beyond = λ h. omega (arith, ints, h) })
      (no_more (Precedes (Frac (pos 10) (pos 7)))))
      (pairs_more Precedes (Frac (pos 29) (pos 20)) [] (no_more (Precedes (Frac (pos 29) (pos 20)))) (λ i j d lt within. absurd (omega (arith, within))));
}

-- no fraction lies between a place and itself
none_between_a_place_and_itself : (x : Pos) → IsPlace x → ¬ (HasFractionsBetween 1 x x)
none_between_a_place_and_itself x place = λ found. none x place found.fractions found.count found.between

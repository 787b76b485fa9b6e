-- The order of positions: two positions precede each other in one direction at most, and chains of three are kept.
use Rattle.std.proofs.Common.{◌⊎◌, ℤ, pos, ◌*ℤ◌, ◌<ℤ◌, refl, arith, inl, inr}
use Rattle.std.proofs.lemmas.Int.{ints}
use Rattle.std.specs.Ordering.{MatchOrdering}
use Rattle.std.specs.declared.cmp.Ordering.{Ordering}
use Rattle.std.specs.declared.cmp.Ordering.TheVariants.{Less, Equal, Greater}
use Rattle.surd_order.specs.declared.position.Pos.{Pos}
use Rattle.surd_order.specs.declared.position.Pos.TheVariants.{Frac}
use Rattle.surd_order.specs.AtMost.{AtMost}
use Rattle.surd_order.specs.Order.{Precedes, SamePlace, IsOrderOf, IsExactlyOne, IsPlace}
use Rattle.surd_order.specs.Spelling.{HaveSameFractions}
use Rattle.surd_order.proofs.RootLaws.{int_cases}
use Rattle.surd_order.proofs.AtMostLaws.{at_most_down, at_most_or_not}

-- a fraction at most a position is less than one that is not
pub below_beyond : (x : Pos) (p q p' q' : ℤ) → IsPlace x → pos 0 <ℤ q → pos 0 <ℤ q' → AtMost p q x → ¬ (AtMost p' q' x) → (p *ℤ q') <ℤ (p' *ℤ q)
below_beyond x p q p' q' place some some' within beyond =
    elim (int_cases (p' *ℤ q) (p *ℤ q')) [ inl le ↦ absurd (beyond (at_most_down x p' q' p q place some' some le within)) | inr lt ↦ lt ]

pub asymmetric : (x y : Pos) → IsPlace x → IsPlace y → Precedes x y → ¬ (Precedes y x)
asymmetric x y place place' f = λ g.
    let one : (f.p *ℤ g.q) <ℤ (g.p *ℤ f.q) = below_beyond y f.p f.q g.p g.q place' f.positive g.positive f.within g.beyond in
    let two : (g.p *ℤ f.q) <ℤ (f.p *ℤ g.q) = below_beyond x g.p g.q f.p f.q place g.positive f.positive g.within f.beyond in
    omega (arith, ints)

pub transitive : (x y z : Pos) → IsPlace y → IsPlace z → Precedes x y → Precedes y z → Precedes x z
transitive x y z place place' f g =
    let lt : (f.p *ℤ g.q) <ℤ (g.p *ℤ f.q) = below_beyond y f.p f.q g.p g.q place f.positive g.positive f.within g.beyond in record {
      p = f.p;
      q = f.q;
      positive = f.positive;
      within = at_most_down z f.p f.q g.p g.q place' f.positive g.positive (omega (arith, ints)) g.within;
      beyond = f.beyond;
    }

-- a third position is after the earlier one of two or before the later one
pub between : (x y z : Pos) → Precedes x z → Precedes x y ⊎ Precedes y z
between x y z f =
    elim (at_most_or_not f.p f.q y) [
      | inl within ↦ inl (record { p = f.p; q = f.q; positive = f.positive; within = within; beyond = f.beyond })
      | inr beyond ↦ inr (record { p = f.p; q = f.q; positive = f.positive; within = f.within; beyond = beyond })
    ]

pub same_symm : (x y : Pos) → SamePlace x y → SamePlace y x
same_symm x y same = record { not_before = same.not_after; not_after = same.not_before }

pub same_trans : (x y z : Pos) → SamePlace x y → SamePlace y z → SamePlace x z
same_trans x y z one two = record {
  not_before = λ f. elim (between x y z f) [ inl h ↦ one.not_before h | inr h ↦ two.not_before h ];
  not_after = λ f. elim (between z y x f) [ inl h ↦ two.not_after h | inr h ↦ one.not_after h ];
}

pub same_refl : (x : Pos) → SamePlace x x
same_refl x = record { not_before = λ f. f.beyond f.within; not_after = λ f. f.beyond f.within }

-- a place has one set of fractions at most it
pub fractions_from_same : (x y : Pos) → SamePlace x y → HaveSameFractions x y
fractions_from_same x y same = λ p q some. (
  λ within. elim (at_most_or_not p q y) [ inl good ↦ good | inr beyond ↦ absurd (same.not_after (record { p = p; q = q; positive = some; within = within; beyond = beyond })) ],
  λ within. elim (at_most_or_not p q x) [ inl good ↦ good | inr beyond ↦ absurd (same.not_before (record { p = p; q = q; positive = some; within = within; beyond = beyond })) ],
)

pub same_from_fractions : (x y : Pos) → HaveSameFractions x y → SamePlace x y
same_from_fractions x y same = record {
  not_before = λ f. f.beyond ((same f.p f.q f.positive).1 f.within);
  not_after = λ f. f.beyond ((same f.p f.q f.positive).0 f.within);
}

-- a fraction that is not at most a position is itself after it
pub before_fraction : (x : Pos) (p q : ℤ) → pos 0 <ℤ q → ¬ (AtMost p q x) → Precedes x (Frac p q)
before_fraction x p q some beyond = record { p = p; q = q; positive = some; within = omega (arith, ints); beyond = beyond }

pub not_before_fraction : (x : Pos) (p q : ℤ) → IsPlace x → pos 0 <ℤ q → AtMost p q x → ¬ (Precedes x (Frac p q))
not_before_fraction x p q place some within = λ f. f.beyond (at_most_down x f.p f.q p q place f.positive some f.within within)

pub order_from : (answer : Ordering) (x y : Pos) → IsPlace x → IsPlace y → MatchOrdering answer (Precedes x y) (SamePlace x y) (Precedes y x) → IsOrderOf answer x y
order_from Less x y place place' f = record {
  less = (λ _. f, λ _. refl);
  same = (λ e. cc, λ s. absurd (s.not_before f));
  greater = (λ e. cc, λ g. absurd (asymmetric x y place place' f g));
}
order_from Equal x y place place' s = record {
  less = (λ e. cc, λ f. absurd (s.not_before f));
  same = (λ _. s, λ _. refl);
  greater = (λ e. cc, λ g. absurd (s.not_after g));
}
order_from Greater x y place place' g = record {
  less = (λ e. cc, λ f. absurd (asymmetric x y place place' f g));
  same = (λ e. cc, λ s. absurd (s.not_after g));
  greater = (λ _. g, λ _. refl);
}

pub exactly_one : (x y : Pos) → IsPlace x → IsPlace y → Precedes x y ⊎ (SamePlace x y ⊎ Precedes y x) → IsExactlyOne (Precedes x y) (SamePlace x y) (Precedes y x)
exactly_one x y place place' some = record {
  some = some;
  first_alone = λ f. (λ s. s.not_before f, asymmetric x y place place' f);
  second_alone = λ s. (s.not_before, s.not_after);
  third_alone = λ g. (λ f. asymmetric x y place place' f g, λ s. s.not_after g);
}

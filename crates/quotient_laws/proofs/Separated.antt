-- Between two quotients lie fractions: one by what lies between positions, and more by one after the other.
use Rattle.std.proofs.Common.{◌≡◌, zero, suc, ℤ, pos, ◌*ℤ◌, ◌<ℤ◌, ◌≤ℤ◌, [], ◌∷◌, ap, refl, arith}
use Rattle.std.proofs.lemmas.Int.{ints, by_lt_z}
use Rattle.wide_core.proofs.Products.{mul_at_most}
use Rattle.surd_order.specs.declared.position.Pos.{Pos}
use Rattle.surd_order.specs.declared.position.Pos.TheVariants.{Frac, Surd}
use Rattle.surd_order.specs.Order.{Precedes, IsPlace}
use Rattle.surd_order.specs.Spelling.{IsFraction}
use Rattle.surd_order.proofs.AtMostLaws.{at_most_down}
use Rattle.surd_order.proofs.OrderLaws.{before_fraction, not_before_fraction}
use Rattle.solid_set.proofs.Between.{between_places}
use Rattle.solid_set.proofs.Separated.{all_more, pairs_more}
use Rattle.surd_quot.specs.Quotients.{Quotient, IsQuotient, IsAtMostQuotient, QuotientPrecedes, as_quotient}
use Rattle.quotient_laws.specs.Separation.{LiesBetweenQuotients, QuotientsAreSeparated}
use Rattle.surd_quot.proofs.Factors.{product_positive, turned, outside}
use Rattle.surd_quot.proofs.Quotients.{at_most_once, at_most_again, plain_order}

-- a fraction that is not at most a quotient comes after it
comes_after : (u : Quotient) (p q : ℤ) → pos 0 <ℤ q → ¬ (IsAtMostQuotient p q u) → QuotientPrecedes u (as_quotient (Frac p q))
comes_after u p q some beyond = record { p = p; q = q; positive = some; within = at_most_again p q (Frac p q) (omega (arith, ints)); beyond = beyond }

record IsBetweenQuotients (u v : Quotient) : Type 0 where
  p : ℤ
  q : ℤ
  positive : pos 0 <ℤ q
  beyond : ¬ (IsAtMostQuotient p q u)
  before : QuotientPrecedes (as_quotient (Frac p q)) v

between_quotients : (u v : Quotient) → IsQuotient u → QuotientPrecedes u v → IsBetweenQuotients u v
between_quotients u v is h =
    let n = u.divisor in
    let some : pos 0 <ℤ n = omega (arith, ints, is.positive) in
    let g = between_places u.dividend (Frac (n *ℤ h.p) h.q) is.place (before_fraction u.dividend (n *ℤ h.p) h.q h.positive h.beyond) in
    let below : (g.p *ℤ h.q) <ℤ ((n *ℤ h.p) *ℤ g.q) = by_lt_z (g.p *ℤ h.q) ((n *ℤ h.p) *ℤ g.q) (λ lt. lt) (λ le. absurd (not_before_fraction (Frac g.p g.q) (n *ℤ h.p) h.q g.positive h.positive le g.before)) in
    let same : (n *ℤ h.p) *ℤ g.q ≡ h.p *ℤ (n *ℤ g.q) = outside n h.p g.q in
    let scaled : (n *ℤ g.p) *ℤ g.q ≡ g.p *ℤ (n *ℤ g.q) = outside n g.p g.q in
    let positive = product_positive n g.q some g.positive in
    record {
      p = g.p;
      q = n *ℤ g.q;
      positive = positive;
      beyond = λ le. not_before_fraction u.dividend g.p g.q is.place g.positive (at_most_down u.dividend g.p g.q (n *ℤ g.p) (n *ℤ g.q) is.place g.positive positive (omega (arith, ints, scaled)) le) g.after;
      before = record { p = h.p; q = h.q; positive = h.positive; within = h.within; beyond = λ le. let it : (h.p *ℤ (n *ℤ g.q)) ≤ℤ (g.p *ℤ h.q) = at_most_once h.p h.q (Frac g.p (n *ℤ g.q)) le in omega (arith, ints, it, below, same) };
    }

-- what comes after a fraction comes after what precedes it
later_still : (u : Quotient) (p q r s : ℤ) → IsQuotient u → pos 0 <ℤ q → pos 0 <ℤ s → ¬ (IsAtMostQuotient p q u) → QuotientPrecedes (as_quotient (Frac p q)) (as_quotient (Frac r s)) → QuotientPrecedes u (as_quotient (Frac r s))
later_still u p q r s is some some' beyond h =
    let n = u.divisor in
    comes_after u r s some' (λ at_most.
    let less : (p *ℤ s) <ℤ (r *ℤ q) = by_lt_z (p *ℤ s) (r *ℤ q) (λ lt. lt) (λ le. absurd (not_before_fraction (Frac p q) r s some some' le (plain_order (Frac p q) (Frac r s) h))) in
    let scaled : ((p *ℤ s) *ℤ n) ≤ℤ ((r *ℤ q) *ℤ n) = mul_at_most (p *ℤ s) (r *ℤ q) n (omega (arith, ints, is.positive)) (omega (arith, ints, less)) in
    let left : (n *ℤ p) *ℤ s ≡ (p *ℤ s) *ℤ n = turned n p s in
    let right : (n *ℤ r) *ℤ q ≡ (r *ℤ q) *ℤ n = turned n r q in
    beyond (at_most_down u.dividend (n *ℤ p) q (n *ℤ r) s is.place some some' (omega (arith, ints, left, right, scaled)) at_most))

later_than : (u : Quotient) (p q : ℤ) (z : Pos) → IsFraction z → IsPlace z → IsQuotient u → pos 0 <ℤ q → ¬ (IsAtMostQuotient p q u) → QuotientPrecedes (as_quotient (Frac p q)) (as_quotient z) → QuotientPrecedes u (as_quotient z)
later_than u p q (Frac r s) fraction place is some beyond h = later_still u p q r s is some place beyond h
later_than u p q (Surd a plus k) fraction place is some beyond h = absurd fraction

pub quotients_are_separated : QuotientsAreSeparated
quotients_are_separated u v zero is is' h = record { fractions = []; count = refl; between = λ k d lt. absurd (omega (arith, lt)); rising = λ i j d lt within. absurd (omega (arith, within)) }
quotients_are_separated u v (suc n) is is' h =
    let f = between_quotients u v is h in
    let z = Frac f.p f.q in
    let more = quotients_are_separated (as_quotient z) v n (record { place = f.positive; positive = omega (arith, ints) }) is' f.before in
    record {
      fractions = z ∷ more.fractions;
      count = ap (λ k. suc k) more.count;
      between = all_more (LiesBetweenQuotients u v) z more.fractions
          (record { fraction = tt; place = f.positive; after = comes_after u f.p f.q f.positive f.beyond; before = f.before })
          (λ k d lt.
          let it = more.between k d lt in
          record { fraction = it.fraction; place = it.place; after = later_than u f.p f.q _ it.fraction it.place is f.positive f.beyond it.after; before = it.before });
      rising = pairs_more Precedes z more.fractions (λ k d lt. plain_order z _ (more.between k d lt).after) more.rising;
    }

-- Between two places lies a fraction that is at none of so many others.
use Rattle.std.proofs.Common.{ℤ, pos, ◌<ℤ◌, List, [], ◌∷◌, get_or, inl, inr, arith}
use Rattle.surd_order.specs.declared.position.Pos.{Pos}
use Rattle.surd_order.specs.declared.position.Pos.TheVariants as position
use Rattle.surd_quot.specs.declared.position.QPos.{QPos}
use Rattle.surd_quot.specs.declared.position.QPos.TheVariants.{Frac}
use Rattle.surd_quot.specs.Positions.{quotient_of, IsQuotientPlace}
use Rattle.surd_quot.proofs.Ordered.{third, quotients_are_ordered}
use Rattle.surd_quot.proofs.Compared.{quotient_order_is_total}
use Rattle.quotient_laws.specs.Separation.{LiesBetweenQuotients}
use Rattle.quotient_laws.proofs.Separated.{quotients_are_separated}
use Rattle.oblique_ray.specs.Places.{Before, AtOnePlace, IsAtOneOf}
use Rattle.oblique_ray.proofs.Foremost.{ArePlaces, not_before}
use Rattle.oblique_ray.proofs.Faces.{fraction_place}

-- a fraction between two places that is at the place of none of a list
pub record IsBetweenBut (avoided : List QPos) (x y : QPos) : Type 0 where
  pub p : ℤ
  pub q : ℤ
  pub positive : pos 0 <ℤ q
  pub after : Before x (Frac p q)
  pub before : Before (Frac p q) y
  pub apart : ¬ (IsAtOneOf avoided (Frac p q))

pub passes : (x y z : QPos) → IsQuotientPlace x → IsQuotientPlace y → IsQuotientPlace z → Before x y → Before y z → Before x z
passes x y z place place' place'' h g = quotients_are_ordered.transitive (quotient_of x) (quotient_of y) (quotient_of z) place place' place'' h g

fraction_between : (x y : QPos) (z : Pos) → LiesBetweenQuotients (quotient_of x) (quotient_of y) z → IsBetweenBut [] x y
fraction_between x y (position.Frac p q) h = record { p = p; q = q; positive = h.place; after = h.after; before = h.before; apart = λ at. at }
fraction_between x y (position.Surd a plus k) h = absurd h.fraction

between_two : (x y : QPos) → IsQuotientPlace x → IsQuotientPlace y → Before x y → IsBetweenBut [] x y
between_two x y place place' before =
    let some = quotients_are_separated (quotient_of x) (quotient_of y) 1 place place' before in
    let zero_place : Pos = position.Frac (pos 0) (pos 1) in
    fraction_between x y (get_or some.fractions 0 zero_place) (some.between 0 zero_place (omega (arith, some.count)))

-- where a place does not lie strictly between two, nothing between these is at it
apart_before : (x z f : QPos) → ¬ (Before x z) → Before x f → ¬ (AtOnePlace f z)
apart_before x z f early after = λ same. elim (third (quotient_of x) (quotient_of z) (quotient_of f) after) [ inl h ↦ early h | inr h ↦ same.not_after h ]

apart_after : (y z f : QPos) → ¬ (Before z y) → Before f y → ¬ (AtOnePlace f z)
apart_after y z f late before = λ same. elim (third (quotient_of f) (quotient_of z) (quotient_of y) before) [ inl h ↦ same.not_before h | inr h ↦ late h ]

one_more : (avoided : List QPos) (x y z : QPos) (f : IsBetweenBut avoided x y) → ¬ (AtOnePlace (Frac f.p f.q) z) → IsBetweenBut (z ∷ avoided) x y
one_more avoided x y z f apart = record { p = f.p; q = f.q; positive = f.positive; after = f.after; before = f.before; apart = λ at. elim at [ inl same ↦ apart same | inr more ↦ f.apart more ] }

pub between_but : (avoided : List QPos) (x y : QPos) → ArePlaces avoided → IsQuotientPlace x → IsQuotientPlace y → Before x y → IsBetweenBut avoided x y
between_but [] x y places place place' before = between_two x y place place' before
between_but (z ∷ zs) x y places place place' before = elim ((quotient_order_is_total (quotient_of x) (quotient_of z) place places.0).some) [
  | inl inside ↦
      let f = between_but zs x z places.1 place places.0 inside in
      let f_place : IsQuotientPlace (Frac f.p f.q) = fraction_place f.p f.q f.positive in
      elim ((quotient_order_is_total (quotient_of z) (quotient_of y) places.0 place').some) [
        | inl early ↦ record {
          p = f.p;
          q = f.q;
          positive = f.positive;
          after = f.after;
          before = passes (Frac f.p f.q) z y f_place places.0 place' f.before early;
          apart = λ at. elim at [ inl same ↦ same.not_before f.before | inr more ↦ f.apart more ];
        }
        | inr beyond ↦
            let g = between_but zs x y places.1 place place' before in
            one_more zs x y z g (apart_after y z (Frac g.p g.q) (λ h. elim beyond [ inl same ↦ same.not_before h | inr back ↦ not_before z y places.0 place' h back ]) g.before)
      ]
  | inr outside ↦
      let g = between_but zs x y places.1 place place' before in
      one_more zs x y z g (apart_before x z (Frac g.p g.q) (λ h. elim outside [ inl same ↦ same.not_before h | inr back ↦ not_before x z place places.0 h back ]) g.after)
]

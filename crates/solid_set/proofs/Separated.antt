-- Between two places lie fractions, as many as one likes, and one that is none of so many places.
use Rattle.std.proofs.Common.{zero, suc, ℤ, pos, ◌<ℤ◌, List, [], ◌∷◌, All, AllPairs, ap, refl, inl, inr, arith}
use Rattle.surd_order.specs.declared.position.Pos.{Pos}
use Rattle.surd_order.specs.declared.position.Pos.TheVariants.{Frac}
use Rattle.surd_order.specs.Order.{Precedes, SamePlace, IsPlace}
use Rattle.surd_order.proofs.LawProofs.{outcome}
use Rattle.surd_order.proofs.OrderLaws.{asymmetric, between, transitive}
use Rattle.solid_set.specs.HitPlaces.{IsAtOneOf}
use Rattle.solid_set.specs.Separation.{IsFractionBetween, PlacesAreSeparated}
use Rattle.solid_set.proofs.Between.{between_places}
use Rattle.solid_set.proofs.Foremost.{Has}

pub all_more : {X : Type 0} (P : X → Type 0) (x : X) (xs : List X) → P x → All P xs → All P (x ∷ xs)
all_more P x xs head tail zero d lt = head
all_more P x xs head tail (suc k) d lt = tail k d (omega (arith, lt))

pub pairs_more : {X : Type 0} (R : X → X → Type 0) (x : X) (xs : List X) → All (R x) xs → AllPairs R xs → AllPairs R (x ∷ xs)
pairs_more R x xs head tail zero zero d lt within = absurd (omega (arith, lt))
pairs_more R x xs head tail zero (suc j) d lt within = head j d (omega (arith, within))
pairs_more R x xs head tail (suc i) zero d lt within = absurd (omega (arith, lt))
pairs_more R x xs head tail (suc i) (suc j) d lt within = tail i j d (omega (arith, lt)) (omega (arith, within))

pub places_are_separated : PlacesAreSeparated
places_are_separated x y zero place place' before = record { fractions = []; count = refl; between = λ k d lt. absurd (omega (arith, lt)); rising = λ i j d lt within. absurd (omega (arith, within)) }
places_are_separated x y (suc n) place place' before =
    let f = between_places x y place before in
    let more = places_are_separated (Frac f.p f.q) y n f.positive place' f.before in
    record {
      fractions = Frac f.p f.q ∷ more.fractions;
      count = ap (λ k. suc k) more.count;
      between = all_more (IsFractionBetween x y) (Frac f.p f.q) more.fractions
          (record { fraction = tt; place = f.positive; after = f.after; before = f.before })
          (λ k d lt.
          let z = more.between k d lt in
          record { fraction = z.fraction; place = z.place; after = transitive x (Frac f.p f.q) _ f.positive z.place f.after z.after; before = z.before });
      rising = pairs_more Precedes (Frac f.p f.q) more.fractions (λ k d lt. (more.between k d lt).after) more.rising;
    }

-- a fraction between two places that is at the place of none of a list
pub record IsBetweenBut (avoided : List Pos) (x y : Pos) : Type 0 where
  pub p : ℤ
  pub q : ℤ
  pub positive : pos 0 <ℤ q
  pub after : Precedes x (Frac p q)
  pub before : Precedes (Frac p q) y
  pub apart : ¬ (IsAtOneOf avoided (Frac p q))

-- where a place does not lie strictly between two, nothing between these is at it
apart_before : (x z f : Pos) → ¬ (Precedes x z) → Precedes x f → ¬ (SamePlace f z)
apart_before x z f early after = λ same. elim (between x z f after) [ inl h ↦ early h | inr h ↦ same.not_after h ]

apart_after : (y z f : Pos) → ¬ (Precedes z y) → Precedes f y → ¬ (SamePlace f z)
apart_after y z f late before = λ same. elim (between f z y before) [ inl h ↦ same.not_before h | inr h ↦ late h ]

one_more : (avoided : List Pos) (x y z : Pos) (f : IsBetweenBut avoided x y) → ¬ (SamePlace (Frac f.p f.q) z) → IsBetweenBut (z ∷ avoided) x y
one_more avoided x y z f apart = record { p = f.p; q = f.q; positive = f.positive; after = f.after; before = f.before; apart = λ at. elim at [ inl same ↦ apart same | inr more ↦ f.apart more ] }

-- between two places lies a fraction that is at none of so many
pub between_but : (avoided : List Pos) (x y : Pos) → ((z : Pos) → Has avoided z → IsPlace z) → IsPlace x → IsPlace y → Precedes x y → IsBetweenBut avoided x y
between_but [] x y places place place' before =
    let f = between_places x y place before in record { p = f.p; q = f.q; positive = f.positive; after = f.after; before = f.before; apart = λ at. at }
between_but (z ∷ zs) x y places place place' before =
    let here : IsPlace z = places z (inl refl) in
    let rest : (w : Pos) → Has zs w → IsPlace w = λ w has. places w (inr has) in
    elim (outcome x z place here) [
      | inl inside ↦
          let f = between_but zs x z rest place here inside in
          let late : ¬ (SamePlace (Frac f.p f.q) z) = λ same. same.not_before f.before in
          elim (outcome z y here place') [
            | inl early ↦ record {
              p = f.p;
              q = f.q;
              positive = f.positive;
              after = f.after;
              before = transitive (Frac f.p f.q) z y here place' f.before early;
              apart = λ at. elim at [ inl same ↦ late same | inr more ↦ f.apart more ];
            }
            | inr beyond ↦
                let g = between_but zs x y rest place place' before in
                one_more zs x y z g (apart_after y z (Frac g.p g.q) (λ h. elim beyond [ inl same ↦ same.not_before h | inr back ↦ asymmetric z y here place' h back ]) g.before)
          ]
      | inr outside ↦
          let g = between_but zs x y rest place place' before in
          one_more zs x y z g (apart_before x z (Frac g.p g.q) (λ h. elim outside [ inl same ↦ same.not_before h | inr back ↦ asymmetric x z place here h back ]) g.after)
    ]

-- Two lists of stretches that have the same regions at all fractions of a ray but some are one list.
use Rattle.std.proofs.Common.{◌≡◌, ◌⊎◌, ℕ, ℤ, pos, ◌<ℤ◌, List, [], ◌∷◌, ap, sym, ◌∙◌, subst, refl, inl, inr, arith}
use Rattle.std.proofs.lemmas.Int.{ints}
use Rattle.lattice_core.specs.Rays.{IsOnRay}
use Rattle.surd_order.specs.declared.position.Pos.{Pos}
use Rattle.surd_order.specs.declared.position.Pos.TheVariants.{Frac}
use Rattle.surd_order.specs.Order.{Precedes, SamePlace, IsPlace}
use Rattle.surd_order.proofs.LawProofs.{outcome, is_kept_by_same_place, places_have_one_spelling}
use Rattle.surd_order.proofs.OrderLaws.{asymmetric, same_symm, transitive}
pub use Rattle.solid_set.proofs.Places.{ArePlaces}
use Rattle.solid_set.specs.HitPlaces.{IsAtOneOf}
use Rattle.solid_set.specs.Segments.{ray_start, ray_end}
use Rattle.solid_set.proofs.Foremost.{Has as HasPlace}
use Rattle.solid_set.proofs.InsideLaws.{on_ray_within}
use Rattle.solid_set.proofs.Separated.{between_but}
use Rattle.bool_weave.proofs.Cutting.{place_from}
use Rattle.bool_weave.proofs.Sorted.{Has}
use Rattle.shot_core.specs.Points.{Stretch, IsStretch, EndsBefore}

-- a stretch of the region of a number lies strictly around a position
pub record IsAround (s : Stretch) (n : ℕ) (x : Pos) : Type 0 where
  pub region : s.region ≡ n
  pub after : Precedes s.start x
  pub before : Precedes x s.end

-- and some one of a list does
abbrev pub HasAround : List Stretch → ℕ → Pos → Type 0
HasAround [] n x = ⊥
HasAround (s ∷ ss) n x = IsAround s n x ⊎ HasAround ss n x

-- each stretch ends before all that follow
abbrev pub AreGood : List Stretch → Type 0
AreGood [] = Unit {0}
AreGood (s ∷ ss) = IsStretch s × ((t : Stretch) → Has ss t → EndsBefore s t) × AreGood ss

has_place : (xs : List Pos) → ArePlaces xs → (x : Pos) → HasPlace xs x → IsPlace x
has_place [] places x has = absurd has
has_place (y ∷ ys) places x has = elim has [ inl e ↦ subst IsPlace e places.0 | inr more ↦ has_place ys places.1 x more ]

pub start_place : (s : Stretch) → IsStretch s → IsPlace s.start
start_place s h = place_from s.start h.start_spelled

pub end_place : (s : Stretch) → IsStretch s → IsPlace s.end
end_place s h = place_from s.end h.end_spelled

zero_place : IsPlace ray_start
zero_place = omega (arith, ints)

far_place : IsPlace ray_end
far_place = omega (arith, ints)

start_within : (s : Stretch) → IsStretch s → ¬ (Precedes ray_end s.start)
start_within s h = λ late. h.not_ended (transitive ray_end s.start s.end (start_place s h) (end_place s h) late h.forward)

end_begun : (s : Stretch) → IsStretch s → ¬ (Precedes s.end ray_start)
end_begun s h = λ early. h.begun (transitive s.start s.end ray_start (end_place s h) zero_place h.forward early)

-- what a stretch of a list has lies before the rest of the list
behind_one : (s t : Stretch) (x : Pos) → IsStretch s → IsStretch t → IsPlace x → EndsBefore s t → ¬ (Precedes s.end x) → ¬ (Precedes t.start x)
behind_one s t x h g place apart not_after = λ after. elim apart [
  | inl gap ↦ not_after (transitive s.end t.start x (start_place t g) place gap after)
  | inr touch ↦ not_after (is_kept_by_same_place.before s.end t.start x touch.0 after)
]

none_around : (ss : List Stretch) (n : ℕ) (x : Pos) → ((t : Stretch) → Has ss t → ¬ (Precedes t.start x)) → ¬ (HasAround ss n x)
none_around [] n x not_after = λ around. around
none_around (s ∷ ss) n x not_after = λ around. elim around [ inl here ↦ not_after s (inl refl) here.after | inr more ↦ none_around ss n x (λ t has. not_after t (inr has)) more ]

pub good_one : (ss : List Stretch) (t : Stretch) → AreGood ss → Has ss t → IsStretch t
good_one [] t good has = absurd has
good_one (s ∷ ss) t good has = elim has [ inl e ↦ subst IsStretch e good.0 | inr more ↦ good_one ss t good.2 more ]

behind_rest : (s : Stretch) (ss : List Stretch) (n : ℕ) (x : Pos) → AreGood (s ∷ ss) → IsPlace x → ¬ (Precedes s.end x) → ¬ (HasAround ss n x)
behind_rest s ss n x good place not_after = none_around ss n x (λ t has. behind_one s t x good.0 (good_one ss t good.2 has) place (good.1 t has) not_after)

behind_all : (s : Stretch) (ss : List Stretch) (n : ℕ) (x : Pos) → AreGood (s ∷ ss) → IsPlace x → ¬ (Precedes s.start x) → ¬ (HasAround (s ∷ ss) n x)
behind_all s ss n x good place not_after = λ around. elim around [
  | inl here ↦ not_after here.after
  | inr more ↦ behind_rest s ss n x good place (λ after. not_after (transitive s.start s.end x (end_place s good.0) place good.0.forward after)) more
]

-- what one list has around a fraction of the ray that is not avoided another one has
abbrev pub Gives : List Pos → List Stretch → List Stretch → Type 0
Gives avoided ss ts = (p q : ℤ) (n : ℕ) → IsOnRay p q → ¬ (IsAtOneOf avoided (Frac p q)) → HasAround ss n (Frac p q) → HasAround ts n (Frac p q)

-- a fraction of the ray behind a place and before two others that is not avoided
record IsPicked (avoided : List Pos) (x y z : Pos) : Type 0 where
  p : ℤ
  q : ℤ
  on : IsOnRay p q
  apart : ¬ (IsAtOneOf avoided (Frac p q))
  after : Precedes x (Frac p q)
  before : Precedes (Frac p q) y
  before_other : Precedes (Frac p q) z

on_ray : (x y : Pos) (p q : ℤ) → pos 0 <ℤ q → IsPlace y → ¬ (Precedes x ray_start) → ¬ (Precedes ray_end y) → Precedes x (Frac p q) → Precedes (Frac p q) y → IsOnRay p q
on_ray x y p q some place begun not_ended after before = (on_ray_within p q some).1 (
  λ early. begun (transitive x (Frac p q) ray_start some zero_place after early),
  λ late. not_ended (transitive ray_end (Frac p q) y some place late before),
)

pick : (avoided : List Pos) (x y z : Pos) → ArePlaces avoided → IsPlace x → IsPlace y → IsPlace z → ¬ (Precedes x ray_start) → ¬ (Precedes ray_end y) → ¬ (Precedes ray_end z) → Precedes x y → Precedes x z → IsPicked avoided x y z
pick avoided x y z places place place_y place_z begun not_ended not_ended_z to_y to_z = elim (outcome y z place_y place_z) [
  | inl first ↦
      let f = between_but avoided x y (has_place avoided places) place place_y to_y in record {
        p = f.p;
        q = f.q;
        on = on_ray x y f.p f.q f.positive place_y begun not_ended f.after f.before;
        apart = f.apart;
        after = f.after;
        before = f.before;
        before_other = transitive (Frac f.p f.q) y z place_y place_z f.before first;
      }
  | inr last ↦
      let f = between_but avoided x z (has_place avoided places) place place_z to_z in record {
        p = f.p;
        q = f.q;
        on = on_ray x z f.p f.q f.positive place_z begun not_ended_z f.after f.before;
        apart = f.apart;
        after = f.after;
        before = elim last [ inl same ↦ is_kept_by_same_place.after (Frac f.p f.q) z y f.before (same_symm y z same) | inr back ↦ transitive (Frac f.p f.q) z y place_z place_y f.before back ];
        before_other = f.before;
      }
]

abbrev made : ℕ → Pos → Pos → Stretch
made n start end = record { region = n; start = start; end = end }

module _ (avoided : List Pos) (places : ArePlaces avoided) where
  -- a list that has something is not given by one that has nothing
  not_empty : (s : Stretch) (ss : List Stretch) → AreGood (s ∷ ss) → ¬ (Gives avoided (s ∷ ss) [])
  not_empty s ss good = λ gives.
      let h = good.0 in
      let f = pick avoided s.start s.end s.end places (start_place s h) (end_place s h) (end_place s h) h.begun h.not_ended h.not_ended h.forward h.forward in
      gives f.p f.q s.region f.on f.apart (inl (record { region = refl; after = f.after; before = f.before }))

  -- the first stretch of one list starts no earlier than that of another
  not_earlier : (s t : Stretch) (ss ts : List Stretch) → AreGood (s ∷ ss) → AreGood (t ∷ ts) → Gives avoided (s ∷ ss) (t ∷ ts) → ¬ (Precedes s.start t.start)
  not_earlier s t ss ts good good' gives = λ early.
      let h = good.0 in
      let g = good'.0 in
      let f = pick avoided s.start s.end t.start places (start_place s h) (end_place s h) (start_place t g) h.begun h.not_ended (start_within t g) h.forward early in
      behind_all t ts s.region (Frac f.p f.q) good' f.on.positive (asymmetric (Frac f.p f.q) t.start f.on.positive (start_place t g) f.before_other)
      (gives f.p f.q s.region f.on f.apart (inl (record { region = refl; after = f.after; before = f.before })))

  -- both are of one region, if they start at one place
  one_region : (s t : Stretch) (ss ts : List Stretch) → AreGood (s ∷ ss) → AreGood (t ∷ ts) → Gives avoided (s ∷ ss) (t ∷ ts) → SamePlace s.start t.start → t.region ≡ s.region
  one_region s t ss ts good good' gives same =
      let h = good.0 in
      let g = good'.0 in
      let to_end : Precedes s.start t.end = is_kept_by_same_place.before s.start t.start t.end same g.forward in
      let f = pick avoided s.start s.end t.end places (start_place s h) (end_place s h) (end_place t g) h.begun h.not_ended g.not_ended h.forward to_end in
      elim (gives f.p f.q s.region f.on f.apart (inl (record { region = refl; after = f.after; before = f.before }))) [
        | inl here ↦ here.region
        | inr more ↦ absurd (behind_rest t ts s.region (Frac f.p f.q) good' f.on.positive (asymmetric (Frac f.p f.q) t.end f.on.positive (end_place t g) f.before_other) more)
      ]

  -- and the one is no shorter than the other
  not_shorter : (s t : Stretch) (ss ts : List Stretch) → AreGood (s ∷ ss) → AreGood (t ∷ ts) → Gives avoided (t ∷ ts) (s ∷ ss) → SamePlace s.start t.start → t.region ≡ s.region → ¬ (Precedes s.end t.end)
  not_shorter s t [] ts good good' gives same region = λ short.
      let h = good.0 in
      let g = good'.0 in
      let f = pick avoided s.end t.end t.end places (end_place s h) (end_place t g) (end_place t g) (end_begun s h) g.not_ended g.not_ended short short in
      let started : Precedes t.start (Frac f.p f.q) =
      is_kept_by_same_place.before t.start s.start (Frac f.p f.q) (same_symm s.start t.start same) (transitive s.start s.end (Frac f.p f.q) (end_place s h) f.on.positive h.forward f.after) in
      elim (gives f.p f.q t.region f.on f.apart (inl (record { region = refl; after = started; before = f.before }))) [
        | inl here ↦ asymmetric s.end (Frac f.p f.q) (end_place s h) f.on.positive f.after here.before
        | inr none ↦ none
      ]
  not_shorter s t (next ∷ ss) ts good good' gives same region = λ short.
      let h = good.0 in
      let g = good'.0 in
      let k = good.2.0 in
      elim (good.1 next (inl refl)) [
        | inl gap ↦
            let f = pick avoided s.end t.end next.start places (end_place s h) (end_place t g) (start_place next k) (end_begun s h) g.not_ended (start_within next k) short gap in
            let started : Precedes t.start (Frac f.p f.q) =
            is_kept_by_same_place.before t.start s.start (Frac f.p f.q) (same_symm s.start t.start same) (transitive s.start s.end (Frac f.p f.q) (end_place s h) f.on.positive h.forward f.after) in
            elim (gives f.p f.q t.region f.on f.apart (inl (record { region = refl; after = started; before = f.before }))) [
              | inl here ↦ asymmetric s.end (Frac f.p f.q) (end_place s h) f.on.positive f.after here.before
              | inr more ↦ behind_all next ss t.region (Frac f.p f.q) good.2 f.on.positive (asymmetric (Frac f.p f.q) next.start f.on.positive (start_place next k) f.before_other) more
            ]
        | inr touch ↦
            let to_end : Precedes s.end next.end = is_kept_by_same_place.before s.end next.start next.end touch.0 k.forward in
            let f = pick avoided s.end t.end next.end places (end_place s h) (end_place t g) (end_place next k) (end_begun s h) g.not_ended k.not_ended short to_end in
            let started : Precedes t.start (Frac f.p f.q) =
            is_kept_by_same_place.before t.start s.start (Frac f.p f.q) (same_symm s.start t.start same) (transitive s.start s.end (Frac f.p f.q) (end_place s h) f.on.positive h.forward f.after) in
            elim (gives f.p f.q t.region f.on f.apart (inl (record { region = refl; after = started; before = f.before }))) [
              | inl here ↦ asymmetric s.end (Frac f.p f.q) (end_place s h) f.on.positive f.after here.before
              | inr rest ↦ elim rest [
                | inl other ↦ touch.1 (sym (other.region ∙ region))
                | inr more ↦ behind_rest next ss t.region (Frac f.p f.q) good.2 f.on.positive (asymmetric (Frac f.p f.q) next.end f.on.positive (end_place next k) f.before_other) more
              ]
            ]
      ]

  stretch_same : (s t : Stretch) → s.region ≡ t.region → s.start ≡ t.start → s.end ≡ t.end → s ≡ t
  stretch_same s t e f g = ap (λ (n : ℕ). made n s.start s.end) e ∙ ap (λ (x : Pos). made t.region x s.end) f ∙ ap (λ (x : Pos). made t.region t.start x) g

  heads_same : (s t : Stretch) (ss ts : List Stretch) → AreGood (s ∷ ss) → AreGood (t ∷ ts) → Gives avoided (s ∷ ss) (t ∷ ts) → Gives avoided (t ∷ ts) (s ∷ ss) → s ≡ t
  heads_same s t ss ts good good' gives back =
      let h = good.0 in
      let g = good'.0 in
      let starts : SamePlace s.start t.start = record { not_before = not_earlier s t ss ts good good' gives; not_after = not_earlier t s ts ss good' good back } in
      let region : t.region ≡ s.region = one_region s t ss ts good good' gives starts in
      let ends : SamePlace s.end t.end = record {
        not_before = not_shorter s t ss ts good good' back starts region;
        not_after = not_shorter t s ts ss good' good gives (same_symm s.start t.start starts) (sym region);
      } in
      stretch_same s t (sym region)
      (places_have_one_spelling s.start t.start h.start_spelled g.start_spelled starts)
      (places_have_one_spelling s.end t.end h.end_spelled g.end_spelled ends)

  rest_gives : (s t : Stretch) (ss ts : List Stretch) → AreGood (s ∷ ss) → s ≡ t → Gives avoided (s ∷ ss) (t ∷ ts) → Gives avoided ss ts
  rest_gives s t ss ts good same gives p q n on apart around = elim (gives p q n on apart (inr around)) [
    | inl here ↦
        let before : Precedes (Frac p q) s.end = subst (λ (u : Stretch). Precedes (Frac p q) u.end) (sym same) here.before in
        absurd (behind_rest s ss n (Frac p q) good on.positive (asymmetric (Frac p q) s.end on.positive (end_place s good.0) before) around)
    | inr more ↦ more
  ]

  pub one_list : (ss ts : List Stretch) → AreGood ss → AreGood ts → Gives avoided ss ts → Gives avoided ts ss → ss ≡ ts
  one_list [] [] good good' gives back = refl
  one_list [] (t ∷ ts) good good' gives back = absurd (not_empty t ts good' back)
  one_list (s ∷ ss) [] good good' gives back = absurd (not_empty s ss good gives)
  one_list (s ∷ ss) (t ∷ ts) good good' gives back =
      let same : s ≡ t = heads_same s t ss ts good good' gives back in
      ap (λ (u : Stretch). u ∷ ss) same
      ∙ ap (λ (us : List Stretch). t ∷ us) (one_list ss ts good.2 good'.2 (rest_gives s t ss ts good same gives) (rest_gives t s ts ss good' (sym same) back))

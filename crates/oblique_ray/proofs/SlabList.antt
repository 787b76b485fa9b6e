-- Two lists of slabs that have the same regions at all fractions of a ray but some are one list.
use Rattle.std.proofs.Common.{◌≡◌, ◌⊎◌, ℕ, ℤ, pos, ◌<ℤ◌, List, [], ◌∷◌, ap, sym, ◌∙◌, subst, refl, inl, inr, arith}
use Rattle.std.proofs.lemmas.Int.{ints}
use Rattle.bool_weave.proofs.Sorted.{Has}
use Rattle.surd_quot.specs.declared.position.QPos.{QPos}
use Rattle.surd_quot.specs.declared.position.QPos.TheVariants.{Frac}
use Rattle.surd_quot.specs.Positions.{quotient_of, IsQuotientPlace}
use Rattle.surd_quot.proofs.Compared.{quotient_order_is_total}
use Rattle.surd_quot.proofs.Ordered.{same_quotient_symm, is_kept_by_same_quotient_place}
use Rattle.surd_quot.proofs.SpelledQuotients.{spelled_quotient_place, quotient_places_have_one_spelling}
use Rattle.oblique_ray.specs.declared.slab.Slab.{Slab}
use Rattle.oblique_ray.specs.Places.{Before, AtOnePlace, IsAtOneOf, IsOnSlant}
use Rattle.oblique_ray.specs.Points.{IsSlab, SlabEndsBefore}
use Rattle.oblique_ray.specs.Segments.{slant_start, slant_end}
use Rattle.oblique_ray.proofs.Separated.{between_but, passes}
use Rattle.oblique_ray.proofs.Faces.{fraction_place, by_not_before}
use Rattle.oblique_ray.proofs.Foremost.{ArePlaces, not_before}

-- a slab of the region of a number lies strictly around a place
pub record IsAround (s : Slab) (n : ℕ) (x : QPos) : Type 0 where
  pub region : s.region ≡ n
  pub after : Before s.start x
  pub before : Before x s.end

-- and some one of a list does
abbrev pub HasAround : List Slab → ℕ → QPos → Type 0
HasAround [] n x = ⊥
HasAround (s ∷ ss) n x = IsAround s n x ⊎ HasAround ss n x

-- each slab ends before all that follow
abbrev pub AreGood : ℤ → List Slab → Type 0
AreGood far [] = Unit {0}
AreGood far (s ∷ ss) = IsSlab far s × ((t : Slab) → Has ss t → SlabEndsBefore s t) × AreGood far ss

-- what comes before or after what is at one place
before_same : (x y z : QPos) → AtOnePlace x y → Before y z → Before x z
before_same x y z same h = is_kept_by_same_quotient_place.before (quotient_of x) (quotient_of y) (quotient_of z) same h

after_same : (x y z : QPos) → Before x y → AtOnePlace y z → Before x z
after_same x y z h same = is_kept_by_same_quotient_place.after (quotient_of x) (quotient_of y) (quotient_of z) h same

pub turned_same : (x y : QPos) → AtOnePlace x y → AtOnePlace y x
turned_same x y same = same_quotient_symm (quotient_of x) (quotient_of y) same

pub zero_place : IsQuotientPlace slant_start
zero_place = fraction_place (pos 0) (pos 1) (omega (arith, ints))

pub far_place : (far : ℤ) → IsQuotientPlace (slant_end far)
far_place far = fraction_place far (pos 1) (omega (arith, ints))

-- what one list has around a fraction of the ray that is not avoided another one has
abbrev pub Gives : ℤ → List QPos → List Slab → List Slab → Type 0
Gives far avoided ss ts = (p q : ℤ) (n : ℕ) → IsOnSlant far p q → ¬ (IsAtOneOf avoided (Frac p q)) → HasAround ss n (Frac p q) → HasAround ts n (Frac p q)

-- a fraction of the ray behind a place and before two others that is not avoided
record IsPicked (far : ℤ) (avoided : List QPos) (x y z : QPos) : Type 0 where
  p : ℤ
  q : ℤ
  on : IsOnSlant far p q
  place : IsQuotientPlace (Frac p q)
  apart : ¬ (IsAtOneOf avoided (Frac p q))
  after : Before x (Frac p q)
  before : Before (Frac p q) y
  before_other : Before (Frac p q) z

abbrev made : ℕ → QPos → QPos → Slab
made n start end = record { region = n; start = start; end = end }

slab_same : (s t : Slab) → s.region ≡ t.region → s.start ≡ t.start → s.end ≡ t.end → s ≡ t
slab_same s t e f g = ap (λ (n : ℕ). made n s.start s.end) e ∙ ap (λ (x : QPos). made t.region x s.end) f ∙ ap (λ (x : QPos). made t.region t.start x) g

module _ (far : ℤ) where
  pub start_place : (s : Slab) → IsSlab far s → IsQuotientPlace s.start
  start_place s h = spelled_quotient_place s.start h.start_spelled

  pub end_place : (s : Slab) → IsSlab far s → IsQuotientPlace s.end
  end_place s h = spelled_quotient_place s.end h.end_spelled

  pub start_within : (s : Slab) → IsSlab far s → ¬ (Before (slant_end far) s.start)
  start_within s h = λ late. h.not_ended (passes (slant_end far) s.start s.end (far_place far) (start_place s h) (end_place s h) late h.forward)

  pub end_begun : (s : Slab) → IsSlab far s → ¬ (Before s.end slant_start)
  end_begun s h = λ early. h.begun (passes s.start s.end slant_start (start_place s h) (end_place s h) zero_place h.forward early)

  -- what a slab of a list has lies before the rest of the list
  behind_one : (s t : Slab) (x : QPos) → IsSlab far s → IsSlab far t → IsQuotientPlace x → SlabEndsBefore s t → ¬ (Before s.end x) → ¬ (Before t.start x)
  behind_one s t x h g place apart not_after = λ after. elim apart [
    | inl gap ↦ not_after (passes s.end t.start x (end_place s h) (start_place t g) place gap after)
    | inr touch ↦ not_after (before_same s.end t.start x touch.0 after)
  ]

  none_around : (ss : List Slab) (n : ℕ) (x : QPos) → ((t : Slab) → Has ss t → ¬ (Before t.start x)) → ¬ (HasAround ss n x)
  none_around [] n x not_after = λ around. around
  none_around (s ∷ ss) n x not_after = λ around. elim around [ inl here ↦ not_after s (inl refl) here.after | inr more ↦ none_around ss n x (λ t has. not_after t (inr has)) more ]

  good_one : (ss : List Slab) (t : Slab) → AreGood far ss → Has ss t → IsSlab far t
  good_one [] t good has = absurd has
  good_one (s ∷ ss) t good has = elim has [ inl e ↦ subst (IsSlab far) e good.0 | inr more ↦ good_one ss t good.2 more ]

  behind_rest : (s : Slab) (ss : List Slab) (n : ℕ) (x : QPos) → AreGood far (s ∷ ss) → IsQuotientPlace x → ¬ (Before s.end x) → ¬ (HasAround ss n x)
  behind_rest s ss n x good place not_after = none_around ss n x (λ t has. behind_one s t x good.0 (good_one ss t good.2 has) place (good.1 t has) not_after)

  behind_all : (s : Slab) (ss : List Slab) (n : ℕ) (x : QPos) → AreGood far (s ∷ ss) → IsQuotientPlace x → ¬ (Before s.start x) → ¬ (HasAround (s ∷ ss) n x)
  behind_all s ss n x good place not_after = λ around. elim around [
    | inl here ↦ not_after here.after
    | inr more ↦ behind_rest s ss n x good place (λ after. not_after (passes s.start s.end x (start_place s good.0) (end_place s good.0) place good.0.forward after)) more
  ]

  on_slant : (p q : ℤ) → pos 0 <ℤ q → ¬ (Before (Frac p q) slant_start) → ¬ (Before (slant_end far) (Frac p q)) → IsOnSlant far p q
  on_slant p q some begun not_ended = record {
    positive = some;
    begun = omega (arith, ints, by_not_before p q (pos 0) (pos 1) (omega (arith, ints)) begun);
    not_ended = omega (arith, ints, by_not_before far (pos 1) p q some not_ended);
  }

  pub between_ends : (x y : QPos) (p q : ℤ) → pos 0 <ℤ q → IsQuotientPlace x → IsQuotientPlace y → ¬ (Before x slant_start) → ¬ (Before (slant_end far) y) → Before x (Frac p q) → Before (Frac p q) y → IsOnSlant far p q
  between_ends x y p q some place place' begun not_ended after before =
      let here : IsQuotientPlace (Frac p q) = fraction_place p q some in
      on_slant p q some (λ early. begun (passes x (Frac p q) slant_start place here zero_place after early)) (λ late. not_ended (passes (slant_end far) (Frac p q) y (far_place far) here place' late before))

  module _ (avoided : List QPos) (places : ArePlaces avoided) where
    pick : (x y z : QPos) → IsQuotientPlace x → IsQuotientPlace y → IsQuotientPlace z → ¬ (Before x slant_start) → ¬ (Before (slant_end far) y) → ¬ (Before (slant_end far) z) → Before x y → Before x z
        → IsPicked far avoided x y z
    pick x y z place place_y place_z begun not_ended not_ended_z to_y to_z = elim ((quotient_order_is_total (quotient_of y) (quotient_of z) place_y place_z).some) [
      | inl first ↦
          let f = between_but avoided x y places place place_y to_y in
          let here : IsQuotientPlace (Frac f.p f.q) = fraction_place f.p f.q f.positive in record {
            p = f.p;
            q = f.q;
            on = between_ends x y f.p f.q f.positive place place_y begun not_ended f.after f.before;
            place = here;
            apart = f.apart;
            after = f.after;
            before = f.before;
            before_other = passes (Frac f.p f.q) y z here place_y place_z f.before first;
          }
      | inr last ↦
          let f = between_but avoided x z places place place_z to_z in
          let here : IsQuotientPlace (Frac f.p f.q) = fraction_place f.p f.q f.positive in record {
            p = f.p;
            q = f.q;
            on = between_ends x z f.p f.q f.positive place place_z begun not_ended_z f.after f.before;
            place = here;
            apart = f.apart;
            after = f.after;
            before = elim last [ inl same ↦ after_same (Frac f.p f.q) z y f.before (turned_same y z same) | inr back ↦ passes (Frac f.p f.q) z y here place_z place_y f.before back ];
            before_other = f.before;
          }
    ]

    -- a list that has something is not given by one that has nothing
    not_empty : (s : Slab) (ss : List Slab) → AreGood far (s ∷ ss) → ¬ (Gives far avoided (s ∷ ss) [])
    not_empty s ss good = λ gives.
        let h = good.0 in
        let f = pick s.start s.end s.end (start_place s h) (end_place s h) (end_place s h) h.begun h.not_ended h.not_ended h.forward h.forward in
        gives f.p f.q s.region f.on f.apart (inl (record { region = refl; after = f.after; before = f.before }))

    -- the first slab of one list starts no earlier than that of another
    not_earlier : (s t : Slab) (ss ts : List Slab) → AreGood far (s ∷ ss) → AreGood far (t ∷ ts) → Gives far avoided (s ∷ ss) (t ∷ ts) → ¬ (Before s.start t.start)
    not_earlier s t ss ts good good' gives = λ early.
        let h = good.0 in
        let g = good'.0 in
        let f = pick s.start s.end t.start (start_place s h) (end_place s h) (start_place t g) h.begun h.not_ended (start_within t g) h.forward early in
        behind_all t ts s.region (Frac f.p f.q) good' f.place (not_before (Frac f.p f.q) t.start f.place (start_place t g) f.before_other)
        (gives f.p f.q s.region f.on f.apart (inl (record { region = refl; after = f.after; before = f.before })))

    -- both are of one region, if they start at one place
    one_region : (s t : Slab) (ss ts : List Slab) → AreGood far (s ∷ ss) → AreGood far (t ∷ ts) → Gives far avoided (s ∷ ss) (t ∷ ts) → AtOnePlace s.start t.start → t.region ≡ s.region
    one_region s t ss ts good good' gives same =
        let h = good.0 in
        let g = good'.0 in
        let to_end : Before s.start t.end = before_same s.start t.start t.end same g.forward in
        let f = pick s.start s.end t.end (start_place s h) (end_place s h) (end_place t g) h.begun h.not_ended g.not_ended h.forward to_end in
        elim (gives f.p f.q s.region f.on f.apart (inl (record { region = refl; after = f.after; before = f.before }))) [
          | inl here ↦ here.region
          | inr more ↦ absurd (behind_rest t ts s.region (Frac f.p f.q) good' f.place (not_before (Frac f.p f.q) t.end f.place (end_place t g) f.before_other) more)
        ]

    -- what is behind the one has begun in the other
    begun_behind : (s t : Slab) (x : QPos) → IsSlab far s → IsQuotientPlace x → AtOnePlace s.start t.start → Before s.end x → Before t.start x
    begun_behind s t x h place same after =
        before_same t.start s.start x (turned_same s.start t.start same) (passes s.start s.end x (start_place s h) (end_place s h) place h.forward after)

    -- and the one is no shorter than the other
    not_shorter : (s t : Slab) (ss ts : List Slab) → AreGood far (s ∷ ss) → AreGood far (t ∷ ts) → Gives far avoided (t ∷ ts) (s ∷ ss) → AtOnePlace s.start t.start → t.region ≡ s.region → ¬ (Before s.end t.end)
    not_shorter s t [] ts good good' gives same region = λ short.
        let h = good.0 in
        let g = good'.0 in
        let f = pick s.end t.end t.end (end_place s h) (end_place t g) (end_place t g) (end_begun s h) g.not_ended g.not_ended short short in
        let started : Before t.start (Frac f.p f.q) = begun_behind s t (Frac f.p f.q) h f.place same f.after in
        elim (gives f.p f.q t.region f.on f.apart (inl (record { region = refl; after = started; before = f.before }))) [
          | inl here ↦ not_before s.end (Frac f.p f.q) (end_place s h) f.place f.after here.before
          | inr none ↦ none
        ]
    not_shorter s t (next ∷ ss) ts good good' gives same region = λ short.
        let h = good.0 in
        let g = good'.0 in
        let k = good.2.0 in
        elim (good.1 next (inl refl)) [
          | inl gap ↦
              let f = pick s.end t.end next.start (end_place s h) (end_place t g) (start_place next k) (end_begun s h) g.not_ended (start_within next k) short gap in
              let started : Before t.start (Frac f.p f.q) = begun_behind s t (Frac f.p f.q) h f.place same f.after in
              elim (gives f.p f.q t.region f.on f.apart (inl (record { region = refl; after = started; before = f.before }))) [
                | inl here ↦ not_before s.end (Frac f.p f.q) (end_place s h) f.place f.after here.before
                | inr more ↦ behind_all next ss t.region (Frac f.p f.q) good.2 f.place (not_before (Frac f.p f.q) next.start f.place (start_place next k) f.before_other) more
              ]
          | inr touch ↦
              let to_end : Before s.end next.end = before_same s.end next.start next.end touch.0 k.forward in
              let f = pick s.end t.end next.end (end_place s h) (end_place t g) (end_place next k) (end_begun s h) g.not_ended k.not_ended short to_end in
              let started : Before t.start (Frac f.p f.q) = begun_behind s t (Frac f.p f.q) h f.place same f.after in
              elim (gives f.p f.q t.region f.on f.apart (inl (record { region = refl; after = started; before = f.before }))) [
                | inl here ↦ not_before s.end (Frac f.p f.q) (end_place s h) f.place f.after here.before
                | inr rest ↦ elim rest [
                  | inl other ↦ touch.1 (sym (other.region ∙ region))
                  | inr more ↦ behind_rest next ss t.region (Frac f.p f.q) good.2 f.place (not_before (Frac f.p f.q) next.end f.place (end_place next k) f.before_other) more
                ]
              ]
        ]

    heads_same : (s t : Slab) (ss ts : List Slab) → AreGood far (s ∷ ss) → AreGood far (t ∷ ts) → Gives far avoided (s ∷ ss) (t ∷ ts) → Gives far avoided (t ∷ ts) (s ∷ ss) → s ≡ t
    heads_same s t ss ts good good' gives back =
        let h = good.0 in
        let g = good'.0 in
        let starts : AtOnePlace s.start t.start = record { not_before = not_earlier s t ss ts good good' gives; not_after = not_earlier t s ts ss good' good back } in
        let region : t.region ≡ s.region = one_region s t ss ts good good' gives starts in
        let ends : AtOnePlace s.end t.end = record {
          not_before = not_shorter s t ss ts good good' back starts region;
          not_after = not_shorter t s ts ss good' good gives (turned_same s.start t.start starts) (sym region);
        } in
        slab_same s t (sym region)
        (quotient_places_have_one_spelling s.start t.start h.start_spelled g.start_spelled starts)
        (quotient_places_have_one_spelling s.end t.end h.end_spelled g.end_spelled ends)

    rest_gives : (s t : Slab) (ss ts : List Slab) → AreGood far (s ∷ ss) → s ≡ t → Gives far avoided (s ∷ ss) (t ∷ ts) → Gives far avoided ss ts
    rest_gives s t ss ts good same gives p q n on apart around = elim (gives p q n on apart (inr around)) [
      | inl here ↦
          let place : IsQuotientPlace (Frac p q) = fraction_place p q on.positive in
          let before : Before (Frac p q) s.end = subst (λ (u : Slab). Before (Frac p q) u.end) (sym same) here.before in
          absurd (behind_rest s ss n (Frac p q) good place (not_before (Frac p q) s.end place (end_place s good.0) before) around)
      | inr more ↦ more
    ]

    pub one_list : (ss ts : List Slab) → AreGood far ss → AreGood far ts → Gives far avoided ss ts → Gives far avoided ts ss → ss ≡ ts
    one_list [] [] good good' gives back = refl
    one_list [] (t ∷ ts) good good' gives back = absurd (not_empty t ts good' back)
    one_list (s ∷ ss) [] good good' gives back = absurd (not_empty s ss good gives)
    one_list (s ∷ ss) (t ∷ ts) good good' gives back =
        let same : s ≡ t = heads_same s t ss ts good good' gives back in
        ap (λ (u : Slab). u ∷ ss) same
        ∙ ap (λ (us : List Slab). t ∷ us) (one_list ss ts good.2 good'.2 (rest_gives s t ss ts good same gives) (rest_gives t s ts ss good' (sym same) back))

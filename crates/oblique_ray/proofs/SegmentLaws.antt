-- What the segment of a ray tells of its points.
use Rattle.std.proofs.Common.{◌≡◌, ◌↔◌, ℤ, pos, ◌<ℤ◌, Bool, true, false, cond, List, [], ◌∷◌, Some, None, refl, sym, subst, inl, inr, arith}
use Rattle.std.proofs.lemmas.Int.{ints}
use Rattle.std.specs.Ordering.{is_lt}
use Rattle.std.specs.declared.cmp.Ordering.{Ordering}
use Rattle.std.specs.declared.cmp.Ordering.TheVariants.{Less, Equal, Greater}
use Rattle.lattice_core.specs.declared.vector.V3.{V3}
use Rattle.plane_geom.specs.Chords.{length_squared}
use Rattle.surd_quot.specs.declared.position.QPos.{QPos}
use Rattle.surd_quot.specs.declared.position.QPos.TheVariants.{Frac}
use Rattle.surd_quot.specs.Positions.{quotient_of, IsQuotientPlace}
use Rattle.surd_quot.specs.Spelled.{spelled_quotient}
use Rattle.surd_quot.specs.PlaceOrder.{quotient_cmp}
use Rattle.surd_quot.proofs.Ordered.{third, quotients_are_ordered, same_quotient_symm, is_kept_by_same_quotient_place}
use Rattle.surd_quot.proofs.Compared.{quotient_order_is_total}
use Rattle.surd_quot.proofs.PlaceOrderLaws.{quotient_places_are_compared}
use Rattle.surd_quot.proofs.SpelledQuotients.{is_one_quotient_spelling}
use Rattle.solid_set.specs.declared.surface.Surface.{Surface}
use Rattle.solid_set.specs.PlacedFaces.{IsInsideAlong}
use Rattle.oblique_ray.specs.Cuts.{LineCut, surface_cut}
use Rattle.oblique_ray.specs.Segments.{Stretch, slant_start, slant_end, start_of, end_of, stretch_between}
use Rattle.oblique_ray.specs.Places.{Before, AtOnePlace, IsAtOneOf, places_of_cut, IsOnSlant, LiesBetween, IsSound, EndsAreSlantHits}
use Rattle.oblique_ray.specs.Laws.{SlantSegmentsTellPoints}
use Rattle.oblique_ray.proofs.Foremost.{Has, After, IsForemost, latest_is, earliest_is, not_before}
use Rattle.oblique_ray.proofs.Faces.{Tells, fraction_place, not_before_by, surface_tells}

-- both ends of the whole lists of crossings
pub record AreEnds (far : ℤ) (cut : LineCut) (s t : QPos) : Type 0 where
  pub first : IsForemost After slant_start cut.entered s
  pub last : IsForemost Before (slant_end far) cut.left t

ends_are : (far : ℤ) (cut : LineCut) (P : Type 0) (f : QPos) → Tells cut P f → AreEnds far cut (start_of cut) (end_of far cut)
ends_are far cut P f h = record {
  first = latest_is slant_start cut.entered (fraction_place (pos 0) (pos 1) (omega (arith, ints))) h.entered_places;
  last = earliest_is (slant_end far) cut.left (fraction_place far (pos 1) (omega (arith, ints))) h.left_places;
}

at_one : (ys : List QPos) (x y : QPos) → Has ys y → AtOnePlace x y → IsAtOneOf ys x
at_one [] x y has same = absurd has
at_one (z ∷ zs) x y has same = elim has [ inl e ↦ inl (subst (λ (w : QPos). AtOnePlace x w) (sym e) same) | inr more ↦ inr (at_one zs x y more same) ]

pub start_met : (far : ℤ) (cut : LineCut) (P : Type 0) (f x : QPos) → Tells cut P f → Has (slant_start ∷ cut.entered) x → Has (places_of_cut far cut) x
start_met far cut P f x h has = elim has [ inl e ↦ inl e | inr more ↦ inr (inr (h.entered_met x more)) ]

pub end_met : (far : ℤ) (cut : LineCut) (P : Type 0) (f x : QPos) → Tells cut P f → Has (slant_end far ∷ cut.left) x → Has (places_of_cut far cut) x
end_met far cut P f x h has = elim has [ inl e ↦ inr (inl e) | inr more ↦ inr (inr (h.left_met x more)) ]

-- of two places at different places one comes before the other
pub behind : (x y : QPos) → IsQuotientPlace x → IsQuotientPlace y → ¬ (Before x y) → ¬ (AtOnePlace x y) → Before y x
behind x y place place' not_early not_same = elim (quotient_order_is_total (quotient_of x) (quotient_of y) place place').some [
  | inl early ↦ absurd (not_early early)
  | inr rest ↦ elim rest [ inl same ↦ absurd (not_same same) | inr late ↦ late ]
]

-- the ray has what lies on it
pub begun : (far p q : ℤ) → IsOnSlant far p q → ¬ (Before (Frac p q) slant_start)
begun far p q on = not_before_by p q (pos 0) (pos 1) on.positive (omega (arith, ints)) (omega (arith, ints, on.begun))

pub not_ended : (far p q : ℤ) → IsOnSlant far p q → ¬ (Before (slant_end far) (Frac p q))
not_ended far p q on = not_before_by far (pos 1) p q (omega (arith, ints)) on.positive (omega (arith, ints, on.not_ended))

-- what is inside and no slant hit lies strictly between the ends
record IsStrict (s t f : QPos) : Type 0 where
  after : Before s f
  before : Before f t

strict : (far : ℤ) (cut : LineCut) (P : Type 0) (p q : ℤ) (s t : QPos) → Tells cut P (Frac p q) → AreEnds far cut s t → cut.missed ≡ false → IsOnSlant far p q
    → ¬ (IsAtOneOf (places_of_cut far cut) (Frac p q)) → P → IsStrict s t (Frac p q)
strict far cut P p q s t h ends e on no_hit inside =
    let place = fraction_place p q on.positive in
    let not_early : ¬ (Before (Frac p q) s) = elim ends.first.among [
      | inl is ↦ subst (λ (z : QPos). ¬ (Before (Frac p q) z)) is (begun far p q on)
      | inr has ↦ h.after e inside s has
    ] in
    let not_late : ¬ (Before t (Frac p q)) = elim ends.last.among [
      | inl is ↦ subst (λ (z : QPos). ¬ (Before z (Frac p q))) is (not_ended far p q on)
      | inr has ↦ h.before e inside t has
    ] in
    record {
      after = behind (Frac p q) s place ends.first.place not_early
          (λ same. no_hit (at_one (places_of_cut far cut) (Frac p q) s (start_met far cut P (Frac p q) s h ends.first.among) same));
      before = behind t (Frac p q) ends.last.place place not_late
          (λ same. no_hit (at_one (places_of_cut far cut) (Frac p q) t (end_met far cut P (Frac p q) t h ends.last.among) (same_quotient_symm (quotient_of t) (quotient_of (Frac p q)) same)));
    }

-- and what lies strictly between them is inside
held_between : (far : ℤ) (cut : LineCut) (P : Type 0) (p q : ℤ) (s t : QPos) → Tells cut P (Frac p q) → AreEnds far cut s t → cut.missed ≡ false → pos 0 <ℤ q → Before s (Frac p q) → Before (Frac p q) t → P
held_between far cut P p q s t h ends e some after before =
    let f : QPos = Frac p q in
    let place = fraction_place p q some in
    h.inside e
    (λ x has early. elim (third (quotient_of f) (quotient_of s) (quotient_of x) early) [
      | inl low ↦ not_before s f ends.first.place place after low
      | inr late ↦ ends.first.ahead x (inr has) late
    ])
    (λ x has late. elim (third (quotient_of x) (quotient_of t) (quotient_of f) late) [
      | inl early ↦ ends.last.ahead x (inr has) early
      | inr high ↦ not_before f t place ends.last.place before high
    ])

abbrev between : QPos → QPos → Stretch
between s t = record { start = spelled_quotient s; end = spelled_quotient t }

spelled_after : (s f : QPos) → IsQuotientPlace s → Before s f → Before (spelled_quotient s) f
spelled_after s f place h = is_kept_by_same_quotient_place.before (quotient_of (spelled_quotient s)) (quotient_of s) (quotient_of f) (is_one_quotient_spelling.place s place) h

after_spelled : (s f : QPos) → IsQuotientPlace s → Before (spelled_quotient s) f → Before s f
after_spelled s f place h =
    is_kept_by_same_quotient_place.before (quotient_of s) (quotient_of (spelled_quotient s)) (quotient_of f) (same_quotient_symm (quotient_of (spelled_quotient s)) (quotient_of s) (is_one_quotient_spelling.place s place)) h

spelled_before : (f t : QPos) → IsQuotientPlace t → Before f t → Before f (spelled_quotient t)
spelled_before f t place h =
    is_kept_by_same_quotient_place.after (quotient_of f) (quotient_of t) (quotient_of (spelled_quotient t)) h (same_quotient_symm (quotient_of (spelled_quotient t)) (quotient_of t) (is_one_quotient_spelling.place t place))

before_spelled : (f t : QPos) → IsQuotientPlace t → Before f (spelled_quotient t) → Before f t
before_spelled f t place h = is_kept_by_same_quotient_place.after (quotient_of f) (quotient_of (spelled_quotient t)) (quotient_of t) h (is_one_quotient_spelling.place t place)

ordered_is : (s t f : QPos) → IsQuotientPlace s → IsQuotientPlace t → IsQuotientPlace f → IsStrict s t f → quotient_cmp s t ≡ Less
ordered_is s t f place place' place'' h =
    (quotient_places_are_compared s t place place').less.1 (quotients_are_ordered.transitive (quotient_of s) (quotient_of f) (quotient_of t) place place'' place' h.after h.before)

not_less : (r : Ordering) (P : Type 0) → is_lt r ≡ false → r ≡ Less → P
not_less Less P e f = absurd (let g : true ≡ false = e in cc)
not_less Equal P e f = absurd (let g : Equal ≡ Less = f in cc)
not_less Greater P e f = absurd (let g : Greater ≡ Less = f in cc)

exact_here : (far : ℤ) (cut : LineCut) (P : Type 0) (p q : ℤ) (s t : QPos) → Tells cut P (Frac p q) → AreEnds far cut s t → cut.missed ≡ false → IsOnSlant far p q
    → ¬ (IsAtOneOf (places_of_cut far cut) (Frac p q)) → (b : Bool) → is_lt (quotient_cmp s t) ≡ b → P ↔ LiesBetween (cond b (Some (between s t)) None) (Frac p q)
exact_here far cut P p q s t h ends e on no_hit true less = (
  λ inside. let both = strict far cut P p q s t h ends e on no_hit inside in (spelled_after s (Frac p q) ends.first.place both.after, spelled_before (Frac p q) t ends.last.place both.before),
  λ lies. held_between far cut P p q s t h ends e on.positive (after_spelled s (Frac p q) ends.first.place lies.0) (before_spelled (Frac p q) t ends.last.place lies.1),
)
exact_here far cut P p q s t h ends e on no_hit false less = (
  λ inside. not_less (quotient_cmp s t) ⊥ less (ordered_is s t (Frac p q) ends.first.place ends.last.place (fraction_place p q on.positive) (strict far cut P p q s t h ends e on no_hit inside)),
  λ lies. absurd lies,
)

exact_by : (far : ℤ) (cut : LineCut) (P : Type 0) (p q : ℤ) (s t : QPos) → Tells cut P (Frac p q) → AreEnds far cut s t → IsOnSlant far p q
    → ¬ (IsAtOneOf (places_of_cut far cut) (Frac p q)) → (b : Bool) → cut.missed ≡ b → P ↔ LiesBetween (cond b None (stretch_between s t)) (Frac p q)
exact_by far cut P p q s t h ends on no_hit true e = (λ inside. no_hit (inr (inr (h.touched e inside))), λ lies. absurd lies)
exact_by far cut P p q s t h ends on no_hit false e = exact_here far cut P p q s t h ends e on no_hit (is_lt (quotient_cmp s t)) refl

-- a segment that there is
pub record IsSegmentBetween (s t : QPos) (x : Stretch) : Type 0 where
  pub ordered : is_lt (quotient_cmp s t) ≡ true
  pub is : between s t ≡ x

none_is_some : (x : Stretch) (P : Type 0) → None ≡ Some x → P
none_is_some x P e = absurd cc

between_by : (s t : QPos) (x : Stretch) (b : Bool) → is_lt (quotient_cmp s t) ≡ b → cond b (Some (between s t)) None ≡ Some x → IsSegmentBetween s t x
between_by s t x true less e = record { ordered = less; is = let f : Some (between s t) ≡ Some x = e in cc }
between_by s t x false less e = none_is_some x (IsSegmentBetween s t x) e

pub segment_by : (s t : QPos) (x : Stretch) (b : Bool) → cond b None (stretch_between s t) ≡ Some x → IsSegmentBetween s t x
segment_by s t x true e = none_is_some x (IsSegmentBetween s t x) e
segment_by s t x false e = between_by s t x (is_lt (quotient_cmp s t)) refl e

lt_less : (r : Ordering) → is_lt r ≡ true → r ≡ Less
lt_less Less e = refl
lt_less Equal e = absurd (let f : false ≡ true = e in cc)
lt_less Greater e = absurd (let f : false ≡ true = e in cc)

sound_between : (far : ℤ) (cut : LineCut) (s t : QPos) → AreEnds far cut s t → is_lt (quotient_cmp s t) ≡ true → IsSound far (between s t)
sound_between far cut s t ends less =
    let ordered : Before s t = (quotient_places_are_compared s t ends.first.place ends.last.place).less.0 (lt_less (quotient_cmp s t) less) in
    record {
      ordered = spelled_after s (spelled_quotient t) ends.first.place (spelled_before s t ends.last.place ordered);
      begun = λ h. ends.first.ahead slant_start (inl refl) (after_spelled s slant_start ends.first.place h);
      not_ended = λ h. ends.last.ahead (slant_end far) (inl refl) (before_spelled (slant_end far) t ends.last.place h);
      start_spelled = is_one_quotient_spelling.spelling s ends.first.place;
      end_spelled = is_one_quotient_spelling.spelling t ends.last.place;
    }

-- the point at 0 is one of the line
pub at_zero : (surface : Surface) (o e : V3) → pos 0 <ℤ length_squared e → Tells (surface_cut surface o e) (IsInsideAlong surface o e (pos 0) (pos 1)) (Frac (pos 0) (pos 1))
at_zero surface o e some = surface_tells surface o e (pos 0) (pos 1) some (omega (arith, ints))

pub surface_ends : (far : ℤ) (surface : Surface) (o e : V3) → pos 0 <ℤ length_squared e → AreEnds far (surface_cut surface o e) (start_of (surface_cut surface o e)) (end_of far (surface_cut surface o e))
surface_ends far surface o e some = ends_are far (surface_cut surface o e) (IsInsideAlong surface o e (pos 0) (pos 1)) (Frac (pos 0) (pos 1)) (at_zero surface o e some)

ends_met : (far : ℤ) (cut : LineCut) (P : Type 0) (f s t : QPos) → Tells cut P f → AreEnds far cut s t → IsAtOneOf (places_of_cut far cut) (spelled_quotient s) × IsAtOneOf (places_of_cut far cut) (spelled_quotient t)
ends_met far cut P f s t h ends = (
  at_one (places_of_cut far cut) (spelled_quotient s) s (start_met far cut P f s h ends.first.among) (is_one_quotient_spelling.place s ends.first.place),
  at_one (places_of_cut far cut) (spelled_quotient t) t (end_met far cut P f t h ends.last.among) (is_one_quotient_spelling.place t ends.last.place),
)

pub slant_segments_tell_points : SlantSegmentsTellPoints
slant_segments_tell_points far surface o e some =
    let cut : LineCut = surface_cut surface o e in
    let ends = surface_ends far surface o e some in
    let s : QPos = start_of (surface_cut surface o e) in
    let t : QPos = end_of far (surface_cut surface o e) in
    record {
      sound = λ x is. let h = segment_by s t x cut.missed is in subst (λ (z : Stretch). IsSound far z) h.is (sound_between far cut s t ends h.ordered);
      ends = λ x is.
          let h = segment_by s t x cut.missed is in
          let met = ends_met far cut (IsInsideAlong surface o e (pos 0) (pos 1)) (Frac (pos 0) (pos 1)) s t (at_zero surface o e some) ends in
          subst (λ (z : Stretch). EndsAreSlantHits far surface o e z) h.is (record { start = met.0; end = met.1 });
      exact = λ p q on no_hit. exact_by far cut (IsInsideAlong surface o e p q) p q s t (surface_tells surface o e p q some on.positive) ends on no_hit cut.missed refl;
    }

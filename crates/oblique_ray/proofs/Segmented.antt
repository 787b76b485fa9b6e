-- The segments that a ray has of instances.
use Rattle.std.proofs.Common.{◌≡◌, ◌<◌, ◌≤◌, ◌+◌, ℕ, ℤ, pos, ◌<ℤ◌, List, [], ◌∷◌, ◌++◌, length, get_or, flat_map, Option, Some, None, All, AllPairs, refl, ap, subst, inl, inr, arith}
use Rattle.std.proofs.lemmas.List.Kept.{AllPairs-cons}
use Rattle.lattice_core.specs.declared.vector.V3.{V3}
use Rattle.plane_geom.specs.Chords.{length_squared}
use Rattle.bool_weave.specs.Lines.{places_along, cuts_along, cut_along}
use Rattle.bool_weave.proofs.Sorted.{Has, has_at, has_append_cases}
use Rattle.order_laws.specs.Ranks.{LiesAlong}
use Rattle.order_laws.proofs.Arranged.{from_arranged}
use Rattle.order_laws.proofs.Listed.{get_cases}
use Rattle.shot_core.specs.Regions.{Instance}
use Rattle.slant_ranks.specs.Slants.{SlantSegment, slant_up_to}
use Rattle.surd_quot.specs.declared.position.QPos.{QPos}
use Rattle.surd_quot.specs.Positions.{IsQuotientPlace}
use Rattle.surd_quot.specs.PlaceOrder.{quotient_cmp}
use Rattle.surd_quot.proofs.SpelledQuotients.{spelled_quotient_place}
use Rattle.oblique_ray.specs.Laws.{segment_of_instance}
use Rattle.oblique_ray.specs.Places.{IsSound}
use Rattle.oblique_ray.specs.Segments.{Stretch, slant_start, slant_end, slant_segment}
use Rattle.oblique_ray.specs.Shots.{segment_if, segments_from}
use Rattle.oblique_ray.proofs.Along.{slant_segments_lie_along}
use Rattle.oblique_ray.proofs.Faces.{fraction_place}
use Rattle.oblique_ray.proofs.SegmentLaws.{slant_segments_tell_points}

pub all_by : {X : Type 0} (P : X → Type 0) (xs : List X) → ((x : X) → Has xs x → P x) → All P xs
all_by P xs each = λ k d lt. each (get_or xs k d) (has_at xs (get_or xs k d) d k lt refl)

-- what is so of both ends of each segment is so of all of them
ends_by : (P : QPos → Type 0) (ws : List SlantSegment) → ((w : SlantSegment) → Has ws w → P w.start × P w.end) → (z : QPos) → Has (flat_map (λ (w : SlantSegment). w.start ∷ w.end ∷ []) ws) z → P z
ends_by P [] each z has = absurd has
ends_by P (w ∷ ws) each z has = elim has [
  | inl is ↦ subst P is (each w (inl refl)).0
  | inr more ↦ elim more [ inl is ↦ subst P is (each w (inl refl)).1 | inr rest ↦ ends_by P ws (λ v there. each v (inr there)) z rest ]
]

-- and where it is so of both ends of the ray too, of all cuts
pub cut_by : (far : ℤ) (P : QPos → Type 0) (ws : List SlantSegment) → P slant_start → P (slant_end far) → ((w : SlantSegment) → Has ws w → P w.start × P w.end) → (k : ℕ) → P (cut_along (slant_up_to far) ws k)
cut_by far P ws start end each k =
    let z : QPos = cut_along (slant_up_to far) ws k in
    elim (get_cases (cuts_along (slant_up_to far) ws) k slant_start) [
      | inl is ↦ subst P is start
      | inr has ↦ elim (from_arranged quotient_cmp z (places_along (slant_up_to far) ws) has) [
        | inl is ↦ subst P is start
        | inr more ↦ elim more [ inl is ↦ subst P is end | inr ends ↦ ends_by P ws each z ends ]
      ]
    ]

-- a segment is that of one of the instances
pub record IsSegmentOf (far : ℤ) (o e : V3) (first : ℕ) (xs : List Instance) (w : SlantSegment) : Type 0 where
  pub one : Instance
  pub there : Has xs one
  pub number : ℕ
  pub not_lower : first ≤ number
  pub lower : number < first + length xs
  pub stretch : Stretch
  pub is : slant_segment far one.surface o e ≡ Some stretch
  pub made : segment_of_instance number stretch ≡ w

module _ (far : ℤ) (o e : V3) where
  if_has : (number : ℕ) (i : Instance) (xs : List Instance) (w : SlantSegment) (found : Option Stretch) → slant_segment far i.surface o e ≡ found → Has (segment_if number found) w → IsSegmentOf far o e number (i ∷ xs) w
  if_has number i xs w None e' has = absurd has
  if_has number i xs w (Some stretch) e' has = elim has [
    | inl made ↦ record { one = i; there = inl refl; number = number; not_lower = omega arith; lower = omega arith; stretch = stretch; is = e'; made = made }
    | inr none ↦ absurd none
  ]

  pub segment_of : (first : ℕ) (xs : List Instance) (w : SlantSegment) → Has (segments_from far o e first xs) w → IsSegmentOf far o e first xs w
  segment_of first [] w has = absurd has
  segment_of first (i ∷ xs) w has = elim (has_append_cases (segment_if first (slant_segment far i.surface o e)) (segments_from far o e (first + 1) xs) w has) [
    | inl here ↦ if_has first i xs w (slant_segment far i.surface o e) refl here
    | inr more ↦
        let it = segment_of (first + 1) xs w more in record {
          one = it.one;
          there = inr it.there;
          number = it.number;
          not_lower = omega (arith, it.not_lower);
          lower = omega (arith, it.lower);
          stretch = it.stretch;
          is = it.is;
          made = it.made;
        }
  ]

  -- the numbers rise
  rising_if : (number : ℕ) (found : Option Stretch) (ws : List SlantSegment) → ((w : SlantSegment) → Has ws w → number < w.instance) → AllPairs (λ v w. v.instance < w.instance) ws
      → AllPairs (λ v w. v.instance < w.instance) (segment_if number found ++ ws)
  rising_if number None ws above rising = rising
  rising_if number (Some stretch) ws above rising =
      AllPairs-cons (λ (v w : SlantSegment). v.instance < w.instance) (segment_of_instance number stretch) ws (all_by (λ (w : SlantSegment). number < w.instance) ws above) rising

  pub segments_rise : (first : ℕ) (xs : List Instance) → AllPairs (λ v w. v.instance < w.instance) (segments_from far o e first xs)
  segments_rise first [] = λ i j d lt within. absurd (omega (arith, within))
  segments_rise first (i ∷ xs) =
      rising_if first (slant_segment far i.surface o e) (segments_from far o e (first + 1) xs)
      (λ w has. let it = segment_of (first + 1) xs w has in let number : it.number ≡ w.instance = ap (λ (v : SlantSegment). v.instance) it.made in omega (arith, it.not_lower, number))
      (segments_rise (first + 1) xs)

  if_count : (number : ℕ) (found : Option Stretch) (ws : List SlantSegment) → length (segment_if number found ++ ws) ≤ 1 + length ws
  if_count number None ws = omega arith
  if_count number (Some stretch) ws = omega arith

  pub segments_count : (first : ℕ) (xs : List Instance) → length (segments_from far o e first xs) ≤ length xs
  segments_count first [] = omega arith
  segments_count first (i ∷ xs) = omega (arith, if_count first (slant_segment far i.surface o e) (segments_from far o e (first + 1) xs), segments_count (first + 1) xs)

  module _ (some : pos 0 <ℤ length_squared e) where
    -- both ends are places
    pub segment_places : (first : ℕ) (xs : List Instance) (w : SlantSegment) → Has (segments_from far o e first xs) w → IsQuotientPlace w.start × IsQuotientPlace w.end
    segment_places first xs w has =
        let it = segment_of first xs w has in
        let sound : IsSound far it.stretch = (slant_segments_tell_points far it.one.surface o e some).sound it.stretch it.is in
        subst (λ (v : SlantSegment). IsQuotientPlace v.start × IsQuotientPlace v.end) it.made (spelled_quotient_place it.stretch.start sound.start_spelled, spelled_quotient_place it.stretch.end sound.end_spelled)

    along : (first : ℕ) (xs : List Instance) (w : SlantSegment) → Has (segments_from far o e first xs) w → LiesAlong (slant_up_to far) w
    along first xs w has =
        let it = segment_of first xs w has in subst (LiesAlong (slant_up_to far)) it.made (slant_segments_lie_along far it.one.surface o e it.number some it.stretch it.is)

    pub segments_along : (first : ℕ) (xs : List Instance) → All (LiesAlong (slant_up_to far)) (segments_from far o e first xs)
    segments_along first xs = all_by (LiesAlong (slant_up_to far)) (segments_from far o e first xs) (along first xs)

    -- and so are all cuts
    pub cut_is_place : (first : ℕ) (xs : List Instance) (k : ℕ) → IsQuotientPlace (cut_along (slant_up_to far) (segments_from far o e first xs) k)
    cut_is_place first xs k =
        cut_by far IsQuotientPlace (segments_from far o e first xs) (fraction_place (pos 0) (pos 1) (omega arith)) (fraction_place far (pos 1) (omega arith)) (segment_places first xs) k

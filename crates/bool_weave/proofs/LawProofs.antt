-- The laws of cuts and claims.
use Rattle.std.proofs.Common.{◌≡◌, ◌<◌, ◌-◌, ℕ, List, length, get_or, false, not, ap, sym, ◌∙◌, subst, refl, inl, inr, arith}
use Rattle.std.specs.Ordering.{is_lt}
use Rattle.std.specs.declared.cmp.Ordering.TheVariants.{Less}
use Rattle.std.proofs.lemmas.Bool.{cases_lt, and_parts, and_from, not-true, not_from_false, true≢false, false_from_ne_true}
use Rattle.std.proofs.lemmas.List.{get_or_default}
use Rattle.std.proofs.lemmas.Map.Keys.{Less-from_sorted}
use Rattle.surd_order.specs.declared.position.Pos.{Pos}
use Rattle.surd_order.specs.Order.{Precedes, IsPlace}
use Rattle.surd_order.specs.PlaceOrder.{place_cmp}
use Rattle.surd_order.proofs.OrderLaws.{transitive}
use Rattle.surd_order.proofs.PlaceOrderLaws.{place_cmp_total, places_are_compared}
use Rattle.bool_weave.specs.declared.woven.Woven.{Woven}
use Rattle.bool_weave.specs.Cuts.{ray_start, ray_end, IsWoven, places_of, cuts_of}
use Rattle.bool_weave.specs.Claims.{is_before}
use Rattle.bool_weave.specs.Laws.{CutsAreWithinTheRay, CoversByPlaces}
use Rattle.bool_weave.proofs.Sorted.{Has, has_at, contains_from_has, not_itself, not_both}
use Rattle.bool_weave.proofs.Cutting.{less_from, place_from, end_of_some, segment_of, from_order, to_cuts, cuts_sorted, places_good, less_from_precedes, precedes_from}
use Rattle.bool_weave.proofs.Kept.{ends_apart}

-- no place of a ray precedes its start
none_before : (woven : List Woven) (z : Pos) → IsWoven woven → Has (places_of woven) z → ¬ (Precedes z ray_start)
none_before woven z s h p =
    let good = places_good woven z s h in
    let first = places_good woven ray_start s (inl refl) in
    let less : place_cmp z ray_start ≡ Less = less_from_precedes z ray_start good.spelled first.spelled p in
    elim h [
      | inl e ↦ not_itself place_cmp place_cmp_total z (subst (λ x. place_cmp z x ≡ Less) e less)
      | inr m ↦ elim m [
        | inl e ↦ not_both place_cmp place_cmp_total ray_start ray_end ends_apart (subst (λ x. place_cmp x ray_start ≡ Less) (sym e) less)
        | inr n ↦
            let w = end_of_some woven z n in
            let seg = segment_of woven w.0 s w.1 in
            elim w.2 [
              | inl e ↦ seg.begun (subst (λ x. Precedes x ray_start) (sym e) p)
              | inr e ↦ seg.begun (transitive w.0.seg.start w.0.seg.end ray_start (place_from w.0.seg.end seg.end_spelled) (place_from ray_start first.spelled) seg.ordered (subst (λ x. Precedes x ray_start) (sym e) p))
            ]
      ]
    ]

-- and none comes after its end
none_after : (woven : List Woven) (z : Pos) → IsWoven woven → Has (places_of woven) z → ¬ (Precedes ray_end z)
none_after woven z s h p =
    let good = places_good woven z s h in
    let last = places_good woven ray_end s (inr (inl refl)) in
    let less : place_cmp ray_end z ≡ Less = less_from_precedes ray_end z last.spelled good.spelled p in
    elim h [
      | inl e ↦ not_both place_cmp place_cmp_total ray_start ray_end ends_apart (subst (λ x. place_cmp ray_end x ≡ Less) (sym e) less)
      | inr m ↦ elim m [
        | inl e ↦ not_itself place_cmp place_cmp_total z (subst (λ x. place_cmp x z ≡ Less) e less)
        | inr n ↦
            let w = end_of_some woven z n in
            let seg = segment_of woven w.0 s w.1 in
            elim w.2 [
              | inl e ↦ seg.not_ended (transitive ray_end w.0.seg.start w.0.seg.end (place_from w.0.seg.start seg.start_spelled) (place_from w.0.seg.end seg.end_spelled) (subst (λ x. Precedes ray_end x) (sym e) p) seg.ordered)
              | inr e ↦ seg.not_ended (subst (λ x. Precedes ray_end x) (sym e) p)
            ]
      ]
    ]

cut_place : (woven : List Woven) (k : ℕ) (d : Pos) → k < length (cuts_of woven) → Has (places_of woven) (get_or (cuts_of woven) k d)
cut_place woven k d lt = from_order _ (places_of woven) (has_at (cuts_of woven) _ d k lt refl)

pub cuts_within : CutsAreWithinTheRay
cuts_within woven s =
    let a = contains_from_has (cuts_of woven) ray_start (to_cuts woven ray_start s (inl refl)) in
    let b = contains_from_has (cuts_of woven) ray_end (to_cuts woven ray_end s (inr (inl refl))) in
    let precedes : (i j : ℕ) (d : Pos) → i < j → j < length (cuts_of woven) → Precedes (get_or (cuts_of woven) i d) (get_or (cuts_of woven) j d) =
    λ i j d lt within. precedes_from _ _ (places_good woven _ s (cut_place woven i d (omega (arith, lt, within)))).spelled (places_good woven _ s (cut_place woven j d within)).spelled
    (Less-from_sorted place_cmp (cuts_of woven) i j d (cuts_sorted woven) lt within) in
    record {
      first = λ d. elim (cases_lt 0 a.0) [
        | inl behind ↦ absurd (none_before woven (get_or (cuts_of woven) 0 ray_start) s (cut_place woven 0 ray_start (omega (arith, behind, a.1)))
            (subst (λ x. Precedes (get_or (cuts_of woven) 0 ray_start) x) a.2 (precedes 0 a.0 ray_start behind a.1)))
        | inr here ↦ let e : a.0 ≡ 0 = omega (arith, here) in
            get_or_default (cuts_of woven) 0 d ray_start (omega (arith, a.1)) ∙ ap (λ n. get_or (cuts_of woven) n ray_start) (sym e) ∙ a.2
      ];
      last = λ d. elim (cases_lt b.0 (length (cuts_of woven) - 1)) [
        | inl before ↦ absurd (none_after woven (get_or (cuts_of woven) (length (cuts_of woven) - 1) ray_end) s (cut_place woven (length (cuts_of woven) - 1) ray_end (omega (arith, b.1)))
            (subst (λ x. Precedes x (get_or (cuts_of woven) (length (cuts_of woven) - 1) ray_end)) b.2 (precedes b.0 (length (cuts_of woven) - 1) ray_end before (omega (arith, b.1)))))
        | inr here ↦ let e : length (cuts_of woven) - 1 ≡ b.0 = omega (arith, here, b.1) in
            get_or_default (cuts_of woven) (length (cuts_of woven) - 1) d ray_end (omega (arith, b.1)) ∙ ap (λ n. get_or (cuts_of woven) n ray_end) e ∙ b.2
      ];
    }

not_before : (x y : Pos) → IsPlace x → IsPlace y → is_before x y ≡ false → ¬ (Precedes x y)
not_before x y p q h pre = true≢false (sym (ap is_lt ((places_are_compared x y p q).less.1 pre)) ∙ h)

before_not : (x y : Pos) → IsPlace x → IsPlace y → ¬ (Precedes x y) → is_before x y ≡ false
before_not x y p q h = false_from_ne_true (is_before x y) (λ is. h ((places_are_compared x y p q).less.0 (less_from _ is)))

pub covers_by_places : CoversByPlaces
covers_by_places seg interval a b c d = (
  λ is. let parts = and_parts (not (is_before interval.start seg.start)) (not (is_before seg.end interval.end)) is in
      (not_before interval.start seg.start c a (not-true _ parts.0), not_before seg.end interval.end b d (not-true _ parts.1)),
  λ h. and_from _ _ (not_from_false _ (before_not interval.start seg.start c a h.0)) (not_from_false _ (before_not seg.end interval.end b d h.1)),
)

-- What is claimed just before a place is what is claimed just behind the last end before it.
use Rattle.std.proofs.Common.{◌≡◌, List, [], ◌∷◌, filter, Bool, true, false, not, ◌&&◌, eqb, ℕ, ◌+◌, ap, sym, ◌∙◌, subst, refl, inl, inr}
use Rattle.std.specs.Ordering.{is_lt}
use Rattle.std.proofs.lemmas.Bool.{cases_Bool, cond-true, cond-false, true≢false, false_from_ne_true}
use Rattle.std.specs.declared.cmp.Ordering.TheVariants.{Less}
use Rattle.surd_order.specs.declared.position.Pos.{Pos}
use Rattle.bool_weave.specs.declared.woven.Woven.{Woven}
use Rattle.bool_weave.specs.Masks.{Mask}
use Rattle.bool_weave.specs.Claims.{is_before}
use Rattle.bool_weave.specs.Behind.{covers_behind, covers_before, spans_behind, spans_before, claims_behind, claims_before}
use Rattle.bool_weave.proofs.Sorted.{Has}
use Rattle.bool_weave.proofs.Cutting.{turned, less_from, start_is_place, end_is_place}
use Rattle.bool_weave.proofs.Claimed.{nothing_from_nothing}
use Rattle.bool_weave.proofs.Behind.{any_same, any_none, mask_alike, before_through, IsLast, last_up_to, ends_of}

pub in_filter : {X : Type 0} (p : X → Bool) (xs : List X) (x : X) → Has xs x → p x ≡ true → Has (filter p xs) x
in_filter p [] x h passed = absurd h
in_filter p (y ∷ ys) x (inl e) passed = subst (λ l. Has l x) (sym (cond-true (p y) (y ∷ filter p ys) (filter p ys) (ap p e ∙ passed))) (inl e)
in_filter p (y ∷ ys) x (inr h) passed =
    elim (cases_Bool (p y)) [
      | inl is ↦ subst (λ l. Has l x) (sym (cond-true (p y) (y ∷ filter p ys) (filter p ys) is)) (inr (in_filter p ys x h passed))
      | inr away ↦ subst (λ l. Has l x) (sym (cond-false (p y) (y ∷ filter p ys) (filter p ys) away)) (in_filter p ys x h passed)
    ]

pub from_filter : {X : Type 0} (p : X → Bool) (xs : List X) (x : X) → Has (filter p xs) x → p x ≡ true
from_filter p [] x h = absurd h
from_filter p (y ∷ ys) x h =
    elim (cases_Bool (p y)) [
      | inl is ↦ elim (subst (λ l. Has l x) (cond-true (p y) (y ∷ filter p ys) (filter p ys) is) h) [
        | inl e ↦ ap p (sym e) ∙ is
        | inr m ↦ from_filter p ys x m
      ]
      | inr away ↦ from_filter p ys x (subst (λ l. Has l x) (cond-false (p y) (y ∷ filter p ys) (filter p ys) away) h)
    ]

twice : (b : Bool) → not (not b) ≡ b
twice true = refl
twice false = refl

none_of : (b : Bool) → (b && false) ≡ false
none_of true = refl
none_of false = refl

true_from_not_false : (b : Bool) → (b ≡ false → ⊥) → b ≡ true
true_from_not_false true h = refl
true_from_not_false false h = absurd (h refl)

-- of two places one is not before the other
not_both : (x y : Pos) → is_before x y ≡ true → is_before y x ≡ false
not_both x y lt = ap is_lt (turned x y Less (less_from _ lt))

abbrev ends_before : List Woven → Pos → List Pos
ends_before woven x = filter (λ y. is_before y x) (ends_of woven)

module _ (woven : List Woven) (x : Pos) where
  -- the last end before x comes before just those ends that are not before x
  split : (z : Pos) → IsLast x (ends_before woven x) z → (y : Pos) → Has (ends_of woven) y → is_before z y ≡ not (is_before y x)
  split z l y h =
      let early : is_before z x ≡ true = from_filter (λ y. is_before y x) (ends_of woven) z l.there in
      elim (cases_Bool (is_before y x)) [
        | inl lt ↦ l.last y (in_filter (λ y. is_before y x) (ends_of woven) y h lt) (not_both y x lt) ∙ ap not (sym lt)
        | inr late ↦ true_from_not_false (is_before z y) (λ away. true≢false (sym (before_through z x y away early) ∙ late)) ∙ ap not (sym late)
      ]

  before_last : (z : Pos) → IsLast x (ends_before woven x) z → (tree : Mask) (first : ℕ) → claims_before woven tree first x ≡ claims_behind woven tree first z
  before_last z l tree first =
      mask_alike tree (λ i. spans_before woven x (first + i)) (λ i. spans_behind woven z (first + i)) (λ i.
      any_same (λ w. eqb w.instance (first + i) && covers_before x w.seg) (λ w. eqb w.instance (first + i) && covers_behind z w.seg) woven (λ w h.
      ap (λ b. eqb w.instance (first + i) && (b && not (is_before w.seg.end x))) (sym (twice (is_before w.seg.start x)) ∙ ap not (sym (split z l w.seg.start (start_is_place woven w h))))
      ∙ ap (λ b. eqb w.instance (first + i) && (not (is_before z w.seg.start) && b)) (sym (split z l w.seg.end (end_is_place woven w h)))))

  before_none : ((y : Pos) → Has (ends_before woven x) y → is_before x y ≡ true) → (tree : Mask) (first : ℕ) → claims_before woven tree first x ≡ false
  before_none none tree first =
      let late : (y : Pos) → Has (ends_of woven) y → is_before y x ≡ false = λ y h.
      false_from_ne_true _ (λ lt. true≢false (sym (none y (in_filter (λ y. is_before y x) (ends_of woven) y h lt)) ∙ not_both y x lt)) in
      nothing_from_nothing tree (λ i. spans_before woven x (first + i)) (λ i.
      any_none (λ w. eqb w.instance (first + i) && covers_before x w.seg) woven (λ w h.
      ap (λ b. eqb w.instance (first + i) && (b && not (is_before w.seg.end x))) (late w.seg.start (start_is_place woven w h)) ∙ none_of (eqb w.instance (first + i))))

-- so what claims nothing behind the places before one claims nothing before that one
pub nothing_before : (woven : List Woven) (tree : Mask) (first : ℕ) (x : Pos) → ((y : Pos) → is_before y x ≡ true → claims_behind woven tree first y ≡ false) → claims_before woven tree first x ≡ false
nothing_before woven tree first x none =
    elim (last_up_to x (ends_before woven x)) [
      | inl l ↦ before_last woven x l.0 l.1 tree first ∙ none l.0 (from_filter (λ y. is_before y x) (ends_of woven) l.0 l.1.there)
      | inr h ↦ before_none woven x h tree first
    ]

-- The woven instances of a range of numbers.
use Rattle.std.proofs.Common.{◌≡◌, ◌<◌, ◌≤◌, ◌-◌, ℕ, List, [], ◌∷◌, get_or, take, drop, filter, Bool, true, false, ◌||◌, nat_lt, AllPairs, ap, sym, ◌∙◌, subst, refl, inl, inr, arith}
use Rattle.std.specs.List.{list_any}
use Rattle.std.specs.List.Sorted.{IsNonDecreasingBy, IsPartitionPoint}
use Rattle.std.proofs.lemmas.Bool.{cases_lt, cases_Bool, and_from, and_left, and_right, ltb-true, ltb-false, le-leb, lt-leb, cond-true, cond-false, true≢false}
use Rattle.bool_weave.specs.declared.woven.Woven.{Woven}
use Rattle.bool_weave.specs.Tables.{is_from_to}
use Rattle.bool_weave.proofs.Sorted.{Has}
use Rattle.bool_weave.proofs.Searching.{filter_middle}

pub rising_numbers : (woven : List Woven) → AllPairs (λ v w. v.instance < w.instance) woven → IsNonDecreasingBy (λ (w : Woven). w.instance) woven
rising_numbers woven p i j d le lt =
    elim (cases_lt i j) [
      | inl below ↦ omega (arith, p i j d below lt)
      | inr same ↦ let e : i ≡ j = omega (arith, le, same) in subst (λ n. (get_or woven i d).instance ≤ (get_or woven n d).instance) e (omega arith)
    ]

-- number i is the first of an instance that is not below n
abbrev pub IsEndOf : ℕ → List Woven → ℕ → Type 0
IsEndOf n woven i = IsPartitionPoint (λ (w : Woven). nat_lt w.instance n ≡ true) (λ (w : Woven). nat_lt w.instance n ≡ false) woven i

pub within_part : (woven : List Woven) (from to i j : ℕ) → i < j → IsEndOf from woven i → IsEndOf to woven j → take (j - i) (drop i woven) ≡ filter (is_from_to from to) woven
within_part woven from to i j lt a b =
    sym (filter_middle (is_from_to from to) woven i (j - i)
    (λ k d low within. and_left _ _ (lt-leb from _ (ltb-true _ from (a.0 k d (omega arith) low))))
    (λ k d low high within. and_from _ _ (le-leb from _ (ltb-false _ from (a.1 k d low within))) (b.0 k d (omega arith) (omega (arith, high, lt))))
    (λ k d high within. and_right _ _ (b.1 k d (omega (arith, high, lt)) within)))

pub within_none : (woven : List Woven) (from to i j : ℕ) → j ≤ i → IsEndOf from woven i → IsEndOf to woven j → ◌≡◌ {A = List Woven} [] (filter (is_from_to from to) woven)
within_none woven from to i j le a b =
    sym (filter_middle (is_from_to from to) woven j 0
    (λ k d low within. and_left _ _ (lt-leb from _ (ltb-true _ from (a.0 k d (omega arith) (omega (arith, low, le))))))
    (λ k d low high within. absurd (omega (arith, low, high)))
    (λ k d high within. and_right _ _ (b.1 k d (omega (arith, high)) within)))

-- a test that passes none but what the filter keeps
pub any_filtered : {X : Type 0} (p q : X → Bool) (xs : List X) → ((x : X) → p x ≡ true → q x ≡ true) → list_any p (filter q xs) ≡ list_any p xs
any_filtered p q [] h = refl
any_filtered p q (x ∷ xs) h =
    elim (cases_Bool (q x)) [
      | inl kept ↦ ap (λ l. list_any p l) (cond-true (q x) (x ∷ filter q xs) (filter q xs) kept) ∙ ap (λ b. p x || b) (any_filtered p q xs h)
      | inr gone ↦ ap (λ l. list_any p l) (cond-false (q x) (x ∷ filter q xs) (filter q xs) gone) ∙ any_filtered p q xs h
          ∙ elim (cases_Bool (p x)) [
            | inl passed ↦ absurd (true≢false (sym (h x passed) ∙ gone))
            | inr failed ↦ sym (ap (λ b. b || list_any p xs) failed)
          ]
    ]

pub has_filtered : {X : Type 0} (q : X → Bool) (xs : List X) (x : X) → Has (filter q xs) x → Has xs x
has_filtered q [] x h = h
has_filtered q (y ∷ ys) x h =
    elim (cases_Bool (q y)) [
      | inl kept ↦ elim (subst (λ l. Has l x) (cond-true (q y) (y ∷ filter q ys) (filter q ys) kept) h) [ inl e ↦ inl e | inr m ↦ inr (has_filtered q ys x m) ]
      | inr gone ↦ inr (has_filtered q ys x (subst (λ l. Has l x) (cond-false (q y) (y ∷ filter q ys) (filter q ys) gone) h))
    ]

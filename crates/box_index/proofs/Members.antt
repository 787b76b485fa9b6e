-- Members of lists, and sorted lists with the same ones.
use Rattle.std.proofs.Common.{◌≡◌, ◌<◌, ℕ, zero, suc, List, [], ◌∷◌, get_or, filter, All, Contains, Bool, true, false, ap, sym, subst, ◌∙◌, refl, inl, inr, ◌⊎◌, arith}
use Rattle.std.specs.List.Sorted.{IsStrictlySortedBy}
use Rattle.std.specs.Ordering.{nat_cmp}
use Rattle.std.proofs.lemmas.Bool.{cond-true, cond-false, cases_Bool}
use Rattle.std.proofs.lemmas.List.Elements.{All-contains, All-head, All-tail, All-filter, All-contains_itself, filter_passes, Contains-append_right}
use Rattle.std.proofs.lemmas.Map.Keys.{sorted_tail, below_from_sorted}

-- ---- the head and the tail
pub at_head : {X : Type 0} (x : X) (xs : List X) → Contains (x ∷ xs) x
at_head x xs = (0, omega arith, refl)

pub in_tail : {X : Type 0} (x : X) (xs : List X) (y : X) → Contains xs y → Contains (x ∷ xs) y
in_tail x xs y c = Contains-append_right (x ∷ []) xs y c

pub none_in : {X : Type 0} (y : X) → Contains [] y → ⊥
none_in y c = omega (arith, c.1)

pub head_or_tail : {X : Type 0} (x : X) (xs : List X) (y : X) → Contains (x ∷ xs) y → (x ≡ y) ⊎ Contains xs y
head_or_tail x xs y (zero, lt, e) = inl e
head_or_tail x xs y (suc k, lt, e) = inr (k, omega arith, e)

-- ---- what passes a test
pub passes : {X : Type 0} (t : X → Bool) (xs : List X) (y : X) → Contains (filter t xs) y → t y ≡ true
passes t xs y c = All-contains (λ x. t x ≡ true) (filter t xs) y (filter_passes t xs) c

pub was_in : {X : Type 0} (t : X → Bool) (xs : List X) (y : X) → Contains (filter t xs) y → Contains xs y
was_in t xs y c = All-contains (Contains xs) (filter t xs) y (All-filter t (Contains xs) xs (All-contains_itself xs)) c

pub is_kept : {X : Type 0} (t : X → Bool) (xs : List X) (y : X) → Contains xs y → t y ≡ true → Contains (filter t xs) y
is_kept t [] y c pass = absurd (none_in y c)
is_kept t (x ∷ xs) y c pass =
    elim (head_or_tail x xs y c) [
      | inl e ↦ subst (λ l. Contains l y) (sym (cond-true (t x) (x ∷ filter t xs) (filter t xs) (ap t e ∙ pass))) (subst (λ z. Contains (z ∷ filter t xs) y) (sym e) (at_head y (filter t xs)))
      | inr rest ↦
          let kept = is_kept t xs y rest pass in
          elim (cases_Bool (t x)) [
            | inl h ↦ subst (λ l. Contains l y) (sym (cond-true (t x) (x ∷ filter t xs) (filter t xs) h)) (in_tail x (filter t xs) y kept)
            | inr h ↦ subst (λ l. Contains l y) (sym (cond-false (t x) (x ∷ filter t xs) (filter t xs) h)) kept
          ]
    ]

pub none_pass : {X : Type 0} (t : X → Bool) (xs : List X) → All (λ x. t x ≡ false) xs → filter t xs ≡ []
none_pass t [] all = refl
none_pass t (x ∷ xs) all = cond-false (t x) (x ∷ filter t xs) (filter t xs) (All-head (λ y. t y ≡ false) x xs all) ∙ none_pass t xs (All-tail (λ y. t y ≡ false) x xs all)

-- ---- sorted lists
above_head : (x : ℕ) (xs : List ℕ) (y : ℕ) → IsStrictlySortedBy nat_cmp (x ∷ xs) → Contains xs y → x < y
above_head x xs y sorted (k, lt, e) =
    let below : x < get_or xs k y = below_from_sorted (x ∷ xs) 0 (suc k) y sorted (omega arith) (omega arith) in
    omega (arith, below, e)

same_head : (x : ℕ) (xs : List ℕ) (y : ℕ) (ys : List ℕ) → IsStrictlySortedBy nat_cmp (x ∷ xs) → IsStrictlySortedBy nat_cmp (y ∷ ys) → Contains (y ∷ ys) x → Contains (x ∷ xs) y → x ≡ y
same_head x xs y ys p q in_y in_x =
    elim (head_or_tail y ys x in_y) [
      | inl e ↦ sym e
      | inr far ↦ elim (head_or_tail x xs y in_x) [
        | inl e ↦ e
        | inr off ↦ absurd (omega (arith, above_head y ys x q far, above_head x xs y p off))
      ]
    ]

rest_in : (x : ℕ) (xs ys : List ℕ) (i : ℕ) → IsStrictlySortedBy nat_cmp (x ∷ xs) → (Contains (x ∷ xs) i → Contains (x ∷ ys) i) → Contains xs i → Contains ys i
rest_in x xs ys i sorted f c =
    elim (head_or_tail x ys i (f (in_tail x xs i c))) [
      | inl e ↦ absurd (omega (arith, above_head x xs i sorted c, e))
      | inr rest ↦ rest
    ]

-- sorted lists with the same members are the same
pub same_sorted : (xs ys : List ℕ) → IsStrictlySortedBy nat_cmp xs → IsStrictlySortedBy nat_cmp ys → ((i : ℕ) → Contains xs i → Contains ys i) → ((i : ℕ) → Contains ys i → Contains xs i) → xs ≡ ys
same_sorted [] [] p q f g = refl
same_sorted [] (y ∷ ys) p q f g = absurd (none_in y (g y (at_head y ys)))
same_sorted (x ∷ xs) [] p q f g = absurd (none_in x (f x (at_head x xs)))
same_sorted (x ∷ xs) (y ∷ ys) p q f g =
    let e : x ≡ y = same_head x xs y ys p q (f x (at_head x xs)) (g y (at_head y ys)) in
    let q' : IsStrictlySortedBy nat_cmp (x ∷ ys) = subst (λ z. IsStrictlySortedBy nat_cmp (z ∷ ys)) (sym e) q in
    let f' : (i : ℕ) → Contains (x ∷ xs) i → Contains (x ∷ ys) i = λ i c. subst (λ z. Contains (z ∷ ys) i) (sym e) (f i c) in
    let g' : (i : ℕ) → Contains (x ∷ ys) i → Contains (x ∷ xs) i = λ i c. g i (subst (λ z. Contains (z ∷ ys) i) e c) in
    let rest : xs ≡ ys = same_sorted xs ys (sorted_tail nat_cmp x xs p) (sorted_tail nat_cmp y ys q) (λ i c. rest_in x xs ys i p (f' i) c) (λ i c. rest_in x ys xs i q' (g' i) c) in
    ap (λ l. x ∷ l) rest ∙ ap (λ z. z ∷ ys) e

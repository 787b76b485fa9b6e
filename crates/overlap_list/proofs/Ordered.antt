-- Lists of runs and of pairs rise, and what is made of them does.
use Rattle.std.proofs.Common.{◌≡◌, ◌<◌, ◌≤◌, ◌+◌, ◌-◌, ◌⊎◌, ℕ, zero, suc, List, [], ◌∷◌, ◌++◌, get_or, map, filter, flat_map, Bool, Option, Some, None, All, AllPairs, ap, sym, ◌∙◌, subst, refl, inl, inr, arith}
use Rattle.std.specs.List.{range_with_len, filter_map, cons_option}
use Rattle.std.proofs.lemmas.Bool.{cases_Bool, cases_eq, cases_lt, cond-true, cond-false}
use Rattle.std.proofs.lemmas.List.Kept.{AllPairs-cons}
use Rattle.bool_weave.proofs.Sorted.{Has, has_at, has_append_left, has_append_right, has_append_cases}
use Rattle.bool_weave.proofs.Middles.{has_filtered}

-- each element is related to each later one
abbrev pub Rises : {X : Type 0} → (X → X → Type 0) → List X → Type 0
Rises R [] = Unit {0}
Rises R (x ∷ xs) = ((y : _) → Has xs y → R x y) × Rises R xs

pub all_from_has : {X : Type 0} (P : X → Type 0) (xs : List X) → ((x : X) → Has xs x → P x) → All P xs
all_from_has P xs h k d lt = h (get_or xs k d) (has_at xs (get_or xs k d) d k lt refl)

pub pairs_from_rises : {X : Type 0} (R : X → X → Type 0) (xs : List X) → Rises R xs → AllPairs R xs
pairs_from_rises R [] r = λ i j d lt within. absurd (omega (arith, within))
pairs_from_rises R (x ∷ xs) r = AllPairs-cons R x xs (all_from_has (R x) xs r.0) (pairs_from_rises R xs r.1)

pub rises_append : {X : Type 0} (R : X → X → Type 0) (xs ys : List X) → Rises R xs → Rises R ys → ((x y : X) → Has xs x → Has ys y → R x y) → Rises R (xs ++ ys)
rises_append R [] ys r s h = s
rises_append R (x ∷ xs) ys r s h = (
  λ y m. elim (has_append_cases xs ys y m) [ inl a ↦ r.0 y a | inr b ↦ h x y (inl refl) b ],
  rises_append R xs ys r.1 s (λ v w a b. h v w (inr a) b),
)

pub rises_filter : {X : Type 0} (R : X → X → Type 0) (p : X → Bool) (xs : List X) → Rises R xs → Rises R (filter p xs)
rises_filter R p [] r = tt
rises_filter R p (x ∷ xs) r =
    elim (cases_Bool (p x)) [
      | inl kept ↦ subst (Rises R) (sym (cond-true (p x) (x ∷ filter p xs) (filter p xs) kept)) (λ y h. r.0 y (has_filtered p xs y h), rises_filter R p xs r.1)
      | inr gone ↦ subst (Rises R) (sym (cond-false (p x) (x ∷ filter p xs) (filter p xs) gone)) (rises_filter R p xs r.1)
    ]

-- what is related so among members is related otherwise
pub rises_weaker : {X : Type 0} (R S : X → X → Type 0) (xs : List X) → ((x y : X) → Has xs x → Has xs y → R x y → S x y) → Rises R xs → Rises S xs
rises_weaker R S [] h r = tt
rises_weaker R S (x ∷ xs) h r = (λ y m. h x y (inl refl) (inr m) (r.0 y m), rises_weaker R S xs (λ v w a b. h v w (inr a) (inr b)) r.1)

has_mapped : {X Y : Type 0} (f : X → Y) (xs : List X) (y : Y) → Has (map f xs) y → (x : X) × Has xs x × (f x ≡ y)
has_mapped f [] y h = absurd h
has_mapped f (x ∷ xs) y (inl e) = (x, inl refl, e)
has_mapped f (x ∷ xs) y (inr h) = let m = has_mapped f xs y h in (m.0, inr m.1, m.2)

pub rises_map : {X Y : Type 0} (S : Y → Y → Type 0) (f : X → Y) (xs : List X) → Rises (λ x y. S (f x) (f y)) xs → Rises S (map f xs)
rises_map S f [] r = tt
rises_map S f (x ∷ xs) r = (λ y h. let m = has_mapped f xs y h in subst (S (f x)) m.2 (r.0 m.0 m.1), rises_map S f xs r.1)

chosen_go : {X Y : Type 0} (f : X → Option Y) (x : X) (xs : List X) (y : Y) (o : Option Y) → (Has (filter_map f xs) y → (z : X) × Has xs z × (f z ≡ Some y)) → f x ≡ o
    → Has (cons_option o (filter_map f xs)) y → (z : X) × Has (x ∷ xs) z × (f z ≡ Some y)
chosen_go f x xs y None more e h = let m = more h in (m.0, inr m.1, m.2)
chosen_go f x xs y (Some z) more e (inl s) = (x, inl refl, e ∙ ap (λ w. Some w) s)
chosen_go f x xs y (Some z) more e (inr h) = let m = more h in (m.0, inr m.1, m.2)

pub has_chosen : {X Y : Type 0} (f : X → Option Y) (xs : List X) (y : Y) → Has (filter_map f xs) y → (x : X) × Has xs x × (f x ≡ Some y)
has_chosen f [] y h = absurd h
has_chosen f (x ∷ xs) y h = chosen_go f x xs y (f x) (has_chosen f xs y) refl h

later_has : {X Y : Type 0} (f : X → Option Y) (xs : List X) (y : Y) (o : Option Y) → Has (filter_map f xs) y → Has (cons_option o (filter_map f xs)) y
later_has f xs y None h = h
later_has f xs y (Some z) h = inr h

pub chosen_has : {X Y : Type 0} (f : X → Option Y) (xs : List X) (x : X) (y : Y) → f x ≡ Some y → Has xs x → Has (filter_map f xs) y
chosen_has f [] x y e h = h
chosen_has f (v ∷ vs) x y e (inl s) = subst (λ o. Has (cons_option o (filter_map f vs)) y) (sym (ap f s ∙ e)) (inl refl)
chosen_has f (v ∷ vs) x y e (inr h) = later_has f vs y (f v) (chosen_has f vs x y e h)

chosen_rises : {X Y : Type 0} (R : X → X → Type 0) (S : Y → Y → Type 0) (f : X → Option Y) (x : X) (xs : List X) (o : Option Y)
    → ((v w : X) (a b : Y) → R v w → f v ≡ Some a → f w ≡ Some b → S a b) → ((y : X) → Has xs y → R x y) → Rises S (filter_map f xs) → f x ≡ o → Rises S (cons_option o (filter_map f xs))
chosen_rises R S f x xs None h above rest e = rest
chosen_rises R S f x xs (Some a) h above rest e = (λ b m. let c = has_chosen f xs b m in h x c.0 a b (above c.0 c.1) e c.2, rest)

pub rises_chosen : {X Y : Type 0} (R : X → X → Type 0) (S : Y → Y → Type 0) (f : X → Option Y) (xs : List X)
    → ((v w : X) (a b : Y) → R v w → f v ≡ Some a → f w ≡ Some b → S a b) → Rises R xs → Rises S (filter_map f xs)
rises_chosen R S f [] h r = tt
rises_chosen R S f (x ∷ xs) h r = chosen_rises R S f x xs (f x) h r.0 (rises_chosen R S f xs h r.1) refl

-- a number with each later one, and that for one number after another
module _ {X : Type 0} (make : ℕ → ℕ → X) where
  abbrev pub row : ℕ → ℕ → List X
  row last one = map (make one) (range_with_len (one + 1) (last - one))

  -- what comes earlier has a lower first number, or then a lower second one
  abbrev pub IsMadeBefore : X → X → Type 0
  IsMadeBefore x y = (a : ℕ) × (b : ℕ) × (c : ℕ) × (d : ℕ) × (x ≡ make a b) × (y ≡ make c d) × ((a < c) ⊎ ((a ≡ c) × (b < d)))

  pub has_made : (one a n : ℕ) (x : X) → Has (map (make one) (range_with_len a n)) x → (t : ℕ) × (x ≡ make one t) × (a ≤ t) × (t < a + n)
  has_made one a zero x h = absurd h
  has_made one a (suc n) x (inl e) = (a, sym e, omega arith, omega arith)
  has_made one a (suc n) x (inr h) = let m = has_made one (a + 1) n x h in (m.0, m.1, omega (arith, m.2), omega (arith, m.3))

  row_rises : (one a n : ℕ) → Rises IsMadeBefore (map (make one) (range_with_len a n))
  row_rises one a zero = tt
  row_rises one a (suc n) = (
    λ y h. let m = has_made one (a + 1) n y h in (one, a, one, m.0, refl, m.1, inr (refl, omega (arith, m.2))),
    row_rises one (a + 1) n,
  )

  pub has_rows : (last a n : ℕ) (x : X) → Has (flat_map (row last) (range_with_len a n)) x → (s : ℕ) × (t : ℕ) × (x ≡ make s t) × (a ≤ s) × (s < t) × (t ≤ last)
  has_rows last a zero x h = absurd h
  has_rows last a (suc n) x h =
      elim (has_append_cases (row last a) (flat_map (row last) (range_with_len (a + 1) n)) x h) [
        | inl m ↦ let r = has_made a (a + 1) (last - a) x m in (a, r.0, r.1, omega arith, omega (arith, r.2), omega (arith, r.2, r.3))
        | inr m ↦ let r = has_rows last (a + 1) n x m in (r.0, r.1, r.2, omega (arith, r.3), r.4, r.5)
      ]

  rows_rise : (last a n : ℕ) → Rises IsMadeBefore (flat_map (row last) (range_with_len a n))
  rows_rise last a zero = tt
  rows_rise last a (suc n) =
      rises_append IsMadeBefore (row last a) (flat_map (row last) (range_with_len (a + 1) n)) (row_rises a (a + 1) (last - a)) (rows_rise last (a + 1) n)
      (λ x y p q. let r = has_made a (a + 1) (last - a) x p in let s = has_rows last (a + 1) n y q in (a, r.0, s.0, s.1, r.1, s.2, inl (omega (arith, s.3))))

  pub all_rise : (last : ℕ) → Rises IsMadeBefore (flat_map (row last) (range_with_len 0 last))
  all_rise last = rows_rise last 0 last

  made_has : (one a n t : ℕ) → a ≤ t → t < a + n → Has (map (make one) (range_with_len a n)) (make one t)
  made_has one a zero t low high = absurd (omega (arith, low, high))
  made_has one a (suc n) t low high =
      elim (cases_eq a t) [
        | inl e ↦ inl (ap (make one) e)
        | inr apart ↦ inr (made_has one (a + 1) n t (elim (cases_lt a t) [ inl lt ↦ omega (arith, lt) | inr le ↦ absurd (apart (omega (arith, le, low))) ]) (omega (arith, high)))
      ]

  pub rows_have : (last a n s t : ℕ) → a ≤ s → s < a + n → s < t → t ≤ last → Has (flat_map (row last) (range_with_len a n)) (make s t)
  rows_have last a zero s t low high lt le = absurd (omega (arith, low, high))
  rows_have last a (suc n) s t low high lt le =
      elim (cases_eq a s) [
        | inl e ↦ has_append_left (row last a) (flat_map (row last) (range_with_len (a + 1) n)) (make s t)
            (subst (λ b. Has (map (make a) (range_with_len (a + 1) (last - a))) (make b t)) e (made_has a (a + 1) (last - a) t (omega (arith, e, lt)) (omega (arith, e, lt, le))))
        | inr apart ↦ has_append_right (row last a) (flat_map (row last) (range_with_len (a + 1) n)) (make s t)
            (rows_have last (a + 1) n s t (elim (cases_lt a s) [ inl m ↦ omega (arith, m) | inr m ↦ absurd (apart (omega (arith, m, low))) ]) (omega (arith, high)) lt le)
      ]

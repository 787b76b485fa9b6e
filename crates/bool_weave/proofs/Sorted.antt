-- Lists that rise by a total order: their members determine them.
use Rattle.std.proofs.Common.{◌≡◌, ◌<◌, ◌⊎◌, ◌↔◌, ℕ, zero, suc, List, [], ◌∷◌, ◌++◌, length, get_or, Contains, AllPairs, ap, sym, ◌∙◌, subst, refl, inl, inr, ⊎_elim, arith}
use Rattle.std.specs.List.{AllByRecursion}
use Rattle.std.specs.List.Sorted.{IsStrictlySortedBy}
use Rattle.std.specs.declared.cmp.Ordering.{Ordering}
use Rattle.std.specs.declared.cmp.Ordering.TheVariants.{Less, Greater}
use Rattle.std.specs.Ordering.{ordering_reverse}
use Rattle.std.specs.Cmp.{IsTotalOrder}

-- membership by recursion
abbrev pub Has : {X : Type 0} → List X → X → Type 0
Has [] x = ⊥
Has (y ∷ ys) x = (y ≡ x) ⊎ Has ys x

pub has_at : {X : Type 0} (xs : List X) (x d : X) (k : ℕ) → k < length xs → get_or xs k d ≡ x → Has xs x
has_at [] x d k lt is = absurd (omega (arith, lt))
has_at (y ∷ ys) x d zero lt is = inl is
has_at (y ∷ ys) x d (suc k) lt is = inr (has_at ys x d k (omega (arith, lt)) is)

pub has_from_contains : {X : Type 0} (xs : List X) (x : X) → Contains xs x → Has xs x
has_from_contains xs x c = has_at xs x x c.0 c.1 c.2

pub contains_from_has : {X : Type 0} (xs : List X) (x : X) → Has xs x → Contains xs x
contains_from_has [] x h = absurd h
contains_from_has (y ∷ ys) x (inl is) = (zero, omega arith, is)
contains_from_has (y ∷ ys) x (inr h) = let c = contains_from_has ys x h in (suc c.0, omega (arith, c.1), c.2)

pub all_has : {X : Type 0} (P : X → Type 0) (xs : List X) (x : X) → AllByRecursion P xs → Has xs x → P x
all_has P [] x all h = absurd h
all_has P (y ∷ ys) x all (inl is) = subst P is all.0
all_has P (y ∷ ys) x all (inr h) = all_has P ys x all.1 h

pub all_from : {X : Type 0} (P : X → Type 0) (xs : List X) → ((x : X) → Has xs x → P x) → AllByRecursion P xs
all_from P [] f = tt
all_from P (y ∷ ys) f = (f y (inl refl), all_from P ys (λ x h. f x (inr h)))

module _ {X : Type 0} (R : X → X → Ordering) (o : IsTotalOrder R) where
  pub not_both : (x y : X) → R x y ≡ Less → R y x ≡ Less → ⊥
  not_both x y a b =
      let e : Less ≡ Greater = sym a ∙ o.antisymm x y ∙ ap ordering_reverse b in
      cc (e)

  pub not_itself : (x : X) → R x x ≡ Less → ⊥
  not_itself x a = not_both x x a a

  heads : (x y : X) (xs ys : List X) → AllByRecursion (λ z. R x z ≡ Less) xs → AllByRecursion (λ z. R y z ≡ Less) ys → Has (y ∷ ys) x → Has (x ∷ xs) y → x ≡ y
  heads x y xs ys above above' (inl e) h = sym e
  heads x y xs ys above above' (inr m) (inl e) = e
  heads x y xs ys above above' (inr m) (inr m') = absurd (not_both x y (all_has (λ z. R x z ≡ Less) xs y above m') (all_has (λ z. R y z ≡ Less) ys x above' m))

  tail_of : (x : X) (xs ys : List X) (z : X) → AllByRecursion (λ z. R x z ≡ Less) xs → Has xs z → Has (x ∷ ys) z → Has ys z
  tail_of x xs ys z above m (inl e) = absurd (not_itself x (subst (λ w. R x w ≡ Less) (sym e) (all_has (λ z. R x z ≡ Less) xs z above m)))
  tail_of x xs ys z above m (inr h) = h

  pub same_members : (xs ys : List X) → IsStrictlySortedBy R xs → IsStrictlySortedBy R ys → ((z : X) → Has xs z ↔ Has ys z) → xs ≡ ys
  unfolding IsStrictlySortedBy
  same_members [] [] s t h = refl
  same_members [] (y ∷ ys) s t h = absurd ((h y).1 (inl refl))
  same_members (x ∷ xs) [] s t h = absurd ((h x).0 (inl refl))
  same_members (x ∷ xs) (y ∷ ys) s t h =
      let e : x ≡ y = heads x y xs ys s.0 t.0 ((h x).0 (inl refl)) ((h y).1 (inl refl)) in
      let above : AllByRecursion (λ z. R x z ≡ Less) ys = subst (λ w. AllByRecursion (λ z. R w z ≡ Less) ys) (sym e) t.0 in
      let rest : xs ≡ ys = same_members xs ys s.1 t.1 (λ z. (
        λ m. tail_of x xs ys z s.0 m (subst (λ w. Has (w ∷ ys) z) (sym e) ((h z).0 (inr m))),
        λ m. tail_of x ys xs z above m ((h z).1 (inr m)),
      )) in
      ap (λ w. w ∷ xs) e ∙ ap (λ l. y ∷ l) rest

  pub sorted_from_pairs : (xs : List X) → AllPairs (λ x y. R x y ≡ Less) xs → IsStrictlySortedBy R xs
  unfolding IsStrictlySortedBy
  sorted_from_pairs [] p = tt
  sorted_from_pairs (x ∷ xs) p = (
    all_from (λ y. R x y ≡ Less) xs (λ y h. let c = contains_from_has xs y h in subst (λ w. R x w ≡ Less) c.2 (p zero (suc c.0) y (omega arith) (omega (arith, c.1)))),
    sorted_from_pairs xs (λ i j d lt within. p (suc i) (suc j) d (omega (arith, lt)) (omega (arith, within))),
  )

pub has_append_left : {X : Type 0} (xs ys : List X) (z : X) → Has xs z → Has (xs ++ ys) z
has_append_left [] ys z h = absurd h
has_append_left (x ∷ xs) ys z (inl e) = inl e
has_append_left (x ∷ xs) ys z (inr h) = inr (has_append_left xs ys z h)

pub has_append_right : {X : Type 0} (xs ys : List X) (z : X) → Has ys z → Has (xs ++ ys) z
has_append_right [] ys z h = h
has_append_right (x ∷ xs) ys z h = inr (has_append_right xs ys z h)

pub has_append_cases : {X : Type 0} (xs ys : List X) (z : X) → Has (xs ++ ys) z → Has xs z ⊎ Has ys z
has_append_cases [] ys z h = inr h
has_append_cases (x ∷ xs) ys z (inl e) = inl (inl e)
has_append_cases (x ∷ xs) ys z (inr h) = ⊎_elim (λ m. inl (inr m)) (λ m. inr m) (has_append_cases xs ys z h)

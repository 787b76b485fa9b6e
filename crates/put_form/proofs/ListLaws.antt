-- Lists, and tests over them.
use Rattle.std.proofs.Common.{All, ◌≡◌, ◌<◌, ◌≤◌, ◌&&◌, ◌+◌, ◌++◌, ◌∷◌, [], ◌∙◌, ℕ, Bool, true, false, not, cond, find, List, length, get_or, drop, map, suc, Option, Some, None, arith, ap, sym, refl, subst}
use Rattle.std.specs.List.{list_all}
use Rattle.std.proofs.lemmas.Bool.{and_parts, cond-true, cond-false}
use Rattle.std.proofs.lemmas.List.{drop_more, drop_all}
use Rattle.std.proofs.lemmas.List.Elements.{All-cons, All-append}

pub all_none : {X : Type 0} (P : X → Type 0) → All P []
all_none P i d lt = absurd (omega (arith, lt))

pub all_one : {X : Type 0} (P : X → Type 0) (x : X) → P x → All P (x ∷ [])
all_one P x h = All-cons P x [] h (all_none P)

pub all_more : {X : Type 0} (P : X → Type 0) (xs : List X) (x : X) → All P xs → P x → All P (xs ++ x ∷ [])
all_more P xs x all h = All-append P xs (x ∷ []) all (all_one P x h)

pub all_head : {X : Type 0} (P : X → Type 0) (x : X) (xs : List X) → All P (x ∷ xs) → P x
all_head P x xs all = all 0 x (omega arith)

pub all_tail : {X : Type 0} (P : X → Type 0) (x : X) (xs : List X) → All P (x ∷ xs) → All P xs
all_tail P x xs all = λ i d lt. all (suc i) d (omega (arith, lt))

pub both : (a b : Bool) → a ≡ true → b ≡ true → (a && b) ≡ true
both a b p q = cc

pub not_true : (b : Bool) → (b ≡ true → ⊥) → b ≡ false
not_true true h = absurd (h refl)
not_true false h = refl

pub of_not : (b : Bool) → not b ≡ true → b ≡ false
of_not true h = absurd cc
of_not false h = refl

-- what is found passes
found_by : {X : Type 0} (p : X → Bool) (x y : X) (rest : Option X) (t : Bool) → p x ≡ t → cond t (Some x) rest ≡ Some y → (rest ≡ Some y → p y ≡ true) → p y ≡ true
found_by p x y rest true e h more = let same : x ≡ y = cc in subst (λ z. p z ≡ true) same e
found_by p x y rest false e h more = more h

pub found_passes : {X : Type 0} (p : X → Bool) (xs : List X) (y : X) → find p xs ≡ Some y → p y ≡ true
found_passes p [] y h = absurd cc
found_passes p (x ∷ xs) y h = found_by p x y (find p xs) (p x) refl h (found_passes p xs y)

-- what is found is of a kind that all are of
kept_by : {X : Type 0} (P : X → Type 0) (x y : X) (rest : Option X) (t : Bool) → cond t (Some x) rest ≡ Some y → P x → (rest ≡ Some y → P y) → P y
kept_by P x y rest true h here more = let same : x ≡ y = cc in subst P same here
kept_by P x y rest false h here more = more h

pub found_is : {X : Type 0} (P : X → Type 0) (p : X → Bool) (xs : List X) (y : X) → All P xs → find p xs ≡ Some y → P y
found_is P p [] y all h = absurd cc
found_is P p (x ∷ xs) y all h = kept_by P x y (find p xs) (p x) h (all_head P x xs all) (found_is P p xs y (all_tail P x xs all))

-- nothing is found where none passes
none_here : {X : Type 0} (x : X) (rest : Option X) (t : Bool) → cond t (Some x) rest ≡ None → (t ≡ false) × (rest ≡ None)
none_here x rest true h = absurd cc
none_here x rest false h = (refl, h)

pub none_found : {X : Type 0} (p : X → Bool) (xs : List X) → find p xs ≡ None → All (λ x. p x ≡ false) xs
none_found p [] h = all_none (λ x. p x ≡ false)
none_found p (x ∷ xs) h = let e = none_here x (find p xs) (p x) h in All-cons (λ x. p x ≡ false) x xs e.0 (none_found p xs e.1)

pub all_pass : {X : Type 0} (p : X → Bool) (xs : List X) → list_all p xs ≡ true → All (λ x. p x ≡ true) xs
all_pass p [] h = all_none (λ x. p x ≡ true)
all_pass p (x ∷ xs) h = let e = and_parts (p x) (list_all p xs) h in All-cons (λ x. p x ≡ true) x xs e.0 (all_pass p xs e.1)

pub pass_all : {X : Type 0} (p : X → Bool) (xs : List X) → All (λ x. p x ≡ true) xs → list_all p xs ≡ true
pass_all p [] h = refl
pass_all p (x ∷ xs) h = both (p x) (list_all p xs) (all_head (λ x. p x ≡ true) x xs h) (pass_all p xs (all_tail (λ x. p x ≡ true) x xs h))

pub all_mapped : {X Y : Type 0} (P : Y → Type 0) (f : X → Y) (xs : List X) → All (λ x. P (f x)) xs → All P (map f xs)
all_mapped P f [] h = all_none P
all_mapped P f (x ∷ xs) h = All-cons P (f x) (map f xs) (all_head (λ x. P (f x)) x xs h) (all_mapped P f xs (all_tail (λ x. P (f x)) x xs h))

-- what is found from a place on
pub found_here : {X : Type 0} (p : X → Bool) (xs : List X) (i : ℕ) (d : X) → i < length xs → p (get_or xs i d) ≡ true → find p (drop i xs) ≡ Some (get_or xs i d)
found_here p xs i d lt h = ap (find p) (drop_more xs i d lt) ∙ cond-true (p (get_or xs i d)) (Some (get_or xs i d)) (find p (drop (i + 1) xs)) h

pub found_past : {X : Type 0} (p : X → Bool) (xs : List X) (i : ℕ) (d : X) → i < length xs → p (get_or xs i d) ≡ false → find p (drop (i + 1) xs) ≡ find p (drop i xs)
found_past p xs i d lt h = sym (ap (find p) (drop_more xs i d lt) ∙ cond-false (p (get_or xs i d)) (Some (get_or xs i d)) (find p (drop (i + 1) xs)) h)

pub found_end : {X : Type 0} (p : X → Bool) (xs : List X) (i : ℕ) → length xs ≤ i → find p (drop i xs) ≡ None
found_end p xs i le = ap (find p) (drop_all i xs le)

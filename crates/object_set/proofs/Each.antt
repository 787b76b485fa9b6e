-- What holds of each element of a list, told one after another.
use Rattle.std.proofs.Common.{All, ◌≡◌, ◌<◌, ◌+◌, ◌++◌, ◌∙◌, ℕ, List, [], ◌∷◌, length, take, get_or, Some, ap, sym, subst}
use Rattle.std.specs.List.{AllByRecursion, slice_get}
use Rattle.std.proofs.lemmas.List.{take_more}
use Rattle.std.proofs.lemmas.List.Elements.{All-head, All-tail, All-push}
use Rattle.std.proofs.Math.Seq.{take-length}
use Rattle.std.proofs.lemmas.Option.{get_or_from_slice_get, slice_get_within}

-- one more of those at the front
pub all_more : {X : Type 0} (P : X → Type 0) (xs : List X) (i : ℕ) (x : X) → i < length xs → x ≡ get_or xs i x → All P (take i xs) → P x → All P (take (i + 1) xs)
all_more P xs i x lt is h one = subst (All P) (sym (take_more xs i x lt)) (All-push P (take i xs) (get_or xs i x) h (subst P is one))

pub all_done : {X : Type 0} (P : X → Type 0) (xs : List X) (i : ℕ) → i ≡ length xs → All P (take i xs) → All P xs
all_done P xs i end h = subst (All P) (ap (λ (n : ℕ). take n xs) end ∙ take-length xs) h

-- one more, by the element at a place
pub all_found : {X : Type 0} (P : X → Type 0) (xs : List X) (i : ℕ) (x : X) → slice_get xs i ≡ Some x → All P (take i xs) → P x → All P (take (i + 1) xs)
all_found P xs i x is h one = all_more P xs i x (slice_get_within xs i x is) (sym (get_or_from_slice_get xs i x x is)) h one

-- of each element, one after another
pub by_each : {X : Type 0} (P : X → Type 0) (xs : List X) → All P xs → AllByRecursion P xs
by_each P [] h = tt
by_each P (x ∷ xs) h = (All-head P x xs h, by_each P xs (All-tail P x xs h))

pub of_first : {X : Type 0} (P : X → Type 0) (xs ys : List X) → AllByRecursion P (xs ++ ys) → AllByRecursion P xs
of_first P [] ys h = tt
of_first P (x ∷ xs) ys h = (h.0, of_first P xs ys h.1)

pub of_rest : {X : Type 0} (P : X → Type 0) (xs ys : List X) → AllByRecursion P (xs ++ ys) → AllByRecursion P ys
of_rest P [] ys h = h
of_rest P (x ∷ xs) ys h = of_rest P xs ys h.1

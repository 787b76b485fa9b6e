-- What holds of each element of a list's front.
use Rattle.std.proofs.Common.{◌≡◌, ◌<◌, ◌+◌, ℕ, List, length, get_or, take, drop, All, subst, sym, ap, ◌∙◌, arith}
use Rattle.std.proofs.lemmas.List.{get_or-take, length-take, get_or-drop, length-drop}

all_at : {X : Type 0} (P : X → Type 0) (xs : List X) (i k : ℕ) (d : X) → k < i → P (get_or xs k d) → P (get_or (take i xs) k d)
all_at P xs i k d lt p = subst P (sym (get_or-take i xs k d lt)) p

pub all_before : {X : Type 0} (P : X → Type 0) (xs : List X) (i : ℕ) → All P (take (i + 1) xs) → All P (take i xs)
all_before P xs i all k d lt =
    let short : k < i = omega (arith, lt, length-take i xs) in
    all_at P xs i k d short (subst P (get_or-take (i + 1) xs k d (omega (arith, short))) (all k d (omega (arith, lt, length-take i xs, length-take (i + 1) xs))))

pub all_last : {X : Type 0} (P : X → Type 0) (xs : List X) (i : ℕ) (d : X) → i < length xs → All P (take (i + 1) xs) → P (get_or xs i d)
all_last P xs i d lt all = subst P (get_or-take (i + 1) xs i d (omega arith)) (all i d (omega (arith, lt, length-take (i + 1) xs)))

pub all_next : {X : Type 0} (P : X → Type 0) (xs : List X) (i : ℕ) (d : X) → i < length xs → All P (drop i xs) → P (get_or xs i d)
all_next P xs i d lt all =
    let here : i + 0 ≡ i = omega arith in
    subst P (get_or-drop i xs 0 d ∙ ap (λ n. get_or xs n d) here) (all 0 d (omega (arith, lt, length-drop i xs)))

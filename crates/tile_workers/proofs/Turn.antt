-- Results of pieces that are run one after the other.
use Rattle.std.proofs.Common.{arith, subst, sym, refl, ◌≡◌, ◌<◌, ◌≤◌, ◌+◌, ◌++◌, ◌⊎◌, inl, inr, ℕ, zero, suc, List, [], ◌∷◌, length, get_or}
use Rattle.std.proofs.lemmas.Bool.{cases_lt}
use Rattle.tile_workers.specs.Results.{AreResults}
use Rattle.std.proofs.lemmas.List.{get_or_push}

-- one result more
push_before : {X : Type 0} (xs : List X) (x : X) (i : ℕ) (d : X) → i < length xs → get_or (xs ++ x ∷ []) i d ≡ get_or xs i d
push_before [] x i d lt = absurd (omega (arith, lt))
push_before (y ∷ ys) x zero d lt = refl
push_before (y ∷ ys) x (suc i) d lt = push_before ys x i d (omega (arith, lt))

results_at : {X : Type 0} (P : ℕ → X → Type 0) (n : ℕ) (all : List X) (x : X) → length all ≡ n → AreResults P n all → P n x → (i : ℕ) (d : X) → (i < n) ⊎ (n ≤ i) → i < n + 1 → P i (get_or (all ++ x ∷ []) i d)
results_at P n all x len each here i d (inl lt) le =
    let within : i < length all = omega (arith, lt, len) in
    subst (P i) (sym (push_before all x i d within)) (each i d lt)
results_at P n all x len each here i d (inr past) le =
    let same : i ≡ n = omega (arith, past, le) in
    subst (λ k. P k (get_or (all ++ x ∷ []) k d)) (sym same) (subst (P n) (sym (get_or_push all x d n len)) here)

pub results_more : {X : Type 0} (P : ℕ → X → Type 0) (n : ℕ) (all : List X) (x : X) → length all ≡ n → AreResults P n all → P n x → AreResults P (n + 1) (all ++ x ∷ [])
results_more P n all x len each here i d lt = results_at P n all x len each here i d (cases_lt i n) lt

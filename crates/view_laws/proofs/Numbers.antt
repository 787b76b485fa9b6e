-- The numbers, in a list, of those of its elements that a test keeps.
use Rattle.std.proofs.Common.{◌≡◌, ◌<◌, ◌≤◌, ◌+◌, zero, suc, ℕ, List, [], ◌∷◌, length, get_or, slice_get, filter, Bool, true, false, cond, Some, subst, sym, refl, arith}

module _ {X : Type 0} (keep : X → Bool) where
  abbrev pub numbers : ℕ → List X → List ℕ
  numbers n [] = []
  numbers n (x ∷ xs) = cond (keep x) (n ∷ numbers (suc n) xs) (numbers (suc n) xs)

-- the element of a number among those kept, by its number in the whole list
pub record IsKeptAs {X : Type 0} (ns : List ℕ) (kept xs : List X) (n k : ℕ) : Type 0 where
  pub offset : ℕ
  pub number : get_or ns k 0 ≡ n + offset
  pub within : offset < length xs
  pub there : slice_get xs offset ≡ slice_get kept k

as_behind : {X : Type 0} (ns : List ℕ) (kept xs : List X) (x : X) (n k : ℕ) → IsKeptAs ns kept xs (suc n) k → IsKeptAs ns kept (x ∷ xs) n k
as_behind ns kept xs x n k is = record { offset = suc is.offset; number = omega (arith, is.number); within = omega (arith, is.within); there = is.there }

as_step : {X : Type 0} (b : Bool) (ns : List ℕ) (kept xs : List X) (x : X) (n k : ℕ) → ((i : ℕ) → i < length kept → IsKeptAs ns kept xs (suc n) i) → k < length (cond b (x ∷ kept) kept)
    → IsKeptAs (cond b (n ∷ ns) ns) (cond b (x ∷ kept) kept) (x ∷ xs) n k
as_step true ns kept xs x n zero rest lt = record { offset = 0; number = omega arith; within = omega arith; there = refl }
as_step true ns kept xs x n (suc k) rest lt =
    let is = as_behind ns kept xs x n k (rest k (omega (arith, lt))) in
    record { offset = is.offset; number = is.number; within = is.within; there = is.there }
as_step false ns kept xs x n k rest lt = as_behind ns kept xs x n k (rest k lt)

pub kept_as : {X : Type 0} (keep : X → Bool) (n : ℕ) (xs : List X) (k : ℕ) → k < length (filter keep xs) → IsKeptAs (numbers keep n xs) (filter keep xs) xs n k
kept_as keep n [] k lt = absurd (omega (arith, lt))
kept_as keep n (x ∷ xs) k lt = as_step (keep x) (numbers keep (suc n) xs) (filter keep xs) xs x n k (λ i within. kept_as keep (suc n) xs i within) lt

-- an element that is kept has a number among those kept
pub record IsAmongKept {X : Type 0} (ns : List ℕ) (kept : List X) (x : X) (m : ℕ) : Type 0 where
  pub k : ℕ
  pub within : k < length kept
  pub there : slice_get kept k ≡ Some x
  pub number : get_or ns k 0 ≡ m

among_first : {X : Type 0} (b : Bool) (ns : List ℕ) (kept : List X) (x : X) (n : ℕ) → b ≡ true → IsAmongKept (cond b (n ∷ ns) ns) (cond b (x ∷ kept) kept) x n
among_first true ns kept x n e = record { k = 0; within = omega arith; there = refl; number = refl }
among_first false ns kept x n e = let wrong : false ≡ true = e in absurd cc

among_later : {X : Type 0} (b : Bool) (ns : List ℕ) (kept : List X) (y x : X) (n m : ℕ) → IsAmongKept ns kept x m → IsAmongKept (cond b (n ∷ ns) ns) (cond b (y ∷ kept) kept) x m
among_later true ns kept y x n m is = record { k = suc is.k; within = omega (arith, is.within); there = is.there; number = is.number }
among_later false ns kept y x n m is = is

pub among_kept : {X : Type 0} (keep : X → Bool) (n : ℕ) (xs : List X) (i m : ℕ) (x : X) → slice_get xs i ≡ Some x → keep x ≡ true → m ≡ n + i → IsAmongKept (numbers keep n xs) (filter keep xs) x m
among_kept keep n [] i m x e kept is = absurd cc
among_kept {X = X} keep n (y ∷ ys) zero m x e kept is =
    let same : y ≡ x = cc in
    subst (λ (z : X). IsAmongKept (numbers keep n (y ∷ ys)) (filter keep (y ∷ ys)) z m) same
    (subst (λ m. IsAmongKept (numbers keep n (y ∷ ys)) (filter keep (y ∷ ys)) y m) (let it : n ≡ m = omega (arith, is) in it)
    (among_first (keep y) (numbers keep (suc n) ys) (filter keep ys) y n (subst (λ (z : X). keep z ≡ true) (sym same) kept)))
among_kept keep n (y ∷ ys) (suc i) m x e kept is = among_later (keep y) (numbers keep (suc n) ys) (filter keep ys) y x n m (among_kept keep (suc n) ys i m x e kept (omega (arith, is)))

-- the numbers rise
least_step : (b : Bool) (ns : List ℕ) (n k : ℕ) → ((i : ℕ) → i < length ns → suc n ≤ get_or ns i 0) → k < length (cond b (n ∷ ns) ns) → n ≤ get_or (cond b (n ∷ ns) ns) k 0
least_step true ns n zero rest lt = omega arith
least_step true ns n (suc k) rest lt = let it = rest k (omega (arith, lt)) in omega (arith, it)
least_step false ns n k rest lt = let it = rest k lt in omega (arith, it)

numbers_least : {X : Type 0} (keep : X → Bool) (n : ℕ) (xs : List X) (k : ℕ) → k < length (numbers keep n xs) → n ≤ get_or (numbers keep n xs) k 0
numbers_least keep n [] k lt = absurd (omega (arith, lt))
numbers_least keep n (x ∷ xs) k lt = least_step (keep x) (numbers keep (suc n) xs) n k (λ i within. numbers_least keep (suc n) xs i within) lt

rise_step : (b : Bool) (ns : List ℕ) (n i j : ℕ) → ((k : ℕ) → k < length ns → suc n ≤ get_or ns k 0) → ((i j : ℕ) → i < j → j < length ns → get_or ns i 0 < get_or ns j 0)
    → i < j → j < length (cond b (n ∷ ns) ns) → get_or (cond b (n ∷ ns) ns) i 0 < get_or (cond b (n ∷ ns) ns) j 0
rise_step true ns n i zero least rest lt within = absurd (omega (arith, lt))
rise_step true ns n zero (suc j) least rest lt within = let it = least j (omega (arith, within)) in omega (arith, it)
rise_step true ns n (suc i) (suc j) least rest lt within = rest i j (omega (arith, lt)) (omega (arith, within))
rise_step false ns n i j least rest lt within = rest i j lt within

pub numbers_rise : {X : Type 0} (keep : X → Bool) (n : ℕ) (xs : List X) (i j : ℕ) → i < j → j < length (numbers keep n xs) → get_or (numbers keep n xs) i 0 < get_or (numbers keep n xs) j 0
numbers_rise keep n [] i j lt within = absurd (omega (arith, within))
numbers_rise keep n (x ∷ xs) i j lt within =
    rise_step (keep x) (numbers keep (suc n) xs) n i j (λ k within'. numbers_least keep (suc n) xs k within') (λ a b lt' within'. numbers_rise keep (suc n) xs a b lt' within') lt within

length_step : {X : Type 0} (b : Bool) (ns : List ℕ) (kept : List X) (x : X) (n : ℕ) → length ns ≡ length kept → length (cond b (n ∷ ns) ns) ≡ length (cond b (x ∷ kept) kept)
length_step true ns kept x n e = omega (arith, e)
length_step false ns kept x n e = e

pub numbers_length : {X : Type 0} (keep : X → Bool) (n : ℕ) (xs : List X) → length (numbers keep n xs) ≡ length (filter keep xs)
numbers_length keep n [] = refl
numbers_length keep n (x ∷ xs) = length_step (keep x) (numbers keep (suc n) xs) (filter keep xs) x n (numbers_length keep (suc n) xs)

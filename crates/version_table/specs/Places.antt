-- Sums over a list, and places of the history.
use Rattle.std.specs.Prelude.{◌+◌, ◌<◌, ℕ, zero, suc, ◌==◌, cond, List, [], ◌∷◌, nat_lt}

-- f of each, added up
abbrev pub total : {X : Type 0} → (X → ℕ) → List X → ℕ
total f [] = 0
total f (x ∷ xs) = f x + total f xs

-- 1 where x is k
abbrev pub hit : ℕ → ℕ → ℕ
hit k x = cond (x == k) 1 0

-- how often a place is claimed
abbrev pub times : ℕ → List ℕ → ℕ
times k xs = total (hit k) xs

-- each is below the next ones
abbrev pub AllAbove : ℕ → List ℕ → Type 0
AllAbove x [] = Unit {0}
AllAbove x (y ∷ ys) = (x < y) × AllAbove x ys

-- each is below all that come after it
abbrev pub IsRising : List ℕ → Type 0
IsRising [] = Unit {0}
IsRising (x ∷ xs) = AllAbove x xs × IsRising xs

-- so many places, from k on
abbrev pub places_from : ℕ → ℕ → List ℕ
places_from k zero = []
places_from k (suc n) = k ∷ places_from (suc k) n

-- a place put in its order among others, and all places of two lists in order
abbrev pub placed : ℕ → List ℕ → List ℕ
placed x [] = x ∷ []
placed x (y ∷ ys) = cond (nat_lt x y) (x ∷ y ∷ ys) (y ∷ placed x ys)

abbrev pub merged : List ℕ → List ℕ → List ℕ
merged xs [] = xs
merged xs (y ∷ ys) = placed y (merged xs ys)

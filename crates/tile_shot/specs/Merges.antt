-- Two lists of pairs made one, in the words of the code.
use Rattle.std.specs.Prelude.{◌≡◌, ◌<◌, ◌+◌, ◌^◌, ◌⊎◌, ◌==◌, List, [], ◌∷◌, Bool, ◌&&◌, ◌||◌, nat_lt, cond, All, AllPairs}
use Rattle.shot_core.specs.declared.pair.Pair.{Pair}

-- by the lower place, and then the higher one
abbrev pub HasLowerPair : Pair → Pair → Type 0
HasLowerPair a b = (a.one < b.one) ⊎ ((a.one ≡ b.one) × (a.two < b.two))

-- each pair has lower places than all that follow, and so few rays that two such numbers can be added
pub record ArePairs (pairs : List Pair) : Type 0 where
  pub rising : AllPairs HasLowerPair pairs
  pub rays : All (λ p. p.rays < 2 ^ 31) pairs

abbrev pub comes_before : Pair → Pair → Bool
comes_before a b = nat_lt a.one b.one || (a.one == b.one && nat_lt a.two b.two)

-- whether the first ray of a pair comes before that of another, row by row
abbrev pub is_earlier : Pair → Pair → Bool
is_earlier a b = nat_lt a.row b.row || (a.row == b.row && nat_lt a.column b.column)

-- a pair on the rays of two: as many as both have, and the earlier of their first ones with its overlap
abbrev pub joined : Pair → Pair → Pair
joined a b = record (cond (is_earlier b a) b a) { rays = a.rays + b.rays }

abbrev pub merged_from : Pair → List Pair → (List Pair → List Pair) → List Pair → List Pair
merged_from x xs rest [] = x ∷ xs
merged_from x xs rest (y ∷ ys) = cond (comes_before x y) (x ∷ rest (y ∷ ys)) (cond (comes_before y x) (y ∷ merged_from x xs rest ys) (joined x y ∷ rest ys))

-- two lists of pairs made one: a pair of both is joined
abbrev pub merged : List Pair → List Pair → List Pair
merged [] more = more
merged (x ∷ xs) more = merged_from x xs (merged xs) more

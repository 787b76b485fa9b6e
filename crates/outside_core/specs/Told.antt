-- What a call did to content that an object may tell or keep to itself. None is content that is not told, of
-- which nothing is said; what was told before a call is told after it.
use Rattle.std.specs.Prelude.{◌≡◌, ◌↔◌, ℕ, List, [], ◌∷◌, ◌++◌, Option, Some, IfSome}
use Rattle.std.specs.Io.KnownBytes.{Consumes}

-- what was told stays as it was
abbrev pub Stays : {T : Type 0} → Option T → Option T → Type 0
Stays old new = IfSome old (λ known. new ≡ Some known)

-- the list that was told has grown by one at its end
abbrev pub Grows : {T : Type 0} → Option (List T) → Option (List T) → T → Type 0
Grows old new last = IfSome old (λ known. new ≡ Some (known ++ last ∷ []))

-- a number is 0 exactly where nothing was left
abbrev pub NoneLeftExactly : ℕ → Option (List ℕ) → Type 0
NoneLeftExactly n left = IfSome left (λ known. (n ≡ 0) ↔ (known ≡ []))

-- the content that was left has lost some of its first bytes, or none
abbrev pub Advances : Option (List ℕ) → Option (List ℕ) → Type 0
Advances old new = (bytes : List ℕ) × Consumes old new bytes

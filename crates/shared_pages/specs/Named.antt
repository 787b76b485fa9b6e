-- Where a name stands among pairs.
use Rattle.std.specs.Prelude.{◌≡◌, ℕ, zero, suc, Bool, true, false, List, [], ◌∷◌, Option, Some, None}
use Rattle.std.specs.Map.{lookup}

module _ {K X : Type 0} where
  -- the pair at the place is the first that passes
  abbrev pub IsFirst : (K → Bool) → List (K × X) → ℕ → Type 0
  IsFirst test [] i = ⊥
  IsFirst test (e ∷ es) zero = test e.0 ≡ true
  IsFirst test (e ∷ es) (suc i) = (test e.0 ≡ false) × IsFirst test es i

  -- the pairs before the place do not pass
  abbrev pub AreOther : (K → Bool) → List (K × X) → ℕ → Type 0
  AreOther test [] i = Unit {0}
  AreOther test (e ∷ es) zero = Unit {0}
  AreOther test (e ∷ es) (suc i) = (test e.0 ≡ false) × AreOther test es i

  -- where the first pair stands that passes, or that there is none
  abbrev pub IsFound : (K → Bool) → List (K × X) → Option ℕ → Type 0
  IsFound test es (Some i) = IsFirst test es i
  IsFound test es None = lookup test es ≡ None

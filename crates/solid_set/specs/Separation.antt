-- Between two different places lie as many fractions as one likes.
use Rattle.std.specs.Prelude.{◌≡◌, ℕ, List, length, All, AllPairs}
use Rattle.surd_order.specs.declared.position.Pos.{Pos}
use Rattle.surd_order.specs.Order.{Precedes, IsPlace}
use Rattle.surd_order.specs.Spelling.{IsFraction}

-- the third is a fraction strictly between the other two
pub record IsFractionBetween (x y z : Pos) : Type 0 where
  pub fraction : IsFraction z
  pub place : IsPlace z
  pub after : Precedes x z
  pub before : Precedes z y

-- so many of them, each before the next, so at different places
pub record HasFractionsBetween (n : ℕ) (x y : Pos) : Type 0 where
  pub fractions : List Pos
  pub count : length fractions ≡ n
  pub between : All (IsFractionBetween x y) fractions
  pub rising : AllPairs Precedes fractions

-- where one place precedes another, there are so many fractions between them for every number
abbrev pub PlacesAreSeparated : Type 0
PlacesAreSeparated = (x y : Pos) (n : ℕ) → IsPlace x → IsPlace y → Precedes x y → HasFractionsBetween n x y

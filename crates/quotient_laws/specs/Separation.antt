-- Between two different quotients lie as many fractions as one likes.
use Rattle.std.specs.Prelude.{◌≡◌, ℕ, List, length, All, AllPairs}
use Rattle.surd_order.specs.declared.position.Pos.{Pos}
use Rattle.surd_order.specs.Order.{Precedes, IsPlace}
use Rattle.surd_order.specs.Spelling.{IsFraction}
use Rattle.surd_quot.specs.Quotients.{Quotient, IsQuotient, QuotientPrecedes, as_quotient}

-- z is a fraction strictly between the two quotients
pub record LiesBetweenQuotients (u v : Quotient) (z : Pos) : Type 0 where
  pub fraction : IsFraction z
  pub place : IsPlace z
  pub after : QuotientPrecedes u (as_quotient z)
  pub before : QuotientPrecedes (as_quotient z) v

-- so many of them, each before the next, so at different places
pub record HasFractionsBetweenQuotients (n : ℕ) (u v : Quotient) : Type 0 where
  pub fractions : List Pos
  pub count : length fractions ≡ n
  pub between : All (LiesBetweenQuotients u v) fractions
  pub rising : AllPairs Precedes fractions

-- where one quotient precedes another, there are so many fractions between them for every number
abbrev pub QuotientsAreSeparated : Type 0
QuotientsAreSeparated = (u v : Quotient) (n : ℕ) → IsQuotient u → IsQuotient v → QuotientPrecedes u v → HasFractionsBetweenQuotients n u v

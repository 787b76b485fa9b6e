-- The one spelling of a position.
use Rattle.std.specs.Prelude.{◌≢◌, ◌↔◌, ℕ, ◌*◌, ℤ, pos, negsuc, neg_ℤ, suc, ◌<ℤ◌}
use Rattle.std.specs.Int.{IsGcd}
use Rattle.std.specs.Int.RustNames.{unsigned_abs}
use Rattle.surd_order.specs.declared.position.Pos.{Pos}
use Rattle.surd_order.specs.declared.position.Pos.TheVariants.{Frac, Surd}
use Rattle.surd_order.specs.AtMost.{AtMost}

-- the position is a fraction
abbrev pub IsFraction : Pos → Type 0
IsFraction (Frac p q) = Unit {0}
IsFraction (Surd a plus k) = ⊥

-- a fraction is in lowest terms with its denominator over 0, and the number under a root is no square
abbrev pub IsSpelled : Pos → Type 0
IsSpelled (Frac p q) = (pos 0 <ℤ q) × IsGcd (unsigned_abs p) (unsigned_abs q) 1
IsSpelled (Surd a plus k) = (n : ℕ) → n * n ≢ k

-- the fraction p / q, whatever the sign of q, with a denominator over 0
abbrev pub fraction_of : ℤ → ℤ → Pos
fraction_of p (pos q) = Frac p (pos q)
fraction_of p (negsuc q) = Frac (neg_ℤ p) (pos (suc q))

-- the same fractions are at most the one as at most the other
abbrev pub HaveSameFractions : Pos → Pos → Type 0
HaveSameFractions x y = (p q : ℤ) → pos 0 <ℤ q → AtMost p q x ↔ AtMost p q y

-- The one spelling of each place: a fraction in lowest terms, and no root of a square.
use Rattle.std.specs.Prelude.{◌≡◌, ◌↔◌, ℕ, ◌*◌, ◌==◌, ℤ, pos, int_div, ◌+ℤ◌, ◌-ℤ◌, Bool, true, false, cond}
use Rattle.std.specs.Int.RustNames.{unsigned_abs}
use Rattle.wide_core.specs.Gcd.{gcd_of}
use Rattle.wide_core.specs.Root.{root_of}
use Rattle.surd_order.specs.declared.position.Pos.{Pos}
use Rattle.surd_order.specs.declared.position.Pos.TheVariants.{Frac, Surd}
use Rattle.surd_order.specs.Order.{IsPlace, SamePlace}
use Rattle.surd_order.specs.Spelling.{IsSpelled, HaveSameFractions}

-- both terms divided by one number
abbrev pub divided : ℤ → ℤ → ℕ → Pos
divided p q divisor = Frac (int_div p (pos divisor)) (int_div q (pos divisor))

-- a + r, or a - r
abbrev pub beside : ℤ → Bool → ℕ → ℤ
beside a true r = a +ℤ pos r
beside a false r = a -ℤ pos r

-- a + √k or a - √k, where the whole number next below √k, or √k itself, is r
abbrev pub taken : ℤ → Bool → ℕ → ℕ → Pos
taken a plus k r = cond (r * r == k) (Frac (beside a plus r) (pos 1)) (Surd a plus k)

-- the one spelling of the place of a position, for a fraction with its denominator over 0
abbrev pub spelled : Pos → Pos
spelled (Frac p q) = divided p q (gcd_of (unsigned_abs p) (unsigned_abs q))
spelled (Surd a plus k) = taken a plus k (root_of k)

-- it is a spelling of the same place, and places have one spelling
pub record IsOneSpelling : Type 0 where
  pub spelling : (x : Pos) → IsPlace x → IsSpelled (spelled x)
  pub place : (x : Pos) → IsPlace x → SamePlace (spelled x) x
  pub fractions : (x : Pos) → IsPlace x → HaveSameFractions (spelled x) x
  pub kept : (x : Pos) → IsSpelled x → spelled x ≡ x
  pub one : (x y : Pos) → IsPlace x → IsPlace y → (spelled x ≡ spelled y) ↔ SamePlace x y

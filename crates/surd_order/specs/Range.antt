-- The limits under which positions are compared.
use Rattle.std.specs.Prelude.{◌<◌, ◌^◌, ℕ, ℤ, pos, ◌-ℤ◌, ◌<ℤ◌}
use Rattle.std.specs.Int.RustNames.{unsigned_abs}
use Rattle.surd_order.specs.declared.range.TheConstants.{OVER_LIMIT, UNDER_LIMIT, WHOLE_LIMIT, SQUARE_LIMIT}
use Rattle.surd_order.specs.declared.position.Pos.{Pos}
use Rattle.surd_order.specs.declared.position.Pos.TheVariants.{Frac, Surd}

pub record IsFractionInRange (p q : ℤ) : Type 0 where
  pub over : unsigned_abs p < OVER_LIMIT
  pub positive : pos 0 <ℤ q
  pub under : q <ℤ UNDER_LIMIT

pub record IsSurdInRange (a : ℤ) (k : ℕ) : Type 0 where
  pub whole : unsigned_abs a < WHOLE_LIMIT
  pub square : k < SQUARE_LIMIT

-- the numbers of a position are within the limits for its kind
abbrev pub IsInRange : Pos → Type 0
IsInRange (Frac p q) = IsFractionInRange p q
IsInRange (Surd a plus k) = IsSurdInRange a k

-- the whole numbers beside two roots are near, and the numbers under them small: then all products of a comparison are below 2^127
pub record AreNear (a : ℤ) (k : ℕ) (b : ℤ) (l : ℕ) : Type 0 where
  pub apart : unsigned_abs (b -ℤ a) < 2 ^ 28
  pub first : k < 2 ^ 53
  pub second : l < 2 ^ 53

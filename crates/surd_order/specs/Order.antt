-- The order of positions: one precedes another where some fraction lies at or before the later one and beyond the earlier one.
use Rattle.std.specs.Prelude.{◌≡◌, ◌↔◌, ◌⊎◌, ℤ, pos, ◌<ℤ◌}
use Rattle.std.specs.declared.cmp.Ordering.{Ordering}
use Rattle.std.specs.declared.cmp.Ordering.TheVariants.{Less, Equal, Greater}
use Rattle.surd_order.specs.declared.position.Pos.{Pos}
use Rattle.surd_order.specs.declared.position.Pos.TheVariants.{Frac, Surd}
use Rattle.surd_order.specs.AtMost.{AtMost}

-- some fraction p / q is at most y and not at most x
pub record Precedes (x y : Pos) : Type 0 where
  pub p : ℤ
  pub q : ℤ
  pub positive : pos 0 <ℤ q
  pub within : AtMost p q y
  pub beyond : ¬ (AtMost p q x)

-- neither precedes the other
pub record SamePlace (x y : Pos) : Type 0 where
  pub not_before : ¬ (Precedes x y)
  pub not_after : ¬ (Precedes y x)

-- the answer of a comparison says which of the three holds
pub record IsOrderOf (answer : Ordering) (x y : Pos) : Type 0 where
  pub less : (answer ≡ Less) ↔ Precedes x y
  pub same : (answer ≡ Equal) ↔ SamePlace x y
  pub greater : (answer ≡ Greater) ↔ Precedes y x

-- of three facts exactly one holds
pub record IsExactlyOne (A B C : Type 0) : Type 0 where
  pub some : A ⊎ (B ⊎ C)
  pub first_alone : A → (¬ B) × (¬ C)
  pub second_alone : B → (¬ A) × (¬ C)
  pub third_alone : C → (¬ A) × (¬ B)

-- a place on the ray: the denominator of a fraction is over 0
abbrev pub IsPlace : Pos → Type 0
IsPlace (Frac p q) = pos 0 <ℤ q
IsPlace (Surd a plus k) = Unit {0}

-- The calls of a pass, made and left.
use Rattle.std.specs.Prelude.{◌≡◌, ◌≤◌, ◌+◌, ℕ, length}
use Rattle.version_table.specs.Passes.{PassView}

module _ {C : Type 0} where
  abbrev pub calls_of : PassView C → ℕ
  calls_of p = p.left + length p.own

  -- it makes at most so many calls more
  abbrev pub Makes : ℕ → PassView C → PassView C → Type 0
  Makes most old new = (new.table ≡ old.table) × (calls_of new ≡ calls_of old) × (old.left ≤ new.left + most)

-- Positions that are compared and kept.
use Rattle.surd_order.specs.declared.position.Pos.{Pos}
use Rattle.surd_order.specs.Spelling.{IsSpelled}
use Rattle.surd_order.specs.Range.{IsInRange}

-- in its one spelling and in range
pub record IsRanged (place : Pos) : Type 0 where
  pub in_range : IsInRange place
  pub spelled : IsSpelled place

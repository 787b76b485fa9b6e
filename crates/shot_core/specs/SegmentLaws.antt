-- What the crate of solids and the crate of cuts each say of a segment, side by side.
use Rattle.std.specs.Prelude.{◌≡◌, ◌↔◌}
use Rattle.surd_order.specs.declared.position.Seg.{Seg}
use Rattle.solid_set.specs.Segments as solids
use Rattle.solid_set.specs.Laws.{IsSound}
use Rattle.bool_weave.specs.Cuts as cuts
use Rattle.bool_weave.specs.Cuts.{IsSegment}

-- both let a ray begin and end at the same places
pub record AreRayEnds : Type 0 where
  pub start : solids.ray_start ≡ cuts.ray_start
  pub end : solids.ray_end ≡ cuts.ray_end

-- the segments that solids answer are just those that are woven
abbrev pub AreSegments : Type 0
AreSegments = (seg : Seg) → IsSound seg ↔ IsSegment seg

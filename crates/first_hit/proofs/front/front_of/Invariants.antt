use Rattle.std.proofs.Common.{All}
use Rattle.bool_weave.specs.Cuts.{IsSegment}
use Rattle.first_hit.specs.FirstSteps.{IsFront, IsThrough, IsPartOf}
use Rattle.first_hit.proofs.front.front_of.Given as goal

abbrev pub invariant-loop-i : goal.invariant-loop-i
invariant-loop-i l = record {
  front : IsFront l.scene l.ray l.order l.i l.best;
  through : IsThrough l.scene l.ray l.order l.i l.best l.parts.items;
  sound : All (λ w. IsSegment w.seg) l.segments.items;
  parts : All (IsPartOf l.scene l.ray l.segments.items) l.parts.items;
}

use Rattle.std.proofs.Common.{take}
use Rattle.solid_set.specs.Spans.{IsSpanInRange}
use Rattle.solid_set.proofs.SpanLaws.{IsSpanOf}
use Rattle.solid_set.proofs.span.segment_of_faces.Given as goal

abbrev pub invariant-loop-i : goal.invariant-loop-i
invariant-loop-i l = record {
  range : IsSpanInRange l.span;
  made : IsSpanOf l.ray (take l.i l.sides) l.span;
}

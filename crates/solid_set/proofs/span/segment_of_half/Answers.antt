use Rattle.std.proofs.Common.{◌≡◌, ◌∙◌, ap, sym, true, List, [], ◌∷◌, Option, Some, None, cond, arith}
use Rattle.plane_geom.specs.declared.plane.Plane.{Plane}
use Rattle.plane_geom.specs.declared.plane.Crossing.{Crossing}
use Rattle.plane_geom.specs.Crossings.{crossing_of}
use Rattle.solid_set.specs.Crossings.{is_missed_by}
use Rattle.solid_set.specs.Spans.{crossed_span, whole_span}
use Rattle.solid_set.specs.declared.span.Span.{Span}
use Rattle.solid_set.proofs.SpanLaws.{IsSpanOf, span_first, loop_next, at_some, finished}
use Rattle.solid_set.proofs.span.segment_of_half.Goals as goal

pub returns-clause-value : goal.returns-clause-value
returns-clause-value c =
    let ray = c.args.ray.now in
    let all : List (Option Plane) = Some c.args.plane.now ∷ [] in
    let crossed : Some c.cross_span.new.span ≡ crossed_span whole_span 1 (crossing_of c.args.plane.now c.args.ray.now) =
    sym (ap (λ b. cond b (Some c.cross_span.new.span) None) c.if-not-cross_span.false)
    ∙ c.cross_span.ensures.value
    ∙ ap (λ (s : Span). crossed_span s 1 c.crossed_at.result) c.whole_span-span.ensures.value
    ∙ ap (λ (d : Crossing). crossed_span whole_span 1 d) c.crossed_at.ensures.value in
    let made : IsSpanOf c.args.ray.now (Some c.args.plane.now ∷ []) c.cross_span.new.span =
    at_some (is_missed_by ray all ≡ true) (λ next. IsSpanOf ray all next) _ c.cross_span.new.span (sym crossed) (loop_next ray all 0 whole_span (omega arith) (span_first ray)) in
    c.finished_span.ensures.value ∙ finished c.args.ray.now (Some c.args.plane.now ∷ []) c.cross_span.new.span c.cross_span.ensures.range made

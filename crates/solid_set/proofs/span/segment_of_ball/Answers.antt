use Rattle.std.proofs.Common.{◌∙◌, ap, sym, subst, FitsSigned, w64}
use Rattle.std.proofs.lemmas.Int.{to_z-of_z}
use Rattle.solid_set.specs.declared.span.Span.{Span}
use Rattle.solid_set.specs.Spans.{IsSpanInRange, ball_span, finished_span}
use Rattle.solid_set.proofs.SurfaceLaws.{ball_finished}
use Rattle.solid_set.proofs.span.segment_of_ball.Goals as goal

pub returns-in-Some-clause-value : goal.returns-in-Some-clause-value
returns-in-Some-clause-value c =
    let range : IsSpanInRange (ball_span c.in-Some.chord) = subst IsSpanInRange c.ball_span.ensures.value c.ball_span.ensures.range in
    let fr : FitsSigned w64 c.args.radius = c.ranges.radius in
    let chord_is = simp to_z-of_z at c.crossed_at.ensures.value in
    c.finished_span.ensures.value
    ∙ ap (λ (s : Span). finished_span s) c.ball_span.ensures.value
    ∙ ball_finished c.args.centre c.args.radius c.args.ray.now c.in-Some.chord (sym chord_is ∙ c.in-Some.is) range

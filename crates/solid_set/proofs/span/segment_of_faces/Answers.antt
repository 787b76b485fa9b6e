use Rattle.std.proofs.Common.{◌≡◌, ◌∙◌, ◌+◌, ◌<◌, ap, sym, subst, take, length, arith, true, List, [], Option, Some, None, cond}
use Rattle.plane_geom.specs.declared.plane.Plane.{Plane}
use Rattle.solid_set.specs.Crossings.{is_missed_by}
use Rattle.solid_set.specs.declared.span.Span.{Span}
use Rattle.solid_set.proofs.SpanLaws.{IsSpanOf, span_first, loop_cut, loop_next, loop_missed, at_none, at_some, finished}
use Rattle.std.proofs.lemmas.List.{take_all}
use Rattle.solid_set.proofs.span.segment_of_faces.Goals as goal

pub loop-i-init : goal.loop-i-init
loop-i-init c = record {
  range = c.whole_span-span.ensures.range;
  made = subst (λ (s : Span). IsSpanOf c.args.ray.now [] s) (sym c.whole_span-span.ensures.value) (span_first c.args.ray.now);
}

pub returns-then-not-cut_span-clause-value : goal.returns-then-not-cut_span-clause-value
returns-then-not-cut_span-clause-value c =
    let ray = c.args.ray.now in
    let all = c.args.sides.now in
    let i = c.loop-i.i in
    let lt : c.loop-i.i < length c.args.sides.now = omega arith in
    let cut = sym (ap (λ b. cond b (Some c.cut_span.new.span) None) c.if-not-cut_span.true) ∙ c.cut_span.ensures.value in
    sym (loop_missed ray all i
    (at_none (is_missed_by ray (take (i + 1) all) ≡ true) (λ next. IsSpanOf ray (take (i + 1) all) next) _
    (sym (loop_cut ray all i c.loop-i.span None cut)) (loop_next ray all i c.loop-i.span lt c.loop-i.invariant.made)))

pub loop-i-preserved : goal.loop-i-preserved
loop-i-preserved c =
    let ray = c.args.ray.now in
    let all = c.args.sides.now in
    let i = c.loop-i.i in
    let lt : c.loop-i.i < length c.args.sides.now = omega arith in
    let cut = sym (ap (λ b. cond b (Some c.cut_span.new.span) None) c.if-not-cut_span.false) ∙ c.cut_span.ensures.value in
    record {
      range = c.cut_span.ensures.range;
      made = at_some (is_missed_by ray (take (i + 1) all) ≡ true) (λ next. IsSpanOf ray (take (i + 1) all) next) _ c.cut_span.new.span
          (sym (loop_cut ray all i c.loop-i.span (Some c.cut_span.new.span) cut)) (loop_next ray all i c.loop-i.span lt c.loop-i.invariant.made);
    }

pub returns-clause-value : goal.returns-clause-value
returns-clause-value c =
    let i = c.loop-i.i in
    let all : take c.loop-i.i c.args.sides.now ≡ c.args.sides.now = take_all c.loop-i.i c.args.sides.now (omega arith) in
    c.finished_span.ensures.value
    ∙ finished c.args.ray.now c.args.sides.now c.loop-i.span c.loop-i.invariant.range
    (subst (λ (sides : List (Option Plane)). IsSpanOf c.args.ray.now sides c.loop-i.span) all c.loop-i.invariant.made)

use Rattle.std.proofs.Common.{◌≡◌, ◌∙◌, ℕ, refl, ap, sym, Bool, true, false, [], ◌∷◌, Some, None, cond, arith}
use Rattle.lattice_core.specs.declared.ray.Ray.{Ray}
use Rattle.plane_geom.specs.declared.plane.Crossing.{Crossing}
use Rattle.plane_geom.specs.Crossings.{crossing_of}
use Rattle.prim_rcc.specs.declared.rcc.RccFaces.{RccFaces}
use Rattle.prim_rcc.specs.declared.side.RoundCrossing.{RoundCrossing}
use Rattle.solid_set.specs.Crossings.{entering_from, leaving_from, is_missed_by}
use Rattle.solid_set.specs.Segments.{segment_of, caps_of, is_round_miss}
use Rattle.solid_set.specs.Spans.{crossed_span, run_span, whole_span}
use Rattle.solid_set.specs.declared.span.Span.{Span}
use Rattle.solid_set.specs.declared.surface.Surface.TheVariants.{Cylinder}
use Rattle.solid_set.proofs.CylinderLaws.{crossed_round, IsRunSpan, run_step, run_some, run_none, caps_missed, round_missed, cylinder_finished}
use Rattle.solid_set.proofs.SpanLaws.{IsSpanOf, span_first, loop_next, at_some, at_none, missed_stays}
use Rattle.solid_set.proofs.span.segment_of_cylinder.Goals as goal

-- the span after the base, and after the top
after_base : (faces : RccFaces) (ray : Ray) (next : Span) → Some next ≡ crossed_span whole_span 1 (crossing_of faces.base ray) → IsSpanOf ray (Some faces.base ∷ []) next
after_base faces ray next e =
    at_some (is_missed_by ray (Some faces.base ∷ []) ≡ true) (λ s. IsSpanOf ray (Some faces.base ∷ []) s) _ next (sym e) (loop_next ray (caps_of faces) 0 whole_span (omega arith) (span_first ray))

base_missed : (faces : RccFaces) (ray : Ray) → None ≡ crossed_span whole_span 1 (crossing_of faces.base ray) → None ≡ segment_of (Cylinder faces) ray
base_missed faces ray e =
    let missed : is_missed_by ray (Some faces.base ∷ []) ≡ true =
    at_none (is_missed_by ray (Some faces.base ∷ []) ≡ true) (λ s. IsSpanOf ray (Some faces.base ∷ []) s) _ (sym e) (loop_next ray (caps_of faces) 0 whole_span (omega arith) (span_first ray)) in
    sym (caps_missed faces ray (missed_stays ray (Some faces.base ∷ []) (Some faces.top ∷ []) missed))

after_top : (faces : RccFaces) (ray : Ray) (span next : Span) → IsSpanOf ray (Some faces.base ∷ []) span → Some next ≡ crossed_span span 2 (crossing_of faces.top ray) → IsSpanOf ray (caps_of faces) next
after_top faces ray span next h e =
    at_some (is_missed_by ray (caps_of faces) ≡ true) (λ s. IsSpanOf ray (caps_of faces) s) _ next (sym e) (loop_next ray (caps_of faces) 1 span (omega arith) h)

top_missed : (faces : RccFaces) (ray : Ray) (span : Span) → IsSpanOf ray (Some faces.base ∷ []) span → None ≡ crossed_span span 2 (crossing_of faces.top ray) → None ≡ segment_of (Cylinder faces) ray
top_missed faces ray span h e =
    sym (caps_missed faces ray (at_none (is_missed_by ray (caps_of faces) ≡ true) (λ s. IsSpanOf ray (caps_of faces) s) _ (sym e) (loop_next ray (caps_of faces) 1 span (omega arith) h)))

abbrev HasRun : RccFaces → Ray → Span → Type 0
HasRun faces ray next = IsRunSpan (entering_from ray 1 (caps_of faces)) (leaving_from ray 1 (caps_of faces)) (crossed_round faces ray) next

after_round : (faces : RccFaces) (ray : Ray) (span next : Span) → IsSpanOf ray (caps_of faces) span → Some next ≡ run_span span (crossed_round faces ray) → HasRun faces ray next
after_round faces ray span next h e =
    run_some (is_round_miss (crossed_round faces ray) ≡ true) (HasRun faces ray) _ next (sym e)
    (run_step (entering_from ray 1 (caps_of faces)) (leaving_from ray 1 (caps_of faces)) span h.start h.end (crossed_round faces ray))

round_passed : (faces : RccFaces) (ray : Ray) (span : Span) → IsSpanOf ray (caps_of faces) span → None ≡ run_span span (crossed_round faces ray) → None ≡ segment_of (Cylinder faces) ray
round_passed faces ray span h e =
    sym (round_missed faces ray (run_none (is_round_miss (crossed_round faces ray) ≡ true) (HasRun faces ray) _ (sym e)
    (run_step (entering_from ray 1 (caps_of faces)) (leaving_from ray 1 (caps_of faces)) span h.start h.end (crossed_round faces ray))))

-- what a cut tells of the span
cut_some : (result : Bool) (next span span' : Span) (face : ℕ) (d d' : Crossing) → result ≡ true → cond result (Some next) None ≡ crossed_span span face d → span ≡ span' → d ≡ d' → Some next ≡ crossed_span span' face d'
cut_some result next span span' face d d' held value same same' =
    sym (ap (λ (b : Bool). cond b (Some next) None) held) ∙ value ∙ ap (λ (s : Span). crossed_span s face d) same ∙ ap (crossed_span span' face) same'

cut_none : (result : Bool) (next span span' : Span) (face : ℕ) (d d' : Crossing) → result ≡ false → cond result (Some next) None ≡ crossed_span span face d → span ≡ span' → d ≡ d' → None ≡ crossed_span span' face d'
cut_none result next span span' face d d' lost value same same' =
    sym (ap (λ (b : Bool). cond b (Some next) None) lost) ∙ value ∙ ap (λ (s : Span). crossed_span s face d) same ∙ ap (crossed_span span' face) same'

ran_some : (result : Bool) (next span : Span) (d d' : RoundCrossing) → result ≡ true → cond result (Some next) None ≡ run_span span d → d ≡ d' → Some next ≡ run_span span d'
ran_some result next span d d' held value same = sym (ap (λ (b : Bool). cond b (Some next) None) held) ∙ value ∙ ap (run_span span) same

ran_none : (result : Bool) (next span : Span) (d d' : RoundCrossing) → result ≡ false → cond result (Some next) None ≡ run_span span d → d ≡ d' → None ≡ run_span span d'
ran_none result next span d d' lost value same = sym (ap (λ (b : Bool). cond b (Some next) None) lost) ∙ value ∙ ap (run_span span) same

pub returns-then-not-cross_span-clause-value : goal.returns-then-not-cross_span-clause-value
returns-then-not-cross_span-clause-value c =
    base_missed c.args.faces.now c.args.ray.now
    (cut_none _ c.cross_span.new.span _ _ 1 _ _ c.if-not-cross_span.true c.cross_span.ensures.value c.whole_span-span.ensures.value c.crossing.ensures.value)

pub returns-then-not-cross_span-2-clause-value : goal.returns-then-not-cross_span-2-clause-value
returns-then-not-cross_span-2-clause-value c =
    let base = after_base c.args.faces.now c.args.ray.now c.cross_span.new.span
    (cut_some _ c.cross_span.new.span _ _ 1 _ _ c.if-not-cross_span.false c.cross_span.ensures.value c.whole_span-span.ensures.value c.crossing.ensures.value) in
    top_missed c.args.faces.now c.args.ray.now c.cross_span.new.span base
    (cut_none _ c.cross_span-2.new.span c.cross_span.new.span c.cross_span.new.span 2 _ _ c.if-not-cross_span-2.true c.cross_span-2.ensures.value refl c.crossing-2.ensures.value)

pub returns-then-not-run_span-clause-value : goal.returns-then-not-run_span-clause-value
returns-then-not-run_span-clause-value c =
    let base = after_base c.args.faces.now c.args.ray.now c.cross_span.new.span
    (cut_some _ c.cross_span.new.span _ _ 1 _ _ c.if-not-cross_span.false c.cross_span.ensures.value c.whole_span-span.ensures.value c.crossing.ensures.value) in
    let caps = after_top c.args.faces.now c.args.ray.now c.cross_span.new.span c.cross_span-2.new.span base
    (cut_some _ c.cross_span-2.new.span c.cross_span.new.span c.cross_span.new.span 2 _ _ c.if-not-cross_span-2.false c.cross_span-2.ensures.value refl c.crossing-2.ensures.value) in
    round_passed c.args.faces.now c.args.ray.now c.cross_span-2.new.span caps
    (ran_none _ c.run_span.new.span c.cross_span-2.new.span _ _ c.if-not-run_span.true c.run_span.ensures.value c.crossed_at.ensures.value)

pub returns-clause-value : goal.returns-clause-value
returns-clause-value c =
    let base = after_base c.args.faces.now c.args.ray.now c.cross_span.new.span
    (cut_some _ c.cross_span.new.span _ _ 1 _ _ c.if-not-cross_span.false c.cross_span.ensures.value c.whole_span-span.ensures.value c.crossing.ensures.value) in
    let caps = after_top c.args.faces.now c.args.ray.now c.cross_span.new.span c.cross_span-2.new.span base
    (cut_some _ c.cross_span-2.new.span c.cross_span.new.span c.cross_span.new.span 2 _ _ c.if-not-cross_span-2.false c.cross_span-2.ensures.value refl c.crossing-2.ensures.value) in
    let round = after_round c.args.faces.now c.args.ray.now c.cross_span-2.new.span c.run_span.new.span caps
    (ran_some _ c.run_span.new.span c.cross_span-2.new.span _ _ c.if-not-run_span.false c.run_span.ensures.value c.crossed_at.ensures.value) in
    c.finished_span.ensures.value
    ∙ cylinder_finished c.args.faces.now c.args.ray.now c.cross_span-2.new.span c.run_span.new.span c.run_span.ensures.range caps round

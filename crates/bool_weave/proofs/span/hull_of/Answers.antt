use Rattle.std.proofs.Common.{◌≤◌, All, arith, take, subst}
use Rattle.std.proofs.lemmas.List.{take_all}
use Rattle.std.proofs.lemmas.List.Elements.{All-more, All-weaker}
use Rattle.bool_weave.specs.declared.span.Span.{Span}
use Rattle.bool_weave.proofs.Fronts.{all_before, all_last}
use Rattle.bool_weave.proofs.span.hull_of.Goals as goal

pub loop-span-preserved : goal.loop-span-preserved
loop-span-preserved c = record {
  hull = All-more (λ (s : Span). (c.joined-hull.result.from ≤ s.from) × (s.to ≤ c.joined-hull.result.to)) c.args.table.now c.loop-span.span-index _ c.loop-span-test.true
      (All-weaker (λ (s : Span). (c.loop-span.hull.from ≤ s.from) × (s.to ≤ c.loop-span.hull.to)) (λ (s : Span). (c.joined-hull.result.from ≤ s.from) × (s.to ≤ c.joined-hull.result.to))
      (λ s h. (omega (arith, h.0, c.joined-hull.ensures.from.0), omega (arith, h.1, c.joined-hull.ensures.to.0))) (take c.loop-span.span-index c.args.table.now) c.loop-span.invariant.hull)
      (c.joined-hull.ensures.from.1, c.joined-hull.ensures.to.1);
  bound = λ bound all. c.joined-hull.ensures.to.2 bound
      (c.loop-span.invariant.bound bound (all_before (λ (s : Span). s.to ≤ bound) c.args.table.now c.loop-span.span-index all))
      (all_last (λ (s : Span). s.to ≤ bound) c.args.table.now c.loop-span.span-index _ c.loop-span-test.true all);
}

pub returns-clause-hull : goal.returns-clause-hull
returns-clause-hull c =
    subst (λ l. All (λ (s : Span). (c.loop-span.hull.from ≤ s.from) × (s.to ≤ c.loop-span.hull.to)) l) (take_all c.loop-span.span-index c.args.table.now c.loop-span-test.false) c.loop-span.invariant.hull

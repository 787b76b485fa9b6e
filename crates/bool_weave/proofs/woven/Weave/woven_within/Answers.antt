use Rattle.std.proofs.Common.{◌∙◌, ◌<◌, ◌-◌, AllPairs, ap, sym, subst, take, drop, filter}
use Rattle.bool_weave.specs.declared.woven.Woven.{Woven}
use Rattle.bool_weave.specs.Tables.{is_from_to}
use Rattle.bool_weave.proofs.Middles.{IsEndOf, within_part, within_none}
use Rattle.bool_weave.proofs.woven.Weave.woven_within.Goals as goal

pub count_below-start-requires : goal.count_below-start-requires
count_below-start-requires c = subst (λ l. AllPairs (λ (v w : Woven). v.instance < w.instance) l) (sym c.deref.ensures.value) c.self.invariant.sound.rising

pub count_below-end-requires : goal.count_below-end-requires
count_below-end-requires c = subst (λ l. AllPairs (λ (v w : Woven). v.instance < w.instance) l) (sym c.deref-2.ensures.value) c.self.invariant.sound.rising

pub returns-then-start-end-clause-woven : goal.returns-then-start-end-clause-woven
returns-then-start-end-clause-woven c =
    ap (λ l. take (c.count_below-end.result - c.count_below-start.result) (drop c.count_below-start.result l)) c.deref-then-start-end.ensures.value
    ∙ within_part c.self.inside.woven.items c.args.from c.args.to c.count_below-start.result c.count_below-end.result c.if-start-end.true
    (subst (λ l. IsEndOf c.args.from l c.count_below-start.result) c.deref.ensures.value c.count_below-start.ensures.parted) (subst (λ l. IsEndOf c.args.to l c.count_below-end.result) c.deref-2.ensures.value c.count_below-end.ensures.parted)
    ∙ ap (filter (is_from_to c.args.from c.args.to)) c.self.view_is

pub returns-else-start-end-clause-woven : goal.returns-else-start-end-clause-woven
returns-else-start-end-clause-woven c =
    within_none c.self.inside.woven.items c.args.from c.args.to c.count_below-start.result c.count_below-end.result c.if-start-end.false
    (subst (λ l. IsEndOf c.args.from l c.count_below-start.result) c.deref.ensures.value c.count_below-start.ensures.parted) (subst (λ l. IsEndOf c.args.to l c.count_below-end.result) c.deref-2.ensures.value c.count_below-end.ensures.parted)
    ∙ ap (filter (is_from_to c.args.from c.args.to)) c.self.view_is

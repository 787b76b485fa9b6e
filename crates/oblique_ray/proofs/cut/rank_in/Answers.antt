use Rattle.std.proofs.Common.{◌+◌, ◌-◌, ◌/◌, ◌∙◌, sym, ap, arith}
use Rattle.std.specs.Ordering.{is_lt}
use Rattle.oblique_ray.proofs.CutLaws.{before_up, after_down}
use Rattle.oblique_ray.proofs.cut.rank_in.Goals as goal

pub loop-low-preserved-then-is_lt : goal.loop-low-preserved-then-is_lt
loop-low-preserved-then-is_lt c = record {
  ordered = omega (arith, c.loop-low-test.true);
  within = c.loop-low.invariant.within;
  before = before_up c.args.places.now c.args.place.now (c.loop-low.low + (c.loop-low.high - c.loop-low.low) / 2) _ c.requires.places.rising (omega (arith, c.loop-low-test.true, c.loop-low.invariant.within))
      (sym (c.is_lt.ensures ∙ ap is_lt c.cmp.ensures.same) ∙ c.if-is_lt.true);
  after = c.loop-low.invariant.after;
}

pub loop-low-preserved : goal.loop-low-preserved
loop-low-preserved c = record {
  ordered = omega arith;
  within = omega (arith, c.loop-low-test.true, c.loop-low.invariant.within);
  before = c.loop-low.invariant.before;
  after = after_down c.args.places.now c.args.place.now (c.loop-low.low + (c.loop-low.high - c.loop-low.low) / 2) _ c.requires.places.rising (omega (arith, c.loop-low-test.true, c.loop-low.invariant.within))
      (sym (c.is_lt.ensures ∙ ap is_lt c.cmp.ensures.same) ∙ c.if-is_lt.false);
}

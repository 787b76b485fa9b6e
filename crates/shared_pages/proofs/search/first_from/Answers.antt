use Rattle.std.proofs.Common.{◌+◌, ◌-◌, ◌/◌, arith}
use Rattle.shared_pages.proofs.PageLemmas.{below_more, from_more}
use Rattle.shared_pages.proofs.search.first_from.Goals as goal

pub loop-low-preserved-then-number_at-number : goal.loop-low-preserved-then-number_at-number
loop-low-preserved-then-number_at-number g c = record {
  below = below_more c.args.pages.now c.args.number (c.loop-low.low + (c.loop-low.high - c.loop-low.low) / 2) c.number_at.result c.requires c.number_at.ensures (omega (arith, c.if-number_at-number.true));
  from = c.loop-low.invariant.from;
  within = c.loop-low.invariant.within;
  order = omega (arith, c.loop-low-test.true);
}

pub loop-low-preserved : goal.loop-low-preserved
loop-low-preserved g c = record {
  below = c.loop-low.invariant.below;
  from = from_more c.args.pages.now c.args.number (c.loop-low.low + (c.loop-low.high - c.loop-low.low) / 2) c.number_at.result c.requires c.number_at.ensures (omega (arith, c.if-number_at-number.false));
  within = omega (arith, c.loop-low.invariant.within, c.loop-low-test.true);
  order = omega (arith, c.loop-low-test.true);
}

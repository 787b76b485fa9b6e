use Rattle.std.proofs.Common.{◌≡◌, ◌+◌, ◌-◌, ◌/◌, arith}
use Rattle.shared_pages.proofs.GroupLemmas.{firsts_rise, firsts_length, none_from}
use Rattle.shared_pages.proofs.PageLemmas.{below_more, from_more}
use Rattle.shared_pages.proofs.spot.groups_upto.Goals as goal
use Rattle.shared_pages.specs.Groups.{firsts}

pub loop-low-preserved-then-first_at-number : goal.loop-low-preserved-then-first_at-number
loop-low-preserved-then-first_at-number g c = record {
  below =
      below_more (firsts c.args.groups.now) (c.args.number + 1) (c.loop-low.low + (c.loop-low.high - c.loop-low.low) / 2) c.first_at.result
      (firsts_rise c.args.groups.now 0 c.requires.0 c.requires.1) c.first_at.ensures (omega (arith, c.if-first_at-number.true));
  from = c.loop-low.invariant.from;
  within = c.loop-low.invariant.within;
  order = omega (arith, c.loop-low-test.true);
}

pub loop-low-preserved : goal.loop-low-preserved
loop-low-preserved g c = record {
  below = c.loop-low.invariant.below;
  from =
      from_more (firsts c.args.groups.now) (c.args.number + 1) (c.loop-low.low + (c.loop-low.high - c.loop-low.low) / 2) c.first_at.result
      (firsts_rise c.args.groups.now 0 c.requires.0 c.requires.1) c.first_at.ensures (omega (arith, c.if-first_at-number.false));
  within = omega (arith, c.loop-low.invariant.within, c.loop-low-test.true);
  order = omega (arith, c.loop-low-test.true);
}

pub loop-low-init : goal.loop-low-init
loop-low-init g c = record {
  below = λ k p at lt. absurd (omega (arith, lt));
  from = none_from c.args.groups.now (c.args.number + 1) c.len-high.result c.len-high.ensures;
  within = omega (arith, c.len-high.ensures);
  order = omega arith;
}

pub returns : goal.returns
returns g c =
    let same : c.loop-low.low ≡ c.loop-low.high = omega (arith, c.loop-low.invariant.order, c.loop-low-test.false) in
    (omega (arith, firsts_length c.args.groups.now, c.loop-low.invariant.within, same), c.loop-low.invariant.below, λ k p at le. c.loop-low.invariant.from k p at (omega (arith, same, le)))

use Rattle.std.proofs.Common.{arith}
use Rattle.wide_core.proofs.Newton.{newton_above, newton_some}
use Rattle.wide_core.proofs.root.isqrt_wide.Goals as goal

pub loop-root-preserved : goal.loop-root-preserved
loop-root-preserved c = record {
  some = newton_some c.args.n c.loop-root.root c.requires c.loop-root.invariant.some c.loop-root-test.true;
  above = newton_above c.args.n c.loop-root.root c.loop-root.invariant.some c.loop-root-test.true;
  small = omega arith;
}

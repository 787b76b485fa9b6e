use Rattle.wide_core.proofs.RootDigits.{root_same}
use Rattle.wide_core.proofs.root.isqrt.Goals as goal

pub returns-then-n-clause-same : goal.returns-then-n-clause-same
returns-then-n-clause-same c = root_same c.isqrt_small.result c.args.n c.isqrt_small.ensures.square c.isqrt_small.ensures.next

pub returns-else-n-clause-same : goal.returns-else-n-clause-same
returns-else-n-clause-same c = root_same c.isqrt_wide.result c.args.n c.isqrt_wide.ensures.square c.isqrt_wide.ensures.next

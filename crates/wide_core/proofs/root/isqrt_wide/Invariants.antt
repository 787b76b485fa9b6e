use Rattle.std.proofs.Common.{◌≤◌, ◌<◌, ◌+◌, ◌*◌, ◌^◌}
use Rattle.wide_core.proofs.root.isqrt_wide.Given as goal

abbrev pub invariant-loop-root : goal.invariant-loop-root
invariant-loop-root l = record {
  some : 0 < l.root;
  above : l.n < (l.root + 1) * (l.root + 1);
  small : l.root ≤ 2 ^ 64;
}

abbrev pub decreases-loop-root : goal.decreases-loop-root
decreases-loop-root l = l.root
